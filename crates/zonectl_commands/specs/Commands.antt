-- The command language: what a line says
use Rattle.std.specs.Prelude.{ℕ, ◌==◌, List, [], ◌∷◌, Bool, Option, Some, None, option_map, if◌then◌else◌, codes, bytes_eq}
use Rattle.zone_proto.specs.declared.nx_proof_kind.NxProofKind.{NxProofKind}
use Rattle.zone_proto.specs.declared.nx_proof_kind.NxProofKind.TheVariants as kind
use Rattle.zone_proto.specs.Names.{lower}
use Rattle.lookup_types.specs.declared.lookup_options.LookupOptions.{LookupOptions}
use Rattle.line_text.specs.Hex.{hex_word}
use Rattle.line_text.specs.Reading.{WordList, Reading, next_word, next_flag, next_key, next_name, next_type, next_u16, next_u64, read_as, then_read}
use Rattle.line_text.specs.Records.{next_record}
use Rattle.line_text.specs.Words.{words}
use Rattle.zonectl_commands.specs.declared.command.Command.{Command}
use Rattle.zonectl_commands.specs.declared.command.Command.TheVariants as command

-- whether signatures are wanted: they are after the word `dnssec`, and aren't at the end of the line
abbrev pub next_options : WordList → Reading LookupOptions
next_options ws = read_as (λ wanted. record { dnssec_ok = wanted }) (next_flag (codes "dnssec") ws)

-- SALT ITERATIONS, and maybe `optout`: a denial by NSEC3, whose hash is SHA-1, of the number 1 (RFC 5155 section 11)
abbrev pub next_hashed_kind : WordList → Reading NxProofKind
next_hashed_kind ws =
    then_read (next_word hex_word ws) (λ salt a. then_read (next_u16 a) (λ iterations b.
    then_read (next_flag (codes "optout") b) (λ opt_out c.
    Some (kind.Nsec3 1 salt iterations opt_out, c))))

-- the kind of a zone by its word: `none`, `nsec`, or `nsec3` with its parameters
abbrev pub kind_by_word : List ℕ → WordList → Reading (Option NxProofKind)
kind_by_word word ws =
    if bytes_eq word (codes "none") then Some (None, ws)
    else (if bytes_eq word (codes "nsec") then Some (Some kind.Nsec, ws)
    else (if bytes_eq word (codes "nsec3") then read_as (λ hashed. Some hashed) (next_hashed_kind ws)
    else None))

abbrev pub next_kind : WordList → Reading (Option NxProofKind)
next_kind ws = then_read (next_word (λ word. Some word) ws) kind_by_word

-- NAME TYPE, and maybe `dnssec`: a query
abbrev pub next_query : WordList → Reading Command
next_query ws =
    then_read (next_name ws) (λ name a. then_read (next_type a) (λ record_type b.
    then_read (next_options b) (λ options c.
    Some (command.Lookup (lower name) record_type options, c))))

-- a form of line: its first word, and what the words behind that are read as
pub record Form : Type 0 where
  pub verb : List ℕ
  pub arguments : WordList → Reading Command

-- the commands
abbrev pub forms : List Form
forms =
    record { verb = codes "add"; arguments = λ ws. read_as command.Add (next_record ws) }
    ∷ record { verb = codes "drop"; arguments = λ ws. read_as command.Drop (next_key ws) }
    ∷ record { verb = codes "kind"; arguments = λ ws. read_as command.Kind (next_kind ws) }
    ∷ record { verb = codes "key"; arguments = λ ws. read_as command.Key (next_u16 ws) }
    ∷ record { verb = codes "secure"; arguments = λ ws. read_as command.Secure (next_u64 ws) }
    ∷ record { verb = codes "lookup"; arguments = λ ws. next_query ws }
    ∷ record { verb = codes "deny"; arguments = λ ws. read_as command.Deny (next_key ws) }
    ∷ record { verb = codes "circle"; arguments = λ ws. Some (command.Circle, ws) }
    ∷ record { verb = codes "transfer"; arguments = λ ws. read_as command.Transfer (next_options ws) }
    ∷ []

-- what the words behind a first word are read as, by the form that begins with it
abbrev pub read_by : List Form → List ℕ → WordList → Reading Command
read_by [] verb ws = None
read_by (form ∷ more) verb ws = if bytes_eq verb form.verb then form.arguments ws else read_by more verb ws

-- what was read, if no words are left
abbrev pub if_none_left : Command → WordList → Option Command
if_none_left c [] = Some c
if_none_left c (w ∷ ws) = None

abbrev pub all_read : Reading Command → Option Command
all_read None = None
all_read (Some r) = if_none_left r.0 r.1

-- which words are which command; none if they are no command
abbrev pub command_of_words : WordList → Option Command
command_of_words [] = None
command_of_words (verb ∷ ws) = all_read (read_by forms verb ws)

-- a comment begins with `#`
abbrev pub begins_comment : List ℕ → Bool
begins_comment [] = Bool.false
begins_comment (c ∷ cs) = c == 35

-- what words say: no command where there are none or they are a comment, or else a command; nothing where they are neither
abbrev pub said_by_words : WordList → Option (Option Command)
said_by_words [] = Some None
said_by_words (w ∷ ws) = if begins_comment w then Some None else option_map (λ c. Some c) (command_of_words (w ∷ ws))

-- what a line says: the words of a line that is no command, blank or a comment say nothing, and the line is bad
abbrev pub said_by : List ℕ → Option (Option Command)
said_by line = said_by_words (words line)
