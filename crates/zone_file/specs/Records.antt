-- The records of a zone file (RFC 1035 section 5.1, RFC 2308 section 4)
use Rattle.std.specs.Prelude.{ℕ, ◌==◌, ◌||◌, List, [], ◌∷◌, Bool, true, false, Option, Some, None, Result, Ok, Err, codes, nat_lt, if◌then◌else◌}
use Rattle.zone_proto.specs.declared.record.Record.{Record}
use Rattle.zone_proto.specs.declared.dns_class.DNSClass.{DNSClass}
use Rattle.zone_proto.specs.declared.rdata.RData.{RData}
use Rattle.zone_proto.specs.declared.rdata.RData.TheVariants as V
use Rattle.zone_proto.specs.Data.{same_octets}
use Rattle.zone_proto.specs.Names.{Name}
use Rattle.zone_proto.specs.Types as types
use Rattle.zone_proto.specs.TypeText.{or_else}
use Rattle.zone_proto.specs.TextForm.{is_digit}
use Rattle.zone_scanner.specs.declared.place.Place.{Place}
use Rattle.zone_scanner.specs.Entries.{EntryWords, WordText}
use Rattle.zone_tokens.specs.Ttls.{longest, ttl_of_word}
use Rattle.zone_tokens.specs.Types.{class_named, upper}
use Rattle.record_fields.specs.declared.fault.Reason.TheVariants as reason
use Rattle.record_fields.specs.declared.fault.Fault.{Fault}
use Rattle.zone_file.specs.declared.context.Context.{Context}
use Rattle.zone_file.specs.declared.placed.PlacedRecord.{PlacedRecord}
use Rattle.zone_file.specs.declared.error.ZoneFault.{ZoneFault}
use Rattle.record_fields.specs.Readings.{fault, or_else_fault, ◌>>=◌}
use Rattle.record_fields.specs.Fields.{Left, Reading, if_none_left, left_at, next_any_word, next_name, next_type, next_ttl}
use Rattle.zone_file.specs.Faults.{with_word}
use Rattle.zone_file.specs.Data.{next_data, data_size}

-- Owner. That of an entry whose line begins with a blank is the last one given. The words behind it are left.
abbrev pub next_owner : Context → Bool → Place → Left → Reading Name
next_owner c true p l = or_else_fault c.owner (fault p reason.NoOwner) >>= λ n. Ok (n, l)
next_owner c false p l = next_name c.origin l

-- TTL. A word without quotes that begins with a digit stands in place of one, and no other word does.
abbrev pub begins_with_digit : List ℕ → Bool
begins_with_digit [] = false
begins_with_digit (b ∷ s) = is_digit b

abbrev pub is_ttl_word : WordText → Bool
is_ttl_word w = if w.quoted then false else begins_with_digit w.octets

abbrev pub ttl_given : Option ℕ → Left → Reading (Option ℕ)
ttl_given None l = Err (fault l.place reason.Ttl)
ttl_given (Some t) l = Ok (Some t, l)

abbrev pub ttl_at : Place → List WordText → Reading (Option ℕ)
ttl_at p [] = Ok (None, left_at p [])
ttl_at p (w ∷ ws) =
    if is_ttl_word w then ttl_given (ttl_of_word w.octets) (left_at w.place ws)
    else Ok (None, left_at p (w ∷ ws))

abbrev pub ttl_if_there : Left → Reading (Option ℕ)
ttl_if_there l = ttl_at l.place l.words

-- Class. The only one is IN.
abbrev pub class_given : Option DNSClass → Left → Left → Result Left Fault
class_given None l behind = Ok l
class_given (Some c) l behind = if c.0 == types.IN then Ok behind else Err (fault behind.place reason.Class)

abbrev pub class_of_word : WordText → Option DNSClass
class_of_word w = if w.quoted then None else class_named w.octets

abbrev pub class_at : Place → List WordText → Result Left Fault
class_at p [] = Ok (left_at p [])
class_at p (w ∷ ws) = class_given (class_of_word w) (left_at p (w ∷ ws)) (left_at w.place ws)

abbrev pub class_if_there : Left → Result Left Fault
class_if_there l = class_at l.place l.words

-- "[<TTL>] [<class>] <type> <RDATA>" or "[<class>] [<TTL>] <type> <RDATA>": each may be left out, and either may come first
abbrev pub ttl_behind : Option ℕ → Left → Reading (Option ℕ)
ttl_behind (Some t) l = Ok (Some t, l)
ttl_behind None l = ttl_if_there l

abbrev pub ttl_and_class : Left → Reading (Option ℕ)
ttl_and_class l = ttl_if_there l >>= λ first. (class_if_there first.1 >>= λ behind. ttl_behind first.0 behind)

-- Which TTL. The one that is given; else, of a signature, its original TTL (RFC 4034 section 3); else that of $TTL (RFC 2308
-- section 4); else the last one stated (RFC 1035 section 5.1). What a signature takes from its data isn't stated.
abbrev pub original_ttl_of : RData → Option ℕ
original_ttl_of (V.RRSIG d) = Some d.original_ttl
original_ttl_of _ = None

abbrev pub minimum_of : RData → Option ℕ
minimum_of (V.SOA d) = Some d.minimum
minimum_of _ = None

-- the last TTL stated up to a record: the one that it is given; else that of the records before; else, of an SOA, its minimum
abbrev pub last_stated : Context → Option ℕ → RData → Option ℕ
last_stated c given d = or_else given (or_else c.last_ttl (minimum_of d))

abbrev pub ttl_for : Context → Option ℕ → RData → Option ℕ
ttl_for c given d = or_else given (or_else (original_ttl_of d) (or_else c.ttl (last_stated c given d)))

-- the TTL of a record at a place, which has 31 bits at most (RFC 2181 section 8)
abbrev pub bounded_ttl : Option ℕ → Place → Result ℕ Fault
bounded_ttl None p = Err (fault p reason.NoTtl)
bounded_ttl (Some t) p = if nat_lt longest t then Err (fault p reason.LongTtl) else Ok t

-- data that aren't longer than a record can have
abbrev pub if_short : RData → Place → Result RData Fault
if_short d p = if nat_lt 65535 (data_size d) then Err (fault p reason.TooLong) else Ok d

abbrev pub class_in : Name → ℕ → RData → Record
class_in owner ttl d = record { name = owner; dns_class = record { 0 = types.IN }; ttl = ttl; rdata = d }

-- a record at this place, and what the entries behind it take from it
unfoldable pub read_record : Context → Bool → Place → Left → Result (Context × Record) Fault
read_record c indented p l = do
  owner ← next_owner c indented p l
  given ← ttl_and_class owner.1
  t ← next_type given.1
  d ← next_data c.origin t.0.0 t.1
  short ← if_short d.0 t.1.place
  ttl ← bounded_ttl (ttl_for c given.0 d.0) p
  if_none_left (record c { owner = Some owner.0; last_ttl = last_stated c given.0 d.0 }, class_in owner.0 ttl d.0) d.1.words

-- a control entry: $ORIGIN and a name, $TTL and a TTL; $INCLUDE and the file that it names, which isn't read
unfoldable pub read_control : Context → List ℕ → Left → Result Context Fault
read_control c verb l =
    if same_octets verb (codes "$ORIGIN") then (next_name c.origin l >>= λ n. if_none_left (record c { origin = n.0 }) n.1.words)
    else (if same_octets verb (codes "$TTL") then (next_ttl l >>= λ t. if_none_left (record c { ttl = Some t.0 }) t.1.words)
    else (if same_octets verb (codes "$INCLUDE") then (next_any_word l >>= λ w. Err (fault w.1.place reason.Include))
    else Err (fault l.place reason.Control)))

-- a control entry begins with `$`, which isn't in quotes and has no blank before it
abbrev pub begins_with_dollar : List ℕ → Bool
begins_with_dollar [] = false
begins_with_dollar (b ∷ s) = b == 36

abbrev pub is_control : Bool → WordText → Bool
is_control indented w = if indented || w.quoted then false else begins_with_dollar w.octets

-- an entry: what it makes of the context, and a record with its place, if it is one
abbrev pub placed_at : Place → Record → PlacedRecord
placed_at p r = record { place = p; given = r }

abbrev pub read_words : Context → Bool → List WordText → Result (Context × Option PlacedRecord) Fault
read_words c indented [] = Ok (c, None)
read_words c indented (w ∷ ws) =
    if is_control indented w then (read_control c (upper w.octets) (left_at w.place ws) >>= λ d. Ok (d, None))
    else (read_record c indented w.place (left_at w.place (w ∷ ws)) >>= λ r. Ok (r.0, Some (placed_at w.place r.1)))

abbrev pub read_entry : Context → EntryWords → Result (Context × Option PlacedRecord) ZoneFault
read_entry c e = with_word e.words (read_words c e.indented e.words)
