-- The replies to commands, and the text of each
use Rattle.std.specs.Prelude.{ℕ, ◌^◌, ◌-◌, ◌++◌, List, length, min, codes}
use Rattle.std.specs.Fmt.{decimal}
use Rattle.std.specs.List.{flat_map}
use Rattle.zone_proto.specs.declared.record.Record.{Record}
use Rattle.zone_proto.specs.Names.{Name}
use Rattle.zone_proto.specs.Text.{name_text}
use Rattle.zone_proto.specs.TypeText.{response_code_text}
use Rattle.line_text.specs.Records.{record_text}
use Rattle.lookup_types.specs.declared.lookup_error.LookupError.{LookupError}
use Rattle.lookup_types.specs.declared.lookup_error.LookupError.TheVariants as lookup_error
use Rattle.lookup_types.specs.declared.secure_error.SecureError.{SecureError}
use Rattle.lookup_types.specs.declared.secure_error.SecureError.TheVariants as secure_error

-- what answers to a command
pub data Reply : Type 0 where
  yes : Reply
  no : Reply
  done : Reply
  secured : (serial : ℕ) → Reply
  refused : (word : List ℕ) → Reply
  failed : (word : List ℕ) → Reply
  broken_off : (word : List ℕ) → Reply
  answered : (answers additionals : List Record) → Reply
  proved : (proof : List Record) → Reply
  listed : (owners : List Name) → Reply
  transferred : (zone : List Record) → Reply

-- how many there are, as a number of 64 bits: of more, which no memory holds, the greatest one
abbrev pub count_of : {A : Type 0} → List A → ℕ
count_of xs = min (length xs) (2 ^ 64 - 1)

-- a word and a count on one line, and then each on a line of its own
abbrev pub list_text : {A : Type 0} → List ℕ → (A → List ℕ) → List A → List ℕ
list_text word text_of xs = word ++ codes " " ++ decimal (count_of xs) ++ codes "\n" ++ flat_map (λ x. text_of x ++ codes "\n") xs

-- records after a word and their count
abbrev pub records_text : List ℕ → List Record → List ℕ
records_text word = list_text word record_text

-- the text of each reply
abbrev pub reply_text : Reply → List ℕ
reply_text yes = codes "yes\n"
reply_text no = codes "no\n"
reply_text done = codes "ok\n"
reply_text (secured serial) = codes "ok " ++ decimal serial ++ codes "\n"
reply_text (refused word) = codes "refused " ++ word ++ codes "\n"
reply_text (failed word) = codes "error " ++ word ++ codes "\n"
reply_text (broken_off word) = codes "break error " ++ word ++ codes "\n"
reply_text (answered answers additionals) = records_text (codes "answer") answers ++ records_text (codes "additional") additionals
reply_text (proved proof) = records_text (codes "proof") proof
reply_text (listed owners) = list_text (codes "circle") name_text owners
reply_text (transferred zone) = records_text (codes "transfer") zone

-- the word for lack of memory
abbrev pub memory : List ℕ
memory = codes "Memory"

-- the word for why a zone isn't secured
abbrev pub secure_word : SecureError → List ℕ
secure_word secure_error.TimeOutOfRange = codes "TimeOutOfRange"
secure_word secure_error.CnameAtOrigin = codes "CnameAtOrigin"
secure_word secure_error.Hash = codes "Hash"
secure_word secure_error.OwnerTooLong = codes "OwnerTooLong"
secure_word secure_error.Memory = memory

-- the word for why a lookup has no records: a response code's own word, as `NXDomain`
abbrev pub lookup_word : LookupError → List ℕ
lookup_word (lookup_error.BadQueryCount count) = codes "BadQueryCount"
lookup_word lookup_error.NameExists = codes "NameExists"
lookup_word (lookup_error.ResponseCode code) = response_code_text code
lookup_word (lookup_error.NetError e) = codes "NetError"
lookup_word (lookup_error.Io e) = codes "Io"
lookup_word lookup_error.Memory = memory
