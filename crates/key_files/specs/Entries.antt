-- The keys of a file
use Rattle.std.specs.Prelude.{◌≡◌, ℕ, ◌<◌, ◌||◌, length, Bool, List, [], ◌∷◌, Option, Some, None, Result, Ok, Err, codes, if◌then◌else◌}
use Rattle.base64.specs.Engines.{standard}
use Rattle.base64.specs.GeneralPurpose.{decoded_of}
use Rattle.zone_proto.specs.Names.{Name, lower}
use Rattle.line_text.specs.Reading.{name_of_word}
use Rattle.message_hmac.specs.declared.algorithm.Algorithm.{Algorithm}
use Rattle.message_hmac.specs.declared.algorithm.Algorithm.TheVariants as by
use Rattle.key_files.specs.declared.entry.KeyEntry.{KeyEntry}
use Rattle.key_files.specs.declared.entry.KeyWords.{KeyWords}
use Rattle.key_files.specs.declared.fault.KeyFileError.{KeyFileError}
use Rattle.key_files.specs.declared.fault.KeyFileError.TheVariants as errors
use Rattle.key_files.specs.declared.fault.KeyFileReason.TheVariants as reasons
use Rattle.key_files.specs.declared.fault.WordError.{WordError}
use Rattle.key_files.specs.declared.fault.WordError.TheVariants as words
use Rattle.key_files.specs.Places.{place_at}
use Rattle.key_files.specs.Words.{says, word_at, words_of}

-- ---- words

-- the names of the algorithms (RFC 8945 section 6), in lower case
abbrev pub algorithm_of : List ℕ → Option Algorithm
algorithm_of word =
    if says word (codes "hmac-sha1") then Some by.Sha1
    else (if says word (codes "hmac-sha224") then Some by.Sha224
    else (if says word (codes "hmac-sha256") then Some by.Sha256
    else (if says word (codes "hmac-sha384") then Some by.Sha384
    else (if says word (codes "hmac-sha512") then Some by.Sha512 else None))))

-- the name of a key follows, as BIND, NSD and Knot DNS write it
abbrev pub is_name_word : List ℕ → Bool
is_name_word word = says word (codes "key") || says word (codes "name:") || says word (codes "id:")

abbrev pub is_algorithm_word : List ℕ → Bool
is_algorithm_word word = says word (codes "algorithm") || says word (codes "algorithm:")

abbrev pub is_secret_word : List ℕ → Bool
is_secret_word word = says word (codes "secret") || says word (codes "secret:")

-- ---- one key

-- the words of the algorithm and of the secret of a key, which may come in either order
abbrev pub fields_of : List ℕ → KeyWords → Result (ℕ × ℕ) WordError
fields_of text w =
    if is_algorithm_word (word_at w.first_word text) then (
    if is_secret_word (word_at w.second_word text) then Ok (w.first, w.second) else Err (words.Wrong w.second_word reasons.SecretWanted))
    else (if is_secret_word (word_at w.first_word text) then (
    if is_algorithm_word (word_at w.second_word text) then Ok (w.second, w.first) else Err (words.Wrong w.second_word reasons.AlgorithmWanted))
    else Err (words.Wrong w.first_word reasons.FieldWanted))

-- a key of what its words mean, which begin at these offsets; where they mean nothing, the first of them is at fault
abbrev pub entry_with : ℕ → ℕ → ℕ → Option Name → Option Algorithm → Option (List ℕ) → Result KeyEntry WordError
entry_with name algorithm secret None a s = Err (words.Wrong name reasons.BadName)
entry_with name algorithm secret (Some n) None s = Err (words.Wrong algorithm reasons.UnknownAlgorithm)
entry_with name algorithm secret (Some n) (Some a) None = Err (words.Wrong secret reasons.BadSecret)
entry_with name algorithm secret (Some n) (Some a) (Some s) = Ok (record { name = lower n; algorithm = a; secret = s })

-- the same of the words themselves
abbrev pub entry_by : List ℕ → ℕ → ℕ → ℕ → Result KeyEntry WordError
entry_by text name algorithm secret =
    entry_with name algorithm secret (name_of_word (word_at name text)) (algorithm_of (word_at algorithm text))
    (decoded_of standard (word_at secret text))

abbrev pub entry_among : List ℕ → ℕ → Result (ℕ × ℕ) WordError → Result KeyEntry WordError
entry_among text name (Err e) = Err e
entry_among text name (Ok fields) = entry_by text name fields.0 fields.1

-- the key that six words write
abbrev pub entry_of : List ℕ → KeyWords → Result KeyEntry WordError
entry_of text w =
    if is_name_word (word_at w.name_word text) then entry_among text w.name (fields_of text w) else Err (words.Wrong w.name_word reasons.NameWanted)

-- ---- all of them

abbrev pub with_more : Result KeyEntry WordError → Result (List KeyEntry) WordError → Result (List KeyEntry) WordError
with_more (Err e) more = Err e
with_more (Ok entry) (Err e) = Err e
with_more (Ok entry) (Ok entries) = Ok (entry ∷ entries)

-- the keys that the words write which begin at these offsets: six each
abbrev pub entries_of : List ℕ → List ℕ → Result (List KeyEntry) WordError
entries_of text [] = Ok []
entries_of text (name_word ∷ name ∷ first_word ∷ first ∷ second_word ∷ second ∷ more) =
    with_more (entry_of text (record { name_word = name_word; name = name; first_word = first_word; first = first; second_word = second_word; second = second }))
    (entries_of text more)
entries_of text (name_word ∷ more) = Err (words.Wrong name_word reasons.Incomplete)

-- the six words of a key, before others
abbrev pub words_before : KeyWords → List ℕ → List ℕ
words_before w more = w.name_word ∷ w.name ∷ w.first_word ∷ w.first ∷ w.second_word ∷ w.second ∷ more

-- there are words, fewer than six, of which the first is at fault
abbrev pub IsCut : List ℕ → WordError → Type 0
IsCut [] e = ⊥
IsCut (word ∷ more) e = (length more < 5) × (e ≡ words.Wrong word reasons.Incomplete)

-- a fault is told by line and column
abbrev pub placed : List ℕ → WordError → KeyFileError
placed text (words.Wrong at reason) = errors.Fault (record { place = place_at at text; reason = reason })
placed text words.Memory = errors.Memory

abbrev pub with_places : List ℕ → Result (List KeyEntry) WordError → Result (List KeyEntry) KeyFileError
with_places text (Ok entries) = Ok entries
with_places text (Err e) = Err (placed text e)

-- the keys of a text, or its first fault
unfoldable pub keys_of : List ℕ → Result (List KeyEntry) KeyFileError
keys_of text = with_places text (entries_of text (words_of text))

-- ---- as the program gives them

-- a result is refused by a fault, unless there is no memory
abbrev pub FailsBy : {X : Type 0} → Result X WordError → WordError → Type 0
FailsBy r words.Memory = Unit {0}
FailsBy r (words.Wrong at reason) = r ≡ Err (words.Wrong at reason)

-- a text is refused by its first fault, unless there is no memory
abbrev pub ReportsFault : List ℕ → KeyFileError → Type 0
ReportsFault text errors.Memory = Unit {0}
ReportsFault text (errors.Fault fault) = keys_of text ≡ Err (errors.Fault fault)
