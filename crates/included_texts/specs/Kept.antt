-- What is kept of files by their names, and what is read of one file beside them
use Rattle.std.specs.Prelude.{◌≡◌, ◌++◌, ◌||◌, not, ℕ, List, [], ◌∷◌, length, map, nat_lt, string_bytes, Option, Some, None, option_map, Result, Ok, Err, if◌then◌else◌}
use Rattle.std.specs.BTreeMap.{get_by_text}
use Rattle.std.specs.List.{list_any}
use Rattle.std.specs.Str.{bytes_eq}
use Rattle.zone_texts.specs.FileNames.{name_beside}
use Rattle.zone_texts.specs.Inclusions.{Files}
use Rattle.included_texts.specs.declared.kept.KeptFile.{KeptFile}
use Rattle.included_texts.specs.declared.kept.KeptFile.TheVariants.{Text, Lacks}
use Rattle.included_texts.specs.declared.kept.KeptTexts.{KeptTexts}
use Rattle.included_texts.specs.declared.kept.Lack.{Lack}

-- ---- what is kept

-- the text of a file, or why it can't be read
abbrev pub content_of : KeptFile → Result (List ℕ) Lack
content_of (Text text) = Ok text.items
content_of (Lacks why) = Err why

-- what is kept of the file of each name
abbrev pub kept_of : KeptTexts → List ℕ → Option (Result (List ℕ) Lack)
kept_of k name = option_map content_of (get_by_text k.files name)

-- the names of the files that are wanted besides
abbrev pub wanted_in : KeptTexts → List (List ℕ)
wanted_in k = map string_bytes k.wanted.items

-- this is kept of the file of a name, and of all others what was before
abbrev pub IsPut : List ℕ → Result (List ℕ) Lack → (List ℕ → Option (Result (List ℕ) Lack)) → (List ℕ → Option (Result (List ℕ) Lack)) → Type 0
IsPut name file old new = (n : List ℕ) → new n ≡ (if bytes_eq name n then Some file else old n)

-- the same is kept of each file
abbrev pub IsSame : (List ℕ → Option (Result (List ℕ) Lack)) → (List ℕ → Option (Result (List ℕ) Lack)) → Type 0
IsSame old new = (n : List ℕ) → new n ≡ old n

-- ---- what is read

-- the text that is read of a file by what is kept of it: nothing where it has none
abbrev pub text_of : Option (Result (List ℕ) Lack) → List ℕ
text_of None = []
text_of (Some (Ok text)) = text
text_of (Some (Err why)) = []

-- one file with its text, and those of which texts are kept
abbrev pub files_of : List ℕ → List ℕ → (List ℕ → Option (Result (List ℕ) Lack)) → Files
files_of file text kept = record { beside = name_beside; text = λ name. if bytes_eq name file then text else text_of (kept name) }

-- names that are wanted, with one more: each is once, and there are so many at most
abbrev pub most_wanted : ℕ
most_wanted = 1000

abbrev pub with_wanted : List ℕ → List (List ℕ) → List (List ℕ)
with_wanted name names = if list_any (λ n. bytes_eq n name) names || not (nat_lt (length names) most_wanted) then names else names ++ name ∷ []
