-- What is kept of each file once that of one was put, and names that are wanted
use Rattle.std.proofs.Common.{◌≡◌, ◌<◌, ◌≤◌, ◌++◌, ◌||◌, ℕ, List, [], ◌∷◌, length, Bool, true, false, cond, nat_lt, Option, Some, map, inl, inr, refl, ap, ◌∙◌}
use Rattle.std.specs.Prelude.{option_map, string_bytes, Result}
use Rattle.std.specs.BTreeMap.{BTreeMap, get_by_text, is_at, IsUnchanged, Updates}
use Rattle.std.specs.Cmp.Lexicographic.{slice_cmp}
use Rattle.std.specs.Map.{lookup}
use Rattle.std.specs.Ordering.{nat_cmp}
use Rattle.std.specs.Str.{bytes_eq}
use Rattle.std.specs.String.{string_cmp}
use Rattle.std.specs.declared.alloc.Global.{Global}
use Rattle.std.specs.declared.string.String.{String}
use Rattle.std.specs.List.{list_any}
use Rattle.std.proofs.lemmas.Bool.{cases_Bool, le-ltb, lt-ltb}
use Rattle.std.proofs.lemmas.List.{length-map, map-append}
use Rattle.std.proofs.lemmas.Map.Text.{btree_map_updates_text}
use Rattle.included_texts.specs.declared.kept.KeptFile.{KeptFile}
use Rattle.included_texts.specs.declared.kept.Lack.{Lack}
use Rattle.included_texts.specs.Kept.{content_of, IsPut, IsSame, with_wanted}

content_at : (b : Bool) (file : KeptFile) (old : Option KeptFile) → option_map content_of (cond b (Some file) old) ≡ cond b (Some (content_of file)) (option_map content_of old)
content_at true file old = refl
content_at false file old = refl

pub put_so : (name : String Global) (file : KeptFile) (old new : BTreeMap (String Global) KeptFile) → Updates string_cmp old new name (Some file)
    → IsPut (string_bytes name) (content_of file) (λ n. option_map content_of (get_by_text old n)) (λ n. option_map content_of (get_by_text new n))
put_so name file old new updates n =
    ap (option_map content_of) (btree_map_updates_text (string_bytes name) old new (Some file) updates n)
    ∙ content_at (bytes_eq (string_bytes name) n) file (get_by_text old n)

pub same_so : (old new : BTreeMap (String Global) KeptFile) → IsUnchanged old new
    → IsSame (λ n. option_map content_of (get_by_text old n)) (λ n. option_map content_of (get_by_text new n))
same_so old new same n = ap (λ (es : List (String Global × KeptFile)). option_map content_of (lookup (is_at (λ k. slice_cmp nat_cmp n (string_bytes k))) es)) same

-- ---- names that are wanted

named_so : (name : List ℕ) (names : List (String Global)) → list_any (λ n. bytes_eq n name) (map string_bytes names) ≡ list_any (λ n. bytes_eq (string_bytes n) name) names
named_so name [] = refl
named_so name (n ∷ ns) = ap (λ (b : Bool). bytes_eq (string_bytes n) name || b) (named_so name ns)

-- one that is among them isn't wanted again
pub wanted_same : (name : List ℕ) (names : List (String Global)) → list_any (λ n. bytes_eq (string_bytes n) name) names ≡ true → map string_bytes names ≡ with_wanted name (map string_bytes names)
wanted_same name names h = rw (named_so name names, h) refl

-- there are as many as may be
pub wanted_full : (name : List ℕ) (names : List (String Global)) → 1000 ≤ length names → map string_bytes names ≡ with_wanted name (map string_bytes names)
wanted_full name names h =
    let long : nat_lt (length (map string_bytes names)) 1000 ≡ false = rw (length-map names string_bytes) (le-ltb (length names) 1000 h) in
    elim (cases_Bool (list_any (λ n. bytes_eq n name) (map string_bytes names))) [ inl among ↦ rw among refl | inr other ↦ rw (other, long) refl ]

-- one more is
pub wanted_more : (name : List ℕ) (names : List (String Global)) (more : String Global) → list_any (λ n. bytes_eq (string_bytes n) name) names ≡ false → length names < 1000 → string_bytes more ≡ name
    → map string_bytes (names ++ more ∷ []) ≡ with_wanted name (map string_bytes names)
wanted_more name names more h short is =
    let room : nat_lt (length (map string_bytes names)) 1000 ≡ true = rw (length-map names string_bytes) (lt-ltb (length names) 1000 short) in
    rw (named_so name names, h, room, map-append string_bytes names (more ∷ []), is) refl
