-- A loop that writes f of each element in its place.
use Rattle.std.proofs.Common.{◌≡◌, ℕ, zero, suc, ◌+◌, ◌<◌, List, [], ◌∷◌, ◌++◌, length, map, take, drop, get_or, set, refl, sym, ap, ◌∙◌, arith}
use Rattle.std.specs.List.{AllByRecursion, refill}
use Rattle.zone_proto.specs.Ranges.{IsOctet}
use Rattle.zone_proto.specs.Names.{IsLabel, IsName, IsLowerName, lower, wire_length}
use Rattle.std.specs.Char.{to_ascii_lowercase}
use Rattle.std.proofs.lemmas.Bool.Decides.{nat_tests}
use Rattle.std.proofs.lemmas.List.{map-set, length-map, take_more_set, drop-set-lt, drop_more, append_assoc, take_all, take_at, drop_all, append-nil}

module _ {A : Type 0} (f : A → A) where
  -- the first i are written
  abbrev pub written : List A → ℕ → List A
  written xs i = take i xs ++ map f (drop i xs)

  pub written_more : (xs : List A) (i : ℕ) (d : A) → i < length xs → written (set xs i (f (get_or xs i d))) (i + 1) ≡ written xs i
  written_more xs i d h =
      (λ t. take_more_set xs i (f (get_or xs i d)) h t ++ map f (drop-set-lt (i + 1) xs i (f (get_or xs i d)) (omega arith) t))
      ∙ append_assoc (take i xs) (f (get_or xs i d) ∷ []) (map f (drop (i + 1) xs))
      ∙ ap (λ r. take i xs ++ map f r) (sym (drop_more xs i d h))

  pub written_all : (xs : List A) (i : ℕ) → length xs ≡ i → written xs i ≡ xs
  written_all xs i h =
      (λ t. take_all i xs (omega arith) t ++ map f (drop_all i xs (omega arith) t)) ∙ append-nil xs

get_or-map : {A B : Type 0} (f : A → B) (xs : List A) (i : ℕ) (d : A) (e : B) → i < length xs → get_or (map f xs) i e ≡ f (get_or xs i d)
get_or-map f [] i d e h = absurd (omega arith)
get_or-map f (x ∷ xs) zero d e h = refl
get_or-map f (x ∷ xs) (suc i) d e h = get_or-map f xs i d e (omega arith)

-- a label of a list of labels is put into lower case
pub label_written : {V : Type 0} (items : V → List ℕ) (vs : List V) (i : ℕ) (x y : V) → i < length vs → x ≡ get_or vs i x
    → items y ≡ map to_ascii_lowercase (items x)
    → written (map to_ascii_lowercase) (map items (set vs i y)) (i + 1) ≡ written (map to_ascii_lowercase) (map items vs) i
label_written items vs i x y h at low =
    let l : i < length (map items vs) = omega (arith, length-map vs items) in
    let same : items y ≡ map to_ascii_lowercase (get_or (map items vs) i []) =
    low ∙ ap (λ v. map to_ascii_lowercase (items v)) at ∙ ap (map to_ascii_lowercase) (sym (get_or-map items vs i x [] h)) in
    (λ t. written (map to_ascii_lowercase) (map-set items vs i y t) (i + 1))
    ∙ (λ t. written (map to_ascii_lowercase) (set (map items vs) i (same t)) (i + 1))
    ∙ written_more (map to_ascii_lowercase) (map items vs) i [] l

-- octets that are written again, in lower case, in place of all that were there
pub lowered : (n : ℕ) (xs ws : List ℕ) → length xs ≡ n → ws ≡ map to_ascii_lowercase xs → refill n xs ws ≡ map to_ascii_lowercase xs
lowered n xs ws h low = take_at ws (drop (length ws) xs) n (omega (arith, ap length low, length-map xs to_ascii_lowercase, h)) ∙ low

-- ---- lower case keeps a name a name, and putting into lower case again changes nothing

lower_again : (b : ℕ) → to_ascii_lowercase (to_ascii_lowercase b) ≡ to_ascii_lowercase b
lower_again b = grind (arith, nat_tests)

lower_octet : (b : ℕ) → b < 256 → to_ascii_lowercase b < 256
lower_octet b h = grind (arith, nat_tests)

label_again : (l : List ℕ) → map to_ascii_lowercase (map to_ascii_lowercase l) ≡ map to_ascii_lowercase l
label_again [] = refl
label_again (b ∷ l) = λ i. lower_again b i ∷ label_again l i

pub lower-lower : (ls : List (List ℕ)) → lower (lower ls) ≡ lower ls
lower-lower [] = refl
lower-lower (l ∷ ls) = λ i. label_again l i ∷ lower-lower ls i

label_octets : (l : List ℕ) → AllByRecursion IsOctet l → AllByRecursion IsOctet (map to_ascii_lowercase l)
label_octets [] h = tt
label_octets (b ∷ l) h = (lower_octet b h.0, label_octets l h.1)

IsLabel-lower : (l : List ℕ) → IsLabel l → IsLabel (map to_ascii_lowercase l)
IsLabel-lower l h = record {
  some = omega (arith, h.some, length-map l to_ascii_lowercase);
  short = omega (arith, h.short, length-map l to_ascii_lowercase);
  octets = label_octets l h.octets;
}

pub labels_lower : (ls : List (List ℕ)) → AllByRecursion IsLabel ls → AllByRecursion IsLabel (lower ls)
labels_lower [] h = tt
labels_lower (l ∷ ls) h = (IsLabel-lower l h.0, labels_lower ls h.1)

pub wire_length-lower : (ls : List (List ℕ)) → wire_length (lower ls) ≡ wire_length ls
wire_length-lower [] = refl
wire_length-lower (l ∷ ls) = λ i. length-map l to_ascii_lowercase i + 1 + wire_length-lower ls i

pub IsLowerName-lower : (ls : List (List ℕ)) → IsName ls → IsLowerName (lower ls)
IsLowerName-lower ls h = record {
  name = record { labels = labels_lower ls h.labels; short = omega (arith, h.short, wire_length-lower ls) };
  lower = lower-lower ls;
}
