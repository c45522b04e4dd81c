-- Tests of the elements of lists
use Rattle.std.proofs.Common.{◌≡◌, ◌==◌, ne_eqb, true≢false, cond, find, sym, arith, not, length, Bool, true, false, ◌&&◌, ◌||◌, List, [], ◌∷◌, map, Option, Some, None, option_map, refl, ap, ◌∙◌}
use Rattle.std.specs.List.{list_any}
use Rattle.std.specs.Option.{option_map_or}

pub list_any-map : {X Y : Type 0} (p : Y → Bool) (f : X → Y) (xs : List X) → list_any (λ x. p (f x)) xs ≡ list_any p (map f xs)
list_any-map p f [] = refl
list_any-map p f (x ∷ xs) = ap (λ b. p (f x) || b) (list_any-map p f xs)

pub option_map-itself : {X : Type 0} (o : Option X) → option_map (λ x. x) o ≡ o
option_map-itself None = refl
option_map-itself (Some x) = refl

none_passes : (b : Bool) → ((b && false) || false) ≡ false
none_passes true = refl
none_passes false = refl

-- a test of each element that depends on a value, taken out of the list
pub list_any-with : {X Y : Type 0} (p q : X → Bool) (test : Y → X → Bool) (value : Option Y)
    → ((x : X) → q x ≡ option_map_or (λ y. test y x) value false) → (xs : List X)
    → list_any (λ x. p x && q x) xs ≡ option_map_or (λ y. list_any (λ x. p x && test y x) xs) value false
list_any-with p q test None h [] = refl
list_any-with p q test None h (x ∷ xs) = (λ i. (p x && h x i) || list_any-with p q test None h xs i) ∙ none_passes (p x)
list_any-with p q test (Some y) h [] = refl
list_any-with p q test (Some y) h (x ∷ xs) = λ i. (p x && h x i) || list_any-with p q test (Some y) h xs i

-- no element is there where the length says so
pub empty_by_length : {X Y : Type 0} (f : X → Y) (xs : List X) → (length xs == 0) ≡ not (list_any (λ y. true) (map f xs))
empty_by_length f [] = refl
empty_by_length f (x ∷ xs) = ne_eqb (length (x ∷ xs)) 0 (λ e. omega (arith, e))

-- what a search finds passes its test
pub find_passes : {X : Type 0} (p : X → Bool) (xs : List X) (y : X) → find p xs ≡ Some y → p y ≡ true
find_passes p [] y e = cc
find_passes p (x ∷ xs) y e = by (p x) refl e (find_passes p xs y)
  where
    by : (b : Bool) → p x ≡ b → cond b (Some x) (find p xs) ≡ Some y → (find p xs ≡ Some y → p y ≡ true) → p y ≡ true
    by true h e up = let same : x ≡ y = cc in ap p (sym same) ∙ h
    by false h e up = up e

-- a test that asks for nothing more
pub list_any-alone : {X : Type 0} (p : X → Bool) (xs : List X) → list_any (λ x. p x && true) xs ≡ list_any p xs
list_any-alone p [] = refl
list_any-alone p (x ∷ xs) = λ i. alone (p x) i || list_any-alone p xs i
  where
    alone : (b : Bool) → (b && true) ≡ b
    alone true = refl
    alone false = refl

-- where no element passes a test, none passes it and another
pub list_any-both_none : {X : Type 0} (p q : X → Bool) (xs : List X) → list_any p xs ≡ false → list_any (λ x. p x && q x) xs ≡ false
list_any-both_none p q [] h = refl
list_any-both_none p q (x ∷ xs) h = by (p x) (list_any p xs) h (list_any-both_none p q xs)
  where
    by : (b rest : Bool) → (b || rest) ≡ false → (rest ≡ false → list_any (λ y. p y && q y) xs ≡ false) → ((b && q x) || list_any (λ y. p y && q y) xs) ≡ false
    by true rest e up = absurd (true≢false e)
    by false rest e up = up e

-- nor another and it
pub list_any-neither : {X : Type 0} (p q : X → Bool) (xs : List X) → list_any q xs ≡ false → list_any (λ x. p x && q x) xs ≡ false
list_any-neither p q [] h = refl
list_any-neither p q (x ∷ xs) h = by (p x) (q x) (list_any q xs) h (list_any-neither p q xs)
  where
    by : (b c rest : Bool) → (c || rest) ≡ false → (rest ≡ false → list_any (λ y. p y && q y) xs ≡ false) → ((b && c) || list_any (λ y. p y && q y) xs) ≡ false
    by b true rest e up = absurd (true≢false e)
    by true false rest e up = up e
    by false false rest e up = up e
