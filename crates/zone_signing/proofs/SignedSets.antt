-- A loop that signs a set
use Rattle.std.proofs.Common.{◌≡◌, ℕ, ◌+◌, ◌<◌, List, [], ◌∷◌, ◌++◌, length, get_or, take, refl, ap, ◌∙◌, add-one, append_assoc}
use Rattle.std.specs.Prelude.{Option, Some, None, filter_map, option_to_list}
use Rattle.std.proofs.Math.Seq.{take-suc}
use Rattle.std.proofs.lemmas.List.Elements.{filter_map-append}

filter_map-one : {X Y : Type 0} (f : X → Option Y) (x : X) → filter_map f (x ∷ []) ≡ option_to_list (f x)
filter_map-one {X} {Y} f x = by (f x)
  where
    by : (o : Option Y) → filter_map (λ (y : X). o) (x ∷ []) ≡ option_to_list o
    by (Some y) = refl
    by None = refl

-- what one more item gives comes behind what those before it give
pub filter_map-take_more : {X Y : Type 0} (f : X → Option Y) (xs : List X) (i : ℕ) (d : X) → i < length xs → filter_map f (take (i + 1) xs) ≡ filter_map f (take i xs) ++ option_to_list (f (get_or xs i d))
filter_map-take_more f xs i d lt = rw (add-one, take-suc xs i d lt, filter_map-append, filter_map-one) refl

-- what comes behind two lists comes behind the first of them and the second with it
pub behind_both : {X : Type 0} (first made after second more : List X) → made ≡ first ++ second → after ≡ made ++ more → after ≡ first ++ (second ++ more)
behind_both first made after second more m a = a ∙ ap (λ xs. xs ++ more) m ∙ append_assoc first second more
