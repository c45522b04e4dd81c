-- The walk from a name up its proper ancestors, a label at a time
use Rattle.std.proofs.Common.{◌≡◌, ℕ, Bool, true, false, cond, List, [], ◌∷◌, MatchOption, Option, Some, None, is_some, find, refl, sym, ap, drop, ◌∙◌, Bor}
use Rattle.zone_proto.specs.Names.{Name, lower, proper_ancestors, suffixes}

-- a label taken from the front of a name, if it has one
abbrev pub Shortens : Name → Option (Bor (List ℕ)) → Name → Type 0
Shortens n first parent = MatchOption first ((n ≡ []) × (parent ≡ [])) (λ l. n ≡ l.now ∷ parent)

find_suffix : (p : Name → Bool) (n : Name) → find p (suffixes n) ≡ cond (p n) (Some n) (find p (proper_ancestors n))
find_suffix p [] = refl
find_suffix p (l ∷ ls) = refl

shortened : (p : Name → Bool) (n parent : Name) (first : Option (Bor (List ℕ))) → Shortens n first parent → is_some first ≡ true
    → find p (proper_ancestors n) ≡ cond (p parent) (Some parent) (find p (proper_ancestors parent))
shortened p n parent None step some = cc
shortened p n parent (Some l) step some = ap (λ m. find p (proper_ancestors m)) step ∙ find_suffix p parent

-- where the parent passes a test it is the nearest ancestor that does
pub found_here : (p : Name → Bool) (n parent : Name) (first : Option (Bor (List ℕ))) → Shortens n first parent → is_some first ≡ true
    → p parent ≡ true → find p (proper_ancestors n) ≡ Some parent
found_here p n parent first step some h = shortened p n parent first step some ∙ ap (λ t. cond t (Some parent) (find p (proper_ancestors parent))) h

-- where it doesn't the nearest is one of its own
pub found_above : (p : Name → Bool) (n parent : Name) (first : Option (Bor (List ℕ))) → Shortens n first parent → is_some first ≡ true
    → p parent ≡ false → find p (proper_ancestors n) ≡ find p (proper_ancestors parent)
found_above p n parent first step some h = shortened p n parent first step some ∙ ap (λ t. cond t (Some parent) (find p (proper_ancestors parent))) h

-- the root has no ancestor
pub found_nowhere : (p : Name → Bool) (n parent : Name) (first : Option (Bor (List ℕ))) → Shortens n first parent → is_some first ≡ false
    → find p (proper_ancestors n) ≡ None
found_nowhere p n parent None step none = ap (λ m. find p (proper_ancestors m)) step.0
found_nowhere p n parent (Some l) step none = cc

-- an ancestor of a name in lower case is in lower case
pub lower_parent : (n parent : Name) (first : Option (Bor (List ℕ))) → Shortens n first parent → lower n ≡ n → lower parent ≡ parent
lower_parent n parent None step h = ap lower step.1 ∙ sym step.1
lower_parent n parent (Some l) step h = ap (drop 1) (ap lower (sym step) ∙ h ∙ step)
