-- Tests that fail, and what a search by a test finds
use Rattle.std.proofs.Common.{◌≡◌, Bool, true, false, cond, ◌&&◌, ◌||◌, List, [], ◌∷◌, refl, sym, ap, ◌∙◌, true≢false, ◌⊎◌, inl, inr}
use Rattle.std.specs.Prelude.{Some, find}
use Rattle.std.specs.List.{list_any}
use Rattle.zone_proto.proofs.Members.{In}

pub refuted : (b : Bool) → (b ≡ true → ⊥) → b ≡ false
refuted false h = refl
refuted true h = absurd (h refl)

pub right_false : (a b : Bool) → b ≡ false → a && b ≡ false
right_false true b e = e
right_false false b e = refl

pub find_some : {X : Type 0} (p : X → Bool) (xs : List X) (x : X) → find p xs ≡ Some x → In x xs × (p x ≡ true)
find_some p [] x e = absurd cc
find_some p (y ∷ ys) x e = by (p y) refl e (find_some p ys x)
  where
    by : (b : Bool) → p y ≡ b → cond b (Some y) (find p ys) ≡ Some x → (find p ys ≡ Some x → In x ys × (p x ≡ true)) → In x (y ∷ ys) × (p x ≡ true)
    by true h q more = let same : y ≡ x = cc in (inl same, ap p (sym same) ∙ h)
    by false h q more = let r = more q in (inr r.0, r.1)

-- where one passes, the first that does is found
pub any_found : {X : Type 0} (p : X → Bool) (xs : List X) → list_any p xs ≡ true → (x : X) × (find p xs ≡ Some x) × In x xs × (p x ≡ true)
any_found {X = X} p [] e = absurd (true≢false (sym e))
any_found {X = X} p (y ∷ ys) e = by (p y) refl e (any_found p ys)
  where
    by : (b : Bool) → p y ≡ b → b || list_any p ys ≡ true → (list_any p ys ≡ true → (x : X) × (find p ys ≡ Some x) × In x ys × (p x ≡ true)) → (x : X) × (find p (y ∷ ys) ≡ Some x) × In x (y ∷ ys) × (p x ≡ true)
    by true h q more = (y, ap (λ b. cond b (Some y) (find p ys)) h, inl refl, h)
    by false h q more = let r = more q in (r.0, ap (λ b. cond b (Some y) (find p ys)) h ∙ r.1, inr r.2, r.3)

pub either : (a b : Bool) → a || b ≡ true → (a ≡ true) ⊎ (b ≡ true)
either true b h = inl refl
either false b h = inr h
