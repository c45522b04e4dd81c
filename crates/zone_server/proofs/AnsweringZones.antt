-- The zone that answers is the nearest above the name where the parent does, and else the nearest to the name
use Rattle.std.proofs.Common.{◌≡◌, ℕ, ◌&&◌, ◌||◌, ◌==◌, Bool, true, false, not, List, [], ◌∷◌, ◌++◌, drop, refl, sym, ap, subst, ◌∙◌, true≢false}
use Rattle.std.specs.Prelude.{Option, Some, None, All}
use Rattle.std.specs.List.{list_any}
use Rattle.std.proofs.lemmas.List.Elements.{All-head, All-tail}
use Rattle.zone_proto.specs.Names.{Label, Name, is_above}
use Rattle.zone_proto.specs.Types.{DS}
use Rattle.zone_response.specs.Queries.{Zone}
use Rattle.zone_server.specs.ServedZones.{has_parent, is_parents, may_answer_for, IsAnswering, IsNearest, IsNearestIfAny, IsParentsZone}

-- ---- tests

pub not_so : (b r : Bool) → r ≡ not b → r ≡ true → b ≡ false
not_so true r e h = absurd (true≢false (sym h ∙ e))
not_so false r e h = refl

pub just_so : (b r : Bool) → r ≡ not b → r ≡ false → b ≡ true
just_so true r e h = refl
just_so false r e h = absurd (true≢false (sym e ∙ h))

never : (b : Bool) → (b && false) ≡ false
never true = refl
never false = refl

-- ---- some element passes a test, or none does

some_passes : {X : Type 0} (p : X → Bool) (front rest : List X) (x : X) → p x ≡ true → list_any p (front ++ x ∷ rest) ≡ true
some_passes p [] rest x e = ap (λ b. b || list_any p rest) e
some_passes p (y ∷ front) rest x e = by (p y) (some_passes p front rest x e)
  where
    by : (b : Bool) → list_any p (front ++ x ∷ rest) ≡ true → (b || list_any p (front ++ x ∷ rest)) ≡ true
    by true h = refl
    by false h = h

none_passes : {X : Type 0} (p : X → Bool) (xs : List X) → All (λ x. p x ≡ false) xs → list_any p xs ≡ false
none_passes p [] h = refl
none_passes p (x ∷ xs) h =
    ap (λ b. b || list_any p xs) (All-head (λ y. p y ≡ false) x xs h) ∙ none_passes p xs (All-tail (λ y. p y ≡ false) x xs h)

-- ---- whether the parent answers

pub of_other_type : (zs : List Zone) (x : Name) (t : ℕ) → (t == DS) ≡ false → is_parents zs x t ≡ false
of_other_type zs x t e = ap (λ b. b && has_parent zs x) e

none_above_root : (zs : List Zone) → has_parent zs [] ≡ false
none_above_root [] = refl
none_above_root (z ∷ zs) = none_above_root zs

pub of_root : (zs : List Zone) (x : Name) (t : ℕ) → x ≡ [] → is_parents zs x t ≡ false
of_root zs x t e = ap (λ b. (t == DS) && b) (ap (has_parent zs) e ∙ none_above_root zs) ∙ never (t == DS)

below_root : (zs : List Zone) (l : Label) (ls : Name) (t : ℕ) → (t == DS) ≡ true → (o : Option Zone) → IsNearestIfAny (may_answer_for false ls) zs o → IsParentsZone zs (l ∷ ls) t o
below_root zs l ls t ds (Some z) h = (
  ap (λ b. b && has_parent zs (l ∷ ls)) ds
      ∙ ap (λ ys. has_parent ys (l ∷ ls)) h.stands ∙ some_passes (λ (y : Zone). is_above y.origin (l ∷ ls)) h.front h.rest z h.answers,
  record { front = h.front; rest = h.rest; stands = h.stands; answers = h.answers; before = h.before; behind = h.behind },
)
below_root zs l ls t ds None h = ap (λ b. b && has_parent zs (l ∷ ls)) ds ∙ none_passes (λ (y : Zone). is_above y.origin (l ∷ ls)) zs h

-- the nearest to the parent of a name, where the type is DS
pub of_parent : (zs : List Zone) (x : Name) (t : ℕ) → (t == DS) ≡ true → (x ≡ [] → ⊥) → (o : Option Zone) → IsNearestIfAny (may_answer_for false (drop 1 x)) zs o → IsParentsZone zs x t o
of_parent zs [] t ds some o h = absurd (some refl)
of_parent zs (l ∷ ls) t ds some o h = below_root zs l ls t ds o h

-- ---- which zone answers

pub parent_answers : (zs : List Zone) (x : Name) (t : ℕ) (z : Zone) → IsParentsZone zs x t (Some z) → IsAnswering zs x t (Some z)
parent_answers zs x t z h = subst (λ b. IsNearest (may_answer_for b x) zs z) (sym h.0) h.1

pub name_answers : (zs : List Zone) (x : Name) (t : ℕ) → is_parents zs x t ≡ false → (o : Option Zone) → IsNearestIfAny (may_answer_for false x) zs o → IsAnswering zs x t o
name_answers zs x t e o h = subst (λ b. IsNearestIfAny (may_answer_for b x) zs o) (sym e) h
