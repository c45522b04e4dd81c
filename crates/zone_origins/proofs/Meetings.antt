-- Names at or above two names
use Rattle.std.proofs.Common.{◌≡◌, ◌<◌, [], ◌∷◌, ◌++◌, length, drop, refl, sym, ap, subst, ◌∙◌, arith}
use Rattle.std.proofs.lemmas.List.{append_assoc}
use Rattle.zone_proto.specs.Names.{Name, IsAtOrAbove}
use Rattle.zone_origins.specs.Nearest.{IsMeeting, IsMeetingBelow}

-- a name is at or above itself
pub itself : (x : Name) → IsAtOrAbove x x
itself x = ([], refl)

-- what is at or above a name is so to those below it
pub above_all : (a b c : Name) → IsAtOrAbove a b → IsAtOrAbove b c → IsAtOrAbove a c
above_all a b c h k = (k.0 ++ h.0, k.1 ∙ ap (λ n. k.0 ++ n) h.1 ∙ sym (append_assoc k.0 h.0 a))

-- a name that is at or above another one is that or at or above its parent
pub parent_of : (y m : Name) → IsAtOrAbove y m → (y ≡ m → ⊥) → IsAtOrAbove y (drop 1 m)
parent_of y m ([], e) other = absurd (other (sym e))
parent_of y m (l ∷ front, e) other = (front, ap (drop 1) e)

pub parent_above : (m : Name) → IsAtOrAbove (drop 1 m) m
parent_above [] = ([], refl)
parent_above (l ∷ m) = (l ∷ [], refl)

-- the walk begins at the left name
pub begins : (left right : Name) → IsMeetingBelow left right left
begins left right = record { of_left = itself left; longest = λ y h k. h }

-- it goes on to the parent where a name isn't above the right one
pub goes_up : (left right m : Name) → IsMeetingBelow left right m → (IsAtOrAbove m right → ⊥) → IsMeetingBelow left right (drop 1 m)
goes_up left right m h not = record {
  of_left = above_all (drop 1 m) m left (parent_above m) h.of_left;
  longest = λ y p q. parent_of y m (h.longest y p q) (λ e. not (subst (λ n. IsAtOrAbove n right) e q));
}

-- the root is above all names, so it never ends there
pub not_root : (m right : Name) → (IsAtOrAbove m right → ⊥) → length (drop 1 m) < length m
not_root [] right not = absurd (not (right, sym (by right)))
  where
    by : (n : Name) → n ++ [] ≡ n
    by [] = refl
    by (l ∷ ls) = ap (λ n. l ∷ n) (by ls)
not_root (l ∷ m) right not = omega arith

pub ends : (left right m : Name) → IsMeetingBelow left right m → IsAtOrAbove m right → IsMeeting left right m
ends left right m h k = record { of_left = h.of_left; of_right = k; longest = h.longest }
