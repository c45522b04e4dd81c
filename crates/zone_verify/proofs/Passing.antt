-- Loops that pass the elements of a list one after the other: each that isn't left is right
use Rattle.std.proofs.Common.{◌≡◌, List, [], ◌∷◌, subst, ◌⊎◌, inl, inr}
use Rattle.zone_proto.proofs.Members.{In}

module _ {A : Type 0} (P : A → Type 0) (all : List A) where
  abbrev pub AreLeft : List A → Type 0
  AreLeft left = (y : A) → In y all → In y left ⊎ P y

  pub passed : (left after : List A) (x : A) → left ≡ x ∷ after → P x → AreLeft left → AreLeft after
  passed left after x steps p so_far y i = by (so_far y i)
    where
      of : In y (x ∷ after) → In y after ⊎ P y
      of (inl e) = inr (subst P e p)
      of (inr j) = inl j

      by : In y left ⊎ P y → In y after ⊎ P y
      by (inl j) = of (subst (In y) steps j)
      by (inr q) = inr q

  pub all_passed : (left : List A) → left ≡ [] → AreLeft left → (y : A) → In y all → P y
  all_passed left none so_far y i = by (so_far y i)
    where
      by : In y left ⊎ P y → P y
      by (inl j) = absurd (subst (In y) none j)
      by (inr q) = q
