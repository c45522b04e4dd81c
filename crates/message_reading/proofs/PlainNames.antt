-- Names in data that are kept as octets, spelled one after the other as a loop spells them
use Rattle.std.proofs.Common.{◌≡◌, ℕ, suc, ◌+◌, ◌-◌, ◌<◌, List, [], ◌∷◌, ◌++◌, Option, Some, None, refl, sym, ap, ◌∙◌, append_assoc}
use Rattle.std.proofs.lemmas.List.{append-nil}
use Rattle.zone_proto.specs.Names.{wire_form}
use Rattle.message_reading.specs.Octets.{◌>>=◌}
use Rattle.message_reading.specs.MessageNames.{name_of, Spells}
use Rattle.message_reading.specs.OtherForms.{names_of, with_names}
use Rattle.message_reading.proofs.Passing.{one_less}

names_from : (n i : ℕ) (m : List ℕ) (place : List ℕ → ℕ) (rest front : List ℕ) (whole : Option (List ℕ)) → i < n
    → with_names front (n - i) m place rest ≡ whole → with_names front (suc (n - (i + 1))) m place rest ≡ whole
names_from n i m place rest front whole less h = ap (λ k. with_names front k m place rest) (one_less n i less) ∙ h

pub names_none : (n i : ℕ) (m : List ℕ) (place : List ℕ → ℕ) (rest front : List ℕ) (whole : Option (List ℕ)) → i < n
    → name_of m (place rest) rest ≡ None → with_names front (n - i) m place rest ≡ whole → None ≡ whole
unfolding names_of
names_none n i m place rest front whole less e h = rw e at (names_from n i m place rest front whole less h)

pub names_more : (n i : ℕ) (m : List ℕ) (place : List ℕ → ℕ) (rest front text next : List ℕ) (whole : Option (List ℕ)) → i < n
    → Spells (Some (text, next)) (name_of m (place rest) rest) → with_names front (n - i) m place rest ≡ whole
    → with_names (front ++ text) (n - (i + 1)) m place next ≡ whole
unfolding names_of
names_more n i m place rest front text next whole less s h =
    let e = s.1 in
    ap (λ t. with_names (front ++ t) (n - (i + 1)) m place next) s.2
    ∙ regrouped (names_of (n - (i + 1)) m place next) ∙ (rw e at (names_from n i m place rest front whole less h))
  where
    spelled : List ℕ
    spelled = wire_form s.0

    regrouped : (read : Option (List ℕ)) → read >>= (λ more. Some ((front ++ spelled) ++ more))
        ≡ (read >>= λ more. Some (spelled ++ more)) >>= λ names. Some (front ++ names)
    regrouped None = refl
    regrouped (Some more) = ap (λ x. Some x) (append_assoc front spelled more)

pub names_end : (k : ℕ) (m : List ℕ) (place : List ℕ → ℕ) (rest front : List ℕ) (whole : Option (List ℕ)) → k ≡ 0 → rest ≡ []
    → with_names front k m place rest ≡ whole → Some front ≡ whole
unfolding names_of
names_end k m place rest front whole none e h =
    ap (λ s. Some s) (sym (append-nil front)) ∙ ap (λ r. with_names front 0 m place r) (sym e)
    ∙ ap (λ j. with_names front j m place rest) (sym none) ∙ h

pub names_left : (k : ℕ) (m : List ℕ) (place : List ℕ → ℕ) (rest front : List ℕ) (whole : Option (List ℕ)) → k ≡ 0 → (rest ≡ [] → ⊥)
    → with_names front k m place rest ≡ whole → None ≡ whole
unfolding names_of
names_left k m place [] front whole none some h = absurd (some refl)
names_left k m place (b ∷ rest) front whole none some h = ap (λ j. with_names front j m place (b ∷ rest)) (sym none) ∙ h
