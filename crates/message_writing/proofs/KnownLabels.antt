-- The walk along a name that a message has, beside labels
use Rattle.std.proofs.Common.{◌≡◌, ℕ, suc, ◌<◌, ◌≤◌, false, eqb, ltb, List, [], ◌∷◌, ◌++◌, length, drop, Some, refl, subst, arith}
use Rattle.std.proofs.lemmas.Bool.{le-ltb, ne_eqb}
use Rattle.zone_proto.specs.Names.{Name, Label}
use Rattle.message_reading.specs.MessageNames.{name_within, lead}
use Rattle.message_writing.specs.KnownNames.{StandsAt}
use Rattle.message_writing.proofs.NameSteps.{label_back, end_back}

-- What is left to be found would complete the labels that are looked for.
pub record IsBeside (out : List ℕ) (offset : ℕ) (whole : Name) (k before : ℕ) (octets : List ℕ) (left : Name) : Type 0 where
  pub inside : before ≤ length out
  pub completes : (after : List ℕ) → name_within k out before octets ≡ Some (left, after) → StandsAt out offset whole

pub beside_none : (out : List ℕ) (offset : ℕ) (whole : Name) → offset ≤ length out → IsBeside out offset whole 127 offset (drop offset out) whole
beside_none out offset whole le = record { inside = le; completes = λ after h. record { after = after; stands = h } }

pub beside_end : (out : List ℕ) (offset : ℕ) (whole : Name) (k before : ℕ) (rest : List ℕ)
    → IsBeside out offset whole (suc k) before (0 ∷ rest) [] → StandsAt out offset whole
beside_end out offset whole k before rest b = b.completes rest (end_back k out before rest)

pub beside_label : (out : List ℕ) (offset : ℕ) (whole : Name) (k before : ℕ) (l : Label) (after : List ℕ) (left : Name)
    → 0 < length l → length l ≤ 63 → IsBeside out offset whole (suc k) before (length l ∷ (l ++ after)) (l ∷ left)
    → IsBeside out offset whole k before after left
beside_label out offset whole k before l after left some short b = record {
  inside = b.inside;
  completes = λ x h. b.completes x (label_back k out before l after left x some short h);
}

pointed_there : (k : ℕ) (out : List ℕ) (before high : ℕ) (rest : List ℕ) (left : Name) (p : ℕ) (x after : List ℕ) → 192 ≤ high
    → lead before high rest ≡ Some (p, x) → name_within k out p (drop p out) ≡ Some (left, after)
    → name_within (suc k) out before (high ∷ rest) ≡ Some (left, x)
unfolding name_within
pointed_there k out before high rest left p x after tall led h =
    let some : eqb high 0 ≡ false = ne_eqb high 0 (λ z. omega (arith, z)) in
    let long : ltb high 64 ≡ false = le-ltb _ _ (omega arith) in
    let pointer : ltb high 192 ≡ false = le-ltb _ _ tall in
    rw (some, long, pointer, led, h) refl

pub beside_pointer : (out : List ℕ) (offset : ℕ) (whole : Name) (k before high : ℕ) (rest : List ℕ) (left : Name) (p : ℕ) (x : List ℕ)
    → 192 ≤ high → lead before high rest ≡ Some (p, x) → p ≤ length out
    → IsBeside out offset whole (suc k) before (high ∷ rest) left → IsBeside out offset whole k p (drop p out) left
beside_pointer out offset whole k before high rest left p x tall led inside b = record {
  inside = inside;
  completes = λ after h. b.completes x (pointed_there k out before high rest left p x after tall led h);
}

pub beside_at : (out : List ℕ) (offset : ℕ) (whole : Name) (k k' before before' : ℕ) (octets octets' : List ℕ) (left left' : Name)
    → k ≡ k' → before ≡ before' → octets ≡ octets' → left ≡ left' → IsBeside out offset whole k before octets left
    → IsBeside out offset whole k' before' octets' left'
beside_at out offset whole k k' before before' octets octets' left left' e₁ e₂ e₃ e₄ b =
    subst (λ n. IsBeside out offset whole k' before' octets' n) e₄ (subst (λ s. IsBeside out offset whole k' before' s left) e₃
    (subst (λ h. IsBeside out offset whole k' h octets left) e₂ (subst (λ j. IsBeside out offset whole j before octets left) e₁ b)))

-- a label that comes after its length is the next
pub record IsNext (l : Label) : Type 0 where
  pub some : 0 < length l
  pub short : length l ≤ 63

pub is_next : (first : ℕ) (rest octets : List ℕ) (l : Label) (after : List ℕ)
    → octets ≡ first ∷ rest → octets ≡ length l ∷ (l ++ after) → (first ≡ 0 → ⊥) → first < 64 → IsNext l
is_next first rest octets l after e f some short =
    let size : first ≡ length l = cc in
    record { some = omega (arith, size, some); short = omega (arith, size) }
