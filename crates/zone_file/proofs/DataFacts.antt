-- Octets as the data of a type without a case of its own
use Rattle.std.proofs.Common.{◌≡◌, ℕ, List, Bool, true, false, Some, None, refl, sym, ap, subst, ◌∙◌, true≢false}
use mathlib.Core.Bool.{Bool-set}
use Rattle.zone_proto.specs.declared.record_type.RecordType.{RecordType}
use Rattle.zone_proto.specs.declared.rdata.other.OtherData.{OtherData}
use Rattle.zone_proto.specs.declared.rdata.RData.TheVariants as V
use Rattle.zone_proto.specs.Types.{has_own_case}
use Rattle.zone_file.specs.Data.{other_data, other_unless_own}

abbrev made : (x : RecordType) → List ℕ → has_own_case x.0 ≡ false → OtherData
made x os p = record { record_type = x; octets = os; other = p }

same_other : (r : RecordType) (octets : List ℕ) (own : has_own_case r.0 ≡ false) (d : OtherData) → d.record_type ≡ r → d.octets ≡ octets → made r octets own ≡ d
same_other r octets own d k o =
    let Same : RecordType → Type 0 = λ x. (p : has_own_case x.0 ≡ false) → made r octets own ≡ made x octets p in
    let base : Same r = λ p. ap (made r octets) (Bool-set (has_own_case r.0) false own p) in
    subst Same (sym k) base d.other ∙ ap (λ os. made d.record_type os d.other) (sym o)

pub other_made : (r : RecordType) (octets : List ℕ) (d : OtherData) → d.record_type ≡ r → d.octets ≡ octets → other_data r.0 octets ≡ Some (V.Other d)
other_made r octets d k o = by (has_own_case r.0) refl (subst (λ (x : RecordType). has_own_case x.0 ≡ false) k d.other)
  where
    by : (b : Bool) (e : has_own_case r.0 ≡ b) → b ≡ false → other_unless_own r.0 octets b e ≡ Some (V.Other d)
    by true e g = absurd (true≢false g)
    by false e g = ap (λ (x : OtherData). Some (V.Other x)) (same_other r octets e d k o)

pub other_none : (r : RecordType) (octets : List ℕ) → has_own_case r.0 ≡ true → other_data r.0 octets ≡ None
other_none r octets h = by (has_own_case r.0) refl h
  where
    by : (b : Bool) (e : has_own_case r.0 ≡ b) → b ≡ true → other_unless_own r.0 octets b e ≡ None
    by true e g = refl
    by false e g = absurd (true≢false (sym g))
