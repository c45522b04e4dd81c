-- The data of a type that has a case of its own, and of one that has none
use Rattle.std.proofs.Common.{◌≡◌, ℕ, Bool, true, false, List, Some, None, refl, sym, ap, ◌∙◌}
use mathlib.Core.Bool.{Bool-set}
use Rattle.zone_proto.specs.Types.{has_own_case}
use Rattle.zone_proto.specs.declared.record_type.RecordType.{RecordType}
use Rattle.zone_proto.specs.declared.rdata.other.OtherData.{OtherData}
use Rattle.zone_proto.specs.declared.rdata.RData.TheVariants as V
use Rattle.message_reading.specs.Octets.{◌>>=◌}
use Rattle.message_reading.specs.OtherForms.{form_of, in_form}
use Rattle.message_reading.specs.DataForms.{data_by, data_of, other_data_of, own_data_of}

pub own_is : (t : ℕ) (m : List ℕ) (at : ℕ) (octets : List ℕ) → has_own_case t ≡ true → own_data_of t m at octets ≡ data_of t m at octets
unfolding data_of
own_is t m at octets own = by (has_own_case t) refl own
  where
    by : (b : Bool) (e : has_own_case t ≡ b) → b ≡ true → own_data_of t m at octets ≡ data_by t m at octets b e
    by true e f = refl
    by false e f = absurd cc

other_is : (t : ℕ) (m : List ℕ) (at : ℕ) (octets : List ℕ) (other : has_own_case t ≡ false)
    → other_data_of t m at octets other ≡ data_of t m at octets
unfolding data_of
other_is t m at octets other = by (has_own_case t) refl other
  where
    by : (b : Bool) (e : has_own_case t ≡ b) → b ≡ false → other_data_of t m at octets other ≡ data_by t m at octets b e
    by true e f = absurd cc
    by false e f = ap (λ (p : has_own_case t ≡ false). other_data_of t m at octets p) (Bool-set (has_own_case t) false other e)

pub other_none : (t : ℕ) (m : List ℕ) (at : ℕ) (octets : List ℕ) → has_own_case t ≡ false → None ≡ in_form (form_of t) m at octets
    → None ≡ data_of t m at octets
other_none t m at octets other e =
    ap (λ r. r >>= λ plain. Some (V.Other (record { record_type = record { 0 = t }; octets = plain; other = other }))) e
    ∙ other_is t m at octets other

same_other : (d : OtherData) (m : List ℕ) (at : ℕ) (octets : List ℕ) → Some d.octets ≡ in_form (form_of d.record_type.0) m at octets
    → Some (V.Other d) ≡ data_of d.record_type.0 m at octets
same_other d m at octets e =
    ap (λ r. r >>= λ plain. Some (V.Other (record { record_type = record { 0 = d.record_type.0 }; octets = plain; other = d.other }))) e
    ∙ other_is d.record_type.0 m at octets d.other

pub other_some : (x : RecordType) (d : OtherData) (plain m : List ℕ) (at : ℕ) (octets : List ℕ) → d.record_type ≡ x → d.octets ≡ plain
    → Some plain ≡ in_form (form_of x.0) m at octets → Some (V.Other d) ≡ data_of x.0 m at octets
other_some x d plain m at octets e f h =
    same_other d m at octets (ap (λ s. Some s) f ∙ h ∙ ap (λ (y : RecordType). in_form (form_of y.0) m at octets) (sym e))
    ∙ ap (λ (y : RecordType). data_of y.0 m at octets) e
