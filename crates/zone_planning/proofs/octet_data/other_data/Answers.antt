use Rattle.std.proofs.Common.{◌≡◌, ℕ, false, List, subst}
use mathlib.Core.Bool.{Bool-set}
use Rattle.zone_proto.specs.declared.rdata.RData.TheVariants as V
use Rattle.zone_proto.specs.declared.rdata.other.OtherData.{OtherData}
use Rattle.zone_proto.specs.declared.record_type.RecordType.{RecordType}
use Rattle.zone_proto.specs.Types.{has_own_case}
use Rattle.zone_planning.proofs.octet_data.other_data.Goals as goal

other_same : (d : OtherData) (t : RecordType) (octets : List ℕ) → d.record_type ≡ t → d.octets ≡ octets → (own : has_own_case t.0 ≡ false)
    → V.Other d ≡ V.Other (record { record_type = t; octets = octets; other = own })
other_same d t octets e f =
    let P : RecordType → Type 0 = λ t. (own : has_own_case t.0 ≡ false) → V.Other d ≡ V.Other (record { record_type = t; octets = octets; other = own }) in
    subst P e (λ own i. V.Other (record { record_type = d.record_type; octets = f i; other = Bool-set (has_own_case d.record_type.0) false d.other own i }))

pub returns : goal.returns
returns c = other_same c.in-Some.other c.args.record_type c.args.octets.items c.in-Some.ensures.some c.in-Some.ensures.octets
