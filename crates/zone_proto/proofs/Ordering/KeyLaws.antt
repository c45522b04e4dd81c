-- The order of keys is total, and tells different keys apart.
use Rattle.std.proofs.Common.{◌≡◌}
use Rattle.std.specs.Cmp.{IsTotalOrder}
use Rattle.std.proofs.lemmas.Cmp.{then_total, nat_cmp_total}
use Rattle.std.specs.Cmp.{on_total}
use Rattle.std.proofs.lemmas.Map.Lookups.{CmpEqualImpliesEq, exact_pairs, exact_unsigned}
use Rattle.zone_proto.specs.declared.rr_key.RrKey.{RrKey}
use Rattle.zone_proto.specs.Names.{name_cmp}
use Rattle.zone_proto.specs.NameLaws.{name_cmp_total, exact_names}
use Rattle.zone_proto.specs.Keys.{key, key_cmp}
use Rattle.std.specs.Ordering.{nat_cmp}

pub key_cmp_total : IsTotalOrder key_cmp
key_cmp_total =
    let by_name : IsTotalOrder (λ (j k : RrKey). name_cmp j.name k.name) = on_total (λ (k : RrKey). k.name) name_cmp_total in
    let by_type : IsTotalOrder (λ (j k : RrKey). nat_cmp j.record_type.0 k.record_type.0) = on_total (λ (k : RrKey). k.record_type.0) nat_cmp_total in
    then_total by_name by_type

-- keys that are equal in the order are identical
pub exact_keys : CmpEqualImpliesEq key_cmp
exact_keys j k h =
    let both : (j.name, j.record_type.0) ≡ (k.name, k.record_type.0) =
    exact_pairs name_cmp nat_cmp exact_names exact_unsigned (j.name, j.record_type.0) (k.name, k.record_type.0) h in
    λ i. key (both i).0 (both i).1
