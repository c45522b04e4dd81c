-- The order of names by their digests
use Rattle.std.specs.declared.cmp.Ordering.{Ordering}
use Rattle.std.specs.Ordering.{eq_by_cmp}
use Rattle.std.specs.Cmp.{IsTotalOrder, IsEquivalence, on_total, eq_by_cmp_equiv}
use Rattle.std.specs.Cmp.Lexicographic.{nat_list_cmp_total}
use Rattle.zone_proto.specs.Names.{octets_cmp}
use Rattle.zone_verify.specs.declared.nsec3_name.ChainName.{ChainName}

abbrev pub digest_cmp : ChainName → ChainName → Ordering
digest_cmp a b = octets_cmp a.digest b.digest

pub digest_cmp_total : IsTotalOrder digest_cmp
digest_cmp_total = on_total (λ (a : ChainName). a.digest) nat_list_cmp_total

pub digest_eq_equiv : IsEquivalence (eq_by_cmp digest_cmp)
digest_eq_equiv = eq_by_cmp_equiv digest_cmp_total
