-- The laws of the order of names that are held with their digests
use Rattle.std.specs.declared.cmp.Ordering.{Ordering}
use Rattle.std.specs.Ordering.{eq_by_cmp}
use Rattle.std.specs.Cmp.{IsTotalOrder, IsEquivalence, on_total, then_total, eq_by_cmp_equiv}
use Rattle.std.specs.Cmp.Lexicographic.{nat_list_cmp_total}
use Rattle.zone_proto.specs.NameLaws.{name_cmp_total}
use Rattle.zone_denial.specs.declared.hashed_names.HashedName.{HashedName as HeldName}
use Rattle.zone_denial.specs.HashedNames.{hashed}
use Rattle.zone_denial.specs.Nsec3Sets.{HashedName, hashed_cmp}

-- by digest, and those of one digest by name
abbrev pub held_cmp : HeldName → HeldName → Ordering
held_cmp h k = hashed_cmp (hashed h) (hashed k)

pub hashed_cmp_total : IsTotalOrder hashed_cmp
hashed_cmp_total = then_total (on_total (λ (h : HashedName). h.digest) nat_list_cmp_total) (on_total (λ (h : HashedName). h.name) name_cmp_total)

pub held_cmp_total : IsTotalOrder held_cmp
held_cmp_total = on_total hashed hashed_cmp_total

pub held_eq_equiv : IsEquivalence (eq_by_cmp held_cmp)
held_eq_equiv = eq_by_cmp_equiv held_cmp_total
