use Rattle.std.proofs.Common.{sym}
use Rattle.std.specs.Prelude.{nat_eq}
use Rattle.std.specs.Cmp.Lexicographic.{pointwise, nat_list_cmp_total, nat_list_eq_equiv, same_text, texts_ties}
use Rattle.std.proofs.lemmas.Map.Lookups.{exact_bytes}
use Rattle.zone_proto.specs.Names.{octets_cmp}
use Rattle.zone_planning.proofs.AscendingOnce.{sorted_once}
use Rattle.zone_planning.proofs.ordering.in_order.Goals as goal

pub returns : goal.returns
returns c =
    sorted_once octets_cmp (record { total = nat_list_cmp_total; exact = exact_bytes }) (pointwise nat_eq) nat_list_eq_equiv (λ x y e. same_text x y (sym e)) texts_ties
    c.args.forms.items c.sort_unstable.new.self.items c.dedup.new.self.items
    c.sort_unstable.ensures.permutation c.sort_unstable.ensures.sorted c.dedup.ensures.filtered
