use Rattle.std.proofs.Common.{◌≡◌, sym, ap, ◌∙◌}
use Rattle.std.specs.Cmp.{both_ways}
use Rattle.std.specs.Ordering.{eq_by_cmp, is_eq}
use Rattle.std.proofs.lemmas.Cmp.{tied_itself}
use Rattle.zone_proto.specs.Names.{Name, name_cmp, name_eq}
use Rattle.zone_proto.proofs.Ordering.KeyOrder.{equal_of}
use Rattle.zone_proto.proofs.Names.NameTree.{name_eq-Decides}
use Rattle.zone_proto.proofs.Names.Tree.{name_order}
use Rattle.zone_builder.proofs.checks.is_same.Goals as goal

-- names that neither comes before the other are the same, and no others
tied_are_same : (a b : Name) → eq_by_cmp name_cmp a b ≡ name_eq a b
tied_are_same a b =
    both_ways (eq_by_cmp name_cmp a b) (name_eq a b)
    (λ h. (name_eq-Decides a b).1 (name_order.exact a b (equal_of (name_cmp a b) h)))
    (λ h. ap is_eq (ap (name_cmp a) (sym ((name_eq-Decides a b).0 h)) ∙ tied_itself name_order.total a))

pub returns : goal.returns
returns c = c.eq.ensures ∙ tied_are_same c.args.name.now c.args.other.now
