use Rattle.std.proofs.Common.{◌≡◌, Option, sym, subst, ◌∙◌}
use Rattle.std.specs.Borrow.{Bor}
use Rattle.std.specs.Option.{IsSomeAnd}
use Rattle.zone_proto.specs.Names.{Name, name_cmp}
use Rattle.zone_proto.proofs.Names.Tree.{name_order}
use Rattle.zone_proto.proofs.Ordering.KeyOrder.{equal_of}
use Rattle.zone_planner.proofs.unsigned.is_same.Goals as goal

pub returns-in-Some : goal.returns-in-Some
returns-in-Some c =
    λ h.
    subst (λ (o : Option (Bor Name)). IsSomeAnd o (λ a. a.now ≡ c.args.name.now)) (sym c.in-Some.is)
    (name_order.exact c.in-Some.other.now c.args.name.now (equal_of (name_cmp c.in-Some.other.now c.args.name.now) (sym c.eq.ensures ∙ h)))
