use Rattle.std.proofs.Common.{sym, ◌∙◌}
use Rattle.zone_response.specs.Sections.{is_alike}
use Rattle.zone_response.proofs.SetLists.{passes_among}
use Rattle.zone_response.proofs.lists.is_among.Goals as goal

pub returns-then-is_alike : goal.returns-then-is_alike
returns-then-is_alike c =
    sym (passes_among (is_alike c.args.set.now) c.args.list.now c.loop-item.item-index c.item-item.result c.loop-item-test.true c.item-item.is (sym c.is_alike.ensures ∙ c.if-is_alike.true))
