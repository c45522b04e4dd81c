use Rattle.record_fields.proofs.TypeFacts.{sorted_once}
use Rattle.record_fields.proofs.type_lists.ascending.Goals as goal

pub returns : goal.returns
returns c =
    sorted_once c.args.types.items c.sort_unstable.new.self.items c.dedup.new.self.items
    c.sort_unstable.ensures.permutation c.sort_unstable.ensures.sorted c.dedup.ensures.filtered
