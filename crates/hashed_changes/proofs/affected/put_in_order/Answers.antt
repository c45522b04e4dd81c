use Rattle.hashed_changes.proofs.InOrderOnce.{same_among, once_ascend}
use Rattle.hashed_changes.proofs.affected.put_in_order.Goals as goal

pub returns-clause-names : goal.returns-clause-names
returns-clause-names c = same_among c.args.names.now.items c.sort_unstable.new.self.items c.dedup.new.self.items c.sort_unstable.ensures.permutation c.dedup.ensures.filtered

pub returns-clause-ascending : goal.returns-clause-ascending
returns-clause-ascending c =
    once_ascend c.args.names.now.items c.sort_unstable.new.self.items c.dedup.new.self.items c.sort_unstable.ensures.permutation c.dedup.ensures.filtered c.sort_unstable.ensures.sorted
