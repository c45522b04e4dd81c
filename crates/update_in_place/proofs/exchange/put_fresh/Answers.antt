use Rattle.update_in_place.proofs.Exchanged.{undone}
use Rattle.update_in_place.proofs.exchange.put_fresh.Goals as goal

pub returns-in-Err-clause-same : goal.returns-in-Err-clause-same
returns-in-Err-clause-same c =
    undone c.args.zone.now c.put_copies.new.to c.remove_all.new.zone c.args.fresh.now c.len-had.ensures.zone.ordered c.len-has.ensures.zone.ordered c.remove_all.ensures
    c.requires.absent c.put_copies.ensures.others
