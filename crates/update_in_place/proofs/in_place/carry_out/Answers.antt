use Rattle.update_in_place.proofs.Made.{carried_out, part_is}
use Rattle.update_in_place.proofs.in_place.carry_out.Goals as goal

pub exchange-requires : goal.exchange-requires
exchange-requires c =
    let changed = c.args.changed.now in
    record { part = part_is c.requires.0 c.args.zone.now c.requires.1 changed.before changed.after c.requires.2 }

pub returns-clause-done : goal.returns-clause-done
returns-clause-done c =
    let changed = c.args.changed.now in
    λ names next h. carried_out names c.args.zone.now next changed.before changed.after h c.exchange.new.zone c.len-has.ensures.zone.ordered c.in_ok-exchange.ensures.exchanged
