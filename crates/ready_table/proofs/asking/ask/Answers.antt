use Rattle.zone_server.specs.declared.transport.Transport.TheVariants.{Udp}
use Rattle.ready_table.proofs.AskedZones.{answer_ready}
use Rattle.ready_table.proofs.asking.ask.Goals as goal

pub returns-then-is_kept : goal.returns-then-is_kept
returns-then-is_kept g c = λ z one at.
    answer_ready (g.Z.ServedZones.zones c.args.zones.now) z c.args.origin.now (Udp 1232) c.args.message.now c.in-Ok.query c.answer.new.out.items one at c.in-Ok.ensures
    (c.in_ok-is_inside.ensures c.if-not-branch.false) c.in_ok-answer.ensures.answer
