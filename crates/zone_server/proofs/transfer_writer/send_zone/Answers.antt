use Rattle.std.proofs.Common.{◌++◌, List, ℕ, subst}
use Rattle.std.specs.Prelude.{OnErr, OnOk}
use Rattle.zone_server.specs.declared.transfer_writer.Halt.{Halt}
use Rattle.zone_server.specs.Frames.{framed}
use Rattle.zone_server.specs.Serving.{Moves}
use Rattle.zone_server.specs.Stopping.{BeginsSets, MovesFront, Stops}
use Rattle.zone_server.specs.Transfers.{groups_sent, joined}
use Rattle.zone_server.specs.TransferSteps.{Halts}
use Rattle.zone_server.proofs.TransferRuns.{zone_broken_put, zone_broken_stops, zone_broken_unput, zone_stops}
use Rattle.zone_server.proofs.WrittenFronts.{on_err}
use Rattle.zone_server.proofs.transfer_writer.send_zone.Goals as goal

pub returns-in_ok-send_code-in-Err-Unsendable-clause-sent : goal.returns-in_ok-send_code-in-Err-Unsendable-clause-sent
returns-in_ok-send_code-in-Err-Unsendable-clause-sent g c =
    let q = c.args.query.now in
    let sets = groups_sent c.args.soa.now c.args.sets.now in
    let a = c.args.answers.now.items in
    let b = c.send_sets.new.answers.items in
    let d = c.put_answer.new.answers.items in
    let u = g.W.Write.contents c.args.output.now in
    let v = g.W.Write.contents c.send_sets.new.output in
    let w = g.W.Write.contents c.put_answer.new.output in
    zone_broken_put q c.put_answer.result sets c.send_code.new.out.items a b d u v w
    (subst (λ (e : Halt). Halts q (joined sets) a b u v e) c.in-Err-Unsendable.field-0-is c.in-Err-Unsendable.ensures.halted)
    c.in_ok-send_code-in-Err-Unsendable.ensures
    (subst (λ (o : List ℕ). OnOk c.put_answer.result (Moves (b ++ framed o) v w d)) c.as_slice.ensures.value c.put_answer.ensures.put)

pub returns-in_ok-send_code-in-Err-Unsendable-clause-stopped : goal.returns-in_ok-send_code-in-Err-Unsendable-clause-stopped
returns-in_ok-send_code-in-Err-Unsendable-clause-stopped g c =
    let q = c.args.query.now in
    let sets = groups_sent c.args.soa.now c.args.sets.now in
    let a = c.args.answers.now.items in
    let b = c.send_sets.new.answers.items in
    let u = g.W.Write.contents c.args.output.now in
    let v = g.W.Write.contents c.send_sets.new.output in
    let w = g.W.Write.contents c.put_answer.new.output in
    zone_broken_unput q c.put_answer.result sets c.send_code.new.out.items a b u v w
    (subst (λ (e : Halt). Halts q (joined sets) a b u v e) c.in-Err-Unsendable.field-0-is c.in-Err-Unsendable.ensures.halted)
    c.in_ok-send_code-in-Err-Unsendable.ensures
    (subst (λ (o : List ℕ). OnErr c.put_answer.result (MovesFront (b ++ framed o) v w)) c.as_slice.ensures.value c.put_answer.ensures.front)

pub returns-in_err-send_code-in-Err-Unsendable-clause-stopped : goal.returns-in_err-send_code-in-Err-Unsendable-clause-stopped
returns-in_err-send_code-in-Err-Unsendable-clause-stopped g c =
    let q = c.args.query.now in
    let sets = groups_sent c.args.soa.now c.args.sets.now in
    let a = c.args.answers.now.items in
    let b = c.send_sets.new.answers.items in
    let u = g.W.Write.contents c.args.output.now in
    let v = g.W.Write.contents c.send_sets.new.output in
    on_err c.from_residual.result (Stops (BeginsSets q sets) a u v)
    (zone_broken_stops q sets a b u v
    (subst (λ (e : Halt). Halts q (joined sets) a b u v e) c.in-Err-Unsendable.field-0-is c.in-Err-Unsendable.ensures.halted))

pub returns-in-Err-Stop-clause-stopped : goal.returns-in-Err-Stop-clause-stopped
returns-in-Err-Stop-clause-stopped g c =
    let q = c.args.query.now in
    let sets = groups_sent c.args.soa.now c.args.sets.now in
    let a = c.args.answers.now.items in
    let b = c.send_sets.new.answers.items in
    let u = g.W.Write.contents c.args.output.now in
    let v = g.W.Write.contents c.send_sets.new.output in
    zone_stops q sets a u v (subst (λ (e : Halt). Halts q (joined sets) a b u v e) c.in-Err-Stop.field-0-is c.in-Err-Stop.ensures.halted)
