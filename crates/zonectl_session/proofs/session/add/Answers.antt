use Rattle.std.proofs.Common.{true, false, Ok, string_bytes, ap, ◌∙◌, subst}
use Rattle.zonectl_session.specs.Replies.{Reply, yes, no, failed, memory}
use Rattle.zonectl_session.specs.Steps.{IsAdded, with_zone}
use Rattle.zone_in_memory.specs.Insertions.{IsUpsert}
use Rattle.zonectl_session.proofs.Pushing.{arm_pushed}
use Rattle.zonectl_session.proofs.Stepping.{add_taken, add_refused}
use Rattle.zonectl_session.proofs.session.add.Goals as goal
use Rattle.zonectl_session.proofs.session.add.Goals.{in-Ok-true, in-Ok-false, in-Err}

pub returns : goal.returns
returns c =
    let old = c.args.served.now in
    let new = c.upsert.new.self in
    let r = c.args.record in
    let n = c.serial-serial.result in
    let is = λ (reply : Reply). IsAdded old r reply (with_zone old new) in
    elim c.match-upsert.branch [
      | in-Ok-true w ↦
          arm_pushed is yes _ _ _ _ _ w.result-is (ap string_bytes w.answer-is) w.push_str.ensures.bytes
          (add_taken old new r n true c.serial-serial.ensures (subst (λ res. IsUpsert old.zone r n res new) (w.in-Ok-true.is ∙ ap Ok w.in-Ok-true.field-0-test) c.upsert.ensures))
      | in-Ok-false w ↦
          arm_pushed is no _ _ _ _ _ w.result-is (ap string_bytes w.answer-is) w.push_str-in-Ok-false.ensures.bytes
          (add_taken old new r n false c.serial-serial.ensures (subst (λ res. IsUpsert old.zone r n res new) (w.in-Ok-false.is ∙ ap Ok w.in-Ok-false.field-0-test) c.upsert.ensures))
      | in-Err w ↦
          arm_pushed is (failed memory) _ _ _ _ _ w.result-is (ap string_bytes w.answer-is) w.push_str-in-Err.ensures.bytes
          (add_refused old new r n c.upsert.result w.in-Err.field-0 w.in-Err.is c.upsert.ensures)
    ]
