use Rattle.std.proofs.Common.{refl, sym, ap, ◌∙◌}
use Rattle.zone_handler.specs.declared.control_flow.LookupControlFlow.TheVariants.{Continue, Break}
use Rattle.zonectl_session.specs.Replies.{failed, broken_off, lookup_word}
use Rattle.zonectl_session.specs.Steps.{IsLookedUp, found_reply, lookup_reply}
use Rattle.zonectl_session.proofs.Pushing.{written}
use Rattle.zonectl_session.proofs.replies.lookup.Goals as goal

pub returns-in-Continue-Ok : goal.returns-in-Continue-Ok
returns-in-Continue-Ok c =
    let arm = c.in-Continue-Ok in
    written (IsLookedUp c.args.served.now c.args.name.now c.args.record_type.0 c.args.options) (found_reply arm.found) _ _ _ _ c.write_found.ensures refl
    (c.lookup-step.result, c.lookup-step.ensures.answer, sym (ap lookup_reply (arm.is ∙ ap Continue arm.field-0-is)))

pub returns-in-Continue-Err : goal.returns-in-Continue-Err
returns-in-Continue-Err c =
    let arm = c.in-Continue-Err in
    written (IsLookedUp c.args.served.now c.args.name.now c.args.record_type.0 c.args.options) (failed (lookup_word arm.error)) _ _ _ _ c.writeln.ensures.bytes refl
    (c.lookup-step.result, c.lookup-step.ensures.answer, sym (ap lookup_reply (arm.is ∙ ap Continue arm.field-0-is)))

pub returns-in-Break-Err : goal.returns-in-Break-Err
returns-in-Break-Err c =
    let arm = c.in-Break-Err in
    written (IsLookedUp c.args.served.now c.args.name.now c.args.record_type.0 c.args.options) (broken_off (lookup_word arm.error)) _ _ _ _ c.writeln-in-Break-Err.ensures.bytes refl
    (c.lookup-step.result, c.lookup-step.ensures.answer, sym (ap lookup_reply (arm.is ∙ ap Break arm.field-0-is)))
