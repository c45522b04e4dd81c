use Rattle.std.proofs.Common.{◌≡◌, true, subst, Ok}
use Rattle.std.specs.Prelude.{Option}
use Rattle.zone_map.specs.Zones.{Sets}
use Rattle.zone_update.specs.Updates.{course_of}
use Rattle.update_denials.specs.Prepared.{IsFound, IsUnprepared}
use Rattle.update_denials.proofs.Faults.{handed_on, refused, unprepared}
use Rattle.update_denials.proofs.preparing.prepare.Goals as goal

pub returns-in-None-clause-unchanged : goal.returns-in-None-clause-unchanged
returns-in-None-clause-unchanged c =
    subst (λ (o : Option Sets). IsFound o (course_of c.args.origin c.args.zone.now c.args.update.prerequisites.items c.args.update.changes.items)) c.in-None.is c.in_ok-found.ensures.found

pub returns-in_ok-made-in-Some-clause-prepared : goal.returns-in_ok-made-in-Some-clause-prepared
returns-in_ok-made-in-Some-clause-prepared c =
    let updated : course_of c.args.origin c.args.zone.now c.args.update.prerequisites.items c.args.update.changes.items ≡ Ok (record { sets = c.in-Some.after; changed = true }) =
    subst (λ (o : Option Sets). IsFound o (course_of c.args.origin c.args.zone.now c.args.update.prerequisites.items c.args.update.changes.items)) c.in-Some.is c.in_ok-found.ensures.found in
    record { after = c.in-Some.after; updated = updated; made = c.in_ok-made-in-Some.ensures.prepared }

pub returns-in_err-found-clause-fault : goal.returns-in_err-found-clause-fault
returns-in_err-found-clause-fault c =
    handed_on c.from_residual.result (IsUnprepared c.args.origin c.args.zone.now c.args.update.prerequisites.items c.args.update.changes.items c.args.signing) c.in_err-found.field-0.0 c.from_residual.ensures.1
    (refused c.args.origin c.args.zone.now c.args.update.prerequisites.items c.args.update.changes.items c.args.signing c.in_err-found.field-0.0 c.in_err-found.ensures.fault)

pub returns-in_err-made-in-Some-clause-fault : goal.returns-in_err-made-in-Some-clause-fault
returns-in_err-made-in-Some-clause-fault c =
    let updated : course_of c.args.origin c.args.zone.now c.args.update.prerequisites.items c.args.update.changes.items ≡ Ok (record { sets = c.in-Some.after; changed = true }) =
    subst (λ (o : Option Sets). IsFound o (course_of c.args.origin c.args.zone.now c.args.update.prerequisites.items c.args.update.changes.items)) c.in-Some.is c.in_ok-found.ensures.found in
    handed_on c.from_residual-in_err-made-in-Some.result (IsUnprepared c.args.origin c.args.zone.now c.args.update.prerequisites.items c.args.update.changes.items c.args.signing)
    c.in_err-made-in-Some.field-0.0 c.from_residual-in_err-made-in-Some.ensures.1
    (unprepared c.args.origin c.args.zone.now c.in-Some.after c.args.update.prerequisites.items c.args.update.changes.items c.args.signing c.in_err-made-in-Some.field-0.0 updated
    c.in_err-made-in-Some.ensures.fault)
