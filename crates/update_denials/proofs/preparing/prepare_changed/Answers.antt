use Rattle.update_denials.specs.Prepared.{IsUnpreparedOf}
use Rattle.update_denials.proofs.Faults.{handed_on, unplanned}
use Rattle.update_denials.proofs.preparing.prepare_changed.Goals as goal

pub returns-clause-prepared : goal.returns-clause-prepared
returns-clause-prepared c = record { bare = c.in_ok-bare.bare; unsecured = c.in_ok-bare.ensures.ok; planned = c.in_ok-plan.ensures.planned }

pub returns-in_err-plan-clause-fault : goal.returns-in_err-plan-clause-fault
returns-in_err-plan-clause-fault c =
    handed_on c.from_residual-in_err-plan.result (IsUnpreparedOf c.args.origin c.args.zone.now c.args.after c.args.signing) c.in_err-plan.field-0.0 c.from_residual-in_err-plan.ensures.1
    (unplanned c.args.origin c.args.zone.now c.args.after c.in_ok-bare.bare c.args.signing c.in_err-plan.field-0.0 c.in_ok-bare.ensures.ok c.in_err-plan.ensures.fault)
