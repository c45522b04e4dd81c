use Rattle.std.proofs.Common.{List, ap, ◌∙◌}
use Rattle.std.specs.Prelude.{None, if◌then◌else◌}
use Rattle.update_in_place.specs.Parts.{is_among}
use Rattle.zone_planning.specs.declared.signer.PlanSigner.{PlanSigner}
use Rattle.signed_changes.specs.Signing.{due_at}
use Rattle.signed_changes.proofs.planning.plan_change.Goals as goal

pub returns-clause-due : goal.returns-clause-due
returns-clause-due c = record {
  signers = c.in_ok-signers.signers.items;
  of_keys = c.in_ok-signers.ensures.ok;
  each = λ n t.
      c.in_ok-records.ensures.ok n t
      ∙ ap (λ (ss : List PlanSigner). if is_among c.args.names.now n then due_at c.args.origin.now c.args.zone.now c.args.request.now.inception ss n t else None) c.as_slice.ensures.value;
}
