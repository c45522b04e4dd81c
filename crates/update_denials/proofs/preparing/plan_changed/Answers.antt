use Rattle.std.proofs.Common.{◌≡◌, List, ap, ◌∙◌}
use Rattle.zone_proto.specs.Types.{DNSKEY as dnskey_type}
use Rattle.zone_map.specs.Zones.{set_at}
use Rattle.zone_keeping.specs.Keeping.{kept}
use Rattle.zone_keeping.specs.Usable.{usable_keys}
use Rattle.update_denials.specs.Prepared.{keys_of, IsUnplanned}
use Rattle.update_denials.proofs.Faults.{handed_on, unkept, unmade}
use Rattle.update_denials.proofs.preparing.plan_changed.Goals as goal

pub returns-clause-planned : goal.returns-clause-planned
returns-clause-planned c =
    let blank = c.in_ok-blank.blank in
    let keys : blank.keys.items ≡ keys_of c.args.signing = c.in_ok-blank.ensures.keys in
    let named : c.in_ok-named.named ≡ c.args.origin = c.in_ok-named.ensures.copy.ok in
    record {
      blank = blank.records;
      is_planned = c.in_ok-blank.ensures.planned;
      faultless = c.in_ok-blank.ensures.faultless;
      zone = c.in_ok-blank.ensures.zone;
      keys = c.in_ok-plan.ensures.keys ∙ keys;
      kept =
          c.in_ok-plan.ensures.kept
          ∙ (λ i. kept c.args.signing.span (usable_keys (keys i) (set_at c.args.old.now (named i) dnskey_type)) c.args.old.now blank.records);
    }

pub returns-in_err-blank-clause-fault : goal.returns-in_err-blank-clause-fault
returns-in_err-blank-clause-fault c =
    handed_on c.from_residual-in_err-blank.result (IsUnplanned c.args.origin c.args.old.now c.args.bare c.args.signing) c.in_err-blank.field-0.0 c.from_residual-in_err-blank.ensures.1
    (unmade c.args.origin c.args.old.now c.args.bare c.args.signing c.in_err-blank.field-0.0 c.in_err-blank.ensures.fault)

pub returns-in_err-plan-clause-fault : goal.returns-in_err-plan-clause-fault
returns-in_err-plan-clause-fault c =
    handed_on c.from_residual-in_err-plan.result (IsUnplanned c.args.origin c.args.old.now c.args.bare c.args.signing) c.in_err-plan.field-0.0 c.from_residual-in_err-plan.ensures.1
    (unkept c.args.origin c.args.old.now c.args.bare c.in_ok-blank.blank.records c.args.signing c.in_err-plan.field-0.0 c.in_ok-blank.ensures.planned c.in_err-plan.ensures.fault)
