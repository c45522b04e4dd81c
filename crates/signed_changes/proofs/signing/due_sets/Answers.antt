use Rattle.std.proofs.Common.{List, ap, ◌∙◌}
use Rattle.std.specs.Prelude.{None, if◌then◌else◌}
use Rattle.std.specs.List.{list_any}
use Rattle.zone_proto.specs.declared.rr_key.RrKey.{RrKey}
use Rattle.zone_proto.specs.Keys.{key, key_eq}
use Rattle.signed_changes.specs.Signing.{due_at, due_set}
use Rattle.signed_changes.proofs.DueSets.{made_among}
use Rattle.signed_changes.proofs.signing.due_sets.Goals as goal

pub returns-clause-ok : goal.returns-clause-ok
returns-clause-ok c = λ n t.
    let m = c.args.zone.now in
    c.in_ok-due.ensures.ok n t
    ∙ ap (λ (ks : List RrKey). if list_any (key_eq (key n t)) ks then due_at c.args.origin.now m c.args.inception c.args.signers.now n t else None)
    (c.as_slice.ensures.value ∙ c.in_ok-keys.ensures.ok)
    ∙ made_among m (key n t) c.args.names.now (due_set c.args.origin.now m c.args.inception c.args.signers.now (key n t))
