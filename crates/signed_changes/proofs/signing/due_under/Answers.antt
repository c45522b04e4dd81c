use Rattle.std.proofs.Common.{◌||◌, Bool, take, ap, sym, ◌∙◌}
use Rattle.std.specs.Prelude.{None, if◌then◌else◌}
use Rattle.std.specs.List.{list_any}
use Rattle.std.proofs.lemmas.List.Folds.{list_any_more}
use Rattle.zone_proto.specs.declared.rr_key.RrKey.{RrKey}
use Rattle.zone_proto.specs.Keys.{key, key_eq}
use Rattle.zone_map.specs.Zones.{set_at}
use Rattle.signed_changes.specs.Signing.{due_at}
use Rattle.signed_changes.proofs.DueSets.{one_more_due}
use Rattle.signed_changes.proofs.signing.due_under.Goals as goal

pub loop-key-preserved : goal.loop-key-preserved
loop-key-preserved c = λ n t.
    let k = c.key-item.result in
    let keys = c.args.keys.now in
    let i = c.loop-key.key-index in
    let d = due_at c.args.origin.now c.args.zone.now c.args.inception c.args.signers.now n t in
    c.in_ok-put_due.ensures.ok n t
    ∙ one_more_due (key_eq (key n t) k) (list_any (key_eq (key n t)) (take i keys)) d (set_at c.loop-key.due n t) (c.loop-key.invariant n t)
    ∙ ap (λ (x : RrKey). if list_any (key_eq (key n t)) (take i keys) || key_eq (key n t) x then d else None) c.key-item.is
    ∙ ap (λ (b : Bool). if b then d else None) (sym (list_any_more (key_eq (key n t)) keys i k c.loop-key-test.true))
