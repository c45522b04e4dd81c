use Rattle.std.proofs.Common.{◌||◌, Bool, take, ap, sym, ◌∙◌}
use Rattle.std.specs.List.{list_any}
use Rattle.std.proofs.lemmas.List.Folds.{list_any_more}
use Rattle.zone_proto.specs.declared.rr_key.RrKey.{RrKey}
use Rattle.chain_changes.specs.Renewal.{is_renewed_by}
use Rattle.chain_changes.proofs.touched.renewed.Goals as goal

pub loop-key-preserved : goal.loop-key-preserved
loop-key-preserved c = λ n.
    let k = c.key-item.result in
    let renewed = λ (q : RrKey). is_renewed_by c.args.origin.now c.args.zone.now q n in
    c.in_ok-push_renewed.ensures.ok n
    ∙ ap (λ (b : Bool). b || renewed k) (c.loop-key.invariant n)
    ∙ ap (λ (q : RrKey). list_any renewed (take c.loop-key.key-index c.args.keys.now) || renewed q) c.key-item.is
    ∙ sym (list_any_more renewed c.args.keys.now c.loop-key.key-index k c.loop-key-test.true)
