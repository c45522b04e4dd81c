use Rattle.std.proofs.Common.{◌++◌, take, ap, sym, ◌∙◌}
use Rattle.std.specs.Prelude.{filter_map, option_to_list}
use Rattle.zone_signing.specs.Signatures.{signature}
use Rattle.zone_signing.proofs.SignedSets.{filter_map-take_more, behind_both}
use Rattle.zone_signing.proofs.signatures.add_signatures.Goals as goal

pub loop-signer-preserved : goal.loop-signer-preserved
loop-signer-preserved g c =
    let f = signature g.S.Signer.signature_of c.args.now c.args.set.now in
    let i = c.loop-signer.signer-index in
    let xs = c.args.signers.now in
    let x = c.signer-item.result in
    let more = filter_map-take_more f xs i x c.loop-signer-test.true in
    let item = ap (λ y. filter_map f (take i xs) ++ option_to_list (f y)) c.signer-item.is in
    behind_both c.args.made.now c.loop-signer.made _ (filter_map f (take i xs)) (option_to_list (f x)) c.loop-signer.invariant c.in_ok-add_signature.ensures.ok
    ∙ ap (λ ss. c.args.made.now ++ ss) (item ∙ sym more)
