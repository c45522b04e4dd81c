use Rattle.std.proofs.Common.{◌≡◌, ◌++◌, true, refl, sym, ap, ◌∙◌}
use Rattle.std.proofs.lemmas.Result.{on_ok_weaker}
use Rattle.zone_proto.specs.Keys.{key_eq}
use Rattle.zone_proto.specs.Stepping.{stepped}
use Rattle.zone_signing.proofs.SecuredSets.{signed_next}
use Rattle.zone_signing.proofs.securing.sign_next.Goals as goal

pub returns-then-same_as-clause-ok : goal.returns-then-same_as-clause-ok
returns-then-same_as-clause-ok g c =
    let same : key_eq c.args.apex.now c.args.key.now ≡ true = sym c.same_as.ensures ∙ c.if-same_as.true in
    on_ok_weaker c.add_signatures.result
    (λ is. is ∙ ap (λ ss. c.args.made.now ++ ss) (signed_next g.S.Signer.signature_of c.args.now c.args.apex.now c.args.signers.now c.args.key.now c.args.set.now c.step_serial.new.self _ same
    (c.step_serial.ensures ∙ ap stepped c.in_ok-next.ensures.ok) refl))
    c.add_signatures.ensures.ok
