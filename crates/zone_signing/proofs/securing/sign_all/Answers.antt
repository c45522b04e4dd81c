use Rattle.zone_signing.proofs.SecuredSets.{each_renewed}
use Rattle.zone_signing.proofs.securing.sign_all.Goals as goal

pub renew-requires : goal.renew-requires
renew-requires g c = (_, c.in_ok-lists.ensures.ok)

pub returns-clause-ok : goal.returns-clause-ok
returns-clause-ok g c =
    each_renewed g.S.Signer.signature_of c.args.now c.args.apex.now c.args.signers.now c.args.zone.now c.renew.new.self (c.renew.ensures.sets _ c.in_ok-lists.ensures.ok)
