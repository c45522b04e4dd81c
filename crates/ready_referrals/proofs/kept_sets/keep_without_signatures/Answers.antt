use Rattle.std.proofs.Common.{sym, subst}
use Rattle.std.proofs.lemmas.Option.{IfSome_then}
use Rattle.std.proofs.lemmas.Result.{IfOk-weaker}
use Rattle.zone_response.specs.declared.response.Part.TheVariants.{Records, Signed}
use Rattle.ready_referrals.proofs.KeptSets.{unsigned_part}
use Rattle.ready_referrals.specs.Referrals.{IsKeptSet}
use Rattle.ready_referrals.proofs.kept_sets.keep_without_signatures.Goals as goal

pub returns-in-Records : goal.returns-in-Records
returns-in-Records c =
    IfOk-weaker c.keep_records_alone.result _ _
    (λ kept h. IfSome_then kept h
    (λ k own. subst (λ s. IsKeptSet c.args.cut.now s k) (sym (unsigned_part Records c.args.sent.now c.in-Records.is)) own))
    c.keep_records_alone.ensures

pub returns-in-Signed : goal.returns-in-Signed
returns-in-Signed c =
    IfOk-weaker c.keep_records_alone-in-Signed.result _ _
    (λ kept h. IfSome_then kept h
    (λ k own. subst (λ s. IsKeptSet c.args.cut.now s k) (sym (unsigned_part Signed c.args.sent.now c.in-Signed.is)) own))
    c.keep_records_alone-in-Signed.ensures
