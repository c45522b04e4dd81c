use Rattle.std.proofs.Common.{subst}
use Rattle.std.proofs.lemmas.Option.{IfSome_then}
use Rattle.std.proofs.lemmas.Result.{IfOk-weaker}
use Rattle.zone_lookup.specs.declared.found.Found.TheVariants.{Stored}
use Rattle.zone_response.specs.Sections.{sent}
use Rattle.zone_response.specs.declared.response.Part.TheVariants.{Records}
use Rattle.ready_referrals.proofs.KeptSets.{kept_set}
use Rattle.ready_referrals.specs.Referrals.{IsKeptSet}
use Rattle.ready_referrals.proofs.kept_sets.keep_records_alone.Goals as goal

pub returns : goal.returns
returns c =
    IfOk-weaker c.keep_set.result _ _
    (λ kept h. IfSome_then kept h
    (λ k own. subst (λ s. IsKeptSet c.args.cut.now (sent Records c.args.sent.now.ttl s) k) c.set.ensures
    (kept_set c.args.cut.now (record { set = Stored c.set.result; ttl = c.args.sent.now.ttl; part = Records }) k own)))
    c.keep_set.ensures
