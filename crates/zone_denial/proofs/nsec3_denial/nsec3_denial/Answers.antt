use Rattle.std.proofs.Common.{◌≡◌, ◌&&◌, not, false, ap, ◌∙◌}
use Rattle.std.specs.Prelude.{Ok, Some, is_some, option_copied, option_map}
use Rattle.std.proofs.lemmas.Result.{IfErr-weaker}
use Rattle.zone_proto.specs.Names.{base_name}
use Rattle.zone_denial.specs.Nsec3Lent.{hashed_for}
use Rattle.zone_denial.proofs.Hashed.DenialSteps.{encloser_denial, after_wildcard, without_own, refused_too}
use Rattle.zone_denial.proofs.nsec3_denial.nsec3_denial.Goals as goal
use Rattle.zone_denial.proofs.nsec3_denial.nsec3_denial.Goals.{else-is_some-via-then-is_some+else-not-query, else-is_some-via-else-is_some}

pub returns-in-Some-clause-err : goal.returns-in-Some-clause-err
returns-in-Some-clause-err g c =
    let hashed = hashed_for c.args.origin.now (g.H.Nsec3Hash.digest_of c.args.hash.now) c.args.query.now in
    let own = option_copied c.in_ok-owner.field-0.set in
    let not_own : is_some own && not c.args.query.now.has_wildcard_match ≡ false = elim c.else-is_some.branch [
      | else-is_some-via-then-is_some+else-not-query w ↦ after_wildcard c.in_ok-owner.field-0.set c.args.query.now.has_wildcard_match w.if-not-query.false
      | else-is_some-via-else-is_some w ↦ without_own c.in_ok-owner.field-0.set c.args.query.now.has_wildcard_match w.if-is_some.ensures
    ] in
    let is = encloser_denial c.args.records.now hashed c.args.query.now.has_wildcard_match c.args.query.now.qname.now c.in_ok-owner.field-0.owner own c.in_ok-owner.ensures.owner c.in_ok-owner.ensures.set not_own (Some (base_name c.in-Some.encloser.next_closer))
    (c.in_ok-encloser.ensures.found ∙ ap (λ f. Ok (option_map (λ e. base_name e.next_closer) f)) c.in-Some.is) in
    IfErr-weaker c.enclosed.result _ _ (refused_too _ _ is) c.enclosed.ensures.err
