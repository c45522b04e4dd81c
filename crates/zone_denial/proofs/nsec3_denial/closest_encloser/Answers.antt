use Rattle.std.proofs.Common.{◌≡◌, ◌⊎◌, [], ◌++◌, drop, sym, ap, ◌∙◌, true≢false}
use Rattle.std.specs.Prelude.{Err, option_copied}
use Rattle.zone_proto.specs.declared.error.ProtoError.TheVariants.{Memory}
use Rattle.zone_denial.specs.Nsec3Denial.{encloser_of}
use Rattle.zone_denial.specs.Nsec3Lent.{hashed_for}
use Rattle.zone_denial.proofs.Hashed.DenialSteps.{goes_on, is_found, is_refused, encloser_matched, refused_as, passed_on, closer_is}
use Rattle.zone_denial.proofs.nsec3_denial.closest_encloser.Goals as goal

pub returns-in_err-owner-clause-err : goal.returns-in_err-owner-clause-err
returns-in_err-owner-clause-err g c =
    let hashed = hashed_for c.args.hashing.now.origin.now (g.H.Nsec3Hash.digest_of c.args.hashing.now.hash.now) c.args.hashing.now.query.now in
    refused_as c.from_residual-in_err-owner.result (λ e. (e ≡ Memory) ⊎ (encloser_of c.args.records.now hashed c.args.name.now ≡ Err e)) c.in_err-owner.field-0.0 c.from_residual-in_err-owner.ensures.1
    (is_refused c.args.records.now hashed c.args.name.now c.loop-above.next_closer c.loop-above.above c.loop-above.invariant.above (λ e. true≢false (sym (c.is_root.ensures.1 e) ∙ c.loop-above-test.true))
    c.loop-above.invariant.encloser c.in_err-owner.field-0.0 c.in_err-owner.ensures.err)

pub returns-in-Some-clause-found : goal.returns-in-Some-clause-found
returns-in-Some-clause-found g c =
    let hashed = hashed_for c.args.hashing.now.origin.now (g.H.Nsec3Hash.digest_of c.args.hashing.now.hash.now) c.args.hashing.now.query.now in
    is_found c.args.records.now hashed c.args.name.now c.loop-above.next_closer c.loop-above.above c.loop-above.invariant.above (λ e. true≢false (sym (c.is_root.ensures.1 e) ∙ c.loop-above-test.true))
    c.loop-above.invariant.encloser c.in_ok-owner.field-0.owner c.in-Some.set.now c.in_ok-owner.ensures.owner (ap option_copied (sym c.in-Some.is) ∙ c.in_ok-owner.ensures.set)

pub returns-in-Some-clause-closer : goal.returns-in-Some-clause-closer
returns-in-Some-clause-closer g c =
    let hashed = hashed_for c.args.hashing.now.origin.now (g.H.Nsec3Hash.digest_of c.args.hashing.now.hash.now) c.args.hashing.now.query.now in
    closer_is c.args.records.now hashed c.loop-above.next_closer c.loop-above.above c.loop-above.invariant.above (λ e. true≢false (sym (c.is_root.ensures.1 e) ∙ c.loop-above-test.true)) c.args.name.now
    c.loop-above.invariant.passed.0 c.loop-above.invariant.passed.1

pub returns-in-Some-clause-owner : goal.returns-in-Some-clause-owner
returns-in-Some-clause-owner g c = c.loop-above.invariant.owner

pub returns-in-Some-clause-matched : goal.returns-in-Some-clause-matched
returns-in-Some-clause-matched g c =
    let hashed = hashed_for c.args.hashing.now.origin.now (g.H.Nsec3Hash.digest_of c.args.hashing.now.hash.now) c.args.hashing.now.query.now in
    encloser_matched c.args.records.now hashed c.loop-above.next_closer c.loop-above.above c.loop-above.invariant.above (λ e. true≢false (sym (c.is_root.ensures.1 e) ∙ c.loop-above-test.true))
    c.in_ok-owner.field-0.owner c.in-Some.set.now c.in_ok-owner.ensures.owner (ap option_copied (sym c.in-Some.is) ∙ c.in_ok-owner.ensures.set)

pub loop-above-preserved : goal.loop-above-preserved
loop-above-preserved g c =
    let hashed = hashed_for c.args.hashing.now.origin.now (g.H.Nsec3Hash.digest_of c.args.hashing.now.hash.now) c.args.hashing.now.query.now in
    let inner : c.loop-above.above ≡ [] → ⊥ = λ e. true≢false (sym (c.is_root.ensures.1 e) ∙ c.loop-above-test.true) in
    let now : c.shorten.new.self ≡ drop 1 c.loop-above.next_closer = c.shorten.ensures in
    let on = passed_on c.args.records.now hashed c.loop-above.next_closer c.loop-above.above c.loop-above.invariant.above inner c.args.name.now c.loop-above.invariant.passed.0 c.loop-above.invariant.passed.1 in
    record {
      owner = ap hashed (now ∙ sym c.loop-above.invariant.above) ∙ c.in_ok-owner.ensures.owner;
      above = c.shorten-in-loop-above.ensures ∙ ap (drop 1) (c.loop-above.invariant.above ∙ sym now);
      passed = (on.0, on.1 ∙ ap (λ n. on.0 ++ n) (sym now));
      encloser = goes_on c.args.records.now hashed c.args.name.now c.loop-above.next_closer c.loop-above.above c.loop-above.invariant.above inner c.loop-above.invariant.encloser
          c.in_ok-owner.field-0.owner c.in_ok-owner.ensures.owner (ap option_copied (sym c.in_default.is) ∙ c.in_ok-owner.ensures.set) ∙ ap (encloser_of c.args.records.now hashed) (sym now);
    }
