use Rattle.std.proofs.Common.{◌≡◌, ◌+◌, true, sym, ap, ◌∙◌, subst, arith}
use Rattle.std.specs.Prelude.{Option, Some, option_map, IfSome}
use Rattle.zone_proto.specs.HashedOwners.{hashed_owner}
use Rattle.zone_proto.specs.Names.{Name}
use Rattle.hashed_changes.specs.Among.{is_among}
use Rattle.hashed_changes.specs.declared.places.Place.{Place}
use Rattle.hashed_changes.specs.Places.{owners_of}
use Rattle.hashed_changes.specs.Standing.{said_next, IsFollowed, by_it, past}
use Rattle.hashed_changes.proofs.Closed.{IsOnWay, ends, ends_late, goes_on, starts}
use Rattle.hashed_changes.proofs.places.kept_after.Goals as goal

pub loop-step-init : goal.loop-step-init
loop-step-init c =
    let at = c.in_ok-at.ensures.copy.ok in
    record {
      follow = λ d h. subst (λ (x : Name). IsFollowed c.args.origin.now c.args.zone.now (owners_of c.args.affected.now) x d) at h;
      way = subst (λ (x : Name). IsOnWay c.args.origin.now c.args.zone.now c.args.affected.now c.args.owner.now x 0) (sym at) (starts c.args.origin.now c.args.zone.now c.args.affected.now c.args.owner.now);
    }

pub returns-then-not-is_moved-clause-followed : goal.returns-then-not-is_moved-clause-followed
returns-then-not-is_moved-clause-followed c =
    let p = c.in-Some.place in
    let next : said_next c.args.zone.now c.loop-step.at ≡ Some p.digest = sym c.in_ok-found.ensures.next ∙ ap (option_map (λ (q : Place). q.digest)) c.in-Some.is in
    let owner : p.owner ≡ hashed_owner c.args.origin.now p.digest = subst (λ (o : Option Place). IfSome o (λ (q : Place). q.owner ≡ hashed_owner c.args.origin.now q.digest)) c.in-Some.is c.in_ok-found.ensures.owner in
    c.loop-step.invariant.follow p.digest (by_it c.loop-step.at p.digest next (ap (is_among (owners_of c.args.affected.now)) (sym owner) ∙ sym c.is_moved.ensures ∙ c.if-not-is_moved.true))

pub returns-in_default-clause-none : goal.returns-in_default-clause-none
returns-in_default-clause-none c =
    ends c.args.origin.now c.args.zone.now c.args.affected.now c.args.owner.now c.loop-step.at c.loop-step._step c.loop-step.invariant.way
    (sym c.in_ok-found.ensures.next ∙ ap (option_map (λ (q : Place). q.digest)) c.in_default.is)

pub returns-clause-none : goal.returns-clause-none
returns-clause-none c =
    ends_late c.args.origin.now c.args.zone.now c.args.affected.now c.args.owner.now c.loop-step.at c.loop-step._step c.loop-step.invariant.way (omega arith)

pub loop-step-preserved : goal.loop-step-preserved
loop-step-preserved c =
    let p = c.in-Some.place in
    let next : said_next c.args.zone.now c.loop-step.at ≡ Some p.digest = sym c.in_ok-found.ensures.next ∙ ap (option_map (λ (q : Place). q.digest)) c.in-Some.is in
    let owner : p.owner ≡ hashed_owner c.args.origin.now p.digest = subst (λ (o : Option Place). IfSome o (λ (q : Place). q.owner ≡ hashed_owner c.args.origin.now q.digest)) c.in-Some.is c.in_ok-found.ensures.owner in
    let moved : is_among (owners_of c.args.affected.now) (hashed_owner c.args.origin.now p.digest) ≡ true = ap (is_among (owners_of c.args.affected.now)) (sym owner) ∙ sym c.is_moved.ensures ∙ c.if-not-is_moved.false in
    record {
      follow = λ d h.
          c.loop-step.invariant.follow d
          (past c.loop-step.at p.digest d next moved (subst (λ (x : Name). IsFollowed c.args.origin.now c.args.zone.now (owners_of c.args.affected.now) x d) owner h));
      way =
          subst (λ (x : Name). IsOnWay c.args.origin.now c.args.zone.now c.args.affected.now c.args.owner.now x (c.loop-step._step + 1)) (sym owner)
          (goes_on c.args.origin.now c.args.zone.now c.args.affected.now c.args.owner.now c.loop-step.at c.loop-step._step c.loop-step.invariant.way p.digest next moved);
    }
