use Rattle.std.proofs.Common.{subst}
use Rattle.std.specs.Prelude.{Option, Some, None}
use Rattle.hashed_changes.specs.declared.around.Around.{Around}
use Rattle.hashed_changes.specs.Faults.{StandsForNone}
use Rattle.hashed_changes.specs.Passing.{IsAround}
use Rattle.hashed_changes.specs.Places.{owners_of}
use Rattle.hashed_changes.proofs.Closed.{no_next, passed_on, unsaid_near}
use Rattle.hashed_changes.proofs.RightMade.{right_behind, alone_right, own_right, before_right, owner_alone, owner_with}
use Rattle.hashed_changes.proofs.renewals.push_renewals.Goals as goal

pub returns-in_ok-push-in-Some-2-clause-right : goal.returns-in_ok-push-in-Some-2-clause-right
returns-in_ok-push-in-Some-2-clause-right c =
    let p = c.in_ok-passed.passed in
    let k = c.in-Some.around in
    λ old.
    right_behind c.args.origin.now c.args.zone.now c.args.affected.now c.push.new.made.items c.push-in-Some.new.made.items c.in_ok-before-in-Some.before c.in_ok-push-in-Some-2.ensures
    (before_right c.args.origin.now c.args.zone.now c.args.affected.now c.args.fresh.now c.requires.fresh c.args.one.now p c.in_ok-passed.ensures.passed c.in_ok-passed.ensures.owner k c.in-Some.is
    c.in_ok-before-in-Some.before c.in_ok-before-in-Some.ensures.owner c.in_ok-before-in-Some.ensures.link)
    (right_behind c.args.origin.now c.args.zone.now c.args.affected.now c.args.made.now.items c.push.new.made.items c.in_ok-own-in-Some.own c.in_ok-push-in-Some.ensures
    (own_right c.args.origin.now c.args.zone.now c.args.affected.now c.args.fresh.now c.requires.fresh c.args.one.now p c.in_ok-passed.ensures.passed c.in_ok-passed.ensures.owner k c.in-Some.is c.requires.one
    c.in_ok-own-in-Some.own c.in_ok-own-in-Some.ensures.owner c.in_ok-own-in-Some.ensures.link)
    old)

pub returns-in_ok-push-in-None-clause-right : goal.returns-in_ok-push-in-None-clause-right
returns-in_ok-push-in-None-clause-right c = λ old.
    right_behind c.args.origin.now c.args.zone.now c.args.affected.now c.args.made.now.items c.push-in-None.new.made.items c.in_ok-own-in-None.own c.in_ok-push-in-None.ensures
    (alone_right c.args.origin.now c.args.zone.now c.args.affected.now c.args.fresh.now c.requires.fresh c.args.one.now c.in_ok-passed.passed c.in_ok-passed.ensures.passed c.in_ok-passed.ensures.owner c.in-None.is c.requires.one
    c.in_ok-own-in-None.own c.in_ok-own-in-None.ensures.owner c.in_ok-own-in-None.ensures.link)
    old

pub returns-in_ok-push-in-Some-2-clause-owners : goal.returns-in_ok-push-in-Some-2-clause-owners
returns-in_ok-push-in-Some-2-clause-owners c =
    owner_with c.args.origin.now c.args.zone.now c.args.affected.now c.args.fresh.now c.requires.fresh c.args.one.now c.in_ok-passed.passed c.in_ok-passed.ensures.passed c.in_ok-passed.ensures.owner
    c.in-Some.around c.in-Some.is c.args.made.now.items c.push.new.made.items c.push-in-Some.new.made.items c.in_ok-own-in-Some.own c.in_ok-before-in-Some.before
    c.in_ok-push-in-Some.ensures c.in_ok-push-in-Some-2.ensures c.in_ok-own-in-Some.ensures.owner c.in_ok-before-in-Some.ensures.owner

pub returns-in_ok-push-in-None-clause-owners : goal.returns-in_ok-push-in-None-clause-owners
returns-in_ok-push-in-None-clause-owners c =
    owner_alone c.args.origin.now c.args.zone.now c.args.affected.now c.args.fresh.now c.requires.fresh c.args.one.now c.in_ok-passed.passed c.in_ok-passed.ensures.passed c.in_ok-passed.ensures.owner
    c.in-None.is c.args.made.now.items c.push-in-None.new.made.items c.in_ok-own-in-None.own c.in_ok-push-in-None.ensures c.in_ok-own-in-None.ensures.owner

pub returns-in_err-own-in-Some-clause-unclosed : goal.returns-in_err-own-in-Some-clause-unclosed
returns-in_err-own-in-Some-clause-unclosed c =
    passed_on c.from_residual-in_err-own-in-Some.result _ (StandsForNone c.args.origin.now c.args.zone.now c.args.affected.now) c.from_residual-in_err-own-in-Some.ensures.1
    (λ e.
    let h = c.in_err-own-in-Some.ensures.unclosed e in
    no_next c.args.origin.now c.args.zone.now c.args.affected.now c.args.one.now (Some c.in-Some.around.kept) c.args.fresh.now c.requires.fresh c.requires.one h.0 h.1)

pub returns-in_err-before-in-Some-clause-unclosed : goal.returns-in_err-before-in-Some-clause-unclosed
returns-in_err-before-in-Some-clause-unclosed c =
    let p = c.in_ok-passed.passed in
    passed_on c.from_residual-in_err-before-in-Some.result _ (StandsForNone c.args.origin.now c.args.zone.now c.args.affected.now) c.from_residual-in_err-before-in-Some.ensures.1
    (λ e.
    unsaid_near c.args.origin.now c.args.zone.now c.args.affected.now p.owner c.in-Some.around
    (subst (λ (k : Option Around). IsAround c.args.origin.now c.args.zone.now (owners_of c.args.affected.now) p.owner k) c.in-Some.is c.in_ok-passed.ensures.passed.around)
    (c.in_err-before-in-Some.ensures.unclosed e))

pub returns-in_err-own-in-None-clause-unclosed : goal.returns-in_err-own-in-None-clause-unclosed
returns-in_err-own-in-None-clause-unclosed c =
    passed_on c.from_residual-in_err-own-in-None.result _ (StandsForNone c.args.origin.now c.args.zone.now c.args.affected.now) c.from_residual-in_err-own-in-None.ensures.1
    (λ e.
    let h = c.in_err-own-in-None.ensures.unclosed e in
    no_next c.args.origin.now c.args.zone.now c.args.affected.now c.args.one.now None c.args.fresh.now c.requires.fresh c.requires.one h.0 h.1)
