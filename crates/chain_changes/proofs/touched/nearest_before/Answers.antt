use Rattle.std.proofs.Common.{◌∙◌, sym}
use Rattle.chain_changes.proofs.NearestRead.{none_read, none_nearest, last_nearest, one_read}
use Rattle.chain_changes.proofs.touched.nearest_before.Goals as goal

pub loop-owner-init : goal.loop-owner-init
loop-owner-init c =
    let owners = c.denial_owners_before-owners in
    none_read c.args.origin.now c.args.zone.now c.args.name.now owners.result owners.ensures.zone owners.ensures.value

pub loop-owner-preserved : goal.loop-owner-preserved
loop-owner-preserved c =
    one_read c.args.origin.now c.args.zone.now c.args.name.now c.loop-owner.owners c.loop-owner.invariant
    c.read_last.new.self c.in-Some.owner.now c.in-Some.ensures.last (sym c.in_ok-denies.ensures.ok ∙ c.if-denies.false)

pub returns-then-denies-clause-ok : goal.returns-then-denies-clause-ok
returns-then-denies-clause-ok c =
    last_nearest c.args.origin.now c.args.zone.now c.args.name.now c.loop-owner.owners c.loop-owner.invariant
    c.read_last.new.self c.in-Some.owner.now c.in-Some.ensures.last (sym c.in_ok-denies.ensures.ok ∙ c.if-denies.true)

pub returns-clause-ok : goal.returns-clause-ok
returns-clause-ok c = none_nearest c.args.origin.now c.args.zone.now c.args.name.now c.loop-owner.owners c.loop-owner.invariant c.in_default.ensures.last.0
