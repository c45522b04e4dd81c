use Rattle.std.proofs.Common.{◌∙◌, ap, sym}
use Rattle.std.specs.Prelude.{not}
use Rattle.hashed_changes.specs.Places.{owners_of}
use Rattle.hashed_changes.proofs.NearestRead.{none_read, none_nearest, last_nearest, one_read}
use Rattle.hashed_changes.proofs.nearest.last_besides.Goals as goal

pub loop-owner-init : goal.loop-owner-init
loop-owner-init c = none_read (owners_of c.args.affected.now) c.args.owners

pub loop-owner-preserved : goal.loop-owner-preserved
loop-owner-preserved c =
    one_read (owners_of c.args.affected.now) c.args.owners c.requires.ascend c.loop-owner.left c.loop-owner.invariant c.read_last.new.self c.in-Some.owner.now c.in-Some.ensures.last
    (ap not (sym c.is_moved.ensures ∙ c.if-not-is_moved.false))

pub returns-then-not-is_moved : goal.returns-then-not-is_moved
returns-then-not-is_moved c =
    last_nearest (owners_of c.args.affected.now) c.args.owners c.requires.ascend c.loop-owner.left c.loop-owner.invariant c.read_last.new.self c.in-Some.owner.now c.in-Some.ensures.last
    (ap not (sym c.is_moved.ensures ∙ c.if-not-is_moved.true))

pub returns : goal.returns
returns c = none_nearest (owners_of c.args.affected.now) c.args.owners c.requires.ascend c.loop-owner.left c.loop-owner.invariant c.in_default.ensures.last.0
