use Rattle.std.proofs.Common.{◌∙◌, sym, ap}
use Rattle.std.specs.Prelude.{option_copied}
use Rattle.zone_denial.proofs.Chain.ClosestSets.{none_read, none_closest, none_counted, last_closest, last_counted, last_refused, one_read, set_if, no_set_if, where_refused}
use Rattle.zone_denial.proofs.closest.closest_by_index.Goals as goal

pub loop-owner-init : goal.loop-owner-init
loop-owner-init c =
    let owners = c.denial_owners_upto-owners in
    none_read c.args.records.now c.args.name.now owners.result c.args.reads.now owners.ensures.zone owners.ensures.value

pub loop-owner-preserved : goal.loop-owner-preserved
loop-owner-preserved c =
    one_read c.args.records.now c.args.name.now c.loop-owner.owners c.args.reads.now c.loop-owner.reads c.loop-owner.invariant
    c.read_last.new.self c.in-Some.owner.now c.read_last.new.reads c.in-Some.ensures.last c.in-Some.ensures.counted
    (no_set_if c.args.records.now c.args.name.now c.in-Some.owner.now (ap option_copied (sym c.in_default-2.is) ∙ c.in_ok-set.ensures.found))

pub returns-in_err-set-clause-refused : goal.returns-in_err-set-clause-refused
returns-in_err-set-clause-refused c = where_refused c.from_residual.result
    (last_refused c.args.records.now c.args.name.now c.loop-owner.owners c.args.reads.now c.loop-owner.reads c.loop-owner.invariant
    c.read_last.new.self c.in-Some.owner.now c.read_last.new.reads c.in-Some.ensures.last c.in-Some.ensures.counted)

pub returns-in-Some-2-clause-found : goal.returns-in-Some-2-clause-found
returns-in-Some-2-clause-found c =
    let r = set_if c.args.records.now c.args.name.now c.in-Some.owner.now c.in-Some-2.set.now (ap option_copied (sym c.in-Some-2.is) ∙ c.in_ok-set.ensures.found) in
    sym r.1
    ∙ last_closest c.args.records.now c.args.name.now c.loop-owner.owners c.args.reads.now c.loop-owner.reads c.loop-owner.invariant
    c.read_last.new.self c.in-Some.owner.now c.read_last.new.reads c.in-Some.ensures.last c.in-Some.ensures.counted r.0

pub returns-in-Some-2-clause-counted : goal.returns-in-Some-2-clause-counted
returns-in-Some-2-clause-counted c =
    let r = set_if c.args.records.now c.args.name.now c.in-Some.owner.now c.in-Some-2.set.now (ap option_copied (sym c.in-Some-2.is) ∙ c.in_ok-set.ensures.found) in
    last_counted c.args.records.now c.args.name.now c.loop-owner.owners c.args.reads.now c.loop-owner.reads c.loop-owner.invariant
    c.read_last.new.self c.in-Some.owner.now c.read_last.new.reads c.in-Some.ensures.last c.in-Some.ensures.counted r.0

pub returns-clause-found : goal.returns-clause-found
returns-clause-found c = none_closest c.args.records.now c.args.name.now c.loop-owner.owners c.args.reads.now c.loop-owner.reads c.loop-owner.invariant c.in_default.ensures.last.0

pub returns-clause-counted : goal.returns-clause-counted
returns-clause-counted c =
    c.in_default.ensures.counted
    ∙ none_counted c.args.records.now c.args.name.now c.loop-owner.owners c.args.reads.now c.loop-owner.reads c.loop-owner.invariant c.in_default.ensures.last.0
