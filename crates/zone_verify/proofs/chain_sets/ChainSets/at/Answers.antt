use Rattle.std.proofs.Common.{sym, ◌∙◌}
use Rattle.std.specs.Prelude.{option_copied}
use Rattle.zone_verify.specs.ChainSets.{kind_of}
use Rattle.zone_verify.proofs.Kept.{found_stays, found_goes, none_found}
use Rattle.zone_verify.proofs.chain_sets.ChainSets.at.Goals as goal

pub returns-then-has : goal.returns-then-has
returns-then-has c =
    sym
    (found_stays (kind_of (option_copied c.args.self.now.parameters)) c.args.self.now.records.now c.as_map-sets.ensures.zone c.args.key.now.name c.args.key.now.record_type.0 c.in-Some.set.now
    (sym c.in-Some.ensures.found) (sym c.has.ensures ∙ c.if-has.true))

pub returns-else-has : goal.returns-else-has
returns-else-has c =
    sym
    (found_goes (kind_of (option_copied c.args.self.now.parameters)) c.args.self.now.records.now c.as_map-sets.ensures.zone c.args.key.now.name c.args.key.now.record_type.0 c.in-Some.set.now
    (sym c.in-Some.ensures.found) (sym c.has.ensures ∙ c.if-has.false))

pub returns-in-None : goal.returns-in-None
returns-in-None c =
    sym
    (none_found (kind_of (option_copied c.args.self.now.parameters)) c.args.self.now.records.now c.as_map-sets.ensures.zone c.args.key.now.name c.args.key.now.record_type.0
    (sym c.in-None.ensures.found))
