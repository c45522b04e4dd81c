use Rattle.std.proofs.Common.{ap, sym, ◌∙◌}
use Rattle.std.specs.Prelude.{option_copied}
use Rattle.zone_lookup.proofs.ListedSets.{few_asked}
use Rattle.zone_lookup.proofs.listed_sets.is_listed.Goals as goal

pub returns-in-None : goal.returns-in-None
returns-in-None c =
    c.is_among.ensures
    ∙ few_asked c.args.sets.now c.args.set.now c.args.places.now.entries c.args.key.now c.requires.places c.requires.key (sym c.get.ensures.value ∙ ap option_copied c.in-None.is)
