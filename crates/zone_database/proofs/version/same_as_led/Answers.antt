use Rattle.zone_database.proofs.version.same_as_led.Goals as goal

pub brought_up-requires : goal.brought_up-requires
brought_up-requires c = (c.args.zone.now, c.requires)

pub returns-in-Some-clause-same : goal.returns-in-Some-clause-same
returns-in-Some-clause-same c = c.in-Some.ensures c.args.zone.now c.requires
