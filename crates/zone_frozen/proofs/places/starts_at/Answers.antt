use Rattle.zone_frozen.proofs.places.starts_at.Goals as goal

pub returns-then-reaches : goal.returns-then-reaches
returns-then-reaches c t = record { within = c.reaches.ensures.within c.if-reaches.true; before = c.follows.ensures t; here = c.reaches.ensures.here c.if-reaches.true }
