use Rattle.std.proofs.Common.{sym, ◌∙◌}
use Rattle.zone_map.proofs.Upserting.{same_from_lower}
use Rattle.zone_builder.proofs.filling.insert.Goals as goal

pub insert-requires-clause-owner : goal.insert-requires-clause-owner
insert-requires-clause-owner c = same_from_lower c.args.new.name c.args.set.now.owner (c.requires.own ∙ sym c.requires.owner)
