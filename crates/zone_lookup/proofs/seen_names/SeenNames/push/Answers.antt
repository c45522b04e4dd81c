use Rattle.std.proofs.Common.{◌++◌, refl}
use Rattle.zone_lookup.proofs.SeenNames.{put_among}
use Rattle.zone_lookup.proofs.seen_names.SeenNames.push.Goals as goal

pub returns-clause-ok : goal.returns-clause-ok
returns-clause-ok c =
    put_among c.self.inside.few.items c.self.inside.others.keys c.insert.new.self.keys c.args.self.now (c.self.inside.few.items ++ c.insert.new.self.keys) c.args.name c.self.view_is refl
    c.in_ok-insert.ensures.updates.0
