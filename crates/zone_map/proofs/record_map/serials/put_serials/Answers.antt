use Rattle.std.proofs.Common.{◌==◌, rules}
use Rattle.std.specs.Prelude.{if◌then◌else◌}
use Rattle.zone_map.proofs.Renumbering.{each_changed}
use Rattle.zone_map.proofs.record_map.serials.put_serials.Goals as goal

pub returns : goal.returns
returns c =
    each_changed _ (λ k s. if k.record_type.0 == c.args.record_type.0 then record s { serial = c.args.serial } else s) _ (λ k v b w f' t. search rules)
    c.args.sets.now c.retain.new.self c.retain.ensures
