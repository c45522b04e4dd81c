use Rattle.std.proofs.Common.{ap, ◌∙◌}
use Rattle.zone_proto.specs.Types.{NS}
use Rattle.zone_map.specs.Walks.{first_key_from}
use Rattle.zone_map.specs.Zones.{set_at}
use Rattle.zone_response.proofs.node_sets.read_near_origin.Goals as goal

pub sets_near-requires-clause-near : goal.sets_near-requires-clause-near
sets_near-requires-clause-near g c = (c.in_ok-top.top, c.from_top-near.ensures.sets)

pub returns-clause-ok : goal.returns-clause-ok
returns-clause-ok g c =
    let n = c.args.least.now.name in
    record {
      ns = c.node_sets_in.ensures.ns ∙ ap (λ m. set_at m n NS) c.as_map-sets.ensures.entries;
      first_asked = c.node_sets_in.ensures.first_asked ∙ ap (λ m. set_at m n c.args.first_asked.0) c.as_map-sets.ensures.entries;
      second_asked = c.node_sets_in.ensures.second_asked ∙ ap (λ m. set_at m n c.args.second_asked.0) c.as_map-sets.ensures.entries;
      first = c.node_sets_in.ensures.first ∙ ap (λ m. first_key_from m n) c.as_map-sets.ensures.entries;
      zone = c.as_map-sets.ensures.zone;
    }
