use Rattle.std.proofs.Common.{ap, ◌∙◌, subst}
use Rattle.zone_proto.specs.Names.{Name}
use Rattle.zone_proto.specs.Types.{NS, SOA, DNAME}
use Rattle.zone_map.specs.Walks.{first_key_from}
use Rattle.zone_map.specs.Zones.{set_at}
use Rattle.zone_response.specs.NodeSets.{StandsAt}
use Rattle.zone_response.proofs.node_sets.read_apex.Goals as goal

pub returns-clause-ok : goal.returns-clause-ok
returns-clause-ok g c =
    let n = c.in_ok-least.least.name in
    subst (λ (x : Name). StandsAt c.args.inner.now.records x SOA DNAME c.node_sets_in.result) (ap (λ k. k.name) c.in_ok-least.ensures.copy.ok)
    (record {
      ns = c.node_sets_in.ensures.ns ∙ ap (λ m. set_at m n NS) c.as_map-sets.ensures.entries;
      first_asked = c.node_sets_in.ensures.first_asked ∙ ap (λ m. set_at m n SOA) c.as_map-sets.ensures.entries;
      second_asked = c.node_sets_in.ensures.second_asked ∙ ap (λ m. set_at m n DNAME) c.as_map-sets.ensures.entries;
      first = c.node_sets_in.ensures.first ∙ ap (λ m. first_key_from m n) c.as_map-sets.ensures.entries;
      zone = c.as_map-sets.ensures.zone;
    })
