use Rattle.std.proofs.Common.{◌≡◌, ◌∙◌, sym, subst}
use Rattle.std.specs.Prelude.{IfOk}
use Rattle.zone_map.specs.Zones.{Sets, IsZone}
use Rattle.zone_map.proofs.record_map.RecordMap.compacted.Goals as goal

-- the sets are those that were there
pub with_index-requires : goal.with_index-requires
with_index-requires c = subst IsZone (sym c.in_ok-compacted.ensures) c.self.invariant.zone

pub returns-clause-ok : goal.returns-clause-ok
returns-clause-ok c =
    subst (λ (m : Sets). IfOk c.with_index.result (λ map. map ≡ m)) (c.in_ok-compacted.ensures ∙ c.self.view_is) c.with_index.ensures.ok
