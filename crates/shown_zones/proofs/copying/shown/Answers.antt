use Rattle.std.proofs.Common.{◌≡◌, ℕ, subst, sym, ap, ◌∙◌}
use Rattle.std.specs.Prelude.{IfOk}
use Rattle.zone_proto.specs.Names.{Name}
use Rattle.zone_map.specs.Zones.{AreStored, Sets, last_at, set_at}
use Rattle.zone_difference.proofs.Copies.{copy_is}
use Rattle.shown_zones.specs.Shown.{shown}
use Rattle.shown_zones.proofs.Copied.{stored_shown}
use Rattle.shown_zones.proofs.Shows.{shown_zone}
use Rattle.shown_zones.proofs.copying.shown.Goals as goal

pub from_entries-requires : goal.from_entries-requires
from_entries-requires c = subst AreStored (sym c.in_ok-entries.ensures.ok) (stored_shown c.args.zone.now c.in_ok-entries.ensures.stored)

pub returns-clause-copy : goal.returns-clause-copy
returns-clause-copy c =
    let made : Sets = c.in_ok-from_entries.field-0 in
    let found : (n : Name) (t : ℕ) → set_at made n t ≡ last_at (shown c.args.zone.now) n t =
    λ n t. c.in_ok-from_entries.ensures.ok n t ∙ ap (λ es. last_at es n t) c.in_ok-entries.ensures.ok in
    subst (λ (m : Sets). IfOk c.from_sets.result (λ copy. copy ≡ m)) (copy_is (shown c.args.zone.now) made (shown_zone c.args.zone.now c.len-count.ensures.zone) c.from_sets.ensures.zone found) c.from_sets.ensures.ok
