-- A zone that lends its own sets for its denials
use Rattle.std.proofs.Common.{◌≡◌, sym, ap, ◌∙◌, subst}
use Rattle.zone_map.specs.Zones.{set_at, IsZone}
use Rattle.zone_response.specs.Queries.{Zone, HasOwnDenials}

pub lends_own : (z : Zone) → IsZone z.sets → z.denials ≡ z.sets → HasOwnDenials z
lends_own z zone same = record { zone = subst IsZone (sym same) zone; own = λ n t s e. ap (λ m. set_at m n t) (sym same) ∙ e }
