-- What a name error says of a zone
use Rattle.std.proofs.Common.{◌≡◌, Bool, true, false, cond, ◌||◌, refl}
use Rattle.zone_proto.specs.Names.{Name}
use Rattle.zone_map.specs.Wildcards.{asked_wildcard_exists}
use Rattle.zone_map.specs.Zones.{Sets, owns_at_or_below}
use Rattle.zone_lookup.specs.Replies.{name_exists, nx_domain, absent, negative_answer}

-- a name error says that nothing is there, and that the wildcard at its closest encloser doesn't exist
pub error_means : (origin : Name) (m : Sets) (x : Name) → negative_answer origin m x ≡ nx_domain → (owns_at_or_below m x ≡ false) × (asked_wildcard_exists m x ≡ false)
error_means origin m x e = by (owns_at_or_below m x) (asked_wildcard_exists m x) e
  where
    by : (a b : Bool) → cond (a || b) name_exists (absent origin x) ≡ nx_domain → (a ≡ false) × (b ≡ false)
    by true b e = absurd cc
    by false true e = absurd cc
    by false false e = (refl, refl)
