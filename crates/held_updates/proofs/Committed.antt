-- A zone after an update replaces the one that was updated, and no other.
use Rattle.std.proofs.Common.{◌≡◌, ◌∙◌, ℕ, true, List, refl, sym, ap}
use Rattle.std.proofs.lemmas.Bool.{eqb-true}
use Rattle.std.specs.List.{find}
use Rattle.std.specs.Prelude.{Option, Some, None}
use Rattle.zone_update.specs.Updates.{same_serial}
use Rattle.zone_database.specs.declared.zone.Zone.{Zone}
use Rattle.zone_database.specs.Databases.{begins_at, with_zone}
use Rattle.held_updates.specs.declared.planned.UpdatedZone.{UpdatedZone}
use Rattle.held_updates.specs.Journaling.{serial_of}
use Rattle.held_updates.specs.Laws.{CommitsReplaceOne, IsCommitted}
use Rattle.held_updates.proofs.Standing.{found_put, others_stay}

-- two that are the same serial are one
both : (a b : Option ℕ) → same_serial a b ≡ true → (n : ℕ) × (a ≡ Some n) × (b ≡ Some n)
both (Some a) (Some b) h = (a, refl, ap Some (sym (eqb-true a b h)))
both (Some a) None h = absurd cc
both None b h = absurd cc

module _ (u : UpdatedZone) (zs new : List Zone) (put : new ≡ with_zone u.zone zs) where
  committed : (found : Option Zone) → find (begins_at u.zone.origin) zs ≡ found → same_serial u.replaces (serial_of found) ≡ true → IsCommitted u zs new
  committed None is h = absurd (let n = both u.replaces None h in cc)
  committed (Some z) is h =
      let n : (n : ℕ) × (u.replaces ≡ Some n) × (serial_of (Some z) ≡ Some n) = both u.replaces (serial_of (Some z)) h in
      record {
        zone = z;
        stood = is;
        serial = n.2 ∙ sym n.1;
        stands = ap (find (begins_at u.zone.origin)) put ∙ found_put (λ (y : Zone). y.origin) u.zone zs;
        others = λ n apart. ap (find (begins_at n)) put ∙ others_stay (λ (y : Zone). y.origin) n u.zone zs apart;
      }

pub commits_replace_one : CommitsReplaceOne
commits_replace_one u zs new (is, put) = committed u zs new put (find (begins_at u.zone.origin) zs) refl is
