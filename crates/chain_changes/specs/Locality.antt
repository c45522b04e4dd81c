-- On what the NSEC set of a name depends: on the types that the name owns, on the zone cuts above it, and on which name comes next that the zone is authoritative for
use Rattle.std.specs.Prelude.{◌≡◌, ◌≢◌, ℕ, Bool, ◌==◌, IsTrue}
use Rattle.std.specs.declared.cmp.Ordering.TheVariants.{Less}
use Rattle.zone_proto.specs.Names.{Name, name_cmp, is_above}
use Rattle.zone_proto.specs.Types.{NS, NSEC}
use Rattle.zone_map.specs.Zones.{Sets, owns}
use Rattle.zone_denial.specs.Authority.{is_authoritative}
use Rattle.zone_denial.specs.NsecCircle.{nsec_next}
use Rattle.zone_denial.specs.NsecSets.{nsec_set_at}
use Rattle.zone_denial.specs.TypeLists.{nsec_types}

-- a zone before a change and after it
module _ (m after : Sets) where
  -- a name owns the same types in both, NSEC aside
  abbrev pub OwnsSame : Name → Type 0
  OwnsSame n = (t : ℕ) → (t == NSEC) ≡ Bool.false → owns after n t ≡ owns m n t

  module _ (origin : Name) where
    -- the same zone cuts are above a name in both (RFC 1034 section 4.2)
    abbrev pub HasSameCuts : Name → Type 0
    HasSameCuts n = (a : Name) → IsTrue (is_above origin a) → IsTrue (is_above a n) → owns after a NS ≡ owns m a NS

    -- the zone is authoritative for a name in one of them alone: the name came or went
    abbrev pub CameOrWent : Name → Type 0
    CameOrWent n = is_authoritative origin after NSEC n ≢ is_authoritative origin m NSEC n

    -- the zone is authoritative for it in both
    pub record Stays (n : Name) : Type 0 where
      pub before : IsTrue (is_authoritative origin m NSEC n)
      pub after' : IsTrue (is_authoritative origin after NSEC n)

    -- between a name and each later one that came or went is one that stays: the name isn't the nearest before any of these
    abbrev pub HasSameNext : Name → Type 0
    HasSameNext n = (x : Name) → CameOrWent x → name_cmp n x ≡ Less → (y : Name) × Stays y × (name_cmp n y ≡ Less) × (name_cmp y x ≡ Less)

-- ---- so these are the same in both

abbrev pub AuthorityIsLocal : Type 0
AuthorityIsLocal = (origin : Name) (m after : Sets) (n : Name) → OwnsSame m after n → HasSameCuts m after origin n
    → is_authoritative origin after NSEC n ≡ is_authoritative origin m NSEC n

abbrev pub TypesAreLocal : Type 0
TypesAreLocal = (m after : Sets) (n : Name) → OwnsSame m after n → nsec_types after n ≡ nsec_types m n

abbrev pub NextIsLocal : Type 0
NextIsLocal = (origin : Name) (m after : Sets) (n : Name) → HasSameNext m after origin n → nsec_next origin after n ≡ nsec_next origin m n

abbrev pub DenialsAreLocal : Type 0
DenialsAreLocal = (origin : Name) (m after : Sets) (n : Name) → OwnsSame m after n → HasSameCuts m after origin n → HasSameNext m after origin n
    → (ttl serial t : ℕ) → nsec_set_at origin after ttl serial n t ≡ nsec_set_at origin m ttl serial n t
