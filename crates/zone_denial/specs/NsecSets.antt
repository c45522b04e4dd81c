-- The NSEC sets that a zone gets when it is secured
use Rattle.std.specs.Prelude.{◌≡◌, ℕ, Bool, ◌&&◌, cond, List, map, ◌==◌, Option, Some, None, option_map}
use Rattle.zone_proto.specs.declared.rdata.RData.TheVariants as V
use Rattle.zone_proto.specs.declared.rdata.denial.NSEC.{NSEC as NsecData}
use Rattle.zone_proto.specs.Names.{Name}
use Rattle.zone_proto.specs.Sets.{RRset}
use Rattle.zone_proto.specs.Types.{NSEC}
use Rattle.zone_map.specs.Zones.{Sets, set_at, owns}
use Rattle.zone_denial.specs.Authority.{is_authoritative}
use Rattle.zone_denial.specs.TypeLists.{nsec_types}
use Rattle.zone_denial.specs.NsecCircle.{nsec_next}
use Rattle.zone_denial.specs.OneRecordSets.{one_record_set}

-- NSEC data of a next name and types
abbrev pub nsec_data : Name → List ℕ → NsecData
nsec_data next types = record { next_domain_name = next; types = map (λ t. record { 0 = t }) types }

-- an NSEC set of one record, without signatures
abbrev pub new_set : (ttl serial : ℕ) → Name → NsecData → RRset
new_set ttl serial n data' = one_record_set NSEC ttl serial n (V.NSEC data')

module _ (origin : Name) (m : Sets) (ttl serial : ℕ) where
  -- the NSEC set of a name, with the TTL and the serial that all get
  abbrev pub nsec_set : Name → RRset
  nsec_set n = new_set ttl serial n (nsec_data (nsec_next origin m n) (nsec_types m n))

  -- the NSEC sets by name and type: one for each authoritative name
  abbrev pub nsec_set_at : Name → ℕ → Option RRset
  nsec_set_at n t = cond ((t == NSEC) && is_authoritative origin m NSEC n) (Some (nsec_set n)) None

  -- a map in which they stand in place of the NSEC sets that were there, signatures aside, and in which each name owns
  -- the same other types as before
  pub record HasNsecSets (after : Sets) : Type 0 where
    pub others : (n : Name) (t : ℕ) → (t == NSEC) ≡ Bool.false → owns after n t ≡ owns m n t
    pub denials : (n : Name) → option_map (λ (s : RRset). s.records) (set_at after n NSEC) ≡ option_map (λ (s : RRset). s.records) (nsec_set_at n NSEC)
