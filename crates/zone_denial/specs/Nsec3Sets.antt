-- The NSEC3 sets that a zone gets when it is secured, and the one that tells their parameters
use Rattle.std.specs.Prelude.{◌≡◌, ℕ, Bool, true, false, ◌&&◌, cond, List, [], ◌∷◌, fold, ◌==◌, Option, Some, None, option_map, filter_map, is_some, unwrap_or, IsTrue}
use Rattle.std.specs.List.{list_all}
use Rattle.std.specs.Option.{option_map_or}
use Rattle.std.specs.Ordering.{ordering_then}
use Rattle.std.specs.declared.cmp.Ordering.{Ordering}
use Rattle.zone_proto.specs.declared.rdata.RData.{RData}
use Rattle.zone_proto.specs.declared.rdata.RData.TheVariants as V
use Rattle.zone_proto.specs.declared.rdata.denial.NSEC3PARAM.{NSEC3PARAM as Nsec3Parameters}
use Rattle.zone_proto.specs.declared.record.Record.{Record}
use Rattle.zone_proto.specs.Faults.{fault_of}
use Rattle.zone_proto.specs.HashedOwners.{hashed_owner}
use Rattle.zone_proto.specs.Names.{Name, name_cmp, name_eq, octets_cmp}
use Rattle.zone_proto.specs.Sets.{RRset, empty_set, inserted}
use Rattle.zone_proto.specs.Types.{IN, NSEC3, NSEC3PARAM}
use Rattle.lookup_types.specs.declared.secure_error.SecureError.{SecureError}
use Rattle.lookup_types.specs.declared.secure_error.SecureError.TheVariants as error
use Rattle.zone_map.specs.Zones.{Sets, set_at, owns}
use Rattle.zone_denial.specs.Covering.{next_around}
use Rattle.zone_denial.specs.Nsec3Circle.{nsec3_data, nsec3_types}
use Rattle.zone_denial.specs.Nsec3Names.{nsec3_names}
use Rattle.zone_denial.specs.TypeLists.{in_order}

-- a name and its digest
pub record HashedName : Type 0 where
  pub digest : List ℕ
  pub name : Name

-- by digest, and names of one digest in canonical order
abbrev pub hashed_cmp : HashedName → HashedName → Ordering
hashed_cmp h k = ordering_then (octets_cmp h.digest k.digest) (name_cmp h.name k.name)

-- a set once a record is inserted, or as it was where the record isn't taken
abbrev pub with_taken : ℕ → RRset → Record → RRset
with_taken serial s r = unwrap_or (inserted s r serial) s

-- the set of an owner that records make, inserted one after the other; none without records
abbrev pub set_of : Name → ℕ → ℕ → List Record → Option RRset
set_of n t serial [] = None
set_of n t serial (r ∷ rs) = Some (fold (with_taken serial) (empty_set n t serial) (r ∷ rs))

module _ (origin : Name) (m : Sets) (hash : Name → Option (List ℕ)) (opt_out : Bool) where
  -- the names that get an NSEC3 set with their digests, in the order of these
  abbrev pub hashed_names : List HashedName
  hashed_names = in_order hashed_cmp (filter_map (λ n. option_map (λ d. record { digest = d; name = n }) (hash n)) (nsec3_names origin m opt_out))

  -- why the names get no sets: the hash has no digest of one; or the text of a digest is no label, or makes an owner too long
  abbrev pub nsec3_fault : Option SecureError
  nsec3_fault =
      cond (list_all (λ n. is_some (hash n)) (nsec3_names origin m opt_out))
      (cond (list_all (λ (h : HashedName). option_map_or (λ _. false) (fault_of (hashed_owner origin h.digest)) true) hashed_names) None (Some error.OwnerTooLong))
      (Some error.Hash)

module _ (origin : Name) (m : Sets) (hash : Name → Option (List ℕ)) (parameters : Nsec3Parameters) (ttl serial : ℕ) where
  -- a record of the zone's class with the TTL that all get
  abbrev pub made_record : Name → RData → Record
  made_record n d = record { name = n; dns_class = record { 0 = IN }; ttl = ttl; rdata = d }

  -- the NSEC3 record of a name with its digest: with the digest that comes next, of the first one after the last (RFC 5155 section 3.1.7), and the types of the name
  abbrev pub nsec3_record : HashedName → Record
  nsec3_record h = made_record (hashed_owner origin h.digest) (V.NSEC3 (nsec3_data parameters (next_around hashed_cmp (hashed_names origin m hash parameters.opt_out) h).digest (nsec3_types origin m h.name)))

  -- the set of an owner: the records of the names whose hashed owner it is, of which there are several only where digests collide
  abbrev pub nsec3_set_at : Name → Option RRset
  nsec3_set_at o = set_of o NSEC3 serial (filter_map (λ h. cond (name_eq o (hashed_owner origin h.digest)) (Some (nsec3_record h)) None) (hashed_names origin m hash parameters.opt_out))

  -- the origin's NSEC3PARAM set, into which the zone's parameters are inserted (RFC 5155 section 4)
  abbrev pub announced_set : RRset
  announced_set = with_taken serial (unwrap_or (set_at m origin NSEC3PARAM) (empty_set origin NSEC3PARAM serial)) (made_record origin (V.NSEC3PARAM parameters))

  -- these sets by name and type
  abbrev pub nsec3_sets_at : Name → ℕ → Option RRset
  nsec3_sets_at n t = cond (t == NSEC3) (nsec3_set_at n) (cond ((t == NSEC3PARAM) && name_eq n origin) (Some announced_set) None)

  -- a map in which they stand in place of the NSEC3 sets that were there, signatures aside, and in which each name owns
  -- the same other types as before, NSEC3PARAM at the origin aside
  pub record HasNsec3Sets (after : Sets) : Type 0 where
    pub others : (n : Name) (t : ℕ) → (t == NSEC3) ≡ false → (t == NSEC3PARAM) && name_eq n origin ≡ false → owns after n t ≡ owns m n t
    pub denials : (n : Name) → option_map (λ (s : RRset). s.records) (set_at after n NSEC3) ≡ option_map (λ (s : RRset). s.records) (nsec3_set_at n)
    pub announced : IsTrue (owns after origin NSEC3PARAM)
