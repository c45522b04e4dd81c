-- The sets that prove what a response says: NSEC sets (RFC 4035 section 3.1.3), or NSEC3 sets where a zone denies by hashed names (RFC 5155 section 7.2)
use Rattle.std.specs.Prelude.{ℕ, Bool, true, List, [], ◌∷◌, ◌++◌, flat_map, fold, min, option_and_then, option_to_list, Option, Some, None, Result}
use Rattle.std.specs.Option.{option_map_or}
use Rattle.zone_proto.specs.declared.error.ProtoError.{ProtoError}
use Rattle.zone_proto.specs.declared.nx_proof_kind.NxProofKind.{NxProofKind}
use Rattle.zone_proto.specs.declared.nx_proof_kind.NxProofKind.TheVariants as kind
use Rattle.zone_proto.specs.HashedOwners.{owner_or_refusal}
use Rattle.zone_proto.specs.Names.{Name, lower, same_name}
use Rattle.zone_proto.specs.Sets.{RRset}
use Rattle.zone_map.specs.Wildcards.{closest_encloser}
use Rattle.zone_denial.specs.NsecDenial.{closest_nsec}
use Rattle.zone_lookup.specs.Runs.{with_new}
use Rattle.zone_response.specs.declared.response.Part.TheVariants as part
use Rattle.zone_response.specs.HashedDenials.{wildcard_sets, absent_sets, present_sets, wildcard_hashed, absent_hashed, present_hashed, hashed_by, have_owners}
use Rattle.zone_response.specs.Queries.{Zone}
use Rattle.zone_response.specs.Sections.{sent}
use Rattle.zone_response.specs.Steps.{End, referred, missing}

-- ---- of one name

module _ (z : Zone) where
  -- the owner of the NSEC3 set of a name, or why there is none (RFC 5155 sections 3 and 5)
  abbrev pub hashed_owner_of : ℕ → List ℕ → ℕ → Name → Result Name ProtoError
  hashed_owner_of algorithm salt iterations x = owner_or_refusal z.origin (z.digest_of algorithm salt x iterations)

  -- what proves that a wildcard may answer for a name: the NSEC set that covers the name (RFC 4035 section 3.1.3.3), or
  -- the NSEC3 set that covers the next closer name (RFC 5155 section 7.2.6)
  abbrev pub wildcard_proof_by : Option NxProofKind → Name → List RRset
  wildcard_proof_by (Some (kind.Nsec3 algorithm salt iterations opt_out)) x =
      option_map_or (wildcard_sets z.origin z.denials (hashed_by (hashed_owner_of algorithm salt iterations)) x) (closest_encloser z.sets x) []
  wildcard_proof_by _ x = option_to_list (closest_nsec z.denials x)

  -- what proves that a name, and the wildcard that was asked for it, hasn't what is asked for: by NSEC, the sets of
  -- these, which list what they own, or else those that cover them (RFC 4035 sections 3.1.3.1, 3.1.3.2 and 3.1.3.4). A
  -- wildcard is under the closest encloser
  abbrev pub denial_by : Option NxProofKind → Name → Option Name → List RRset
  denial_by (Some (kind.Nsec3 algorithm salt iterations opt_out)) x (Some (wildcard_name ∷ encloser)) = absent_sets z.origin z.denials (hashed_by (hashed_owner_of algorithm salt iterations)) x encloser
  denial_by (Some (kind.Nsec3 algorithm salt iterations opt_out)) x _ = present_sets z.origin z.denials (hashed_by (hashed_owner_of algorithm salt iterations)) x
  denial_by _ x wildcard_name = option_to_list (closest_nsec z.denials x) ++ option_to_list (option_and_then (closest_nsec z.denials) wildcard_name)

  abbrev pub wildcard_proof : Name → List RRset
  wildcard_proof = wildcard_proof_by z.nx_proof_kind

  abbrev pub denial : Name → Option Name → List RRset
  denial = denial_by z.nx_proof_kind

  -- what proves what the end of a search says: of a name without the set that is asked for, or of a child without DS (RFC 4035 section 3.1.4, RFC 5155 section 7.2.7)
  abbrev pub end_proof : Option RRset → End → List RRset
  end_proof ds (missing x wildcard_name there) = denial x wildcard_name
  end_proof None (referred c) = denial (lower c.owner) None
  end_proof (Some ds) (referred c) = []
  end_proof ds _ = []

-- ---- of all

abbrev pub same_owner : RRset → RRset → Bool
same_owner r s = same_name r.owner s.owner

-- sets and more sets, each once
abbrev pub together : List RRset → List RRset → List RRset
together sets more = fold (with_new same_owner) sets more

-- sets, and those that prove that a wildcard may answer for a name
abbrev pub with_wildcard_proof : Zone → List RRset → Name → List RRset
with_wildcard_proof z sets x = together sets (wildcard_proof z x)

-- the sets that prove that a wildcard may answer for each name for which one did, and what the end says
abbrev pub proofs : Zone → Option RRset → List Name → End → List RRset
proofs z ds made end = together (fold (with_wildcard_proof z) [] made) (end_proof z ds end)

-- such a set is sent with the lesser of its TTL and of that of a negative response (RFC 9077 section 3)
abbrev pub sent_proof : ℕ → RRset → RRset
sent_proof ttl s = sent part.Signed (min s.ttl ttl) s

-- ---- whether they can be found: each name that is hashed for them has a hashed owner

module _ (z : Zone) where
  -- these have one, where a zone denies by hashed names
  abbrev pub have_owners_by : Option NxProofKind → List Name → Bool
  have_owners_by (Some (kind.Nsec3 algorithm salt iterations opt_out)) names = have_owners (hashed_owner_of z algorithm salt iterations) names
  have_owners_by _ names = true

  -- the names that are hashed for a name for which a wildcard answered
  abbrev pub wildcard_hashed_by : Option NxProofKind → Name → List Name
  wildcard_hashed_by (Some (kind.Nsec3 algorithm salt iterations opt_out)) x = option_map_or (wildcard_hashed x) (closest_encloser z.sets x) []
  wildcard_hashed_by _ x = []

  -- for a name without what is asked for
  abbrev pub denial_hashed_by : Option NxProofKind → Name → Option Name → List Name
  denial_hashed_by (Some (kind.Nsec3 algorithm salt iterations opt_out)) x (Some (wildcard_name ∷ encloser)) = absent_hashed z.origin z.denials (hashed_by (hashed_owner_of z algorithm salt iterations)) x encloser
  denial_hashed_by (Some (kind.Nsec3 algorithm salt iterations opt_out)) x _ = present_hashed z.origin z.denials (hashed_by (hashed_owner_of z algorithm salt iterations)) x
  denial_hashed_by _ x wildcard_name = []

  abbrev pub wildcard_hashed_names : Name → List Name
  wildcard_hashed_names = wildcard_hashed_by z.nx_proof_kind

  abbrev pub denial_hashed : Name → Option Name → List Name
  denial_hashed = denial_hashed_by z.nx_proof_kind

  -- for the end of a search
  abbrev pub end_hashed : Option RRset → End → List Name
  end_hashed ds (missing x wildcard_name there) = denial_hashed x wildcard_name
  end_hashed None (referred c) = denial_hashed (lower c.owner) None
  end_hashed (Some ds) (referred c) = []
  end_hashed ds _ = []

  -- for all
  abbrev pub hashed_names : Option RRset → List Name → End → List Name
  hashed_names ds made end = flat_map wildcard_hashed_names made ++ end_hashed ds end

  abbrev pub wildcard_has_owners : Name → Bool
  wildcard_has_owners x = have_owners_by z.nx_proof_kind (wildcard_hashed_names x)

  abbrev pub denial_has_owners : Name → Option Name → Bool
  denial_has_owners x wildcard_name = have_owners_by z.nx_proof_kind (denial_hashed x wildcard_name)

  abbrev pub end_has_owners : Option RRset → End → Bool
  end_has_owners ds end = have_owners_by z.nx_proof_kind (end_hashed ds end)

  abbrev pub is_provable : Option RRset → List Name → End → Bool
  is_provable ds made end = have_owners_by z.nx_proof_kind (hashed_names ds made end)
