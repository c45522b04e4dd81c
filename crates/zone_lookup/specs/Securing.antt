-- The record sets of a zone that is to be secured
use Rattle.std.specs.Prelude.{◌==◌, ℕ, cond, List, [], ◌∷◌, Option, Some, None}
use Rattle.std.specs.Option.{option_or}
use Rattle.zone_proto.specs.declared.nx_proof_kind.NxProofKind.{NxProofKind}
use Rattle.zone_proto.specs.declared.nx_proof_kind.NxProofKind.TheVariants as kind
use Rattle.zone_proto.specs.declared.rdata.denial.NSEC3PARAM.{NSEC3PARAM as Nsec3Parameters}
use Rattle.zone_proto.specs.Names.{Name}
use Rattle.zone_proto.specs.Types.{CNAME, NSEC, NSEC3}
use Rattle.lookup_types.specs.declared.secure_error.SecureError.{SecureError}
use Rattle.lookup_types.specs.declared.secure_error.SecureError.TheVariants as error
use Rattle.zone_map.specs.Zones.{Sets, set_at, owns}
use Rattle.zone_denial.specs.NsecSets.{nsec_set_at}
use Rattle.zone_denial.specs.Nsec3Sets.{nsec3_sets_at, nsec3_fault}
use Rattle.zone_denial.specs.Nsec3Zones.{hash_with}
use Rattle.zone_signing.specs.Secured.{SetsBy}
use Rattle.zone_lookup.specs.StartOfAuthority.{serial, minimum}

-- the kind of the denials that a zone gets: none without a signer, who would sign them
abbrev pub denied_by : {S : Type 0} → Option NxProofKind → List S → Option NxProofKind
denied_by kind [] = None
denied_by kind (signer ∷ signers) = kind

-- the kind that denies by NSEC3 with these parameters
abbrev pub nsec3_kind : Nsec3Parameters → NxProofKind
nsec3_kind p = kind.Nsec3 p.algorithm p.salt p.iterations p.opt_out

-- the record sets of a zone by name and type, and the NSEC sets of its circle in place of those that it has, with its
-- minimum as their TTL, and with its serial
abbrev pub with_nsec_sets : Name → Sets → SetsBy
with_nsec_sets origin m n t = cond (t == NSEC) (nsec_set_at origin m (minimum m origin) (serial m origin) n t) (set_at m n t)

module _ (digest_of : ℕ → List ℕ → Name → ℕ → Option (List ℕ)) (origin : Name) (m : Sets) where
  -- the NSEC3 sets of these parameters and the NSEC3PARAM set, in place of those that the zone has
  abbrev pub with_nsec3_sets : Nsec3Parameters → SetsBy
  with_nsec3_sets p n t = option_or (nsec3_sets_at origin m (hash_with digest_of p) p (minimum m origin) (serial m origin) n t) (cond (t == NSEC3) None (set_at m n t))

  -- a zone's record sets by name and type, and denials of a kind in place of those that it has, with the zone's minimum
  -- as their TTL, and with its serial
  abbrev pub with_denials : Option NxProofKind → SetsBy
  with_denials None n t = set_at m n t
  with_denials (Some kind.Nsec) n t = with_nsec_sets origin m n t
  with_denials (Some (kind.Nsec3 algorithm salt iterations opt_out)) n t = with_nsec3_sets (record { algorithm = algorithm; opt_out = opt_out; iterations = iterations; salt = salt }) n t

  -- why a zone gets no denials of a kind: beside a CNAME at the origin no NSEC3PARAM may stand, and names may have no hashed owners
  abbrev pub denial_fault : Option NxProofKind → Option SecureError
  denial_fault (Some (kind.Nsec3 algorithm salt iterations opt_out)) =
      cond (owns m origin CNAME) (Some error.CnameAtOrigin) (nsec3_fault origin m (hash_with digest_of (record { algorithm = algorithm; opt_out = opt_out; iterations = iterations; salt = salt })) opt_out)
  denial_fault _ = None

  -- the record sets that are to be signed
  abbrev pub to_be_signed : {S : Type 0} → Option NxProofKind → List S → SetsBy
  to_be_signed kind signers = with_denials (denied_by kind signers)
