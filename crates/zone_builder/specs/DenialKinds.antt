-- By what a zone denies what it doesn't hold, as its sets say
use Rattle.std.specs.Prelude.{ℕ, Bool, false, cond, List, [], ◌∷◌, Option, Some, None, option_map, option_and_then, Result, Ok, Err}
use Rattle.std.specs.Option.{option_map_or, option_or}
use Rattle.zone_proto.specs.declared.error.ProtoError.{ProtoError}
use Rattle.zone_proto.specs.declared.nx_proof_kind.NxProofKind.{NxProofKind}
use Rattle.zone_proto.specs.declared.nx_proof_kind.NxProofKind.TheVariants.{Nsec, Nsec3}
use Rattle.zone_proto.specs.declared.rdata.RData.{RData}
use Rattle.zone_proto.specs.declared.rdata.RData.TheVariants as V
use Rattle.zone_proto.specs.declared.rdata.denial.NSEC3.{NSEC3 as Nsec3Data}
use Rattle.zone_proto.specs.declared.rdata.denial.NSEC3PARAM.{NSEC3PARAM as Nsec3Parameters}
use Rattle.zone_proto.specs.declared.record.Record.{Record}
use Rattle.zone_proto.specs.HashedOwners.{owner_or_refusal}
use Rattle.zone_proto.specs.Names.{Name}
use Rattle.zone_proto.specs.Sets.{RRset}
use Rattle.zone_proto.specs.Types.{NSEC, NSEC3, NSEC3PARAM}
use Rattle.zone_map.specs.Zones.{Sets, set_at}
use Rattle.zone_denial.specs.Chains.{has_parameters}
use Rattle.zone_denial.specs.Nsec3Circle.{first_nsec3}
use Rattle.zone_denial.specs.Nsec3Zones.{hash_with}

-- an NSEC3 set has the opt-out flag (RFC 5155 section 6)
abbrev pub opts_out : RRset → Bool
opts_out s = option_map_or (λ (a : Nsec3Data). a.opt_out) (first_nsec3 s.records) false

-- denial by the chain with these parameters, if an NSEC3 set belongs to it, with the flag Opt-Out of that set: that of NSEC3PARAM says nothing (RFC 5155 section 4.1.2)
abbrev pub chain_kind : Nsec3Parameters → RRset → Option NxProofKind
chain_kind p s = cond (has_parameters p.algorithm p.salt p.iterations s) (Some (Nsec3 p.algorithm p.salt p.iterations (opts_out s))) None

-- the NSEC3 set of an owner, if there is such an owner
abbrev pub nsec3_set_of : Sets → Result Name ProtoError → Option RRset
nsec3_set_of m (Ok owner) = set_at m owner NSEC3
nsec3_set_of m (Err e) = None

-- denial by names, where the origin owns NSEC (RFC 4035 section 2.3)
abbrev pub named_kind : Name → Sets → Option NxProofKind
named_kind origin m = option_map (λ _. Nsec) (set_at m origin NSEC)

module _ (origin : Name) (m : Sets) (digest_of : ℕ → List ℕ → Name → ℕ → Option (List ℕ)) where
  -- denial by the chain with these parameters, if it has a set at the origin's hashed owner, as each chain has (RFC 5155 section 7.1)
  abbrev pub hashed_kind : Nsec3Parameters → Option NxProofKind
  hashed_kind p = option_and_then (chain_kind p) (nsec3_set_of m (owner_or_refusal origin (hash_with digest_of p origin)))

  -- denial by the chain that data announce, if they are of NSEC3PARAM
  abbrev pub announced_kind : RData → Option NxProofKind
  announced_kind (V.NSEC3PARAM p) = hashed_kind p
  announced_kind d = None

  -- denial by the first chain that records announce
  abbrev pub first_kind : List Record → Option NxProofKind
  first_kind [] = None
  first_kind (r ∷ rs) = option_or (announced_kind r.rdata) (first_kind rs)

  -- A zone denies by the first chain of NSEC3 that NSEC3PARAM at the origin announces: of several, each of which is complete, a server chooses one (RFC 5155 section 7.3). Where there is none, it denies by NSEC.
  abbrev pub denial_kind : Option NxProofKind
  denial_kind = option_or (option_and_then (λ (s : RRset). first_kind s.records) (set_at m origin NSEC3PARAM)) (named_kind origin m)
