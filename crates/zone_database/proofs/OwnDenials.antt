-- A zone that is made of sets has its own denials
use Rattle.std.proofs.Common.{◌≡◌, ℕ, Bool, true, false, cond, not, ◌||◌, [], ◌∷◌, refl, sym, ap, true≢false}
use Rattle.std.specs.Prelude.{Option, Some, None, unwrap_or}
use Rattle.zone_proto.specs.declared.nx_proof_kind.NxProofKind.{NxProofKind}
use Rattle.zone_proto.specs.Names.{Name}
use Rattle.zone_proto.specs.Sets.{RRset}
use Rattle.zone_map.specs.Zones.{Sets, set_at, IsZone}
use Rattle.zone_denial.specs.Chains.{stays, chain_sets}
use Rattle.zone_denial.proofs.Chains.ChainSets.{sets_are, is_zone}
use Rattle.zone_database.specs.ChainsBeside.{has_others}
use Rattle.zone_database.specs.Zones.{denial_kind, ZonesHaveOwnDenials, ZonesLendTheirChain}

-- these sets are those of a zone, and stand in m
record AreOwn (m d : Sets) : Type 0 where
  pub zone : IsZone d
  pub own : (n : Name) (t : ℕ) (s : RRset) → set_at d n t ≡ Some s → set_at m n t ≡ Some s

sets_beside : (kind : Option NxProofKind) (m : Sets) → IsZone m → (b : Bool) → AreOwn m (unwrap_or (cond b (Some (chain_sets kind m)) None) m)
sets_beside kind m zone true = record { zone = is_zone kind m zone; own = λ n t s e. ((sets_are kind m zone n t s).0 e).0 }
sets_beside kind m zone false = record { zone = zone; own = λ n t s e. e }

pub zones_have_own_denials : ZonesHaveOwnDenials
zones_have_own_denials origin m zone =
    let kind = denial_kind origin m in
    let found = sets_beside kind m zone (has_others kind m) in
    record { zone = found.zone; own = found.own }

-- where none is beside the chain, all sets are its own
all_stay : (kind : Option NxProofKind) (m : Sets) → has_others kind m ≡ false → chain_sets kind m ≡ m
all_stay kind [] h = refl
all_stay kind (e ∷ m) h = by (stays kind e.0.record_type.0 e.1) (all_stay kind m) h
  where
    by : (b : Bool) → (has_others kind m ≡ false → chain_sets kind m ≡ m) → not b || has_others kind m ≡ false → cond b (e ∷ chain_sets kind m) (chain_sets kind m) ≡ e ∷ m
    by true rest k = ap (λ sets. e ∷ sets) (rest k)
    by false rest k = absurd (true≢false k)

pub zones_lend_their_chain : ZonesLendTheirChain
zones_lend_their_chain origin m = by (has_others kind m) refl
  where
    kind : Option NxProofKind
    kind = denial_kind origin m

    by : (b : Bool) → has_others kind m ≡ b → unwrap_or (cond b (Some (chain_sets kind m)) None) m ≡ chain_sets kind m
    by true e = refl
    by false e = sym (all_stay kind m e)
