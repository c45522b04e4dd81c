-- The sets of a chain, one after the other
use Rattle.std.proofs.Common.{◌≡◌, ℕ, true, false, cond, ◌∷◌, refl, sym, ap, ◌∙◌, true≢false}
use Rattle.std.specs.Prelude.{Option, Some, None}
use Rattle.zone_proto.specs.declared.nx_proof_kind.NxProofKind.{NxProofKind}
use Rattle.zone_proto.specs.declared.rr_key.RrKey.{RrKey}
use Rattle.zone_proto.specs.Names.{Name}
use Rattle.zone_proto.specs.Sets.{RRset}
use Rattle.zone_map.specs.Zones.{Sets, IsZone, set_at}
use Rattle.zone_denial.specs.Chains.{stays, chain_sets}
use Rattle.zone_denial.proofs.Chains.ChainSets.{sets_are}

module _ (kind : Option NxProofKind) (left after : Sets) (e : RrKey × RRset) (steps : left ≡ e ∷ after) where
  pub one_stays : stays kind e.0.record_type.0 e.1 ≡ true → chain_sets kind left ≡ e ∷ chain_sets kind after
  one_stays h = ap (chain_sets kind) steps ∙ ap (λ b. cond b (e ∷ chain_sets kind after) (chain_sets kind after)) h

  pub one_goes : stays kind e.0.record_type.0 e.1 ≡ false → chain_sets kind left ≡ chain_sets kind after
  one_goes h = ap (chain_sets kind) steps ∙ ap (λ b. cond b (e ∷ chain_sets kind after) (chain_sets kind after)) h

module _ (kind : Option NxProofKind) (m : Sets) (zone : IsZone m) (n : Name) (t : ℕ) where
  -- what a lookup finds among all sets, and whether that stays
  pub found_stays : (s : RRset) → set_at m n t ≡ Some s → stays kind t s ≡ true → set_at (chain_sets kind m) n t ≡ Some s
  found_stays s e h = (sets_are kind m zone n t s).1 (e, h)

  pub found_goes : (s : RRset) → set_at m n t ≡ Some s → stays kind t s ≡ false → set_at (chain_sets kind m) n t ≡ None
  found_goes s e h = by (set_at (chain_sets kind m) n t) refl
    where
      same_set : (p : Option RRset) (s r : RRset) → p ≡ Some s → p ≡ Some r → s ≡ r
      same_set p s r e f = cc

      by : (o : Option RRset) → set_at (chain_sets kind m) n t ≡ o → o ≡ None
      by None q = refl
      by (Some r) q =
          let w = (sets_are kind m zone n t r).0 q in
          absurd (true≢false (sym w.1 ∙ ap (stays kind t) (sym (same_set (set_at m n t) s r e w.0)) ∙ h))

  pub none_found : set_at m n t ≡ None → set_at (chain_sets kind m) n t ≡ None
  none_found e = by (set_at (chain_sets kind m) n t) refl
    where
      neither : (p : Option RRset) (r : RRset) → p ≡ None → p ≡ Some r → ⊥
      neither p r e f = cc

      by : (o : Option RRset) → set_at (chain_sets kind m) n t ≡ o → o ≡ None
      by None q = refl
      by (Some r) q = absurd (neither (set_at m n t) r e ((sets_are kind m zone n t r).0 q).0)
