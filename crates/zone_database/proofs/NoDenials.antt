-- Where a zone has no NSEC and no NSEC3 sets, none is beside its chain
use Rattle.std.proofs.Common.{◌≡◌, ◌==◌, ℕ, Bool, true, false, cond, not, ◌||◌, [], ◌∷◌, refl, sym, ap, ◌∙◌}
use Rattle.std.specs.Prelude.{Option, Some, None}
use Rattle.std.specs.List.{cons_option}
use Rattle.std.proofs.lemmas.Bool.{eqb-false, ne_eqb}
use Rattle.zone_proto.specs.declared.nx_proof_kind.NxProofKind.{NxProofKind}
use Rattle.zone_proto.specs.declared.nx_proof_kind.NxProofKind.TheVariants as names
use Rattle.zone_proto.specs.Types.{NSEC, NSEC3}
use Rattle.zone_map.specs.Upserts.{is_denial_type}
use Rattle.zone_map.specs.Zones.{Sets, owners}
use Rattle.zone_denial.specs.Chains.{is_of_chain}
use Rattle.zone_database.specs.ChainsBeside.{has_others}

turned : (a b : ℕ) → (a == b) ≡ false → (b == a) ≡ false
turned a b h = ne_eqb b a (λ e. eqb-false a b h (sym e))

no_denial : (t : ℕ) → (NSEC == t) ≡ false → (NSEC3 == t) ≡ false → is_denial_type t ≡ false
no_denial t h g = ap (λ (b : Bool). b || (t == NSEC3)) (turned NSEC t h) ∙ turned NSEC3 t g

-- where a zone that denies by NSEC has no NSEC3 sets
pub names_alone : (kind : Option NxProofKind) (m : Sets) → kind ≡ Some names.Nsec → owners m NSEC3 ≡ [] → has_others kind m ≡ false
names_alone kind m by_names none = ap (λ k. has_others k m) by_names ∙ of_names m none
  where
    at : (t : ℕ) → (NSEC3 == t) ≡ false → not (not (is_denial_type t) || (t == NSEC)) ≡ false
    at t h = by (t == NSEC) refl
      where
        either : (b : Bool) → not (not b || true) ≡ false
        either true = refl
        either false = refl

        by : (b : Bool) → (t == NSEC) ≡ b → not (not (is_denial_type t) || (t == NSEC)) ≡ false
        by true e = ap (λ b. not (not (is_denial_type t) || b)) e ∙ either (is_denial_type t)
        by false e = ap (λ b. not (not (b || (t == NSEC3)) || (t == NSEC))) e ∙ ap (λ b. not (not b || (t == NSEC))) (turned NSEC3 t h)

    of_names : (m : Sets) → owners m NSEC3 ≡ [] → has_others (Some names.Nsec) m ≡ false
    of_names [] h = refl
    of_names (e ∷ m) h = by (NSEC3 == e.0.record_type.0) refl h (of_names m)
      where
        by : (b : Bool) → (NSEC3 == e.0.record_type.0) ≡ b → cons_option (cond b (Some e.0.name) None) (owners m NSEC3) ≡ []
            → (owners m NSEC3 ≡ [] → has_others (Some names.Nsec) m ≡ false) → has_others (Some names.Nsec) (e ∷ m) ≡ false
        by true p f rest = absurd cc
        by false p f rest = ap (λ b. b || has_others (Some names.Nsec) m) (at e.0.record_type.0 p) ∙ rest f

pub none_beside : (kind : Option NxProofKind) (m : Sets) → owners m NSEC ≡ [] → owners m NSEC3 ≡ [] → has_others kind m ≡ false
none_beside kind [] h g = refl
none_beside kind (e ∷ m) h g = by (NSEC == e.0.record_type.0) refl (NSEC3 == e.0.record_type.0) refl h g (λ f k. none_beside kind m f k)
  where
    by : (a : Bool) → (NSEC == e.0.record_type.0) ≡ a → (b : Bool) → (NSEC3 == e.0.record_type.0) ≡ b
        → cons_option (cond a (Some e.0.name) None) (owners m NSEC) ≡ [] → cons_option (cond b (Some e.0.name) None) (owners m NSEC3) ≡ []
        → (owners m NSEC ≡ [] → owners m NSEC3 ≡ [] → has_others kind m ≡ false) → has_others kind (e ∷ m) ≡ false
    by true p b q f k rest = absurd cc
    by false p true q f k rest = absurd cc
    by false p false q f k rest =
        ap (λ (b : Bool). not (not b || is_of_chain kind e.0.record_type.0 e.1) || has_others kind m) (no_denial e.0.record_type.0 p q) ∙ rest f k
