-- The sets of a zone that belong to its chain are those of a zone, and a lookup finds exactly these
use Rattle.std.proofs.Common.{◌≡◌, ◌↔◌, ℕ, Bool, true, false, cond, not, ◌&&◌, ◌||◌, List, [], ◌∷◌, refl, sym, ap, ◌∙◌, subst, true≢false, inl, inr, eqb-true, Less}
use Rattle.std.specs.Prelude.{Option, Some, filter, is_some, None, ◌==◌}
use Rattle.std.specs.Map.{lookup, keys_of}
use Rattle.std.specs.Ordering.{is_eq}
use Rattle.zone_proto.specs.declared.nx_proof_kind.NxProofKind.{NxProofKind}
use Rattle.zone_proto.specs.declared.nx_proof_kind.NxProofKind.TheVariants as kind
use Rattle.zone_proto.specs.declared.rr_key.RrKey.{RrKey}
use Rattle.zone_proto.specs.Keys.{key, key_cmp, key_eq}
use Rattle.zone_proto.specs.Names.{Name}
use Rattle.zone_proto.specs.Sets.{RRset}
use Rattle.zone_proto.specs.Types.{NSEC, NSEC3}
use Rattle.zone_proto.proofs.Members.{In, In-filter, In-from_filter, In-map, In-from_map}
use Rattle.zone_proto.proofs.Ordering.KeyOrder.{key_same, key_itself}
use Rattle.zone_map.specs.Zones.{Sets, IsZone, set_at, owns}
use Rattle.zone_map.proofs.Owned.{entry_owned}
use Rattle.zone_denial.specs.Chains.{stays, chain_sets, has_parameters}
use Rattle.zone_denial.specs.ChainLaws.{StandsAndStays, ChainSetsAreOfOneKind}
use Rattle.zone_denial.proofs.Ascending.{Ascends, Ascends-from_sorted, sorted_from_Ascends}

-- ---- entries whose keys ascend

-- what a lookup finds is there
pub entry_of : (m : Sets) (k : RrKey) (s : RRset) → lookup (key_eq k) m ≡ Some s → In (k, s) m
entry_of [] k s e = absurd cc
entry_of ((j, r) ∷ m) k s e = by (key_eq k j) refl (λ g. entry_of m k s g) e
  where
    same_set : (s r : RRset) → Some r ≡ Some s → r ≡ s
    same_set s r e = cc

    by : (b : Bool) → key_eq k j ≡ b → (lookup (key_eq k) m ≡ Some s → In (k, s) m) → cond b (Some r) (lookup (key_eq k) m) ≡ Some s → In (k, s) ((j, r) ∷ m)
    by true q ih g = inl (λ i. (sym (key_same k j q) i, same_set s r g i))
    by false q ih g = inr (ih g)

below_differs : (j k : RrKey) → key_cmp j k ≡ Less → key_eq k j ≡ false
below_differs j k l = by (key_eq k j) refl
  where
    by : (b : Bool) → key_eq k j ≡ b → b ≡ false
    by false e = refl
    by true e = absurd (true≢false (sym (key_itself j) ∙ ap (λ q. is_eq (key_cmp j q)) (sym (key_same k j e)) ∙ ap is_eq l))

-- and what is there is found
pub found_entry : (m : Sets) → Ascends key_cmp (keys_of m) → (k : RrKey) (s : RRset) → In (k, s) m → lookup (key_eq k) m ≡ Some s
found_entry [] a k s i = absurd i
found_entry ((j, r) ∷ m) a k s (inl e) =
    ap (λ b. cond b (Some r) (lookup (key_eq k) m)) (ap (λ (d : RrKey × RRset). key_eq k d.0) e ∙ key_itself k) ∙ ap (λ (d : RrKey × RRset). Some d.1) e
found_entry ((j, r) ∷ m) a k s (inr i) =
    ap (λ b. cond b (Some r) (lookup (key_eq k) m)) (below_differs j k (a.0 k (In-map (λ (d : RrKey × RRset). d.0) (k, s) m i))) ∙ found_entry m a.1 k s i

module _ (p : RrKey × RRset → Bool) where
  key_kept : (m : Sets) (k : RrKey) → In k (keys_of (filter p m)) → In k (keys_of m)
  key_kept m k i =
      let r = In-from_map (λ (d : RrKey × RRset). d.0) k (filter p m) i in
      subst (λ q. In q (keys_of m)) r.2 (In-map (λ (d : RrKey × RRset). d.0) r.0 m (In-from_filter p r.0 m r.1).0)

  keys_ascend : (m : Sets) → Ascends key_cmp (keys_of m) → Ascends key_cmp (keys_of (filter p m))
  keys_ascend [] a = tt
  keys_ascend (e ∷ m) a = by (p e) (keys_ascend m a.1)
    where
      by : (b : Bool) → Ascends key_cmp (keys_of (filter p m)) → Ascends key_cmp (keys_of (cond b (e ∷ filter p m) (filter p m)))
      by true later = (λ k i. a.0 k (key_kept m k i), later)
      by false later = later

  -- all stay that pass
  all_kept : (m : Sets) → ((e : RrKey × RRset) → In e m → p e ≡ true) → filter p m ≡ m
  all_kept [] h = refl
  all_kept (e ∷ m) h = ap (λ b. cond b (e ∷ filter p m) (filter p m)) (h e (inl refl)) ∙ ap (λ es. e ∷ es) (all_kept m (λ d i. h d (inr i)))

-- ---- the sets of a chain

module _ (chain : Option NxProofKind) (m : Sets) (zone : IsZone m) where
  abbrev passes : RrKey × RRset → Bool
  passes e = stays chain e.0.record_type.0 e.1

  ascends : Ascends key_cmp (keys_of m)
  ascends = Ascends-from_sorted key_cmp (keys_of m) zone.ordered

  pub sets_are : (n : Name) (t : ℕ) (s : RRset) → set_at (chain_sets chain m) n t ≡ Some s ↔ StandsAndStays chain m n t s
  sets_are n t s = (stands, found)
    where
      stands : set_at (chain_sets chain m) n t ≡ Some s → StandsAndStays chain m n t s
      stands e =
          let r = In-from_filter passes (key n t, s) m (entry_of (chain_sets chain m) (key n t) s e) in
          (found_entry m ascends (key n t) s r.0, r.1)

      found : StandsAndStays chain m n t s → set_at (chain_sets chain m) n t ≡ Some s
      found (e, k) = found_entry (chain_sets chain m) (keys_ascend passes m ascends) (key n t) s (In-filter passes (key n t, s) m (entry_of m (key n t) s e) k)

  pub is_zone : IsZone (chain_sets chain m)
  is_zone = record {
    ordered = sorted_from_Ascends key_cmp (keys_of (chain_sets chain m)) (keys_ascend passes m ascends);
    stored = λ n t s e. zone.stored n t s ((sets_are n t s).0 e).0;
  }

-- so none of the other kind
pub one_kind : ChainSetsAreOfOneKind
one_kind m zone = record {
  nsec = λ n. none (Some kind.Nsec) NSEC3 n (λ s. refl);
  nsec3 = λ algorithm salt iterations opt_out n. none (Some (kind.Nsec3 algorithm salt iterations opt_out)) NSEC n (λ s. refl);
}
  where
    none : (chain : Option NxProofKind) (t : ℕ) (n : Name) → ((s : RRset) → stays chain t s ≡ false) → owns (chain_sets chain m) n t ≡ false
    none chain t n goes = by (set_at (chain_sets chain m) n t) refl
      where
        by : (o : Option RRset) → set_at (chain_sets chain m) n t ≡ o → is_some o ≡ false
        by None e = refl
        by (Some s) e = absurd (true≢false (sym ((sets_are chain m zone n t s).0 e).1 ∙ goes s))

-- ---- where a zone has no other sets of denial, all stay

entry_type : (m : Sets) (e : RrKey × RRset) → In e m → owns m e.0.name e.0.record_type.0 ≡ true
entry_type m e i = entry_owned m e.0.name e.0.record_type.0 e i refl

pub all_by_nsec : (m : Sets) → ((n : Name) → owns m n NSEC3 ≡ false) → chain_sets (Some kind.Nsec) m ≡ m
all_by_nsec m none = all_kept (λ e. stays (Some kind.Nsec) e.0.record_type.0 e.1) m (λ e i. by e i (e.0.record_type.0 == NSEC) (e.0.record_type.0 == NSEC3) refl)
  where
    by : (e : RrKey × RRset) → In e m → (a b : Bool) → (e.0.record_type.0 == NSEC3) ≡ b → not (a || b) || a ≡ true
    by e i true b q = refl
    by e i false true q = absurd (true≢false (sym (entry_type m e i) ∙ ap (owns m e.0.name) (eqb-true e.0.record_type.0 NSEC3 q) ∙ none e.0.name))
    by e i false false q = refl

pub all_by_nsec3 : (m : Sets) (zone : IsZone m) (algorithm : ℕ) (salt : List ℕ) (iterations : ℕ) (opt_out : Bool) → ((n : Name) → owns m n NSEC ≡ false)
    → ((n : Name) (s : RRset) → set_at m n NSEC3 ≡ Some s → has_parameters algorithm salt iterations s ≡ true) → chain_sets (Some (kind.Nsec3 algorithm salt iterations opt_out)) m ≡ m
all_by_nsec3 m zone algorithm salt iterations opt_out none all =
    all_kept (λ e. stays (Some (kind.Nsec3 algorithm salt iterations opt_out)) e.0.record_type.0 e.1) m
    (λ e i. by e i (e.0.record_type.0 == NSEC) refl (e.0.record_type.0 == NSEC3) refl)
  where
    stands : (e : RrKey × RRset) → In e m → e.0.record_type.0 ≡ NSEC3 → set_at m e.0.name NSEC3 ≡ Some e.1
    stands e i t = ap (set_at m e.0.name) (sym t) ∙ found_entry m (Ascends-from_sorted key_cmp (keys_of m) zone.ordered) e.0 e.1 i

    by : (e : RrKey × RRset) → In e m → (a : Bool) → (e.0.record_type.0 == NSEC) ≡ a → (b : Bool) → (e.0.record_type.0 == NSEC3) ≡ b
        → not (a || b) || (b && has_parameters algorithm salt iterations e.1) ≡ true
    by e i true p b q = absurd (true≢false (sym (entry_type m e i) ∙ ap (owns m e.0.name) (eqb-true e.0.record_type.0 NSEC p) ∙ none e.0.name))
    by e i false p true q = all e.0.name e.1 (stands e i (eqb-true e.0.record_type.0 NSEC3 q))
    by e i false p false q = refl
