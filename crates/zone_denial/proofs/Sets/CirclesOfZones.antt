-- The sets that the names of a zone make with their digests are the NSEC3 sets that it gets
use Rattle.std.proofs.Common.{◌≡◌, ℕ, ◌==◌, ◌&&◌, cond, List, [], ◌∷◌, map, refl, sym, ap, ◌∙◌, subst, inl, inr, IsPermutation}
use Rattle.std.specs.Prelude.{Option, Some, None, IfSome, filter, filter_map, flat_map, All}
use Rattle.std.specs.List.{cons_option}
use Rattle.std.specs.List.Sorted.{IsStrictlySortedBy}
use Rattle.std.specs.Option.{IfNone}
use Rattle.std.proofs.lemmas.List.Sorted.{Contains-permutation, IsPermutation-sym}
use Rattle.zone_proto.specs.declared.rdata.RData.TheVariants as V
use Rattle.zone_proto.specs.declared.rdata.denial.NSEC3PARAM.{NSEC3PARAM as Nsec3Parameters}
use Rattle.zone_proto.specs.declared.record.Record.{Record}
use Rattle.zone_proto.specs.HashedOwners.{hashed_owner}
use Rattle.zone_proto.specs.Names.{Name, name_cmp, name_eq, is_above, proper_ancestors}
use Rattle.zone_proto.specs.Sets.{RRset}
use Rattle.zone_proto.specs.Types.{NSEC3, NSEC3PARAM}
use Rattle.zone_proto.proofs.Members.{In, In-Contains, In-map}
use Rattle.zone_proto.proofs.Names.Tree.{name_order}
use Rattle.zone_map.specs.Zones.{Sets, set_at}
use Rattle.zone_denial.specs.declared.hashed_names.HashedName.{HashedName as HeldName}
use Rattle.zone_denial.specs.declared.nsec3_names.Nsec3Name.{Nsec3Name}
use Rattle.zone_denial.specs.Covering.{next_around}
use Rattle.zone_denial.specs.HashedNames.{hashed, with_digests, circle_record, circle_records, circle_set_at, circle_sets_at}
use Rattle.zone_denial.specs.Nsec3Nodes.{name_of, types_of}
use Rattle.zone_denial.specs.Nsec3Circle.{nsec3_data, nsec3_types}
use Rattle.zone_denial.specs.Nsec3Names.{nsec3_names, counted_names}
use Rattle.zone_denial.specs.Nsec3Sets.{HashedName, hashed_cmp, hashed_names, made_record, nsec3_record, nsec3_set_at, announced_set, nsec3_sets_at, set_of}
use Rattle.zone_denial.specs.TypeLists.{in_order}
use Rattle.zone_denial.proofs.Hashed.HashedNames.{hashed_order}
use Rattle.zone_denial.proofs.InOrder.{in_order_ascends}

module _ (origin : Name) (m : Sets) (hash : Name → Option (List ℕ)) (parameters : Nsec3Parameters) (names : List Nsec3Name) (are : map name_of names ≡ nsec3_names origin m parameters.opt_out) where
  pub names_rise : IsStrictlySortedBy name_cmp (map name_of names)
  names_rise = subst (IsStrictlySortedBy name_cmp) (sym are) (in_order_ascends name_order (origin ∷ flat_map (λ n. n ∷ filter (is_above origin) (proper_ancestors n)) (counted_names origin m parameters.opt_out)))

  -- ---- the names are held with their digests in order

  module _ (held : List HeldName) (made : map hashed held ≡ in_order hashed_cmp (with_digests hash (map name_of names))) where
    are_hashed : map hashed held ≡ hashed_names origin m hash parameters.opt_out
    are_hashed = made ∙ ap (λ ns. in_order hashed_cmp (with_digests hash ns)) are

    pub held_rise : IsStrictlySortedBy hashed_cmp (map hashed held)
    held_rise = subst (IsStrictlySortedBy hashed_cmp) (sym made) (in_order_ascends hashed_order (with_digests hash (map name_of names)))

    module _ (ttl serial : ℕ) (moved : IsPermutation names (map (λ h. h.name.now) held)) (typed : All (λ n. types_of n ≡ nsec3_types origin m (name_of n)) names) where
      abbrev record_of : HashedName → Record
      record_of = nsec3_record origin m hash parameters ttl serial

      types_of_held : (h : HeldName) → In h held → types_of h.name.now ≡ nsec3_types origin m (name_of h.name.now)
      types_of_held h i =
          let named = In-Contains h.name.now (map (λ (k : HeldName). k.name.now) held) (In-map (λ (k : HeldName). k.name.now) h held i) in
          let c = Contains-permutation (map (λ (k : HeldName). k.name.now) held) names h.name.now (IsPermutation-sym names (map (λ (k : HeldName). k.name.now) held) moved) named in
          subst (λ (n : Nsec3Name). types_of n ≡ nsec3_types origin m (name_of n)) c.2 (typed c.0 h.name.now c.1)

      record_same : (h : HeldName) → In h held → circle_record origin parameters ttl held h ≡ record_of (hashed h)
      record_same h i = λ j. made_record origin m hash parameters ttl serial (hashed_owner origin h.digest) (V.NSEC3 (nsec3_data parameters (next_around hashed_cmp (are_hashed j) (hashed h)).digest (types_of_held h i j)))

      records_same : (o : Name) (hs : List HeldName) → ((h : HeldName) → In h hs → In h held)
          → circle_records origin parameters ttl held hs o ≡ filter_map (λ (h : HashedName). cond (name_eq o (hashed_owner origin h.digest)) (Some (record_of h)) None) (map hashed hs)
      records_same o [] among = refl
      records_same o (h ∷ hs) among = λ j. cons_option (cond (name_eq o (hashed_owner origin h.digest)) (Some (record_same h (among h (inl refl)) j)) None) (records_same o hs (λ k i. among k (inr i)) j)

      set_same : (o : Name) → circle_set_at origin parameters ttl held serial held o ≡ nsec3_set_at origin m hash parameters ttl serial o
      set_same o =
          ap (set_of o NSEC3 serial)
          (records_same o held (λ h i. i) ∙ ap (filter_map (λ (h : HashedName). cond (name_eq o (hashed_owner origin h.digest)) (Some (record_of h)) None)) are_hashed)

      sets_same : (n : Name) (t : ℕ) → circle_sets_at origin m parameters ttl held serial n t ≡ nsec3_sets_at origin m hash parameters ttl serial n t
      sets_same n t = ap (λ s. cond (t == NSEC3) s (cond ((t == NSEC3PARAM) && name_eq n origin) (Some (announced_set origin m hash parameters ttl serial)) None)) (set_same n)

      same_of : (lent : List HeldName) → lent ≡ held → (n : Name) (t : ℕ) → circle_sets_at origin m parameters ttl lent serial n t ≡ nsec3_sets_at origin m hash parameters ttl serial n t
      same_of lent is n t = ap (λ hs. circle_sets_at origin m parameters ttl hs serial n t) is ∙ sets_same n t

      -- the sets that are made are those, and so are those that stand where none are made
      pub made_same : (lent : List HeldName) → lent ≡ held → (made : Option Sets) → IfSome made (λ map. (n : Name) (t : ℕ) → set_at map n t ≡ circle_sets_at origin m parameters ttl lent serial n t)
          → IfSome made (λ map. (n : Name) (t : ℕ) → set_at map n t ≡ nsec3_sets_at origin m hash parameters ttl serial n t)
      made_same lent is (Some map) each = λ n t. each n t ∙ same_of lent is n t
      made_same lent is None each = tt

      pub stood_same : (lent : List HeldName) → lent ≡ held → (made : Option Sets) (stood : Name → Option RRset) (t : ℕ) → IfNone made ((n : Name) → stood n ≡ circle_sets_at origin m parameters ttl lent serial n t)
          → IfNone made ((n : Name) → stood n ≡ nsec3_sets_at origin m hash parameters ttl serial n t)
      stood_same lent is (Some map) stood t each = tt
      stood_same lent is None stood t each = λ n. each n ∙ same_of lent is n t

      pub one_same : (lent : List HeldName) → lent ≡ held → (made : Option Sets) (stood : Option RRset) (n : Name) (t : ℕ) → IfNone made (stood ≡ circle_sets_at origin m parameters ttl lent serial n t)
          → IfNone made (stood ≡ nsec3_sets_at origin m hash parameters ttl serial n t)
      one_same lent is (Some map) stood n t one = tt
      one_same lent is None stood n t one = one ∙ same_of lent is n t
