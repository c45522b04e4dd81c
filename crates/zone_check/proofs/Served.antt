-- What is reported of a zone's denials is so of what a server makes of its file
use Rattle.std.proofs.Common.{◌≡◌, ℕ, Bool, true, false, cond, not, ◌&&◌, List, [], ◌∷◌, ◌++◌, map, refl, sym, ap, ◌∙◌, subst, true≢false, ◌⊎◌, inl, inr, arith}
use Rattle.std.specs.Prelude.{Option, Some, None, Ok, is_some, option_and_then, option_map, length, nat_lt, slice_get, unwrap_or}
use Rattle.std.specs.Option.{option_map_or, option_or}
use Rattle.std.proofs.lemmas.Bool.{ltb-true}
use Rattle.zone_proto.specs.declared.error.ProtoError.TheVariants.{NameTooLong}
use Rattle.zone_proto.specs.declared.nx_proof_kind.NxProofKind.{NxProofKind}
use Rattle.zone_proto.specs.declared.nx_proof_kind.NxProofKind.TheVariants as kind
use Rattle.zone_proto.specs.declared.rdata.RData.{RData}
use Rattle.zone_proto.specs.declared.rdata.RData.TheVariants as V
use Rattle.zone_proto.specs.declared.rdata.denial.NSEC3PARAM.{NSEC3PARAM as Nsec3Parameters}
use Rattle.zone_proto.specs.declared.record.Record.{Record}
use Rattle.zone_proto.specs.declared.rr_key.RrKey.{RrKey}
use Rattle.zone_proto.specs.Faults.{fault_of, first_of_faults, length_fault}
use Rattle.zone_proto.specs.HashedOwners.{hashed_owner, name_or_fault, owner_or_refusal}
use Rattle.zone_proto.specs.Keys.{key, key_eq}
use Rattle.zone_proto.specs.Names.{Name, IsAbove, IsAtOrAbove, IsName, is_at_or_above, lower, wire_length}
use Rattle.zone_proto.specs.Sets.{RRset, first_serial}
use Rattle.zone_proto.specs.Types.{NS, SOA, NSEC, NSEC3, NSEC3PARAM, DNAME}
use Rattle.zone_proto.proofs.Members.{In, In-from_filter, and_left, and_right}
use Rattle.zone_proto.proofs.Names.LabelFaults.{label_fault-none}
use Rattle.zone_proto.proofs.Names.NameTree.{is_at_or_above_sound}
use Rattle.zone_proto.proofs.Names.Tree.{above_cases}
use Rattle.zone_proto.proofs.Ordering.KeyOrder.{key_same}
use Rattle.zone_map.specs.Zones.{Sets, IsZone, owns, set_at}
use Rattle.zone_map.proofs.Owned.{set_of}
use Rattle.zone_denial.specs.Chains.{chain_sets, has_parameters, IsNsecChain, IsNsec3Chain}
use Rattle.zone_denial.specs.Nsec3Zones.{hash_with}
use Rattle.zone_denial.proofs.Chains.ChainSets.{sets_are}
use Rattle.zone_denial.proofs.Names.LongestAncestors.{above_shorter}
use Rattle.zone_file.specs.declared.placed.PlacedRecord.{PlacedRecord}
use Rattle.zone_file.specs.declared.error.ZoneFault.{ZoneFault}
use Rattle.zone_file.specs.Zones.{Read, Stopped}
use Rattle.zone_texts.specs.Readings.{IsReadOf}
use Rattle.zone_publication.specs.declared.dates.Period.{Period}
use Rattle.zone_check.specs.Publications.{is_ready, IsFit, IsZoneOfFiles}
use Rattle.zone_texts.specs.Inclusions.{Files, records_of as records_of_files}
use Rattle.zone_builder.specs.declared.given.GivenRecord.{GivenRecord}
use Rattle.zone_builder.specs.declared.loading.Loaded.{Loaded}
use Rattle.zone_builder.specs.DenialKinds.{announced_kind, chain_kind, first_kind, hashed_kind, named_kind, nsec3_set_of, opts_out}
use Rattle.zone_builder.specs.declared.fault.LoadFault.{LoadFault}
use Rattle.zone_builder.specs.declared.fault.LoadFault.TheVariants as fault
use Rattle.zone_builder.specs.Faults.{apex_fault, class_fault, first_of, has_denials, soa_fault}
use Rattle.zone_builder.specs.Records.{given_at, is_data_of, is_of_set, is_signature, records_of, set_key, signing_at}
use Rattle.zone_builder.specs.Sets.{loaded_serial, signed_set_of}
use Rattle.zone_sha1.specs.Digests.{name_digest}
use Rattle.zone_database.specs.declared.zone.Zone.{Zone}
use Rattle.file_origins.specs.Origins.{origin_of}
use Rattle.zone_database.specs.Files.{IsZoneOfFile}
use Rattle.zone_database.specs.Texts.{given_of, IsLoaded, IsText, IsZoneOf}
use Rattle.zone_database.specs.Zones.{denial_kind, served_zone, zone_of_records}
use Rattle.zone_database.proofs.OwnDenials.{zones_lend_their_chain}
use Rattle.response_laws.specs.HashedSayings.{DeniesByNsec3}
use Rattle.response_laws.specs.ProvedSayings.{DeniesByNsec, IsUnreferred}
use Rattle.zone_check.specs.Denials.{announced, first_announced, served, DeniesRightly}
use Rattle.zone_check.proofs.SameSets.{same_sets}

-- ---- the zone that is served

pub same_zone : (origin : Name) (gs : List GivenRecord) (loaded : Loaded) (z : Zone) → IsLoaded origin gs loaded → IsZoneOf origin gs z → served loaded ≡ served_zone z
same_zone origin gs loaded z h made =
    let records = same_sets loaded.records z.inner.records h.zone made.zone (λ n t. h.sets n t ∙ sym (made.sets n t)) in
    let same : zone_of_records loaded.origin loaded.records ≡ zone_of_records origin z.inner.records = λ i. zone_of_records (h.at i) (records i) in
    ap served_zone (same ∙ sym made.made)

pub served_rightly : (origin : Name) (gs : List GivenRecord) (loaded : Loaded) → IsLoaded origin gs loaded → DeniesRightly (served loaded) → (z : Zone) → IsZoneOf origin gs z → DeniesRightly (served_zone z)
served_rightly origin gs loaded h right z made = subst DeniesRightly (same_zone origin gs loaded z h made) right

-- what was loaded is fit where it is ready
pub fit : (strict : Bool) (period : Option Period) (origin : Name) (gs : List GivenRecord) (loaded : Loaded) → IsLoaded origin gs loaded
    → is_ready strict period loaded.origin loaded.records ≡ true → IsFit strict period origin gs
fit strict period origin gs loaded h ready = record {
  faultless = h.faultless;
  ready = λ z made.
      let records : loaded.records ≡ z.inner.records = same_sets loaded.records z.inner.records h.zone made.zone (λ n t. h.sets n t ∙ sym (made.sets n t)) in
      let same : is_ready strict period loaded.origin loaded.records ≡ is_ready strict period origin z.inner.records = λ i. is_ready strict period (h.at i) (records i) in
      sym same ∙ ready;
}

-- ---- the records that are read of a text

same_records : (rs qs : List PlacedRecord) → map Read rs ≡ map Read qs → rs ≡ qs
same_records [] [] e = refl
same_records [] (q ∷ qs) e = absurd cc
same_records (r ∷ rs) [] e = absurd cc
same_records (r ∷ rs) (q ∷ qs) e = let first : r ≡ q = cc in let rest = same_records rs qs cc in λ i. first i ∷ rest i

-- a zone of the text is a zone of these records
pub zone_of_read : (named : Option Name) (text : List ℕ) (rs : List PlacedRecord) (z : Zone) → IsText (unwrap_or named []) text rs → IsZoneOfFile named text z
    → IsZoneOf (lower (origin_of named rs)) (map given_of rs) z
zone_of_read named text rs z read file =
    subst (λ (qs : List PlacedRecord). IsZoneOf (lower (origin_of named qs)) (map given_of qs) z) (same_records file.records rs (sym file.read ∙ read)) file.zone

-- and so it is with those that a file includes
pub zone_of_files : (named : Option Name) (files : Files) (file : List ℕ) (rs : List PlacedRecord) (z : Zone) → records_of_files files (unwrap_or named []) file ≡ Some rs → IsZoneOfFiles named files file z
    → IsZoneOf (lower (origin_of named rs)) (map given_of rs) z
zone_of_files named files file rs z read is =
    let both : Some is.records ≡ Some rs = sym is.read ∙ read in
    let same : is.records ≡ rs = cc in
    subst (λ (qs : List PlacedRecord). IsZoneOf (lower (origin_of named qs)) (map given_of qs) z) same is.zone

-- a text that makes a zone has no fault
no_end : (qs rs : List PlacedRecord) (f : ZoneFault) → map Read qs ≡ map Read rs ++ Stopped f ∷ [] → ⊥
no_end [] [] f e = absurd cc
no_end [] (r ∷ rs) f e = absurd cc
no_end (q ∷ qs) [] f e = absurd cc
no_end (q ∷ qs) (r ∷ rs) f e = let rest : map Read qs ≡ map Read rs ++ Stopped f ∷ [] = cc in no_end qs rs f rest

-- so what is read of it with the texts that it includes is what is read of it
pub zone_of_reading : (named : Option Name) (text : List ℕ) (rs : List PlacedRecord) (z : Zone) → IsReadOf (unwrap_or named []) text rs → IsZoneOfFile named text z
    → IsZoneOf (lower (origin_of named rs)) (map given_of rs) z
zone_of_reading named text rs z (inl read) file = zone_of_read named text rs z read file
zone_of_reading named text rs z (inr (f, (qs, ends))) file = absurd (no_end file.records qs f (sym file.read ∙ ends))

-- ---- nothing at the origin or above it refers elsewhere

nothing_left : {A : Type 0} (xs : List A) → ((x : A) → In x xs → ⊥) → xs ≡ []
nothing_left [] none = refl
nothing_left (x ∷ xs) none = absurd (none x (inl refl))

module _ (origin : Name) (gs : List GivenRecord) (loaded : Loaded) (h : IsLoaded origin gs loaded) where
  -- no record is given of a name above the origin
  none_above : (a : Name) (t : ℕ) → IsAbove a origin → given_at origin gs a t ≡ []
  unfolding is_data_of is_of_set
  none_above a t above = nothing_left (given_at origin gs a t) none
    where
      none : (g : GivenRecord) → In g (given_at origin gs a t) → ⊥
      none g i =
          let passes = (In-from_filter (is_data_of origin (key a t)) g gs i).1 in
          let of_set = and_right (not (is_signature g.record.rdata)) (is_at_or_above origin (lower g.record.name) && key_eq (set_key g.record) (key a t)) passes in
          let inside = is_at_or_above_sound origin (lower g.record.name) (and_left (is_at_or_above origin (lower g.record.name)) (key_eq (set_key g.record) (key a t)) of_set) in
          let same = ap (λ (k : RrKey). k.name) (key_same (set_key g.record) (key a t) (and_right (is_at_or_above origin (lower g.record.name)) (key_eq (set_key g.record) (key a t)) of_set)) in
          by (above_cases origin a (subst (IsAtOrAbove origin) same inside))
        where
          by : (origin ≡ a) ⊎ IsAbove origin a → ⊥
          by (inl e) = absurd (omega (arith, above_shorter a origin above, ap (λ (n : Name). length n) e))
          by (inr w) = absurd (omega (arith, above_shorter a origin above, above_shorter origin a w))

  owns_none : (a : Name) (t : ℕ) → IsAbove a origin → owns loaded.records a t ≡ false
  owns_none a t above =
      ap is_some (h.sets a t ∙ ap (λ (rs : List GivenRecord). signed_set_of (loaded_serial origin gs) rs (signing_at origin gs a t)) (none_above a t above))

  no_first : (a b : Option LoadFault) → option_or a b ≡ None → (a ≡ None) × (b ≡ None)
  no_first None b e = (refl, e)
  no_first (Some x) b e = absurd cc

  first_none : (a b : Option LoadFault) → option_or a b ≡ None → a ≡ None
  first_none a b e = (no_first a b e).0

  no_soa_fault : soa_fault origin gs ≡ None
  no_soa_fault =
      let apex = apex_fault origin (has_denials origin gs) (λ t. first_of (given_at origin gs origin t)) in
      (no_first (soa_fault origin gs) apex (no_first (class_fault gs) (option_or (soa_fault origin gs) apex) h.faultless.records).1).0

  owns_soa : owns loaded.records origin SOA ≡ true
  owns_soa = ap is_some (h.sets origin SOA) ∙ by (given_at origin gs origin SOA) no_soa_fault
    where
      by : (rs : List GivenRecord) → option_map_or (λ serial. None) (first_serial (records_of rs)) (Some (fault.NoSoa origin)) ≡ None
          → is_some (signed_set_of (loaded_serial origin gs) rs (signing_at origin gs origin SOA)) ≡ true
      by [] e = absurd cc
      by (g ∷ rs) e = refl

  pub unreferred : IsUnreferred (served loaded)
  unreferred = record {
    unreferred = λ a at owned. of a owned (above_cases a loaded.origin at);
    no_dname = λ a above. owns_none a DNAME (subst (IsAbove a) h.at above);
  }
    where
      of : (a : Name) → owns loaded.records a NS ≡ true → (a ≡ loaded.origin) ⊎ IsAbove a loaded.origin → owns loaded.records a SOA ≡ true
      of a owned (inl e) = ap (λ w. owns loaded.records w SOA) (e ∙ h.at) ∙ owns_soa
      of a owned (inr w) = absurd (true≢false (sym owned ∙ owns_none a NS (subst (IsAbove a) h.at w)))

-- ---- a chain that is found closed is the one by which the zone denies

module _ (loaded : Loaded) (zone : IsZone loaded.records) where
  abbrev m : Sets
  m = loaded.records

  abbrev origin_at : Name
  origin_at = loaded.origin

  abbrev kind_at : Option NxProofKind
  kind_at = denial_kind loaded.origin loaded.records

  lent : (k : Option NxProofKind) → kind_at ≡ k → (served loaded).denials ≡ chain_sets k m
  lent k e = zones_lend_their_chain origin_at m ∙ ap (λ (o : Option NxProofKind). chain_sets o m) e

  pub by_nsec : IsUnreferred (served loaded) → kind_at ≡ Some kind.Nsec → IsNsecChain origin_at (chain_sets (Some kind.Nsec) m) → DeniesByNsec (served loaded)
  by_nsec top k chain = record {
    kind = k;
    zone = zone;
    denials = zones_lend_their_chain origin_at m;
    chain = subst (IsNsecChain origin_at) (sym (lent (Some kind.Nsec) k)) chain;
    top = top;
  }

  pub by_nsec3 : IsUnreferred (served loaded) → (p : Nsec3Parameters) → kind_at ≡ Some (kind.Nsec3 p.algorithm p.salt p.iterations p.opt_out)
      → (names : List Name) × IsNsec3Chain origin_at m (chain_sets (Some (kind.Nsec3 p.algorithm p.salt p.iterations p.opt_out)) m) (hash_with name_digest p) p names
      → (q : Nsec3Parameters) × DeniesByNsec3 (served loaded) q
  by_nsec3 top p k chain = (
    p,
    record {
      flag = p.opt_out;
      kind = k;
      zone = zone;
      denials = zones_lend_their_chain origin_at m;
      names = chain.0;
      chain = subst (λ (d : Sets). IsNsec3Chain origin_at m d (hash_with name_digest p) p chain.0) (sym (lent (Some (kind.Nsec3 p.algorithm p.salt p.iterations p.opt_out)) k)) chain.1;
      top = top;
    },
  )

  -- ---- where nothing says by what the zone denies, there is none

  no_kind : (a b : Option NxProofKind) → option_or a b ≡ None → (a ≡ None) × (b ≡ None)
  no_kind None b e = (refl, e)
  no_kind (Some x) b e = absurd cc

  abbrev announced_chain : Option NxProofKind
  announced_chain = option_and_then (λ (s : RRset). first_kind origin_at m name_digest s.records) (set_at m origin_at NSEC3PARAM)

  pub none_by_nsec : kind_at ≡ None → IsNsecChain origin_at (chain_sets (Some kind.Nsec) m) → ⊥
  none_by_nsec none chain =
      let found = set_of (chain_sets (Some kind.Nsec) m) origin_at NSEC chain.begins in
      let there = ((sets_are (Some kind.Nsec) m zone origin_at NSEC found.0).0 found.1).0 in
      by (sym (ap (option_map (λ _. kind.Nsec)) there) ∙ (no_kind announced_chain (named_kind origin_at m) none).1)
    where
      by : Some kind.Nsec ≡ None → ⊥
      by e = cc

  module _ (p : Nsec3Parameters) where
    -- an owner that is a name has no fault
    no_fault : (n : Name) → IsName n → fault_of n ≡ None
    no_fault n named = ap (λ f. first_of_faults f (length_fault n)) (label_fault-none n named.labels) ∙ by (nat_lt 255 (wire_length n)) refl
      where
        by : (b : Bool) → nat_lt 255 (wire_length n) ≡ b → cond b (Some NameTooLong) None ≡ None
        by false e = refl
        by true e = absurd (omega (arith, named.short, ltb-true 255 (wire_length n) e))

    owner_is : (d : List ℕ) → hash_with name_digest p origin_at ≡ Some d → IsName (hashed_owner origin_at d) → owner_or_refusal origin_at (hash_with name_digest p origin_at) ≡ Ok (hashed_owner origin_at d)
    owner_is d e named = ap (owner_or_refusal origin_at) e ∙ ap (name_or_fault (hashed_owner origin_at d)) (no_fault (hashed_owner origin_at d) named)

    abbrev chain : Option NxProofKind
    chain = Some (kind.Nsec3 p.algorithm p.salt p.iterations p.opt_out)

    -- the chain of which the origin has a set is one by which a zone denies
    kind_of_chain : (d : List ℕ) → hash_with name_digest p origin_at ≡ Some d → owns (chain_sets chain m) (hashed_owner origin_at d) NSEC3 ≡ true → hashed_kind origin_at m name_digest p ≡ None → ⊥
    kind_of_chain d e owned none =
        let found = set_of (chain_sets chain m) (hashed_owner origin_at d) NSEC3 owned in
        let there = (sets_are chain m zone (hashed_owner origin_at d) NSEC3 found.0).0 found.1 in
        let owner = owner_is d e (zone.stored (hashed_owner origin_at d) NSEC3 found.0 there.0).named in
        by found.0 there.1 (sym (ap (λ o. option_and_then (chain_kind p) (nsec3_set_of m o)) owner ∙ ap (option_and_then (chain_kind p)) there.0) ∙ none)
      where
        by : (s : RRset) → has_parameters p.algorithm p.salt p.iterations s ≡ true → chain_kind p s ≡ None → ⊥
        by s has none = some_none (sym (ap (λ b. cond b (Some (kind.Nsec3 p.algorithm p.salt p.iterations (opts_out s))) None) has) ∙ none)
          where
            some_none : Some (kind.Nsec3 p.algorithm p.salt p.iterations (opts_out s)) ≡ None → ⊥
            some_none e = cc

    -- the first announced chain is no such
    no_announced : (s : Option RRset) → option_and_then (λ (x : RRset). first_kind origin_at m name_digest x.records) s ≡ None
        → option_and_then (λ (x : RRset). option_and_then (λ (r : Record). announced r.rdata) (slice_get x.records 0)) s ≡ Some p → hashed_kind origin_at m name_digest p ≡ None
    no_announced None e f = absurd cc
    no_announced (Some s) e f = by s.records e f
      where
        of : (d : RData) → announced d ≡ Some p → announced_kind origin_at m name_digest d ≡ None → hashed_kind origin_at m name_digest p ≡ None
        of (V.NSEC3PARAM q) f e = subst (λ (w : Nsec3Parameters). hashed_kind origin_at m name_digest w ≡ None) (same f) e
          where
            same : {a b : Nsec3Parameters} → Some a ≡ Some b → a ≡ b
            same g = cc
        of d f e = absurd cc

        by : (rs : List Record) → first_kind origin_at m name_digest rs ≡ None → option_and_then (λ (r : Record). announced r.rdata) (slice_get rs 0) ≡ Some p → hashed_kind origin_at m name_digest p ≡ None
        by [] e f = absurd cc
        by (r ∷ rs) e f = of r.rdata f (no_kind (announced_kind origin_at m name_digest r.rdata) (first_kind origin_at m name_digest rs) e).0

    pub none_by_nsec3 : kind_at ≡ None → Some p ≡ first_announced origin_at m
        → (d : List ℕ) × (hash_with name_digest p origin_at ≡ Some d) × (owns (chain_sets chain m) (hashed_owner origin_at d) NSEC3 ≡ true) → ⊥
    none_by_nsec3 none is begins =
        kind_of_chain begins.0 begins.1 begins.2 (no_announced (set_at m origin_at NSEC3PARAM) (no_kind announced_chain (named_kind origin_at m) none).0 (sym is))
