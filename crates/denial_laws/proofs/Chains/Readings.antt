-- What a validator reads in the NSEC sets of a chain: of each owner its next name and its types
use Rattle.std.proofs.Common.{◌≡◌, ◌≢◌, ℕ, Bool, true, false, not, ◌||◌, [], ◌∷◌, refl, sym, ap, ◌∙◌, subst, inl, inr, true≢false, eqb-true, eq-eqb}
use Rattle.std.specs.Prelude.{Some, List, is_some, option_and_then, slice_index_or, ◌==◌}
use Rattle.std.specs.List.{Contains}
use Rattle.zone_proto.specs.Names.{Name, name_cmp, lower}
use Rattle.zone_proto.specs.Sets.{RRset}
use Rattle.zone_proto.specs.Types.{NSEC, RRSIG}
use Rattle.zone_proto.proofs.Members.{In, In-Contains, Contains-In, In-from_any, any_from_In, or_right}
use Rattle.zone_proto.proofs.Names.Tree.{name_order}
use Rattle.zone_proto.proofs.Ordering.KeyOrder.{equal_of}
use Rattle.zone_map.specs.Zones.{Sets, set_at, owns}
use Rattle.zone_denial.specs.Chains.{is_delegation, is_stated_at_delegation, is_stated, IsNsecChain, next_owner}
use Rattle.zone_denial.specs.NsecCircle.{types_of}
use Rattle.zone_denial.specs.NsecDenial.{nsec_denial}
use Rattle.zone_denial.proofs.Chains.NsecLists.{listed_types, types_are, list_exact}
use Rattle.denial_validation.specs.NsecProofs.{lists}
use Rattle.denial_validation.specs.NsecRecords.{NsecRecord, nsec_records}
use Rattle.denial_laws.specs.Scope.{denial_records, AreOfZone}
use Rattle.denial_laws.proofs.Readings.{read_single, read_from}

module _ (origin : Name) (m : Sets) (h : IsNsecChain origin m) where
  -- what is read in an owner's set
  abbrev pub record_at : Name → NsecRecord
  record_at o = record { owner = o; next = next_owner origin m o; types = listed_types m o }

  list_said : (o : Name) (s : RRset) → set_at m o NSEC ≡ Some s → types_of s ≡ Some (listed_types m o)
  list_said o s e = sym (ap (option_and_then types_of) e) ∙ types_are origin m h o (ap is_some e)

  pub read_set : (o : Name) (s : RRset) → set_at m o NSEC ≡ Some s → nsec_records s.records ≡ record_at o ∷ []
  read_set o s e =
      let c = h.each o s e in
      let stored = h.zone.stored o NSEC s e in
      read_single o (next_owner origin m o) (listed_types m o) s.records c.single c.next (list_said o s e)
      (λ k d l.
      let n : Name = lower (slice_index_or s.records k d).name in
      name_order.exact n (lower s.owner) (equal_of (name_cmp n (lower s.owner)) (stored.set.owners k d l)) ∙ stored.owner)

  -- ---- the records of a denial

  -- what is read in the set of a denying owner is shown
  pub shown : (x o : Name) (s : RRset) → Contains (nsec_denial origin m x) s → set_at m o NSEC ≡ Some s → In (record_at o) (denial_records origin m x)
  shown x o s i e = read_from (nsec_denial origin m x) s (record_at o) (Contains-In s (nsec_denial origin m x) i) (subst (In (record_at o)) (sym (read_set o s e)) (inl refl))

  -- a record of the zone is that of an owner
  pub of_owner : (rs : List NsecRecord) → AreOfZone m rs → (r : NsecRecord) → In r rs → (o : Name) × (owns m o NSEC ≡ true) × (r ≡ record_at o)
  of_owner rs zone r i = by (zone r (In-Contains r rs i))
    where
      by : (o : Name) × (s : RRset) × (set_at m o NSEC ≡ Some s) × Contains (nsec_records s.records) r → (o : Name) × (owns m o NSEC ≡ true) × (r ≡ record_at o)
      by (o, s, e, c) = (o, ap is_some e, one (subst (In r) (read_set o s e) (Contains-In r (nsec_records s.records) c)))
        where
          one : In r (record_at o ∷ []) → r ≡ record_at o
          one (inl e) = sym e
          one (inr i) = absurd i

  -- ---- what is listed, if the list tells of it

  pub call_concludes : (o : Name) (t : ℕ) → is_stated_at_delegation t ≡ true → is_stated origin m o t ≡ true
  call_concludes o t k = or_right (not (is_delegation origin m o)) (is_stated_at_delegation t) k

  not_signature : (t : ℕ) → is_stated_at_delegation t ≡ true → t ≢ RRSIG
  not_signature t k e = true≢false (sym k ∙ ap is_stated_at_delegation e)

  pub tells_all : (o : Name) (t : ℕ) → is_delegation origin m o ≡ false → is_stated origin m o t ≡ true
  tells_all o t d = ap (λ b. not b || is_stated_at_delegation t) d

  pub listed_owned : (o : Name) (t : ℕ) → owns m o NSEC ≡ true → t ≢ RRSIG → is_stated origin m o t ≡ true → lists (record_at o) t ≡ true → owns m o t ≡ true
  listed_owned o t on a k e =
      let r = In-from_any (λ u. u == t) (listed_types m o) e in
      (list_exact origin m h o on t a k).0 (In-Contains t (listed_types m o) (subst (λ u. In u (listed_types m o)) (eqb-true r.0 t r.2) r.1))

  pub owned_listed : (o : Name) (t : ℕ) → owns m o NSEC ≡ true → t ≢ RRSIG → is_stated origin m o t ≡ true → owns m o t ≡ true → lists (record_at o) t ≡ true
  owned_listed o t on a k owned = any_from_In (λ u. u == t) t (listed_types m o) (Contains-In t (listed_types m o) ((list_exact origin m h o on t a k).1 owned)) (eq-eqb t t refl)

  pub unlisted : (o : Name) (t : ℕ) → owns m o NSEC ≡ true → t ≢ RRSIG → is_stated origin m o t ≡ true → owns m o t ≡ false → lists (record_at o) t ≡ false
  unlisted o t on a k none = by (lists (record_at o) t) refl
    where
      by : (c : Bool) → lists (record_at o) t ≡ c → c ≡ false
      by true e = absurd (true≢false (sym (listed_owned o t on a k e) ∙ none))
      by false e = refl

  -- of the four types of which each list tells

  pub told_listed : (o : Name) (t : ℕ) → is_stated_at_delegation t ≡ true → owns m o NSEC ≡ true → owns m o t ≡ true → lists (record_at o) t ≡ true
  told_listed o t k on = owned_listed o t on (not_signature t k) (call_concludes o t k)

  pub told_owned : (o : Name) (t : ℕ) → is_stated_at_delegation t ≡ true → owns m o NSEC ≡ true → lists (record_at o) t ≡ true → owns m o t ≡ true
  told_owned o t k on = listed_owned o t on (not_signature t k) (call_concludes o t k)

  pub told_unlisted : (o : Name) (t : ℕ) → is_stated_at_delegation t ≡ true → owns m o NSEC ≡ true → owns m o t ≡ false → lists (record_at o) t ≡ false
  told_unlisted o t k on = unlisted o t on (not_signature t k) (call_concludes o t k)
