-- The sets that prove what is said: of one name, and name after name
use Rattle.std.proofs.Common.{◌≡◌, ◌⊎◌, inl, inr, true, false, List, [], ◌∷◌, ◌++◌, refl, sym, ap, subst}
use Rattle.std.specs.Prelude.{option_and_then, option_map, option_to_list, Option, Some, None, Result, Ok, Err, IfErr, IsErrAnd}
use Rattle.std.specs.Option.{option_map_or}
use Rattle.zone_proto.specs.declared.error.ProtoError.{ProtoError}
use Rattle.zone_proto.specs.declared.nx_proof_kind.NxProofKind.{NxProofKind}
use Rattle.zone_proto.specs.declared.nx_proof_kind.NxProofKind.TheVariants as kind
use Rattle.zone_proto.specs.Names.{Name, base_name, is_root, wildcard_under}
use Rattle.lookup_types.specs.declared.lookup_error.LookupError.{LookupError}
use Rattle.lookup_types.specs.declared.lookup_error.LookupError.TheVariants as error
use Rattle.lookup_types.specs.declared.nsec3_query_info.Nsec3QueryInfo.{Nsec3QueryInfo}
use Rattle.zone_map.specs.Wildcards.{closest_encloser}
use Rattle.zone_denial.specs.Nsec3Lent.{hashed_for}
use Rattle.zone_denial.specs.NsecDenial.{closest_nsec}
use Rattle.zone_response.specs.Denials.{hashed_owner_of, wildcard_proof_by, wildcard_hashed_by, denial_by, denial_hashed_by, have_owners_by}
use Rattle.zone_response.specs.HashedDenials.{wildcard_sets, wildcard_hashed, absent_sets, absent_hashed, present_sets, present_hashed, hashed_by, have_owners, unless_root, AsksByHash}
use Rattle.zone_response.specs.Queries.{Zone}
use Rattle.zone_response.proofs.ProvableWalk.{front_had, both_have, front_lacks, rest_lacks}

-- ---- refusals

-- an error that is handed on
pub raised : {A E : Type 0} (r : Result A E) (P : E → Type 0) (e : E) → IsErrAnd r (λ k. k ≡ e) → P e → IfErr r P
raised (Ok a) P e h p = tt
raised (Err k) P e h p = subst P (sym h) p

-- lack of memory, or a refusal from which another comes
pub or_refused : {X Y : Type 0} (e : LookupError) → (X → Y) → (e ≡ error.Memory) ⊎ X → (e ≡ error.Memory) ⊎ Y
or_refused e goes (inl memory) = inl memory
or_refused e goes (inr refused) = inr (goes refused)

-- ---- of one name, by how the zone denies

-- the hash of the zone, with the parameters of a query
abbrev pub hash_in : Zone → Nsec3QueryInfo → Name → Result Name ProtoError
hash_in z q = hashed_for z.origin z.digest_of q

module _ (z : Zone) (x : Name) where
  -- a wildcard at the closest encloser
  pub wildcard_name_is : (wildcard_name : Name) → Some wildcard_name ≡ option_map wildcard_under (closest_encloser z.sets x) → closest_encloser z.sets x ≡ Some (base_name wildcard_name)
  wildcard_name_is wildcard_name e = by (closest_encloser z.sets x) e
    where
      by : (o : Option Name) → Some wildcard_name ≡ option_map wildcard_under o → o ≡ Some (base_name wildcard_name)
      by None e = cc
      by (Some a) e = ap Some (sym (ap base_name (same wildcard_name (wildcard_under a) e)))
        where
          same : (n k : Name) → Some n ≡ Some k → n ≡ k
          same n k e = cc

  pub no_wildcard_is : None ≡ option_map wildcard_under (closest_encloser z.sets x) → closest_encloser z.sets x ≡ None
  no_wildcard_is e = by (closest_encloser z.sets x) e
    where
      by : (o : Option Name) → None ≡ option_map wildcard_under o → o ≡ None
      by None e = refl
      by (Some a) e = cc

  pub not_root : (wildcard_name : Name) (o : Option Name) → Some wildcard_name ≡ option_map wildcard_under o → is_root wildcard_name ≡ false
  not_root wildcard_name None e = cc
  not_root [] (Some a) e = cc
  not_root (l ∷ ls) (Some a) e = refl

  -- for a name for which a wildcard answered
  pub starred_by_hash : (k : Option NxProofKind) (q : Nsec3QueryInfo) → AsksByHash k x (Some q)
      → option_map_or (wildcard_sets z.origin z.denials (hashed_by (hash_in z q)) q.qname.now) (closest_encloser z.sets x) [] ≡ wildcard_proof_by z k x
  starred_by_hash None q h = cc
  starred_by_hash (Some kind.Nsec) q h = cc
  starred_by_hash (Some (kind.Nsec3 algorithm salt iterations opt_out)) q h =
      λ i. option_map_or (wildcard_sets z.origin z.denials (hashed_by (hashed_owner_of z (h.algorithm i) (h.salt i) (h.iterations i))) (h.name i)) (closest_encloser z.sets x) []

  pub wildcard_names_by_hash : (k : Option NxProofKind) (q : Nsec3QueryInfo) → AsksByHash k x (Some q)
      → option_map_or (wildcard_hashed q.qname.now) (closest_encloser z.sets x) [] ≡ wildcard_hashed_by z k x
  wildcard_names_by_hash None q h = cc
  wildcard_names_by_hash (Some kind.Nsec) q h = cc
  wildcard_names_by_hash (Some (kind.Nsec3 algorithm salt iterations opt_out)) q h = λ i. option_map_or (wildcard_hashed (h.name i)) (closest_encloser z.sets x) []

  pub owners_by_hash : (k : Option NxProofKind) (q : Nsec3QueryInfo) → AsksByHash k x (Some q) → (names : List Name) → have_owners (hash_in z q) names ≡ have_owners_by z k names
  owners_by_hash None q h names = cc
  owners_by_hash (Some kind.Nsec) q h names = cc
  owners_by_hash (Some (kind.Nsec3 algorithm salt iterations opt_out)) q h names = λ i. have_owners (hashed_owner_of z (h.algorithm i) (h.salt i) (h.iterations i)) names

  pub owners_by_name : (k : Option NxProofKind) → AsksByHash k x None → (names : List Name) → have_owners_by z k names ≡ true
  owners_by_name None h names = refl
  owners_by_name (Some kind.Nsec) h names = refl
  owners_by_name (Some (kind.Nsec3 algorithm salt iterations opt_out)) h names = absurd h

  pub starred_by_name : (k : Option NxProofKind) → AsksByHash k x None → wildcard_proof_by z k x ≡ option_to_list (closest_nsec z.denials x)
  starred_by_name None h = refl
  starred_by_name (Some kind.Nsec) h = refl
  starred_by_name (Some (kind.Nsec3 algorithm salt iterations opt_out)) h = absurd h

  -- for a name that doesn't exist
  pub absent_by_hash : (k : Option NxProofKind) (q : Nsec3QueryInfo) (wildcard_name : Option Name) (w : Name) → AsksByHash k x (Some q) → Some w ≡ option_and_then unless_root wildcard_name
      → absent_sets z.origin z.denials (hashed_by (hash_in z q)) q.qname.now (base_name w) ≡ denial_by z k x wildcard_name
  absent_by_hash k q None w h e = cc
  absent_by_hash k q (Some []) w h e = cc
  absent_by_hash None q (Some (s ∷ a)) w h e = cc
  absent_by_hash (Some kind.Nsec) q (Some (s ∷ a)) w h e = cc
  absent_by_hash (Some (kind.Nsec3 algorithm salt iterations opt_out)) q (Some (s ∷ a)) w h e =
      λ i. absent_sets z.origin z.denials (hashed_by (hashed_owner_of z (h.algorithm i) (h.salt i) (h.iterations i))) (h.name i) (base_name (same w (s ∷ a) e i))
    where
      same : (n k : Name) → Some n ≡ Some k → n ≡ k
      same n k e = cc

  pub absent_names_by_hash : (k : Option NxProofKind) (q : Nsec3QueryInfo) (wildcard_name : Option Name) (w : Name) → AsksByHash k x (Some q) → Some w ≡ option_and_then unless_root wildcard_name
      → absent_hashed z.origin z.denials (hashed_by (hash_in z q)) q.qname.now (base_name w) ≡ denial_hashed_by z k x wildcard_name
  absent_names_by_hash k q None w h e = cc
  absent_names_by_hash k q (Some []) w h e = cc
  absent_names_by_hash None q (Some (s ∷ a)) w h e = cc
  absent_names_by_hash (Some kind.Nsec) q (Some (s ∷ a)) w h e = cc
  absent_names_by_hash (Some (kind.Nsec3 algorithm salt iterations opt_out)) q (Some (s ∷ a)) w h e =
      λ i. absent_hashed z.origin z.denials (hashed_by (hashed_owner_of z (h.algorithm i) (h.salt i) (h.iterations i))) (h.name i) (base_name (same w (s ∷ a) e i))
    where
      same : (n k : Name) → Some n ≡ Some k → n ≡ k
      same n k e = cc

  -- for a name that exists
  pub present_by_hash : (k : Option NxProofKind) (q : Nsec3QueryInfo) (wildcard_name : Option Name) → AsksByHash k x (Some q) → None ≡ option_and_then unless_root wildcard_name
      → present_sets z.origin z.denials (hashed_by (hash_in z q)) q.qname.now ≡ denial_by z k x wildcard_name
  present_by_hash k q (Some (s ∷ a)) h e = cc
  present_by_hash None q None h e = cc
  present_by_hash None q (Some []) h e = cc
  present_by_hash (Some kind.Nsec) q None h e = cc
  present_by_hash (Some kind.Nsec) q (Some []) h e = cc
  present_by_hash (Some (kind.Nsec3 algorithm salt iterations opt_out)) q None h e =
      λ i. present_sets z.origin z.denials (hashed_by (hashed_owner_of z (h.algorithm i) (h.salt i) (h.iterations i))) (h.name i)
  present_by_hash (Some (kind.Nsec3 algorithm salt iterations opt_out)) q (Some []) h e =
      λ i. present_sets z.origin z.denials (hashed_by (hashed_owner_of z (h.algorithm i) (h.salt i) (h.iterations i))) (h.name i)

  pub present_names_by_hash : (k : Option NxProofKind) (q : Nsec3QueryInfo) (wildcard_name : Option Name) → AsksByHash k x (Some q) → None ≡ option_and_then unless_root wildcard_name
      → present_hashed z.origin z.denials (hashed_by (hash_in z q)) q.qname.now ≡ denial_hashed_by z k x wildcard_name
  present_names_by_hash k q (Some (s ∷ a)) h e = cc
  present_names_by_hash None q None h e = cc
  present_names_by_hash None q (Some []) h e = cc
  present_names_by_hash (Some kind.Nsec) q None h e = cc
  present_names_by_hash (Some kind.Nsec) q (Some []) h e = cc
  present_names_by_hash (Some (kind.Nsec3 algorithm salt iterations opt_out)) q None h e =
      λ i. present_hashed z.origin z.denials (hashed_by (hashed_owner_of z (h.algorithm i) (h.salt i) (h.iterations i))) (h.name i)
  present_names_by_hash (Some (kind.Nsec3 algorithm salt iterations opt_out)) q (Some []) h e =
      λ i. present_hashed z.origin z.denials (hashed_by (hashed_owner_of z (h.algorithm i) (h.salt i) (h.iterations i))) (h.name i)

  pub denied_by_name : (k : Option NxProofKind) (wildcard_name : Option Name) → AsksByHash k x None → denial_by z k x wildcard_name ≡ option_to_list (closest_nsec z.denials x) ++ option_to_list (option_and_then (closest_nsec z.denials) wildcard_name)
  denied_by_name None wildcard_name h = refl
  denied_by_name (Some kind.Nsec) wildcard_name h = refl
  denied_by_name (Some (kind.Nsec3 algorithm salt iterations opt_out)) wildcard_name h = absurd h

-- ---- name after name

module _ (z : Zone) (k : Option NxProofKind) where
  pub all_have : (names more : List Name) → have_owners_by z k names ≡ true → have_owners_by z k more ≡ true → have_owners_by z k (names ++ more) ≡ true
  all_have names more f g = by k f g
    where
      by : (k : Option NxProofKind) → have_owners_by z k names ≡ true → have_owners_by z k more ≡ true → have_owners_by z k (names ++ more) ≡ true
      by (Some (kind.Nsec3 algorithm salt iterations opt_out)) f g = both_have (hashed_owner_of z algorithm salt iterations) names more f g
      by (Some kind.Nsec) f g = refl
      by None f g = refl

  pub passed_have : (names more : List Name) → have_owners_by z k names ≡ true → have_owners_by z k (names ++ more) ≡ have_owners_by z k more
  passed_have names more f = by k f
    where
      by : (k : Option NxProofKind) → have_owners_by z k names ≡ true → have_owners_by z k (names ++ more) ≡ have_owners_by z k more
      by (Some (kind.Nsec3 algorithm salt iterations opt_out)) f = front_had (hashed_owner_of z algorithm salt iterations) names more f
      by (Some kind.Nsec) f = refl
      by None f = refl

  pub none_lacks : have_owners_by z k [] ≡ true
  none_lacks = by k
    where
      by : (k : Option NxProofKind) → have_owners_by z k [] ≡ true
      by (Some (kind.Nsec3 algorithm salt iterations opt_out)) = refl
      by (Some kind.Nsec) = refl
      by None = refl

  pub first_lacks : (names more : List Name) → have_owners_by z k names ≡ false → have_owners_by z k (names ++ more) ≡ false
  first_lacks names more f = by k f
    where
      by : (k : Option NxProofKind) → have_owners_by z k names ≡ false → have_owners_by z k (names ++ more) ≡ false
      by (Some (kind.Nsec3 algorithm salt iterations opt_out)) f = front_lacks (hashed_owner_of z algorithm salt iterations) names more f
      by (Some kind.Nsec) f = f
      by None f = f

  pub others_lack : (names more : List Name) → have_owners_by z k more ≡ false → have_owners_by z k (names ++ more) ≡ false
  others_lack names more f = by k f
    where
      by : (k : Option NxProofKind) → have_owners_by z k more ≡ false → have_owners_by z k (names ++ more) ≡ false
      by (Some (kind.Nsec3 algorithm salt iterations opt_out)) f = rest_lacks (hashed_owner_of z algorithm salt iterations) names more f
      by (Some kind.Nsec) f = f
      by None f = f
