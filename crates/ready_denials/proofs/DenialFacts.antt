-- How names one label below the origin of a zone are denied by what is kept of the zone
use Rattle.std.proofs.Common.{◌≡◌, ℕ, ◌+◌, ◌<◌, ◌≤◌, Bool, true, false, ◌||◌, not, cond, if◌then◌else◌, List, [], ◌∷◌, ◌++◌, length, map, take, refl, ap, sym, subst, ◌∙◌}
use Rattle.std.specs.Borrow.{Bor}
use Rattle.std.specs.Prelude.{Option, Some, None, Result, Ok, Err, IfOk, option_and_then, option_to_list, get_or, min}
use Rattle.std.proofs.lemmas.List.{map-append, map_more, take_all}
use Rattle.std.proofs.lemmas.Simd.{map-map}
use Rattle.lookup_types.specs.declared.nsec3_query_info.Nsec3QueryInfo.{Nsec3QueryInfo}
use Rattle.zone_proto.specs.Names.{Name, same_name, wildcard_of, wildcard_under}
use Rattle.zone_proto.specs.Sets.{RRset}
use Rattle.zone_proto.specs.Types.{IN, NSEC3}
use Rattle.zone_proto.specs.declared.error.ProtoError.{ProtoError}
use Rattle.zone_proto.specs.declared.nx_proof_kind.NxProofKind.{NxProofKind}
use Rattle.zone_proto.specs.declared.nx_proof_kind.NxProofKind.TheVariants as kind
use Rattle.zone_proto.specs.declared.record.Record.{Record}
use Rattle.message_reading.specs.declared.query.Query.{Query}
use Rattle.message_writing.specs.declared.response.Group.{Group}
use Rattle.message_writing.specs.declared.response.Section.TheVariants.{Authorities}
use Rattle.message_writing.specs.declared.response_writer.ResponseWriter.{ResponseWriter}
use Rattle.message_writing.specs.KeptText.{AreKept}
use Rattle.message_writing.specs.Responses.{records_of}
use Rattle.zone_denial.specs.Nsec3Denial.{cover_owner}
use Rattle.zone_denial.specs.Nsec3Lent.{owner_cmp}
use Rattle.zone_denial.specs.NsecDenial.{closest_nsec}
use Rattle.zone_denial.specs.TypeLists.{in_order}
use Rattle.zone_map.specs.Walks.{IsChild}
use Rattle.zone_map.specs.Zones.{Sets, set_at}
use Rattle.zone_response.proofs.ApexDenials.{missing_children_are_denied}
use Rattle.zone_response.proofs.ProofSteps.{hash_in}
use Rattle.zone_response.proofs.ProvenNames.{covering_is}
use Rattle.zone_response.specs.ApexDenials.{child_denial, missing_child, IsMissingChild}
use Rattle.zone_response.specs.Denials.{denial_by, denial_hashed_by, hashed_owner_of, have_owners_by, is_provable, proofs, sent_proof, together}
use Rattle.zone_response.specs.HashedDenials.{covering, has_owner, hashed_by, AsksByHash}
use Rattle.zone_response.specs.Queries.{Zone}
use Rattle.zone_response.specs.QueryTypes.{is_no_data}
use Rattle.zone_response.specs.Responses.{negative_ttl}
use Rattle.zone_response.specs.Sections.{own_signatures, sent}
use Rattle.zone_response.specs.declared.response.Part.{Part}
use Rattle.zone_response.specs.declared.response.Part.TheVariants as part
use Rattle.zone_server.specs.Answers.{asked_of, records_sent}
use Rattle.ready_denials.specs.Denials.{hash_by, hashed_sets, is_owned, named_sets, unless_owned, IsDenialBy, IsDenied, IsHashedProof, IsKeptProof, IsProvedBy, IsWrittenDenial, Puts, PutsDenial}
use Rattle.ready_denials.specs.declared.kept_denials.HashedProof.{HashedProof}
use Rattle.ready_denials.specs.declared.kept_denials.KeptProof.{KeptProof}
use Rattle.ready_denials.specs.declared.kept_denials.ReadyDenial.{ReadyDenial}
use Rattle.ready_denials.specs.declared.kept_denials.ReadyProof.TheVariants as proof
use Rattle.zone_server.proofs.GroupFacts.{group_sent, puts_none, puts_then}
use Rattle.ready_denials.proofs.HashedDenials.{absent_is, all_hashed}
use Rattle.ready_denials.proofs.OwnersOnce.{each_once}

pub not_false : (b : Bool) → not b ≡ false → b ≡ true
not_false true e = refl
not_false false e = sym e

-- ---- a kept set is a group

abbrev lent : List Record → Bor (List Record)
lent rs = record { ref_ptr = (0, 0); now = rs }

abbrev pub group_for : Part → ℕ → RRset → Group
group_for part.Records ttl s = record { records = lent s.records; signatures = lent []; ttl = ttl }
group_for part.Signed ttl s = record { records = lent s.records; signatures = lent (own_signatures s); ttl = ttl }
group_for part.Signatures ttl s = record { records = lent []; signatures = lent (own_signatures s); ttl = ttl }

pub records_for : (p : Part) (ttl : ℕ) (s : RRset) → records_of (group_for p ttl s) ≡ records_sent (sent p ttl s)
records_for part.Records ttl s = group_sent (group_for part.Records ttl s) (sent part.Records ttl s) refl refl
records_for part.Signed ttl s = group_sent (group_for part.Signed ttl s) (sent part.Signed ttl s) refl refl
records_for part.Signatures ttl s = group_sent (group_for part.Signatures ttl s) (sent part.Signatures ttl s) refl refl

-- ---- what proves it

pair_is : (a b : Option RRset) → together [] (option_to_list a ++ option_to_list b) ≡ option_to_list a ++ option_to_list (unless_owned a b)
pair_is None None = refl
pair_is None (Some b) = refl
pair_is (Some a) None = refl
pair_is (Some a) (Some b) = by (same_name a.owner b.owner)
  where
    by : (same : Bool) → cond (same || false) (a ∷ []) (a ∷ b ∷ []) ≡ a ∷ option_to_list (if same then None else Some b)
    by true = refl
    by false = refl

module _ (z : Zone) (ttl : ℕ) (x : Name) (child : IsChild x z.origin) where
  -- by NSEC
  names_prove : (k : Option NxProofKind) (w : Option KeptProof) → IsProvedBy z ttl k (proof.Names w)
      → (have_owners_by z k (denial_hashed_by z k x (Some (wildcard_of x))) ≡ true)
      × IsKeptProof z.origin ttl (closest_nsec z.denials (wildcard_under z.origin)) w
      × (together [] (denial_by z k x (Some (wildcard_of x))) ≡ named_sets z.denials x (closest_nsec z.denials (wildcard_under z.origin)))
  names_prove k w h = by k h
    where
      pair : together [] (option_to_list (closest_nsec z.denials x) ++ option_to_list (closest_nsec z.denials (wildcard_of x)))
          ≡ named_sets z.denials x (closest_nsec z.denials (wildcard_under z.origin))
      pair =
          ap (λ n. together [] (option_to_list (closest_nsec z.denials x) ++ option_to_list (closest_nsec z.denials n))) (ap wildcard_of child.1)
          ∙ pair_is (closest_nsec z.denials x) (closest_nsec z.denials (wildcard_under z.origin))

      by : (k : Option NxProofKind) → IsProvedBy z ttl k (proof.Names w)
          → (have_owners_by z k (denial_hashed_by z k x (Some (wildcard_of x))) ≡ true)
          × IsKeptProof z.origin ttl (closest_nsec z.denials (wildcard_under z.origin)) w
          × (together [] (denial_by z k x (Some (wildcard_of x))) ≡ named_sets z.denials x (closest_nsec z.denials (wildcard_under z.origin)))
      by None h = (refl, h, pair)
      by (Some kind.Nsec) h = (refl, h, pair)
      by (Some (kind.Nsec3 algorithm salt iterations opt_out)) h = absurd h

  -- by NSEC3
  hashes_prove : (k : Option NxProofKind) (p : HashedProof) → IsProvedBy z ttl k (proof.Hashes p) → has_owner (hash_by z k x) ≡ true
      → (have_owners_by z k (denial_hashed_by z k x (Some (wildcard_of x))) ≡ true)
      × (together [] (denial_by z k x (Some (wildcard_of x))) ≡ hashed_sets z.origin z.denials (hash_by z k) x p)
  hashes_prove None p h e = absurd h
  hashes_prove (Some kind.Nsec) p h e = absurd h
  hashes_prove (Some (kind.Nsec3 algorithm salt iterations opt_out)) p h e =
      let hash : Name → Result Name ProtoError = hashed_owner_of z algorithm salt iterations in (
        ap (λ n. have_owners_by z (Some (kind.Nsec3 algorithm salt iterations opt_out)) (denial_hashed_by z (Some (kind.Nsec3 algorithm salt iterations opt_out)) x (Some (wildcard_of n)))) child.1
            ∙ all_hashed z.origin z.denials hash p h x child e,
        ap (λ n. together [] (denial_by z (Some (kind.Nsec3 algorithm salt iterations opt_out)) x (Some (wildcard_of n)))) child.1
            ∙ ap (together []) (absent_is z.origin z.denials hash p h x child)
            ∙ each_once (p.encloser ∷ (option_to_list (covering z.origin z.denials (hashed_by hash) x) ++ option_to_list p.wildcard)),
      )

  pub provable_by_names : (w : Option KeptProof) → IsProvedBy z ttl z.nx_proof_kind (proof.Names w) → is_provable z None [] (missing_child x) ≡ true
  provable_by_names w h = (names_prove z.nx_proof_kind w h).0

  pub kept_by_names : (w : Option KeptProof) → IsProvedBy z ttl z.nx_proof_kind (proof.Names w) → IsKeptProof z.origin ttl (closest_nsec z.denials (wildcard_under z.origin)) w
  kept_by_names w h = (names_prove z.nx_proof_kind w h).1

  pub sets_by_names : (w : Option KeptProof) → IsProvedBy z ttl z.nx_proof_kind (proof.Names w)
      → named_sets z.denials x (closest_nsec z.denials (wildcard_under z.origin)) ≡ proofs z None [] (missing_child x)
  sets_by_names w h = sym (names_prove z.nx_proof_kind w h).2

  pub provable_by_hashes : (p : HashedProof) → IsProvedBy z ttl z.nx_proof_kind (proof.Hashes p) → has_owner (hash_by z z.nx_proof_kind x) ≡ true
      → is_provable z None [] (missing_child x) ≡ true
  provable_by_hashes p h e = (hashes_prove z.nx_proof_kind p h e).0

  pub sets_by_hashes : (p : HashedProof) → IsProvedBy z ttl z.nx_proof_kind (proof.Hashes p) → has_owner (hash_by z z.nx_proof_kind x) ≡ true
      → hashed_sets z.origin z.denials (hash_by z z.nx_proof_kind) x p ≡ proofs z None [] (missing_child x)
  sets_by_hashes p h e = sym (hashes_prove z.nx_proof_kind p h e).1

-- ---- what is kept proves it

module _ (z : Zone) (ttl : ℕ) (x : Name) where
  pub proved_by_name : (k : Option NxProofKind) (w : Option KeptProof) → AsksByHash k x None → IsKeptProof z.origin ttl (closest_nsec z.denials (wildcard_under z.origin)) w
      → IsProvedBy z ttl k (proof.Names w)
  proved_by_name None w a h = h
  proved_by_name (Some kind.Nsec) w a h = h
  proved_by_name (Some (kind.Nsec3 algorithm salt iterations opt_out)) w a h = absurd a

  pub proved_by_hash : (k : Option NxProofKind) (q : Nsec3QueryInfo) (p : HashedProof) → AsksByHash k x (Some q) → IsHashedProof z.origin z.denials (hash_in z q) p
      → IsProvedBy z ttl k (proof.Hashes p)
  proved_by_hash None q p a h = cc
  proved_by_hash (Some kind.Nsec) q p a h = cc
  proved_by_hash (Some (kind.Nsec3 algorithm salt iterations opt_out)) q p a h =
      subst (λ n. IsHashedProof z.origin z.denials (hashed_owner_of z algorithm salt n) p) a.iterations
      (subst (λ o. IsHashedProof z.origin z.denials (hashed_owner_of z algorithm o q.iterations) p) a.salt
      (subst (λ n. IsHashedProof z.origin z.denials (hashed_owner_of z n q.salt.now q.iterations) p) a.algorithm h))

  pub hashed_in : (k : Option NxProofKind) (q : Nsec3QueryInfo) (o : Name) → AsksByHash k x (Some q) → hash_in z q x ≡ Ok o → hash_by z k x ≡ Ok o
  hashed_in None q o a h = cc
  hashed_in (Some kind.Nsec) q o a h = cc
  hashed_in (Some (kind.Nsec3 algorithm salt iterations opt_out)) q o a h =
      (λ i. hashed_owner_of z (sym a.algorithm i) (sym a.salt i) (sym a.iterations i) x) ∙ h

-- ---- the authority section, and the response

module _ (z : Zone) (soa : RRset) (d : ReadyDenial) (x : Name) (kept : IsDenialBy z soa d) where
  pub plain_put : (w₀ w₁ : ResponseWriter) (o₀ o₁ : List ℕ) → Puts (sent part.Records (negative_ttl soa) soa ∷ []) w₀ o₀ w₁ o₁ → PutsDenial z soa false x w₀ o₀ w₁ o₁
  plain_put w₀ w₁ o₀ o₁ p = record { proven = refl; put = p }

  pub signed_put : (w₀ w₁ w₂ : ResponseWriter) (o₀ o₁ o₂ : List ℕ) → is_provable z None [] (missing_child x) ≡ true
      → Puts (sent part.Signed (negative_ttl soa) soa ∷ []) w₀ o₀ w₁ o₁
      → Puts (map (sent_proof (negative_ttl soa)) (proofs z None [] (missing_child x))) w₁ o₁ w₂ o₂ → PutsDenial z soa true x w₀ o₀ w₂ o₂
  signed_put w₀ w₁ w₂ o₀ o₁ o₂ proven p q = record {
    proven = ap not proven;
    put = puts_then Authorities (sent part.Signed (negative_ttl soa) soa ∷ []) (map (sent_proof (negative_ttl soa)) (proofs z None [] (missing_child x))) w₀ w₁ w₂ o₀ o₁ o₂ p q;
  }

  pub is_denied : (limit : ℕ) (q : Query) (octets : List ℕ) → x ≡ (asked_of q).name → IsMissingChild z.sets z.origin x → (asked_of q).class ≡ IN
      → is_no_data (asked_of q).record_type ≡ false → IsWrittenDenial z soa limit q x octets → IsDenied z limit q octets
  is_denied limit q octets same gone class is_data written =
      let said = subst (λ n. IsWrittenDenial z soa limit q n octets) same written in record {
        said = child_denial z soa (asked_of q).signed (asked_of q).name;
        says = missing_children_are_denied z (asked_of q) soa kept.apex (subst (IsMissingChild z.sets z.origin) same gone) class is_data said.proven;
        sent = said.sent;
      }

-- ---- sets that prove something, put one behind the other

module _ (ttl : ℕ) where
  abbrev pub proof_at : Bor RRset → RRset
  proof_at s = sent_proof ttl s.now

  pub proofs_more : (sets : List (Bor RRset)) (i : ℕ) (x : Bor RRset) (y : RRset) (w₀ w₁ w₂ : ResponseWriter) (o₀ o₁ o₂ : List ℕ) → i < length sets → x ≡ get_or sets i x → y ≡ proof_at x
      → Puts (map proof_at (take i sets)) w₀ o₀ w₁ o₁ → Puts (y ∷ []) w₁ o₁ w₂ o₂ → Puts (map proof_at (take (i + 1) sets)) w₀ o₀ w₂ o₂
  proofs_more sets i x y w₀ w₁ w₂ o₀ o₁ o₂ inside is same p q =
      let more : map proof_at (take (i + 1) sets) ≡ map proof_at (take i sets) ++ y ∷ [] =
      map_more proof_at sets i x inside ∙ ap (λ s. map proof_at (take i sets) ++ proof_at s ∷ []) (sym is) ∙ ap (λ s. map proof_at (take i sets) ++ s ∷ []) (sym same) in
      subst (λ ss. Puts ss w₀ o₀ w₂ o₂) (sym more) (puts_then Authorities (map proof_at (take i sets)) (y ∷ []) w₀ w₁ w₂ o₀ o₁ o₂ p q)

  pub proofs_all : (sets : List (Bor RRset)) (i : ℕ) (w₀ w₁ : ResponseWriter) (o₀ o₁ : List ℕ) → length sets ≤ i
      → Puts (map proof_at (take i sets)) w₀ o₀ w₁ o₁ → Puts (map (sent_proof ttl) (map (λ (s : Bor RRset). s.now) sets)) w₀ o₀ w₁ o₁
  proofs_all sets i w₀ w₁ o₀ o₁ past p =
      subst (λ ss. Puts ss w₀ o₀ w₁ o₁) (ap (map proof_at) (take_all i sets past) ∙ sym (map-map (sent_proof ttl) (λ (s : Bor RRset). s.now) sets)) p

-- ---- what covers the wildcard

module _ (origin : Name) (there : Option RRset) (k : KeptProof) where
  pub kept_set : (ttl : ℕ) (set : Option RRset) (w : Option KeptProof) → w ≡ Some k → IsKeptProof origin ttl set w → (s : RRset) × AreKept origin (records_sent s) k.records
  kept_set ttl set w is h = by set (subst (IsKeptProof origin ttl set) is h)
    where
      by : (set : Option RRset) → IsKeptProof origin ttl set (Some k) → (s : RRset) × AreKept origin (records_sent s) k.records
      by None h = absurd h
      by (Some s) h = (sent_proof ttl s, h.1)

  pub owned_put : (ttl : ℕ) (set : Option RRset) (w : Option KeptProof) (v : ResponseWriter) (o : List ℕ) → w ≡ Some k → IsKeptProof origin ttl set w → is_owned there k.owner ≡ true
      → Puts (map (sent_proof ttl) (option_to_list (unless_owned there set))) v o v o
  owned_put ttl set w v o is h owned = by set (subst (IsKeptProof origin ttl set) is h)
    where
      by : (set : Option RRset) → IsKeptProof origin ttl set (Some k) → Puts (map (sent_proof ttl) (option_to_list (unless_owned there set))) v o v o
      by None h = absurd h
      by (Some s) h =
          subst (λ (b : Bool). Puts (map (sent_proof ttl) (option_to_list (if b then None else Some s))) v o v o) (sym owned ∙ ap (is_owned there) h.0)
          (puts_none Authorities v o)

  pub other_put : (ttl : ℕ) (set : Option RRset) (w : Option KeptProof) (v₀ v₁ : ResponseWriter) (o₀ o₁ : List ℕ) → w ≡ Some k → IsKeptProof origin ttl set w → is_owned there k.owner ≡ false
      → ((p : Part) (n : ℕ) (s : RRset) → AreKept origin (records_sent (sent p n s)) k.records → Puts (sent p n s ∷ []) v₀ o₀ v₁ o₁)
      → Puts (map (sent_proof ttl) (option_to_list (unless_owned there set))) v₀ o₀ v₁ o₁
  other_put ttl set w v₀ v₁ o₀ o₁ is h other put = by set (subst (IsKeptProof origin ttl set) is h)
    where
      by : (set : Option RRset) → IsKeptProof origin ttl set (Some k) → Puts (map (sent_proof ttl) (option_to_list (unless_owned there set))) v₀ o₀ v₁ o₁
      by None h = absurd h
      by (Some s) h =
          subst (λ (b : Bool). Puts (map (sent_proof ttl) (option_to_list (if b then None else Some s))) v₀ o₀ v₁ o₁) (sym other ∙ ap (is_owned there) h.0)
          (put part.Signed (min s.ttl ttl) s h.1)

pub none_put : (origin : Name) (there : Option RRset) (ttl : ℕ) (set : Option RRset) (w : Option KeptProof) (v : ResponseWriter) (o : List ℕ) → w ≡ None → IsKeptProof origin ttl set w
    → Puts (map (sent_proof ttl) (option_to_list (unless_owned there set))) v o v o
none_put origin there ttl set w v o is h = by set (subst (IsKeptProof origin ttl set) is h)
  where
    by : (set : Option RRset) → IsKeptProof origin ttl set None → Puts (map (sent_proof ttl) (option_to_list (unless_owned there set))) v o v o
    by None h = puts_none Authorities v o
    by (Some s) h = absurd h

-- ---- the sets of a proof

pub named_put : (m : Sets) (x : Name) (ttl : ℕ) (set cover : Option RRset) (w₀ w₁ w₂ : ResponseWriter) (o₀ o₁ o₂ : List ℕ) → cover ≡ closest_nsec m x
    → Puts (map (sent_proof ttl) (option_to_list cover)) w₀ o₀ w₁ o₁ → Puts (map (sent_proof ttl) (option_to_list (unless_owned cover set))) w₁ o₁ w₂ o₂
    → Puts (map (sent_proof ttl) (named_sets m x set)) w₀ o₀ w₂ o₂
named_put m x ttl set cover w₀ w₁ w₂ o₀ o₁ o₂ is p q =
    let f = sent_proof ttl in
    subst (λ (c : Option RRset). Puts (map f (option_to_list c ++ option_to_list (unless_owned c set))) w₀ o₀ w₂ o₂) is
    (subst (λ ss. Puts ss w₀ o₀ w₂ o₂) (sym (map-append f (option_to_list cover) (option_to_list (unless_owned cover set))))
    (puts_then Authorities (map f (option_to_list cover)) (map f (option_to_list (unless_owned cover set))) w₀ w₁ w₂ o₀ o₁ o₂ p q))

pub hashed_are : (z : Zone) (k : Option NxProofKind) (x owner : Name) (p : HashedProof) (cover wildcard_is : Option RRset) → hash_by z k x ≡ Ok owner
    → cover ≡ option_and_then (λ o. set_at z.denials o NSEC3) (cover_owner z.denials owner) → wildcard_is ≡ p.wildcard
    → in_order owner_cmp (p.encloser ∷ (option_to_list cover ++ option_to_list wildcard_is)) ≡ hashed_sets z.origin z.denials (hash_by z k) x p
hashed_are z k x owner p cover wildcard_is hashed covers is =
    (λ i. in_order owner_cmp (p.encloser ∷ (option_to_list ((covers ∙ covering_is (hash_by z k) z.origin z.denials x owner hashed) i) ++ option_to_list (is i))))

pub both_ok : {A E : Type 0} (r : Result A E) (P Q : A → Type 0) → IfOk r P → IfOk r Q → IfOk r (λ a. P a × Q a)
both_ok (Ok a) P Q p q = (p, q)
both_ok (Err e) P Q p q = tt
