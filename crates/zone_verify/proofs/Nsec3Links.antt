-- The links of a chain of NSEC3 sets, and its owners
use Rattle.std.proofs.Common.{◌≡◌, ◌⊎◌, inl, inr, ℕ, zero, suc, ◌<◌, ◌≤◌, ◌+◌, List, [], ◌∷◌, map, length, get_or, true, false, refl, sym, ap, ◌∙◌, subst, arith, IsSorted, is_lt, Less, true≢false}
use Rattle.std.specs.Prelude.{Option}
use Rattle.std.specs.List.{Contains}
use Rattle.std.specs.Cmp.Lexicographic.{nat_list_cmp_total}
use Rattle.std.proofs.Math.Numerals.{add-one}
use Rattle.std.proofs.Math.ListN.{get_or-map}
use Rattle.std.proofs.lemmas.List.{length-map}
use Rattle.std.proofs.lemmas.Map.Keys.{sorted_from_all_adjacent}
use Rattle.std.proofs.lemmas.Map.Lookups.{exact_bytes}
use Rattle.zone_proto.specs.declared.nx_proof_kind.NxProofKind.{NxProofKind}
use Rattle.zone_proto.specs.declared.rr_key.RrKey.{RrKey}
use Rattle.zone_proto.specs.Names.{octets_cmp}
use Rattle.zone_proto.specs.Sets.{RRset}
use Rattle.zone_proto.specs.Types.{NSEC3}
use Rattle.zone_proto.proofs.Ordering.Orders.{IsOrder, Side, before, same, after, side}
use Rattle.zone_denial.specs.Chains.{stays}
use Rattle.zone_denial.specs.Nsec3Circle.{next_digest}
use Rattle.zone_denial.proofs.Ascending.{Ascends, Ascends-from_sorted}
use Rattle.zone_denial.proofs.Hashed.NextAround.{next_at, first_at}
use Rattle.zone_verify.specs.declared.nsec3_name.ChainName.{ChainName}
use Rattle.zone_verify.specs.Order.{digest_cmp}

-- an entry of NSEC3 of the chain has the owner of one of the names
abbrev pub IsOwned : Option NxProofKind → List ChainName → RrKey × RRset → Type 0
IsOwned kind names e = e.0.record_type.0 ≡ NSEC3 → stays kind e.0.record_type.0 e.1 ≡ true → (c : ChainName) × Contains names c × (c.owner ≡ e.0.name)

-- ---- links

abbrev pub digest_at : List ChainName → ℕ → ChainName → List ℕ
digest_at names i d = (get_or names i d).digest

-- the digest at a place isn't that of the next, to which its set leads; from the last place it leads to the first
pub record IsLinkedAt (names : List ChainName) (i : ℕ) : Type 0 where
  pub differs : (d : ChainName) → i + 1 < length names → digest_at names i d ≡ digest_at names (i + 1) d → ⊥
  pub within : (d : ChainName) → i + 1 < length names → (get_or names i d).data.now.next_hashed_owner_name ≡ digest_at names (i + 1) d
  pub last : (d : ChainName) → i < length names → ¬ (i + 1 < length names) → (get_or names i d).data.now.next_hashed_owner_name ≡ digest_at names 0 d

pub apart : (a b : ℕ) → (a < b) ⊎ (b ≤ a)
apart a zero = inr (omega arith)
apart zero (suc b) = inl (omega arith)
apart (suc a) (suc b) = by (apart a b)
  where
    by : (a < b) ⊎ (b ≤ a) → (suc a < suc b) ⊎ (suc b ≤ suc a)
    by (inl l) = inl (omega (arith, l))
    by (inr l) = inr (omega (arith, l))

same_at : (xs : List ChainName) (i : ℕ) (d e : ChainName) → i < length xs → get_or xs i d ≡ get_or xs i e
same_at [] i d e lt = absurd (omega (arith, lt))
same_at (x ∷ xs) zero d e lt = refl
same_at (x ∷ xs) (suc i) d e lt = same_at xs i d e (omega (arith, lt))

module _ (names : List ChainName) (i : ℕ) where
  pub linked_here : (x n : ChainName) → i < length names → x ≡ get_or names i x → (i + 1 < length names → n ≡ get_or names (i + 1) n) → (¬ (i + 1 < length names) → n ≡ get_or names 0 n)
      → (i + 1 < length names → x.digest ≡ n.digest → ⊥) → x.data.now.next_hashed_owner_name ≡ n.digest → IsLinkedAt names i
  linked_here x n lt is within last ne on = record {
    differs = λ d l e. ne l (ap (λ (c : ChainName). c.digest) (sym (here d)) ∙ e ∙ ap (λ (c : ChainName). c.digest) (same_at names (i + 1) d n l ∙ sym (within l)));
    within = λ d l. to d ∙ ap (λ (c : ChainName). c.digest) (within l ∙ same_at names (i + 1) n d l);
    last = λ d l h. to d ∙ ap (λ (c : ChainName). c.digest) (last h ∙ same_at names 0 n d (omega (arith, l)));
  }
    where
      here : (d : ChainName) → get_or names i d ≡ x
      here d = same_at names i d x lt ∙ sym is

      to : (d : ChainName) → (get_or names i d).data.now.next_hashed_owner_name ≡ n.digest
      to d = ap (λ (c : ChainName). c.data.now.next_hashed_owner_name) (here d) ∙ on

  pub linked_more : ((j : ℕ) → j < i → IsLinkedAt names j) → IsLinkedAt names i → (j : ℕ) → j < i + 1 → IsLinkedAt names j
  linked_more passed here j l = by (apart j i)
    where
      by : (j < i) ⊎ (i ≤ j) → IsLinkedAt names j
      by (inl k) = passed j k
      by (inr k) = let e : i ≡ j = omega (arith, k, l) in subst (IsLinkedAt names) e here

digest_order : IsOrder octets_cmp
digest_order = record { total = nat_list_cmp_total; exact = exact_bytes }

module _ (names : List ChainName) (sorted : IsSorted digest_cmp names) (linked : (j : ℕ) → j < length names → IsLinkedAt names j) where
  abbrev digest : ChainName → List ℕ
  digest c = c.digest

  long : length (map digest names) ≡ length names
  long = length-map names digest

  at : (i : ℕ) (d : ChainName) → get_or (map digest names) i d.digest ≡ digest_at names i d
  at i d = get_or-map digest names i d

  less : (x y : List ℕ) → (x ≡ y → ⊥) → is_lt (octets_cmp y x) ≡ false → octets_cmp x y ≡ Less
  less x y ne ge = by (side digest_order x y)
    where
      by : Side octets_cmp x y → octets_cmp x y ≡ Less
      by (before e) = e
      by (same e) = absurd (ne e)
      by (after e) = absurd (true≢false (sym (ap is_lt e) ∙ ge))

  ascend_at : (d : ChainName) (k : ℕ) → k + 1 < length (map digest names) → octets_cmp (get_or (map digest names) k d.digest) (get_or (map digest names) (k + 1) d.digest) ≡ Less
  ascend_at d k lt =
      let l : k + 1 < length names = omega (arith, lt, long) in
      (λ i. octets_cmp (at k d i) (at (k + 1) d i))
      ∙ (let x = digest_at names k d in let y = digest_at names (k + 1) d in less x y ((linked k (omega (arith, l))).differs d l) (sorted k d (omega arith) l))

  ascends : ChainName → Ascends octets_cmp (map digest names)
  ascends d = Ascends-from_sorted octets_cmp (map digest names) (sorted_from_all_adjacent nat_list_cmp_total (map digest names) d.digest (ascend_at d))

  leads : (c : ChainName) (i : ℕ) → i < length names → (get_or names i c).data.now.next_hashed_owner_name ≡ next_digest (map digest names) (digest_at names i c)
  leads c i lt = by (apart (i + 1) (length names))
    where
      by : (i + 1 < length names) ⊎ (length names ≤ i + 1) → (get_or names i c).data.now.next_hashed_owner_name ≡ next_digest (map digest names) (digest_at names i c)
      by (inl l) =
          (linked i lt).within c l ∙ sym (at (i + 1) c) ∙ ap (λ k. get_or (map digest names) k c.digest) (add-one i)
          ∙ sym (next_at digest_order (map digest names) i c.digest (ascends c) (omega (arith, l, long))) ∙ ap (next_digest (map digest names)) (at i c)
      by (inr l) =
          (linked i lt).last c lt (λ h. omega (arith, h, l)) ∙ sym (at 0 c)
          ∙ sym (first_at digest_order (map digest names) i c.digest (ascends c) (omega (arith, lt, long)) (omega (arith, l, long))) ∙ ap (next_digest (map digest names)) (at i c)

  pub all_linked : (c : ChainName) → Contains names c → c.data.now.next_hashed_owner_name ≡ next_digest (map digest names) c.digest
  all_linked c (i, lt, e) = ap (λ (x : ChainName). x.data.now.next_hashed_owner_name) (sym e) ∙ leads c i lt ∙ ap (λ (x : ChainName). next_digest (map digest names) x.digest) e
