-- Lists of types, passed one after the other
use Rattle.std.proofs.Common.{◌≡◌, ℕ, ◌+◌, ◌<◌, ◌≤◌, length, List, [], ◌∷◌, ◌++◌, map, take, drop, true, refl, sym, ap, ◌∙◌, subst, inl, inr, arith, Ordering, Less, Equal, Greater, append_assoc, append-nil, take-append-drop}
use Rattle.std.specs.Prelude.{nat_lt}
use Rattle.std.specs.Borrow.{Bor}
use Rattle.std.specs.List.{prefix_len}
use Rattle.std.specs.Ordering.{nat_cmp, match_ordering, MatchOrdering}
use Rattle.std.proofs.lemmas.Bool.Decides.{nat_tests}
use Rattle.std.proofs.lemmas.Cmp.{ranked}
use Rattle.std.proofs.lemmas.List.{map-append, take-map, take_at, length-map, length-take-le}
use Rattle.zone_proto.specs.declared.record_type.RecordType.{RecordType}
use Rattle.zone_proto.specs.declared.rr_key.RrKey.{RrKey}
use Rattle.zone_proto.specs.Types.{RRSIG, NSEC}
use Rattle.zone_proto.proofs.Members.{In, In-from_map}
use Rattle.zone_denial.specs.TypeLists.{joined}
use Rattle.zone_denial.proofs.Sets.KeyRuns.{in_front}

-- a number comes after those that are less, and before one that is greater
joined_behind : (x : ℕ) (low rest : List ℕ) → ((y : ℕ) → In y low → y < x) → joined nat_cmp x (low ++ rest) ≡ low ++ joined nat_cmp x rest
joined_behind x [] rest h = refl
joined_behind x (y ∷ low) rest h = by (nat_cmp x y) (ranked x y (nat_cmp x y) refl) (joined_behind x low rest (λ z i. h z (inr i)))
  where
    by : (r : Ordering) → MatchOrdering r (x < y) (x ≡ y) (y < x) → joined nat_cmp x (low ++ rest) ≡ low ++ joined nat_cmp x rest
        → match_ordering r (x ∷ y ∷ (low ++ rest)) (y ∷ (low ++ rest)) (y ∷ joined nat_cmp x (low ++ rest)) ≡ y ∷ (low ++ joined nat_cmp x rest)
    by Less k i = absurd (omega (arith, h y (inl refl)))
    by Equal k i = absurd (omega (arith, h y (inl refl)))
    by Greater k i = ap (λ ns. y ∷ ns) i

joined_before : (x : ℕ) (high : List ℕ) → ((q : ℕ) (qs : List ℕ) → high ≡ q ∷ qs → x < q) → joined nat_cmp x high ≡ x ∷ high
joined_before x [] h = refl
joined_before x (q ∷ qs) h = by (nat_cmp x q) (ranked x q (nat_cmp x q) refl)
  where
    by : (r : Ordering) → MatchOrdering r (x < q) (x ≡ q) (q < x) → match_ordering r (x ∷ q ∷ qs) (q ∷ qs) (q ∷ joined nat_cmp x qs) ≡ x ∷ q ∷ qs
    by Less k = refl
    by Equal k = absurd (omega (arith, h q qs refl))
    by Greater k = absurd (omega (arith, h q qs refl))

both_joined : (low high : List ℕ) → ((y : ℕ) → In y low → y < RRSIG) → ((q : ℕ) (qs : List ℕ) → high ≡ q ∷ qs → NSEC < q)
    → joined nat_cmp NSEC (joined nat_cmp RRSIG (low ++ high)) ≡ low ++ (RRSIG ∷ (NSEC ∷ high))
both_joined low high below above =
    let first = joined_behind RRSIG low high below ∙ ap (λ ns. low ++ ns) (joined_before RRSIG high (λ q qs e. omega (arith, above q qs e))) in
    let second = joined_behind NSEC low (RRSIG ∷ high) (λ y i. omega (arith, below y i)) in
    ap (joined nat_cmp NSEC) first ∙ second ∙ ap (λ ns. low ++ (RRSIG ∷ ns)) (joined_before NSEC high above)

-- ---- of keys, as the program parts them

-- the types of keys that are lent
abbrev pub lent_types : List (Bor RrKey) → List ℕ
lent_types ks = map (λ k. k.now.record_type.0) ks

-- the types below RRSIG that a list begins with are those of the keys in front, if these are as many and it begins with theirs
below_in_front : (keys : List (Bor RrKey)) (k : ℕ) (types : List RecordType) (rest : List ℕ) → k ≤ length keys → k ≡ prefix_len (λ (t : RecordType). nat_lt t.0 RRSIG) types
    → map (λ t. t.0) types ≡ lent_types (take k keys) ++ rest → (y : ℕ) → In y (lent_types (take k keys)) → y < RRSIG
below_in_front keys k types rest fits place are y i =
    let number : RecordType → ℕ = λ t. t.0 in
    let counted : length (lent_types (take k keys)) ≡ k = length-map (take k keys) (λ b. b.now.record_type.0) ∙ length-take-le k keys fits in
    let front : map number (take k types) ≡ lent_types (take k keys) = sym (take-map number k types) ∙ ap (take k) are ∙ take_at (lent_types (take k keys)) rest k counted in
    let r = In-from_map number y (take k types) (subst (In y) (sym front) i) in
    let passes : nat_lt r.0.0 RRSIG ≡ true = in_front (λ (t : RecordType). nat_lt t.0 RRSIG) r.0 types (subst (λ n. In r.0 (take n types)) place r.1) in
    let less : r.0.0 < RRSIG = grind (arith, nat_tests) in
    subst (λ n. n < RRSIG) r.2 less

pub all_passed : (keys low high : List (Bor RrKey)) (k : ℕ) (types left : List RecordType) → k ≤ length keys → low ≡ take k keys → high ≡ drop k keys
    → k ≡ prefix_len (λ (t : RecordType). nat_lt t.0 RRSIG) types → ((q : ℕ) (qs : List ℕ) → lent_types high ≡ q ∷ qs → NSEC < q)
    → map (λ t. t.0) types ≡ lent_types low ++ (RRSIG ∷ (NSEC ∷ (lent_types high ++ map (λ t. t.0) left))) → left ≡ []
    → map (λ t. t.0) types ≡ joined nat_cmp NSEC (joined nat_cmp RRSIG (lent_types keys))
all_passed keys low high k types left fits front back place above are none =
    let parts : lent_types keys ≡ lent_types (take k keys) ++ lent_types (drop k keys) =
    ap lent_types (sym (take-append-drop k keys)) ∙ map-append (λ (b : Bor RrKey). b.now.record_type.0) (take k keys) (drop k keys) in
    let number : RecordType → ℕ = λ t. t.0 in
    let whole : map number types ≡ lent_types (take k keys) ++ (RRSIG ∷ (NSEC ∷ lent_types (drop k keys))) =
    are ∙ (λ i. lent_types (front i) ++ (RRSIG ∷ (NSEC ∷ (lent_types (back i) ++ map number (none i)))))
    ∙ ap (λ ts. lent_types (take k keys) ++ (RRSIG ∷ (NSEC ∷ ts))) (append-nil (lent_types (drop k keys))) in
    whole ∙ sym (both_joined (lent_types (take k keys)) (lent_types (drop k keys)) (below_in_front keys k types (RRSIG ∷ (NSEC ∷ lent_types (drop k keys))) fits place whole)
    (λ q qs e. above q qs (ap lent_types back ∙ e)))
    ∙ ap (λ ts. joined nat_cmp NSEC (joined nat_cmp RRSIG ts)) (sym parts)

-- one more key is passed
pub one_more : (keys : List (Bor RrKey)) (i : ℕ) (k : Bor RrKey) (all before after : List ℕ) → take (i + 1) keys ≡ take i keys ++ k ∷ [] → all ≡ lent_types (take i keys) ++ before → before ≡ k.now.record_type.0 ∷ after
    → all ≡ lent_types (take (i + 1) keys) ++ after
one_more keys i k all before after front so_far next =
    so_far ∙ ap (λ ts. lent_types (take i keys) ++ ts) next
    ∙ sym (append_assoc (lent_types (take i keys)) (k.now.record_type.0 ∷ []) after)
    ∙ ap (λ ts. ts ++ after) (sym (ap lent_types front ∙ map-append (λ (b : Bor RrKey). b.now.record_type.0) (take i keys) (k ∷ [])))
