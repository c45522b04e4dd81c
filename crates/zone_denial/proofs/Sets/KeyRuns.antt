-- The keys of one name in front of a list that is lent
use Rattle.std.proofs.Common.{◌≡◌, ℕ, zero, suc, ◌+◌, ◌-◌, ◌<◌, Bool, true, false, cond, List, [], ◌∷◌, ◌++◌, map, length, get_or, take, drop, drop-cons, refl, sym, ap, ◌∙◌, subst, true≢false, arith, inl, inr}
use Rattle.std.specs.Borrow.{Bor}
use Rattle.std.specs.List.{prefix_len}
use Rattle.std.specs.Ordering.{nat_cmp, is_eq, eq_by_cmp}
use Rattle.std.proofs.Math.Numerals.{one-add}
use Rattle.std.proofs.Math.Seq.{drop-nil}
use Rattle.std.proofs.lemmas.List.{map-append, take-append-drop, take_all, length-drop}
use Rattle.zone_proto.specs.declared.rr_key.RrKey.{RrKey}
use Rattle.zone_proto.specs.Keys.{key}
use Rattle.zone_proto.specs.Names.{Name, name_cmp}
use Rattle.zone_proto.specs.Types.{RRSIG, NSEC}
use Rattle.zone_proto.proofs.Ordering.KeyOrder.{equal_of}
use Rattle.zone_proto.proofs.Members.{In, In-from_map}
use Rattle.zone_proto.proofs.Names.NameTree.{name_itself}
use Rattle.zone_proto.proofs.Names.Tree.{name_order}
use Rattle.zone_map.specs.Zones.{Sets}
use Rattle.zone_denial.specs.NsecSets.{nsec_data, new_set}
use Rattle.zone_denial.specs.NsecLinks.{first_name}
use Rattle.zone_denial.specs.TypeLists.{joined}
use Rattle.zone_denial.proofs.Sets.Linking.{Linking, Linking-more, types_of_keys}

-- ---- the elements in front that pass a test

module _ {A : Type 0} (p : A → Bool) where
  pub in_front : (x : A) (xs : List A) → In x (take (prefix_len p xs) xs) → p x ≡ true
  in_front x [] i = absurd i
  in_front x (y ∷ xs) i = by (p y) refl (λ j. in_front x xs j) i
    where
      at : p y ≡ true → (In x (take (prefix_len p xs) xs) → p x ≡ true) → In x (y ∷ take (prefix_len p xs) xs) → p x ≡ true
      at e ih (inl s) = ap p (sym s) ∙ e
      at e ih (inr j) = ih j

      by : (b : Bool) → p y ≡ b → (In x (take (prefix_len p xs) xs) → p x ≡ true) → In x (take (cond b (1 + prefix_len p xs) 0) (y ∷ xs)) → p x ≡ true
      by true e ih i = at e ih (subst (λ k. In x (take k (y ∷ xs))) (one-add (prefix_len p xs)) i)
      by false e ih i = absurd i

  past_front : (x : A) (xs rest : List A) → drop (prefix_len p xs) xs ≡ x ∷ rest → p x ≡ false
  past_front x [] rest h = absurd cc
  past_front x (y ∷ xs) rest h = by (p y) refl (λ k. past_front x xs rest k) h
    where
      by : (b : Bool) → p y ≡ b → (drop (prefix_len p xs) xs ≡ x ∷ rest → p x ≡ false) → drop (cond b (1 + prefix_len p xs) 0) (y ∷ xs) ≡ x ∷ rest → p x ≡ false
      by true e ih h = ih (sym (ap (λ k. drop k (y ∷ xs)) (one-add (prefix_len p xs))) ∙ h)
      by false e ih h = let s : y ≡ x = cc in ap p (sym s) ∙ e

  first_passes : (x : A) (xs : List A) → p x ≡ true → prefix_len p (x ∷ xs) ≡ suc (prefix_len p xs)
  first_passes x xs e = ap (λ b. cond b (1 + prefix_len p xs) 0) e ∙ one-add (prefix_len p xs)

drop_add : {A : Type 0} (n m : ℕ) (xs : List A) → drop (n + m) xs ≡ drop m (drop n xs)
drop_add zero m xs = let e : zero + m ≡ m = omega arith in ap (λ k. drop k xs) e
drop_add (suc n) m [] = drop-nil (suc n + m) ∙ sym (drop-nil m)
drop_add (suc n) m (x ∷ xs) = let e : suc n + m ≡ suc (n + m) = omega arith in ap (λ k. drop k (x ∷ xs)) e ∙ drop_add n m xs

-- a slice up to the end, and one of a number of elements
pub to_end : {A : Type 0} (n : ℕ) (xs : List A) → take (length xs - n) (drop n xs) ≡ drop n xs
to_end n xs = take_all (length xs - n) (drop n xs) (simp length-drop (omega arith))

pub of_count : {A : Type 0} (n m : ℕ) (xs : List A) → take (n + m - n) (drop n xs) ≡ take m (drop n xs)
of_count n m xs = let e : n + m - n ≡ m = omega arith in ap (λ k. take k (drop n xs)) e

-- the keys that are lent
abbrev pub lent_keys : List (Bor RrKey) → List RrKey
lent_keys bs = map (λ b. b.now) bs

pub types_lent : (bs : List (Bor RrKey)) → types_of_keys (lent_keys bs) ≡ map (λ b. b.now.record_type.0) bs
types_lent [] = refl
types_lent (b ∷ bs) = ap (λ ts. b.now.record_type.0 ∷ ts) (types_lent bs)

-- ---- the keys in front that are of a name

module _ (n : Name) (keys : List (Bor RrKey)) (count : ℕ) (counted : count ≡ prefix_len (λ (b : Bor RrKey). eq_by_cmp name_cmp b.now.name n) keys) where
  abbrev is_of_name : Bor RrKey → Bool
  is_of_name b = eq_by_cmp name_cmp b.now.name n

  pub front_parts : lent_keys keys ≡ lent_keys (take count keys) ++ lent_keys (drop count keys)
  front_parts = ap lent_keys (sym (take-append-drop count keys)) ∙ map-append (λ (b : Bor RrKey). b.now) (take count keys) (drop count keys)

  pub front_named : (k : RrKey) → In k (lent_keys (take count keys)) → k.name ≡ n
  front_named k i =
      let r = In-from_map (λ (b : Bor RrKey). b.now) k (take count keys) i in
      let passes = in_front is_of_name r.0 keys (subst (λ c. In r.0 (take c keys)) counted r.1) in
      name_order.exact k.name n (equal_of (name_cmp k.name n) (ap (λ (q : RrKey). eq_by_cmp name_cmp q.name n) (sym r.2) ∙ passes))

  pub front_apart : (q : RrKey) (qs : List RrKey) → lent_keys (drop count keys) ≡ q ∷ qs → q.name ≡ n → ⊥
  front_apart q qs e same = by (drop count keys) (sym (ap (λ c. drop c keys) counted)) e
    where
      by : (bs : List (Bor RrKey)) → drop (prefix_len is_of_name keys) keys ≡ bs → lent_keys bs ≡ q ∷ qs → ⊥
      by [] h e = cc
      by (b ∷ bs) h e =
          let name : b.now.name ≡ n = ap (λ (k : RrKey). k.name) (let s : b.now ≡ q = cc in s) ∙ same in
          true≢false (sym (ap (λ x. eq_by_cmp name_cmp x n) name ∙ ap is_eq (name_itself n)) ∙ past_front is_of_name b keys bs h)

-- ---- from a place of the list on, the keys of the name that is there

pub counted_from : (keys : List (Bor RrKey)) (start count : ℕ) (first : Bor RrKey) → start < length keys → first ≡ get_or keys start first
    → ((f : Bor RrKey) (others : List (Bor RrKey)) → take (length keys - start) (drop start keys) ≡ f ∷ others → count ≡ 1 + prefix_len (λ (b : Bor RrKey). eq_by_cmp name_cmp b.now.name f.now.name) others)
    → count ≡ prefix_len (λ (b : Bor RrKey). eq_by_cmp name_cmp b.now.name first.now.name) (drop start keys)
counted_from keys start count first lt is told =
    let of_name = λ (b : Bor RrKey). eq_by_cmp name_cmp b.now.name first.now.name in
    let left : drop start keys ≡ first ∷ drop (suc start) keys = drop-cons keys start first lt ∙ ap (λ b. b ∷ drop (suc start) keys) (sym is) in
    told first (drop (suc start) keys) (to_end start keys ∙ left)
    ∙ one-add (prefix_len of_name (drop (suc start) keys))
    ∙ sym (ap (prefix_len of_name) left ∙ first_passes of_name first (drop (suc start) keys) (ap is_eq (name_itself first.now.name)))

module _ (keys : List (Bor RrKey)) (start count : ℕ) (first : Bor RrKey) (lt : start < length keys) (is : first ≡ get_or keys start first)
    (counted : count ≡ prefix_len (λ (b : Bor RrKey). eq_by_cmp name_cmp b.now.name first.now.name) (drop start keys)) where
  abbrev of_name : Bor RrKey → Bool
  of_name b = eq_by_cmp name_cmp b.now.name first.now.name

  itself : of_name first ≡ true
  itself = ap is_eq (name_itself first.now.name)

  left_is : drop start keys ≡ first ∷ drop (suc start) keys
  left_is = drop-cons keys start first lt ∙ ap (λ b. b ∷ drop (suc start) keys) (sym is)

  count_is : count ≡ suc (prefix_len of_name (drop (suc start) keys))
  count_is = counted ∙ ap (prefix_len of_name) left_is ∙ first_passes of_name first (drop (suc start) keys) itself

  pub goes_on : 0 < count
  goes_on = omega (arith, count_is)

  abbrev own : List (Bor RrKey)
  own = take count (drop start keys)

  abbrev others : List (Bor RrKey)
  others = drop (start + count) keys

  others_are : others ≡ drop count (drop start keys)
  others_are = drop_add start count keys

  pub parts : lent_keys (drop start keys) ≡ lent_keys own ++ lent_keys others
  parts = front_parts first.now.name (drop start keys) count counted ∙ ap (λ bs. lent_keys own ++ lent_keys bs) (sym others_are)

  pub first_in : In first.now (lent_keys own)
  first_in =
      let there : own ≡ first ∷ take (prefix_len of_name (drop (suc start) keys)) (drop (suc start) keys) =
      λ i. take (count_is i) (left_is i) in
      subst (λ bs. In first.now (lent_keys bs)) (sym there) (inl refl)

  pub named : (k : RrKey) → In k (lent_keys own) → k.name ≡ first.now.name
  named = front_named first.now.name (drop start keys) count counted

  pub apart : (q : RrKey) (qs : List RrKey) → lent_keys others ≡ q ∷ qs → q.name ≡ first.now.name → ⊥
  apart q qs e same = front_apart first.now.name (drop start keys) count counted q qs (ap lent_keys (sym others_are) ∙ e) same

  -- the next set is made
  pub Linking-step : (origin : Name) (ks : List RrKey) (ttl serial : ℕ) (entries : Sets) → Linking origin ks ttl serial entries (lent_keys (drop start keys))
      → Linking origin ks ttl serial (entries
      ++ (key first.now.name NSEC, new_set ttl serial first.now.name (nsec_data (first_name origin (lent_keys others)) (joined nat_cmp NSEC (joined nat_cmp RRSIG (map (λ b. b.now.record_type.0) own))))) ∷ []) (lent_keys others)
  Linking-step origin ks ttl serial entries so_far =
      subst (λ ts. Linking origin ks ttl serial (entries ++ (key first.now.name NSEC, new_set ttl serial first.now.name (nsec_data (first_name origin (lent_keys others)) (joined nat_cmp NSEC (joined nat_cmp RRSIG ts)))) ∷ []) (lent_keys others))
      (types_lent own)
      (Linking-more origin ks ttl serial entries first.now.name first.now (lent_keys own) (lent_keys others) (subst (λ qs. Linking origin ks ttl serial entries qs) parts so_far) first_in named apart)
