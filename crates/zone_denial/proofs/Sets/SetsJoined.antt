-- A set put into a list of sets in the order of owners
use Rattle.std.proofs.Common.{◌≡◌, ℕ, suc, ◌+◌, ◌<◌, ◌≤◌, List, [], ◌∷◌, map, length, get_or, cond, true, false, true≢false, refl, sym, ap, ◌∙◌, subst, arith, Ordering, Less, Equal, Greater}
use Rattle.std.specs.Borrow.{Bor}
use Rattle.std.specs.Prelude.{Option, Some, None, ◌++◌, option_to_list}
use Rattle.std.specs.List.{prefix_len, insert}
use Rattle.std.specs.Ordering.{match_ordering, ordering_reverse, is_eq, is_lt}
use Rattle.std.proofs.lemmas.List.{get_or_read}
use Rattle.std.proofs.Math.Numerals.{one-add}
use Rattle.zone_proto.specs.NameLaws.{caseless_cmp_total}
use Rattle.zone_proto.specs.Order.{is_before}
use Rattle.zone_proto.specs.Sets.{RRset}
use Rattle.zone_proto.proofs.Ordering.KeyOrder.{equal_of}
use Rattle.zone_denial.specs.Nsec3Lent.{owner_cmp, joined_any}
use Rattle.zone_denial.specs.TypeLists.{joined, in_order}

-- how many sets in front have an owner before that of another
abbrev pub place_of : RRset → List (Bor RRset) → ℕ
place_of s rs = prefix_len (λ r. is_before owner_cmp r.now s) rs

-- lent sets
abbrev pub lent : List (Bor RRset) → List RRset
lent rs = map (λ r. r.now) rs

module _ (s : Bor RRset) where
  -- the list that has a set of the owner, and the list that the set is put into
  abbrev Kept : List (Bor RRset) → Type 0
  Kept rs = place_of s.now rs < length rs → is_eq (owner_cmp s.now (get_or rs (place_of s.now rs) s).now) ≡ true → lent rs ≡ joined owner_cmp s.now (lent rs)

  abbrev Put : List (Bor RRset) → Type 0
  Put rs = (place_of s.now rs < length rs → is_eq (owner_cmp s.now (get_or rs (place_of s.now rs) s).now) ≡ true → ⊥) → lent (insert rs (place_of s.now rs) s) ≡ joined owner_cmp s.now (lent rs)

  turned : (r : Bor RRset) → is_before owner_cmp r.now s.now ≡ is_lt (ordering_reverse (owner_cmp s.now r.now))
  turned r = ap is_lt (caseless_cmp_total.antisymm r.now.owner s.now.owner)

  -- the place behind a set that is before, and before one that isn't
  place_by : (r : Bor RRset) (rs : List (Bor RRset)) (o : Ordering) → owner_cmp s.now r.now ≡ o → place_of s.now (r ∷ rs) ≡ cond (is_lt (ordering_reverse o)) (suc (place_of s.now rs)) 0
  place_by r rs o e = ap (λ b. cond b (1 + place_of s.now rs) 0) (turned r ∙ ap (λ p. is_lt (ordering_reverse p)) e) ∙ ap (λ n. cond (is_lt (ordering_reverse o)) n 0) (one-add (place_of s.now rs))

  abbrev KeptAt : Bor RRset → List (Bor RRset) → Ordering → ℕ → Type 0
  KeptAt r rs o k = k < length (r ∷ rs) → is_eq (owner_cmp s.now (get_or (r ∷ rs) k s).now) ≡ true
      → lent (r ∷ rs) ≡ match_ordering o (s.now ∷ lent (r ∷ rs)) (lent (r ∷ rs)) (r.now ∷ joined owner_cmp s.now (lent rs))

  abbrev PutAt : Bor RRset → List (Bor RRset) → Ordering → ℕ → Type 0
  PutAt r rs o k = (k < length (r ∷ rs) → is_eq (owner_cmp s.now (get_or (r ∷ rs) k s).now) ≡ true → ⊥)
      → lent (insert (r ∷ rs) k s) ≡ match_ordering o (s.now ∷ lent (r ∷ rs)) (lent (r ∷ rs)) (r.now ∷ joined owner_cmp s.now (lent rs))

  kept : (rs : List (Bor RRset)) → Kept rs
  kept [] = λ h e. absurd (omega arith)
  kept (r ∷ rs) = by (owner_cmp s.now r.now) refl (kept rs)
    where
      by : (o : Ordering) → owner_cmp s.now r.now ≡ o → Kept rs → KeptAt r rs o (place_of s.now (r ∷ rs))
      by Less h ih = subst (KeptAt r rs Less) (sym (place_by r rs Less h)) (λ l e. absurd (true≢false (sym e ∙ ap is_eq h)))
      by Equal h ih = λ l e. refl
      by Greater h ih = subst (KeptAt r rs Greater) (sym (place_by r rs Greater h)) (λ l e. ap (λ ss. r.now ∷ ss) (ih (omega arith) e))

  put : (rs : List (Bor RRset)) → Put rs
  put [] = λ h. refl
  put (r ∷ rs) = by (owner_cmp s.now r.now) refl (put rs)
    where
      by : (o : Ordering) → owner_cmp s.now r.now ≡ o → Put rs → PutAt r rs o (place_of s.now (r ∷ rs))
      by Less h ih = subst (PutAt r rs Less) (sym (place_by r rs Less h)) (λ f. refl)
      by Equal h ih = subst (PutAt r rs Equal) (sym (place_by r rs Equal h)) (λ f. absurd (f (omega arith) (ap is_eq h)))
      by Greater h ih = subst (PutAt r rs Greater) (sym (place_by r rs Greater h)) (λ f. ap (λ ss. r.now ∷ ss) (ih (λ l e. f (omega arith) e)))

-- ---- as the program finds it, at a place k

same_owner : (s r : RRset) → is_eq (owner_cmp r s) ≡ true → is_eq (owner_cmp s r) ≡ true
same_owner s r e = ap is_eq (caseless_cmp_total.antisymm s.owner r.owner ∙ ap ordering_reverse (equal_of (owner_cmp r s) e))

pub kept_by : (s x : Bor RRset) (rs : List (Bor RRset)) (k n : ℕ) → k ≡ place_of s.now rs → n ≡ length rs → k < n → x ≡ get_or rs k x → is_eq (owner_cmp x.now s.now) ≡ true → lent rs ≡ joined owner_cmp s.now (lent rs)
kept_by s x rs k n place len h is e =
    let lt : place_of s.now rs < length rs = omega arith in
    let there : x ≡ get_or rs (place_of s.now rs) x = is ∙ ap (λ i. get_or rs i x) place in
    kept s rs lt (ap (λ (r : Bor RRset). is_eq (owner_cmp s.now r.now)) (sym (get_or_read rs (place_of s.now rs) x lt there s)) ∙ same_owner s.now x.now e)

pub put_past : (s : Bor RRset) (rs us : List (Bor RRset)) (k n : ℕ) → k ≡ place_of s.now rs → n ≡ length rs → n ≤ k → us ≡ insert rs k s → lent us ≡ joined owner_cmp s.now (lent rs)
put_past s rs us k n place len h is = ap lent (is ∙ ap (λ i. insert rs i s) place) ∙ put s rs (λ l e. absurd (omega arith))

pub put_by : (s x : Bor RRset) (rs us : List (Bor RRset)) (k n : ℕ) → k ≡ place_of s.now rs → n ≡ length rs → k < n → x ≡ get_or rs k x → is_eq (owner_cmp x.now s.now) ≡ false → us ≡ insert rs k s → lent us ≡ joined owner_cmp s.now (lent rs)
put_by s x rs us k n place len h there other is =
    let found : x ≡ get_or rs (place_of s.now rs) x = there ∙ ap (λ i. get_or rs i x) place in
    let differs : (place_of s.now rs < length rs → is_eq (owner_cmp s.now (get_or rs (place_of s.now rs) s).now) ≡ true → ⊥) =
    λ l e. true≢false (sym (same_owner x.now s.now (ap (λ (r : Bor RRset). is_eq (owner_cmp s.now r.now)) (get_or_read rs (place_of s.now rs) x l found s) ∙ e)) ∙ other) in
    ap lent (is ∙ ap (λ i. insert rs i s) place) ∙ put s rs differs

-- ---- sets that may be there

pub joined_all : (a b c : Option RRset) → joined_any a (joined_any b (joined_any c [])) ≡ in_order owner_cmp (option_to_list a ++ option_to_list b ++ option_to_list c)
joined_all None None None = refl
joined_all None None (Some c) = refl
joined_all None (Some b) None = refl
joined_all None (Some b) (Some c) = refl
joined_all (Some a) None None = refl
joined_all (Some a) None (Some c) = refl
joined_all (Some a) (Some b) None = refl
joined_all (Some a) (Some b) (Some c) = refl
