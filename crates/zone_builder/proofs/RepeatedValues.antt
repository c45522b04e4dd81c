-- Whether an equal value stands before each of some values, as a set of those before it tells
use Rattle.std.proofs.Common.{◌≡◌, ℕ, ◌+◌, ◌<◌, ◌≤◌, Bool, true, false, cond, not, ◌||◌, List, [], ◌∷◌, ◌++◌, length, get_or, take, drop, map, refl, sym, ap, ◌∙◌, append_assoc, append-nil, Ordering, Bor}
use Rattle.std.specs.BTreeSet.{BTreeSet, contains, IsEmpty}
use Rattle.std.specs.List.{list_any}
use Rattle.std.specs.Ordering.{eq_by_cmp, is_eq}
use Rattle.std.proofs.lemmas.List.{drop_all, drop_more, take_more, map-append}
use Rattle.std.proofs.lemmas.List.Folds.{list_any-append}
use Rattle.zone_builder.specs.Repeats.{repeats_behind}

-- what references lead to
abbrev pub values : {T : Type 0} → List (Bor T) → List T
values {T} vs = map (λ (v : Bor T). v.now) vs

module _ {T : Type 0} (eq : T → T → Bool) (cmp : T → T → Ordering) where
  -- a set has the values that stand in front
  abbrev pub HasSeen : BTreeSet (Bor T) → List T → Type 0
  HasSeen s front = (q : Bor T) → contains (λ (x y : Bor T). cmp x.now y.now) s q ≡ list_any (λ y. eq y q.now) front

  pub seen_none : (s : BTreeSet (Bor T)) → IsEmpty s → HasSeen s []
  seen_none s none q = ap (λ ks. list_any (λ (k : Bor T). is_eq (cmp q.now k.now)) ks) none

  module _ (tied : (x y : T) → eq x y ≡ eq_by_cmp cmp x y) (vs : List (Bor T)) (i : ℕ) (v : Bor T) (within : i < length vs) (is : v ≡ get_or vs i v) where
    front_more : values (take (i + 1) vs) ≡ values (take i vs) ++ v.now ∷ []
    front_more =
        ap values (take_more vs i v within) ∙ map-append (λ (w : Bor T). w.now) (take i vs) (get_or vs i v ∷ [])
        ∙ ap (λ (w : Bor T). values (take i vs) ++ w.now ∷ []) (sym is)

    left_more : values (drop i vs) ≡ v.now ∷ values (drop (i + 1) vs)
    left_more = ap values (drop_more vs i v within) ∙ ap (λ (w : Bor T). w.now ∷ values (drop (i + 1) vs)) (sym is)

    -- the set has one value more
    pub seen_more : (s n : BTreeSet (Bor T)) → ((q : Bor T) → contains (λ (x y : Bor T). cmp x.now y.now) n q ≡ cond (is_eq (cmp v.now q.now)) true (contains (λ (x y : Bor T). cmp x.now y.now) s q))
        → HasSeen s (values (take i vs)) → HasSeen n (values (take (i + 1) vs))
    seen_more s n put seen q =
        put q ∙ ap (λ b. cond b true (contains (λ (x y : Bor T). cmp x.now y.now) s q)) (sym (tied v.now q.now))
        ∙ ap (λ c. cond (eq v.now q.now) true c) (seen q)
        ∙ either (eq v.now q.now) (list_any (λ y. eq y q.now) (values (take i vs)))
        ∙ sym (list_any-append (λ y. eq y q.now) (values (take i vs)) (v.now ∷ []))
        ∙ ap (list_any (λ y. eq y q.now)) (sym front_more)
      where
        either : (b c : Bool) → cond b true c ≡ (c || (b || false))
        either true true = refl
        either true false = refl
        either false true = refl
        either false false = refl

    -- what is said of one value more
    pub one_said : (s : BTreeSet (Bor T)) (is_new : Bool) (said more all : List Bool) → HasSeen s (values (take i vs)) → is_new ≡ not (contains (λ (x y : Bor T). cmp x.now y.now) s v) → more ≡ said ++ not is_new ∷ []
        → said ++ repeats_behind eq (values (take i vs)) (values (drop i vs)) ≡ all
        → more ++ repeats_behind eq (values (take (i + 1) vs)) (values (drop (i + 1) vs)) ≡ all
    one_said s is_new said more all seen new pushed so_far =
        ap (λ xs. xs ++ repeats_behind eq (values (take (i + 1) vs)) (values (drop (i + 1) vs))) pushed
        ∙ append_assoc said (not is_new ∷ []) (repeats_behind eq (values (take (i + 1) vs)) (values (drop (i + 1) vs)))
        ∙ ap (λ b. said ++ b ∷ repeats_behind eq (values (take (i + 1) vs)) (values (drop (i + 1) vs))) (ap not new ∙ twice (contains (λ (x y : Bor T). cmp x.now y.now) s v) ∙ seen v)
        ∙ ap (λ xs. said ++ list_any (λ y. eq y v.now) (values (take i vs)) ∷ repeats_behind eq xs (values (drop (i + 1) vs))) front_more
        ∙ ap (λ xs. said ++ repeats_behind eq (values (take i vs)) xs) (sym left_more) ∙ so_far
      where
        twice : (b : Bool) → not (not b) ≡ b
        twice true = refl
        twice false = refl

  -- nothing is left
  pub all_said : (vs : List (Bor T)) (i : ℕ) (said all : List Bool) → length vs ≤ i → said ++ repeats_behind eq (values (take i vs)) (values (drop i vs)) ≡ all → said ≡ all
  all_said vs i said all out so_far = sym (append-nil said) ∙ ap (λ ws. said ++ repeats_behind eq (values (take i vs)) (values ws)) (sym (drop_all i vs out)) ∙ so_far
