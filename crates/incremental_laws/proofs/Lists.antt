-- Lists with the same records
use Rattle.std.proofs.Common.{◌≡◌, ◌==◌, ◌&&◌, not, Bool, true, false, true≢false, cond, List, [], ◌∷◌, ◌++◌, refl, sym, ap, ◌∙◌}
use Rattle.std.specs.Prelude.{◌||◌, filter}
use Rattle.std.specs.Cmp.{IsEquivalence, nat_eq_equiv, on_equiv, and_equiv}
use Rattle.std.specs.List.{AllByRecursion}
use Rattle.std.proofs.Math.Bool.{or-true}
use Rattle.std.proofs.lemmas.List.Folds.{list_any-append}
use Rattle.zone_proto.specs.DataEquality.{same_record_equiv}
use Rattle.zone_proto.specs.Records.{same_record}
use Rattle.zone_proto.specs.declared.record.Record.{Record}
use Rattle.transfer_reading.specs.Differences.{has_record}
use Rattle.incremental_laws.specs.Holding.{has_exactly, is_exactly, SameRecords}

pub exact_equiv : IsEquivalence is_exactly
exact_equiv = and_equiv same_record_equiv (on_equiv (λ (r : Record). r.ttl) nat_eq_equiv)

first : (a b : Bool) → (a && b) ≡ true → a ≡ true
first true b h = refl
first false b h = absurd (true≢false (sym h))

exact_same : (x r : Record) → is_exactly x r ≡ true → same_record x r ≡ true
exact_same x r h = first (same_record x r) (x.ttl == r.ttl) h

-- one that is the same as one of them
has_same : (xs : List Record) (x r : Record) → has_exactly xs x ≡ true → same_record x r ≡ true → has_record xs r ≡ true
has_same [] x r h g = absurd (true≢false (sym h))
has_same (y ∷ xs) x r h g = by (is_exactly y x) refl h (has_same xs x r)
  where
    by : (b : Bool) → is_exactly y x ≡ b → (b || has_exactly xs x) ≡ true → (has_exactly xs x ≡ true → same_record x r ≡ true → has_record xs r ≡ true)
        → (same_record y r || has_record xs r) ≡ true
    by true e f i = ap (λ c. c || has_record xs r) (same_record_equiv.congr y x r (exact_same y x e) ∙ g)
    by false e f i = ap (λ c. same_record y r || c) (i f g) ∙ or-true (same_record y r)

pub nothing_in : (xs : List Record) → SameRecords xs [] → xs ≡ []
nothing_in [] h = refl
nothing_in (y ∷ xs) h = absurd (true≢false (sym (ap (λ b. b || has_exactly xs y) (exact_equiv.refl y)) ∙ h y))

pub is_there : (xs rs : List Record) (r : Record) → SameRecords xs (r ∷ rs) → has_record xs r ≡ true
is_there xs rs r h = has_same xs r r (h r ∙ ap (λ b. b || has_exactly rs r) (exact_equiv.refl r)) (same_record_equiv.refl r)

-- ---- one is taken out

and_false : (b : Bool) → (b && false) ≡ false
and_false true = refl
and_false false = refl

left_exactly : (xs : List Record) (r x : Record) → has_exactly (filter (λ (z : Record). not (same_record z r)) xs) x ≡ (not (same_record x r) && has_exactly xs x)
left_exactly [] r x = sym (and_false (not (same_record x r)))
left_exactly (y ∷ xs) r x = by (same_record y r) refl (is_exactly y x) refl (left_exactly xs r x)
  where
    like : is_exactly y x ≡ true → same_record x r ≡ same_record y r
    like e = sym (same_record_equiv.congr y x r (exact_same y x e))

    by : (b : Bool) → same_record y r ≡ b → (c : Bool) → is_exactly y x ≡ c
        → has_exactly (filter (λ (z : Record). not (same_record z r)) xs) x ≡ (not (same_record x r) && has_exactly xs x)
        → has_exactly (cond (not b) (y ∷ filter (λ (z : Record). not (same_record z r)) xs) (filter (λ (z : Record). not (same_record z r)) xs)) x
        ≡ (not (same_record x r) && (c || has_exactly xs x))
    by true f true e i =
        let is : same_record x r ≡ true = like e ∙ f in
        i ∙ ap (λ d. not d && has_exactly xs x) is ∙ sym (ap (λ d. not d && true) is)
    by true f false e i = i
    by false f true e i =
        let is : same_record x r ≡ false = like e ∙ f in
        ap (λ d. d || has_exactly (filter (λ (z : Record). not (same_record z r)) xs) x) e ∙ sym (ap (λ d. not d && true) is)
    by false f false e i = ap (λ d. d || has_exactly (filter (λ (z : Record). not (same_record z r)) xs) x) e ∙ i

pub one_taken : (xs rs : List Record) (r : Record) → SameRecords xs (r ∷ rs) → has_record rs r ≡ false → SameRecords (filter (λ (z : Record). not (same_record z r)) xs) rs
one_taken xs rs r h apart x =
    left_exactly xs r x ∙ ap (λ b. not (same_record x r) && b) (h x) ∙ by (same_record x r) refl (is_exactly r x) refl (has_exactly rs x) refl
  where
    by : (b : Bool) → same_record x r ≡ b → (c : Bool) → is_exactly r x ≡ c → (d : Bool) → has_exactly rs x ≡ d
        → (not (same_record x r) && (is_exactly r x || has_exactly rs x)) ≡ has_exactly rs x
    by true f c e true g = absurd (true≢false (sym (has_same rs x r g f) ∙ apart))
    by true f c e false g = ap (λ d. not d && (is_exactly r x || has_exactly rs x)) f ∙ sym g
    by false f true e d g = absurd (true≢false (sym (exact_same r x e) ∙ same_record_equiv.symm r x ∙ f))
    by false f false e d g = (λ i. not (f i) && (e i || has_exactly rs x))

-- ---- one is given

or_false : (b : Bool) → (b || false) ≡ b
or_false true = refl
or_false false = refl

neither : (a b : Bool) → (a || b) ≡ false → (a ≡ false) × (b ≡ false)
neither true b h = absurd (true≢false h)
neither false b h = (refl, h)

pub apart_more : (front rs : List Record) (r : Record) → AllByRecursion (λ (x : Record). has_record front x ≡ false) rs → has_record rs r ≡ false
    → AllByRecursion (λ (x : Record). has_record (front ++ r ∷ []) x ≡ false) rs
apart_more front [] r h g = tt
apart_more front (x ∷ rs) r h g =
    let others = neither (same_record x r) (has_record rs r) g in (
      list_any-append (λ (z : Record). same_record z x) front (r ∷ [])
          ∙ (λ i. h.0 i || (same_record r x || false))
          ∙ or_false (same_record r x)
          ∙ same_record_equiv.symm r x
          ∙ others.0,
      apart_more front rs r h.1 others.1,
    )

pub apart_none : (rs : List Record) → AllByRecursion (λ (x : Record). has_record [] x ≡ false) rs
apart_none [] = tt
apart_none (r ∷ rs) = (refl, apart_none rs)
