-- Lists of keys within one another, and which keys of a zone are used so
use Rattle.std.proofs.Common.{◌≡◌, Bool, List, [], ◌∷◌, ◌++◌, ap, ◌∙◌, ◌⊎◌, inl, inr, arith}
use Rattle.std.specs.Prelude.{Contains, map, filter}
use Rattle.std.proofs.lemmas.List.{map-append}
use Rattle.std.proofs.lemmas.List.Elements.{Contains-append_left, Contains-append_right, Contains-append_cases, Contains-push_cases, filter-append}
use Rattle.zone_rollover.specs.declared.key_use.Key.{Key}
use Rattle.zone_rollover.specs.declared.key_use.KeyUse.{KeyUse}
use Rattle.zone_rollover.specs.declared.key_use.UsedKey.{UsedKey}
use Rattle.zone_rollover.specs.KeyUses.{keys_where}

-- each key of the one is in the other
pub record IsWithin (xs ys : List Key) : Type 0 where
  pub each : (key : Key) → Contains xs key → Contains ys key

-- each key of the first is in one of the others
pub record IsCovered (zs xs ys : List Key) : Type 0 where
  pub each : (key : Key) → Contains zs key → Contains xs key ⊎ Contains ys key

pub within_self : (xs : List Key) → IsWithin xs xs
within_self xs = record { each = λ key h. h }

pub within_step : (xs ys zs : List Key) → IsWithin xs ys → IsWithin ys zs → IsWithin xs zs
within_step xs ys zs a b = record { each = λ key h. b.each key (a.each key h) }

pub within_left : (xs ys : List Key) → IsWithin xs (xs ++ ys)
within_left xs ys = record { each = Contains-append_left xs ys }

pub within_right : (xs ys : List Key) → IsWithin ys (xs ++ ys)
within_right xs ys = record { each = Contains-append_right xs ys }

pub nil_within : (xs : List Key) → IsWithin [] xs
nil_within xs = record { each = λ key h. absurd (omega (arith, h.1)) }

pub within_both : (xs ys zs : List Key) → IsWithin xs zs → IsWithin ys zs → IsWithin (xs ++ ys) zs
within_both xs ys zs a b =
    record { each = λ key h. elim (Contains-append_cases xs ys key h) [ inl l ↦ a.each key l | inr r ↦ b.each key r ] }

pub within_parts : (xs ys us vs : List Key) → IsWithin xs us → IsWithin ys vs → IsWithin (xs ++ ys) (us ++ vs)
within_parts xs ys us vs a b =
    within_both xs ys (us ++ vs) (within_step xs us (us ++ vs) a (within_left us vs)) (within_step ys vs (us ++ vs) b (within_right us vs))

pub covered_left : (zs xs ys : List Key) → IsWithin zs xs → IsCovered zs xs ys
covered_left zs xs ys a = record { each = λ key h. inl (a.each key h) }

pub covered_right : (zs xs ys : List Key) → IsWithin zs ys → IsCovered zs xs ys
covered_right zs xs ys a = record { each = λ key h. inr (a.each key h) }

pub covered_both : (zs us xs ys : List Key) → IsCovered zs xs ys → IsCovered us xs ys → IsCovered (zs ++ us) xs ys
covered_both zs us xs ys a b =
    record { each = λ key h. elim (Contains-append_cases zs us key h) [ inl l ↦ a.each key l | inr r ↦ b.each key r ] }

pub covered_turned : (zs xs ys : List Key) → IsCovered zs xs ys → IsCovered zs ys xs
covered_turned zs xs ys c = record { each = λ key h. elim (c.each key h) [ inl l ↦ inr l | inr r ↦ inl r ] }

pub covered_append : (xs ys : List Key) → IsCovered (xs ++ ys) xs ys
covered_append xs ys = record { each = Contains-append_cases xs ys }

pub covered_wider : (zs xs ys us vs : List Key) → IsCovered zs xs ys → IsWithin xs us → IsWithin ys vs → IsCovered zs us vs
covered_wider zs xs ys us vs c a b =
    record { each = λ key h. elim (c.each key h) [ inl l ↦ inl (a.each key l) | inr r ↦ inr (b.each key r) ] }

-- the only element of a list
pub only_one : {X : Type 0} (x y : X) → Contains (x ∷ []) y → x ≡ y
only_one x y h = elim (Contains-push_cases [] x y h) [ inl l ↦ absurd (omega (arith, l.1)) | inr e ↦ e ]

-- one of three elements of a list
pub one_of_three : {X : Type 0} (x y z v : X) → Contains (x ∷ y ∷ z ∷ []) v → (x ≡ v) ⊎ ((y ≡ v) ⊎ (z ≡ v))
one_of_three x y z v h = elim (Contains-push_cases (x ∷ y ∷ []) z v h) [
  | inr e ↦ inr (inr e)
  | inl l ↦ elim (Contains-push_cases (x ∷ []) y v l) [ inr e ↦ inr (inl e) | inl m ↦ inl (only_one x v m) ]
]

-- ---- the keys of a zone that are used so

pub keys_where-append : (test : KeyUse → Bool) (xs ys : List UsedKey) → keys_where test (xs ++ ys) ≡ keys_where test xs ++ keys_where test ys
keys_where-append test xs ys =
    ap (map (λ (k : UsedKey). k.key)) (filter-append (λ (k : UsedKey). test k.usage) xs ys)
    ∙ map-append (λ (k : UsedKey). k.key) (filter (λ (k : UsedKey). test k.usage) xs) (filter (λ (k : UsedKey). test k.usage) ys)

-- a part of the keys of a zone is changed, so that those that were used so still are
pub within_changed : (test : KeyUse → Bool) (others xs ys : List UsedKey) → IsWithin (keys_where test xs) (keys_where test ys)
    → IsWithin (keys_where test (others ++ xs)) (keys_where test (others ++ ys))
within_changed test others xs ys h =
    let both = within_parts (keys_where test others) (keys_where test xs) (keys_where test others) (keys_where test ys) (within_self (keys_where test others)) h in
    rw (keys_where-append test others xs, keys_where-append test others ys) both

-- a part of the keys of a zone is changed, so that those that are used so were, by one or another
pub covered_changed : (test : KeyUse → Bool) (others zs xs ys : List UsedKey) → IsCovered (keys_where test zs) (keys_where test xs) (keys_where test ys)
    → IsCovered (keys_where test (others ++ zs)) (keys_where test (others ++ xs)) (keys_where test (others ++ ys))
covered_changed test others zs xs ys h =
    let o = keys_where test others in
    let z = keys_where test zs in
    let x = keys_where test xs in
    let y = keys_where test ys in
    let first : IsCovered o (o ++ x) (o ++ y) = covered_left o (o ++ x) (o ++ y) (within_left o x) in
    let second : IsCovered z (o ++ x) (o ++ y) = covered_wider z x y (o ++ x) (o ++ y) h (within_right o x) (within_right o y) in
    rw (keys_where-append test others zs, keys_where-append test others xs, keys_where-append test others ys) (covered_both o z (o ++ x) (o ++ y) first second)
