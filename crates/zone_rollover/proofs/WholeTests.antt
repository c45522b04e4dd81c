-- The test whether a zone is whole says whether it is
use Rattle.std.proofs.Common.{◌≡◌, ℕ, Bool, true, false, cond, List, [], ◌∷◌, refl, ap, sym, ◌∙◌, ◌⊎◌, inl, inr, arith}
use Rattle.std.specs.Prelude.{◌==◌, ◌&&◌, ◌||◌, not, map, filter, Contains}
use Rattle.std.specs.List.{list_any, list_all}
use Rattle.std.proofs.lemmas.Bool.Decides.{Decides-eqb}
use Rattle.std.proofs.lemmas.List.Elements.{Contains-append_right, Contains-append_cases}
use Rattle.zone_rollover.specs.declared.key_use.Key.{Key}
use Rattle.zone_rollover.specs.declared.key_use.KeyUse.{KeyUse}
use Rattle.zone_rollover.specs.declared.key_use.UsedKey.{UsedKey}
use Rattle.zone_rollover.specs.declared.wholeness.Part.{Part}
use Rattle.zone_rollover.specs.declared.wholeness.Part.TheVariants.{Published, SignsKeys, SignsOthers, WantsDs}
use Rattle.zone_rollover.specs.KeyUses.{keys_where, dnskey_set, dnskey_signers, wanted_ds}
use Rattle.zone_rollover.specs.Chains.{IsAuthenticated, IsSigned, IsWhole}
use Rattle.zone_rollover.specs.Wholeness.{has, is_same, stands, enters, signs, some_alike, enters_by, signs_by, is_alike, is_entered, is_signed, is_chained}
use Rattle.zone_rollover.proofs.KeyLists.{only_one}

-- ---- tests

both_true : (a b : Bool) → (a && b) ≡ true → (a ≡ true) × (b ≡ true)
both_true true b h = (refl, h)
both_true false b h = cc

true_both : (a b : Bool) → a ≡ true → b ≡ true → (a && b) ≡ true
true_both true b p q = q
true_both false b p q = cc

either_true : (a b : Bool) → (a || b) ≡ true → (a ≡ true) ⊎ (b ≡ true)
either_true true b h = inl refl
either_true false b h = inr h

true_left : (a b : Bool) → a ≡ true → (a || b) ≡ true
true_left true b h = refl
true_left false b h = cc

true_right : (a b : Bool) → b ≡ true → (a || b) ≡ true
true_right true b h = refl
true_right false b h = h

any_weaker : (p q : UsedKey → Bool) → ((k : UsedKey) → p k ≡ true → q k ≡ true) → (ks : List UsedKey) → list_any p ks ≡ true → list_any q ks ≡ true
any_weaker p q w [] h = h
any_weaker p q w (k ∷ ks) h = elim (either_true (p k) (list_any p ks) h) [
  | inl l ↦ true_left (q k) (list_any q ks) (w k l)
  | inr r ↦ true_right (q k) (list_any q ks) (any_weaker p q w ks r)
]

-- an element that passes one test passes another that all pass
any_and_all : (p q : UsedKey → Bool) (ks : List UsedKey) → list_any p ks ≡ true → list_all q ks ≡ true → (k : UsedKey) × (p k ≡ true) × (q k ≡ true)
any_and_all p q [] h g = cc
any_and_all p q (k ∷ ks) h g =
    let parts = both_true (q k) (list_all q ks) g in
    elim (either_true (p k) (list_any p ks) h) [ inl l ↦ (k, l, parts.0) | inr r ↦ any_and_all p q ks r parts.1 ]

same_keys : (a b : Key) → is_same a b ≡ true → a ≡ b
same_keys a b h =
    let parts = both_true (a.number == b.number) (a.algorithm == b.algorithm) h in
    let n = (Decides-eqb a.number b.number).0 parts.0 in
    let m = (Decides-eqb a.algorithm b.algorithm).0 parts.1 in
    let first : a ≡ record { number = b.number; algorithm = a.algorithm } = ap (λ (x : ℕ). let made : Key = record { number = x; algorithm = a.algorithm } in made) n in
    let second : record { number = b.number; algorithm = a.algorithm } ≡ b = ap (λ (x : ℕ). let made : Key = record { number = b.number; algorithm = x } in made) m in
    first ∙ second

same_itself : (a b : Key) → a ≡ b → is_same a b ≡ true
same_itself a b e =
    true_both (a.number == b.number) (a.algorithm == b.algorithm)
    ((Decides-eqb a.number b.number).1 (ap (λ (k : Key). k.number) e))
    ((Decides-eqb a.algorithm b.algorithm).1 (ap (λ (k : Key). k.algorithm) e))

-- ---- a key that is used so

abbrev key_of : UsedKey → Key
key_of k = k.key

-- the keys with which this is done
abbrev keys_with : Part → List UsedKey → List Key
keys_with part keys = keys_where (λ (u : KeyUse). has u part) keys

behind : (x : Key) (xs : List Key) (y : Key) → Contains xs y → Contains (x ∷ xs) y
behind x xs y h = Contains-append_right (x ∷ []) xs y h

ahead : (x : Key) (xs : List Key) (y : Key) → x ≡ y → Contains (x ∷ xs) y
ahead x xs y e = (0, omega arith, e)

found_step : (s b rest : Bool) (k : UsedKey) (us : List UsedKey) (key : Key) → (s ≡ true → k.key ≡ key) → (rest ≡ true → Contains (map key_of us) key)
    → ((s && b) || rest) ≡ true → Contains (map key_of (cond b (k ∷ us) us)) key
found_step true true rest k us key same found h = ahead k.key (map key_of us) key (same refl)
found_step true false rest k us key same found h = found h
found_step false true rest k us key same found h = behind k.key (map key_of us) key (found h)
found_step false false rest k us key same found h = found h

stands_in : (part : Part) (keys : List UsedKey) (key : Key) → stands keys key part ≡ true → Contains (keys_with part keys) key
stands_in part [] key h = cc
stands_in part (k ∷ ks) key h =
    found_step (is_same k.key key) (has k.usage part) (stands ks key part) k (filter (λ (u : UsedKey). has u.usage part) ks) key
    (same_keys k.key key) (stands_in part ks key) h

told_step : (b : Bool) (k : UsedKey) (us : List UsedKey) (key : Key) (rest : Bool) → (Contains (map key_of us) key → rest ≡ true)
    → Contains (map key_of (cond b (k ∷ us) us)) key → ((is_same k.key key && b) || rest) ≡ true
told_step true k us key rest told h = elim (Contains-append_cases (k.key ∷ []) (map key_of us) key h) [
  | inl l ↦ true_left (is_same k.key key && true) rest (true_both (is_same k.key key) true (same_itself k.key key (only_one k.key key l)) refl)
  | inr r ↦ true_right (is_same k.key key && true) rest (told r)
]
told_step false k us key rest told h = true_right (is_same k.key key && false) rest (told h)

stands_told : (part : Part) (keys : List UsedKey) (key : Key) → Contains (keys_with part keys) key → stands keys key part ≡ true
stands_told part [] key h = absurd (omega (arith, h.1))
stands_told part (k ∷ ks) key h =
    told_step (has k.usage part) k (filter (λ (u : UsedKey). has u.usage part) ks) key (stands ks key part) (stands_told part ks key) h

-- ---- keys of an algorithm

alike_found : (test : Key → Bool) (keys : List UsedKey) (a : ℕ) → some_alike test keys a ≡ true → (key : Key) × (key.algorithm ≡ a) × (test key ≡ true)
alike_found test [] a h = cc
alike_found test (k ∷ ks) a h = elim (either_true ((k.key.algorithm == a) && test k.key) (some_alike test ks a) h) [
  | inl l ↦ let parts = both_true (k.key.algorithm == a) (test k.key) l in (k.key, (Decides-eqb k.key.algorithm a).0 parts.0, parts.1)
  | inr r ↦ alike_found test ks a r
]

alike_told : (test : Key → Bool) (part : Part) (keys : List UsedKey) (key : Key) (a : ℕ) → Contains (keys_with part keys) key → key.algorithm ≡ a → test key ≡ true
    → some_alike test keys a ≡ true
alike_told test part keys key a h e t =
    any_weaker (λ (k : UsedKey). is_same k.key key && has k.usage part) (λ (k : UsedKey). (k.key.algorithm == a) && test k.key)
    (λ k p.
    let same = same_keys k.key key ((both_true (is_same k.key key) (has k.usage part) p).0) in
    true_both (k.key.algorithm == a) (test k.key)
    ((Decides-eqb k.key.algorithm a).1 (ap (λ (x : Key). x.algorithm) same ∙ e))
    (ap test same ∙ t))
    keys (stands_told part keys key h)

-- ---- each key of a part

each_said : (part : Part) (test : ℕ → Bool) (keys : List UsedKey) → list_all (is_alike part test) keys ≡ true → (d : Key) → Contains (keys_with part keys) d → test d.algorithm ≡ true
each_said part test keys all d h =
    let one = any_and_all (λ (k : UsedKey). is_same k.key d && has k.usage part) (is_alike part test) keys (stands_told part keys d h) all in
    let parts = both_true (is_same one.0.key d) (has one.0.usage part) one.1 in
    let same = same_keys one.0.key d parts.0 in
    elim (either_true (not (has one.0.usage part)) (test one.0.key.algorithm) one.2) [
      | inl l ↦ absurd (let wrong : not true ≡ true = ap not (sym parts.1) ∙ l in cc)
      | inr r ↦ sym (ap (λ (x : Key). test x.algorithm) same) ∙ r
    ]

all_step : (part : Part) (test : ℕ → Bool) (b : Bool) (k : UsedKey) (us : List UsedKey) → ((d : Key) → Contains (map key_of (cond b (k ∷ us) us)) d → test d.algorithm ≡ true)
    → (not b || test k.key.algorithm) ≡ true
all_step part test true k us h = h k.key (ahead k.key (map key_of us) k.key refl)
all_step part test false k us h = refl

rest_step : (b : Bool) (k : UsedKey) (us : List UsedKey) (d : Key) → Contains (map key_of us) d → Contains (map key_of (cond b (k ∷ us) us)) d
rest_step true k us d h = behind k.key (map key_of us) d h
rest_step false k us d h = h

all_told : (part : Part) (test : ℕ → Bool) (keys : List UsedKey) → ((d : Key) → Contains (keys_with part keys) d → test d.algorithm ≡ true) → list_all (is_alike part test) keys ≡ true
all_told part test [] h = refl
all_told part test (k ∷ ks) h =
    let us = filter (λ (u : UsedKey). has u.usage part) ks in
    true_both (is_alike part test k) (list_all (is_alike part test) ks)
    (all_step part test (has k.usage part) k us h)
    (all_told part test ks (λ d c. h d (rest_step (has k.usage part) k us d c)))

some_step : (b rest : Bool) (k : UsedKey) (us : List UsedKey) → (rest ≡ true → (d : Key) × Contains (map key_of us) d) → (b || rest) ≡ true
    → (d : Key) × Contains (map key_of (cond b (k ∷ us) us)) d
some_step true rest k us found h = (k.key, ahead k.key (map key_of us) k.key refl)
some_step false rest k us found h = found h

some_said : (part : Part) (keys : List UsedKey) → list_any (λ (k : UsedKey). has k.usage part) keys ≡ true → (d : Key) × Contains (keys_with part keys) d
some_said part [] h = cc
some_said part (k ∷ ks) h =
    some_step (has k.usage part) (list_any (λ (o : UsedKey). has o.usage part) ks) k (filter (λ (u : UsedKey). has u.usage part) ks) (some_said part ks) h

some_told : (part : Part) (keys : List UsedKey) (d : Key) → Contains (keys_with part keys) d → list_any (λ (k : UsedKey). has k.usage part) keys ≡ true
some_told part keys d h =
    any_weaker (λ (k : UsedKey). is_same k.key d && has k.usage part) (λ (k : UsedKey). has k.usage part)
    (λ k p. (both_true (is_same k.key d) (has k.usage part) p).1) keys (stands_told part keys d h)

-- ---- the parts of a chain

module _ (keys : List UsedKey) where
  -- a key of the DS set in the DNSKEY set, which it signs
  abbrev Enters : Key → Type 0
  Enters key = Contains (wanted_ds keys) key × Contains (dnskey_set keys) key × Contains (dnskey_signers keys) key

  enters_said : (key : Key) → enters keys key ≡ true → Enters key
  enters_said key h =
      let wanted = both_true (stands keys key WantsDs) (stands keys key Published && stands keys key SignsKeys) h in
      let others = both_true (stands keys key Published) (stands keys key SignsKeys) wanted.1 in
      (stands_in WantsDs keys key wanted.0, stands_in Published keys key others.0, stands_in SignsKeys keys key others.1)

  enters_told : (key : Key) → Enters key → enters keys key ≡ true
  enters_told key h =
      true_both (stands keys key WantsDs) (stands keys key Published && stands keys key SignsKeys) (stands_told WantsDs keys key h.0)
      (true_both (stands keys key Published) (stands keys key SignsKeys) (stands_told Published keys key h.1) (stands_told SignsKeys keys key h.2))

  entered_each : list_all (is_alike WantsDs (enters_by keys)) keys ≡ true → (d : Key) → Contains (wanted_ds keys) d
      → (key : Key) × (key.algorithm ≡ d.algorithm) × Contains (wanted_ds keys) key × Contains (dnskey_set keys) key × Contains (dnskey_signers keys) key
  entered_each all d h =
      let one = alike_found (enters keys) keys d.algorithm (each_said WantsDs (enters_by keys) keys all d h) in
      let parts = enters_said one.0 one.2 in
      (one.0, one.1, parts.0, parts.1, parts.2)

  pub entered_said : is_entered keys ≡ true → IsAuthenticated (wanted_ds keys) (dnskey_set keys) (dnskey_signers keys)
  entered_said h =
      let parts = both_true (list_any (λ (k : UsedKey). has k.usage WantsDs) keys) (list_all (is_alike WantsDs (enters_by keys)) keys) h in
      let some = some_said WantsDs keys parts.0 in
      let one = entered_each parts.1 some.0 some.1 in
      record { found = (one.0, one.2, one.3, one.4); each_algorithm = entered_each parts.1 }

  pub entered_told : IsAuthenticated (wanted_ds keys) (dnskey_set keys) (dnskey_signers keys) → is_entered keys ≡ true
  entered_told h =
      true_both (list_any (λ (k : UsedKey). has k.usage WantsDs) keys) (list_all (is_alike WantsDs (enters_by keys)) keys)
      (some_told WantsDs keys h.found.0 h.found.1)
      (all_told WantsDs (enters_by keys) keys
      (λ d c.
      let e = h.each_algorithm d c in
      alike_told (enters keys) WantsDs keys e.0 d.algorithm e.2 e.1 (enters_told e.0 (e.2, e.3, e.4))))

  -- a key in the DNSKEY set that signs
  signs_said : (part : Part) (key : Key) → signs keys key part ≡ true → Contains (dnskey_set keys) key × Contains (keys_with part keys) key
  signs_said part key h =
      let parts = both_true (stands keys key Published) (stands keys key part) h in
      (stands_in Published keys key parts.0, stands_in part keys key parts.1)

  signs_told : (part : Part) (key : Key) → Contains (dnskey_set keys) key → Contains (keys_with part keys) key → signs keys key part ≡ true
  signs_told part key p q =
      true_both (stands keys key Published) (stands keys key part) (stands_told Published keys key p) (stands_told part keys key q)

  signed_each : (part : Part) → list_all (is_alike Published (signs_by keys part)) keys ≡ true → (d : Key) → Contains (dnskey_set keys) d
      → (key : Key) × (key.algorithm ≡ d.algorithm) × Contains (dnskey_set keys) key × Contains (keys_with part keys) key
  signed_each part all d h =
      let one = alike_found (λ (k : Key). signs keys k part) keys d.algorithm (each_said Published (signs_by keys part) keys all d h) in
      let parts = signs_said part one.0 one.2 in
      (one.0, one.1, parts.0, parts.1)

  pub signed_said : (part : Part) → is_signed keys part ≡ true → IsSigned (dnskey_set keys) (keys_with part keys)
  signed_said part h =
      let parts = both_true (list_any (λ (k : UsedKey). has k.usage Published) keys) (list_all (is_alike Published (signs_by keys part)) keys) h in
      let some = some_said Published keys parts.0 in
      let one = signed_each part parts.1 some.0 some.1 in
      record { found = (one.0, one.2, one.3); each_algorithm = signed_each part parts.1 }

  pub signed_told : (part : Part) → IsSigned (dnskey_set keys) (keys_with part keys) → is_signed keys part ≡ true
  signed_told part h =
      true_both (list_any (λ (k : UsedKey). has k.usage Published) keys) (list_all (is_alike Published (signs_by keys part)) keys)
      (some_told Published keys h.found.0 h.found.1)
      (all_told Published (signs_by keys part) keys
      (λ d c.
      let e = h.each_algorithm d c in
      alike_told (λ (k : Key). signs keys k part) Published keys e.0 d.algorithm e.2 e.1 (signs_told part e.0 e.2 e.3)))

  -- ---- all of it

  pub whole_said : is_chained keys ≡ true → IsWhole keys
  whole_said h =
      let first = both_true (is_entered keys) (is_signed keys SignsKeys && is_signed keys SignsOthers) h in
      let others = both_true (is_signed keys SignsKeys) (is_signed keys SignsOthers) first.1 in
      record {
        delegation = entered_said first.0;
        keys_signed = signed_said SignsKeys others.0;
        requests_signed = signed_said SignsKeys others.0;
        set_signed = signed_said SignsOthers others.1;
      }

  pub whole_told : IsWhole keys → is_chained keys ≡ true
  whole_told h =
      true_both (is_entered keys) (is_signed keys SignsKeys && is_signed keys SignsOthers) (entered_told h.delegation)
      (true_both (is_signed keys SignsKeys) (is_signed keys SignsOthers) (signed_told SignsKeys h.keys_signed) (signed_told SignsOthers h.set_signed))
