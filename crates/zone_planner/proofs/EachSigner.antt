-- The signers of keys, one after the other, and the sets that they leave out
use Rattle.std.proofs.Common.{◌≡◌, ℕ, zero, suc, ◌+◌, ◌<◌, ◌||◌, Bool, true, false, cond, List, [], ◌∷◌, ◌++◌, length, get_or, take, refl, sym, ap, ◌∙◌, subst, ◌⊎◌, inl, inr, length-append}
use Rattle.std.specs.Prelude.{Option, Some, None, slice_get}
use Rattle.std.specs.Cmp.{both_ways}
use Rattle.std.specs.List.{list_any}
use Rattle.std.specs.Borrow.{Bor}
use Rattle.std.specs.Option.{ForSome, IsSomeAnd}
use Rattle.std.specs.Ordering.{is_eq}
use Rattle.std.proofs.lemmas.List.Folds.{list_any_more}
use Rattle.std.proofs.lemmas.Option.{slice_get-get_or}
use Rattle.zone_proto.specs.declared.rr_key.RrKey.{RrKey}
use Rattle.zone_proto.specs.Keys.{key_cmp, key_eq}
use Rattle.zone_proto.specs.Names.{Name}
use Rattle.zone_proto.proofs.Ordering.KeyOrder.{key_same, key_itself}
use Rattle.zone_planning.specs.declared.signer.PlanSigner.{PlanSigner}
use Rattle.zone_planner.specs.declared.keys.PlannedKey.{PlannedKey}
use Rattle.zone_planner.specs.declared.request.Request.{Request}
use Rattle.zone_planner.specs.Plans.{AreSignersOf, IsSignerOf}

-- ---- an element behind others

got_behind : {A : Type 0} (xs : List A) (x y : A) (j : ℕ) → slice_get (xs ++ x ∷ []) j ≡ Some y → (slice_get xs j ≡ Some y) ⊎ ((j ≡ length xs) × (x ≡ y))
got_behind [] x y zero e = inr (refl, cc)
got_behind [] x y (suc j) e = absurd cc
got_behind (z ∷ xs) x y zero e = inl e
got_behind (z ∷ xs) x y (suc j) e = by (got_behind xs x y j e)
  where
    by : (slice_get xs j ≡ Some y) ⊎ ((j ≡ length xs) × (x ≡ y)) → (slice_get xs j ≡ Some y) ⊎ ((suc j ≡ length (z ∷ xs)) × (x ≡ y))
    by (inl h) = inl h
    by (inr h) = inr (ap (λ n. suc n) h.0, h.1)

-- ---- the signers so far

-- so many signers, each of the key of its place
pub record AreSignersFrom (origin : Name) (keys : List PlannedKey) (request : Request) (unsigned : List RrKey) (count : ℕ) (signers : List PlanSigner) : Type 0 where
  pub counted : length signers ≡ count
  pub each : (i : ℕ) (k : PlannedKey) (s : PlanSigner) → slice_get keys i ≡ Some k → slice_get signers i ≡ Some s → IsSignerOf origin request unsigned i k s

module _ (origin : Name) (keys : List PlannedKey) (request : Request) (unsigned : List RrKey) where
  pub more_signers : (count number : ℕ) (signers more : List PlanSigner) (k : PlannedKey) (s : PlanSigner) → count < length keys → number ≡ count → k ≡ get_or keys count k
      → more ≡ signers ++ s ∷ [] → IsSignerOf origin request unsigned number k s → AreSignersFrom origin keys request unsigned count signers
      → AreSignersFrom origin keys request unsigned (count + 1) more
  more_signers count number signers more k s within at item pushed is so = record {
    counted = ap length pushed ∙ length-append signers (s ∷ []) ∙ ap (λ n. n + 1) so.counted;
    each = λ i l t h g. by i l t h (got_behind signers s t i (ap (λ (xs : List PlanSigner). slice_get xs i) (sym pushed) ∙ g));
  }
    where
      by : (i : ℕ) (l : PlannedKey) (t : PlanSigner) → slice_get keys i ≡ Some l → (slice_get signers i ≡ Some t) ⊎ ((i ≡ length signers) × (s ≡ t)) → IsSignerOf origin request unsigned i l t
      by i l t h (inl g) = so.each i l t h g
      by i l t h (inr g) =
          let place : number ≡ i = at ∙ sym so.counted ∙ sym g.0 in
          let here : slice_get keys count ≡ Some k = slice_get-get_or keys count k within ∙ ap Some (sym item) in
          let same : Some k ≡ Some l = sym here ∙ ap (slice_get keys) (sym at ∙ place) ∙ h in
          let key : k ≡ l = cc in
          subst (λ (t : PlanSigner). IsSignerOf origin request unsigned i l t) g.1
          (subst (λ (l : PlannedKey). IsSignerOf origin request unsigned i l s) key (subst (λ (n : ℕ). IsSignerOf origin request unsigned n k s) place is))

  pub all_signers : (count : ℕ) (signers : List PlanSigner) → count ≡ length keys → AreSignersFrom origin keys request unsigned count signers → AreSignersOf origin keys request unsigned signers
  all_signers count signers all so = record { count = so.counted ∙ all; each = so.each }

-- ---- what they leave out

-- a key more among others
one_more : (q k : RrKey) (b : Bool) → cond (is_eq (key_cmp k q)) true b ≡ b || key_eq q k
one_more q k b = by (is_eq (key_cmp k q)) refl b
  where
    turned : is_eq (key_cmp k q) ≡ key_eq q k
    turned = both_ways (is_eq (key_cmp k q)) (key_eq q k)
        (λ h. let same = key_same k q h in ap (key_eq q) same ∙ key_itself q)
        (λ h. let same = key_same q k h in ap (key_eq k) same ∙ key_itself k)

    by : (c : Bool) → is_eq (key_cmp k q) ≡ c → (b : Bool) → cond c true b ≡ b || key_eq q k
    by true e true = refl
    by true e false = sym e ∙ turned
    by false e true = refl
    by false e false = sym e ∙ turned

pub more_keys : (keys old new : List RrKey) (i : ℕ) (k : RrKey) → i < length keys → k ≡ get_or keys i k
    → ((q : RrKey) → list_any (key_eq q) new ≡ cond (is_eq (key_cmp k q)) true (list_any (key_eq q) old))
    → ((q : RrKey) → list_any (key_eq q) old ≡ list_any (key_eq q) (take i keys)) → (q : RrKey) → list_any (key_eq q) new ≡ list_any (key_eq q) (take (i + 1) keys)
more_keys keys old new i k within item added so q =
    added q
    ∙ one_more q k (list_any (key_eq q) old)
    ∙ (λ j. so q j || key_eq q (item j))
    ∙ sym (list_any_more (key_eq q) keys i k within)

-- what is known of a name that there is, of the same name
pub known_of : (P : Name → Type 0) (o : Option (Bor Name)) (n : Name) → ForSome o (λ a. P a.now) → IsSomeAnd o (λ a. a.now ≡ n) → P n
known_of P None n h s = absurd s
known_of P (Some a) n h s = subst P s (h a refl)
