-- The walk up a name to the ancestor of so many labels
use Rattle.std.proofs.Common.{◌≡◌, ℕ, suc, ◌<◌, Bool, true, false, cond, [], ◌∷◌, ◌++◌, ◌-◌, length, take, drop, eq-eqb, eqb-true, refl, sym, ap, ◌∙◌, arith, ◌+◌, ◌≤◌, length-append, true≢false}
use Rattle.std.specs.Prelude.{Option, Some, None, ◌==◌, option_to_list}
use Rattle.std.proofs.lemmas.List.{take-append-drop}
use Rattle.zone_proto.specs.Names.{Name, Label, base_name, is_root, wildcard_under}
use Rattle.zone_map.specs.Counts.{one_more}
use Rattle.zone_response.specs.HashedDenials.{of_labels, next_closer, wildcard_hashed, below_hashed}
use Rattle.zone_response.proofs.NextKeys.{last_length}

unequal : (a b : ℕ) → (a ≡ b → ⊥) → (a == b) ≡ false
unequal a b h = by (a == b) (λ e. eqb-true a b e)
  where
    by : (k : Bool) → (k ≡ true → a ≡ b) → k ≡ false
    by true e = absurd (h (e (λ i. true)))
    by false e = λ i. false

module _ (count : ℕ) where
  -- a longer name is passed
  pub longer_passed : (x : Name) → count < length x → of_labels count (drop 1 x) ≡ of_labels count x
  longer_passed [] h = absurd (omega arith)
  longer_passed (l ∷ a) h = sym (ap (λ b. cond b (Some (l ∷ a)) (of_labels count a)) (unequal (length (l ∷ a)) count (λ e. absurd (omega arith))))

  pub as_long : (x : Name) → length x ≡ count → Some x ≡ of_labels count x
  as_long [] h = sym (ap (λ b. cond b (Some []) None) (eq-eqb (length {A = Label} []) count h))
  as_long (l ∷ a) h = sym (ap (λ b. cond b (Some (l ∷ a)) (of_labels count a)) (eq-eqb (length (l ∷ a)) count h))

  -- the last labels of a name
  of_front : (f a : Name) → length a ≡ count → Some a ≡ of_labels count (f ++ a)
  of_front [] a e = as_long a e
  of_front (l ∷ f) a e = of_front f a e ∙ longer_passed (l ∷ (f ++ a)) (omega (arith, e, length-append f a))

  pub of_last : (x : Name) → count ≤ length x → Some (drop (length x - count) x) ≡ of_labels count x
  of_last x h =
      of_front (take (length x - count) x) (drop (length x - count) x) (last_length count x h)
      ∙ ap (of_labels count) (take-append-drop (length x - count) x)

  -- a shorter one has none
  pub shorter : (x : Name) → length x < count → None ≡ of_labels count x
  shorter [] h = sym (ap (λ b. cond b (Some []) None) (unequal (length {A = Label} []) count (λ e. absurd (omega arith))))
  shorter (l ∷ a) h = shorter a (omega arith) ∙ sym (ap (λ b. cond b (Some (l ∷ a)) (of_labels count a)) (unequal (length (l ∷ a)) count (λ e. absurd (omega arith))))

-- ---- the next closer name under an encloser, one label longer

-- a name that isn't the root is one label longer than its parent
pub child_length : (c : Name) → is_root c ≡ false → length c ≡ suc (length (base_name c))
child_length [] h = absurd (true≢false h)
child_length (l ∷ a) h = refl

pub closer_is : (x c : Name) (count : ℕ) → is_root c ≡ false → count ≡ length c → of_labels count x ≡ next_closer x (base_name c)
closer_is x c count below e = ap (λ k. of_labels k x) (e ∙ child_length c below)

-- it is hashed once, and the wildcard once more
pub closer_counted : (x c : Name) (count before now : ℕ) → is_root c ≡ false → count ≡ length c → now ≤ before + length (option_to_list (of_labels count x)) → now ≤ before + length (wildcard_hashed x (base_name c))
closer_counted x c count before now below e h = omega (arith, ap (λ (o : Option Name). length (option_to_list o)) (closer_is x c count below e))

pub below_counted : (x c : Name) (count before now after : ℕ) → is_root c ≡ false → count ≡ length c → now ≤ before + length (option_to_list (of_labels count x)) → after ≤ now + 1
    → after ≤ before + length (below_hashed x (base_name c))
below_counted x c count before now after below e h k =
    omega (arith, closer_counted x c count before now below e h, length-append (option_to_list (next_closer x (base_name c))) (wildcard_under (base_name c) ∷ []))

-- ---- how many names are hashed on the walk up

at_most_one : (n : ℕ) → one_more n ≤ n + 1
at_most_one n = omega arith

-- one that is left to be tried is hashed, and the walk ends or goes on
pub counted_last : (before now after t all : ℕ) → after ≡ one_more now → now + t ≤ before + all → 1 ≤ t → after ≤ before + all
counted_last before now after t all e h k = omega (arith, e, at_most_one now)

pub counted_on : (before now after t u all : ℕ) → after ≡ one_more now → now + t ≤ before + all → t ≡ suc u → after + u ≤ before + all
counted_on before now after t u all e h k = omega (arith, e, at_most_one now)
