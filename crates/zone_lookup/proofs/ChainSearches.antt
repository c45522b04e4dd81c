-- How many names a chain searches
use Rattle.std.proofs.Common.{◌≡◌, ℕ, zero, suc, ◌+◌, ◌-◌, ◌≤◌, arith, Bool, true, false, cond, not, ◌&&◌, List, [], ◌∷◌, ◌++◌, map, length, refl, sym, ap, ◌∙◌, append_assoc}
use Rattle.std.specs.Prelude.{Option, Some, None, nat_lt}
use Rattle.std.specs.Option.{option_map_or}
use Rattle.std.specs.List.{list_any}
use Rattle.std.proofs.lemmas.Bool.Decides.{leb_tells}
use Rattle.std.proofs.lemmas.List.{append-nil, map-append, length-append}
use Rattle.zone_proto.specs.Names.{Name, name_eq}
use Rattle.zone_proto.specs.Sets.{RRset}
use Rattle.zone_map.specs.Zones.{Sets}
use Rattle.zone_map.specs.Wildcards.{found}
use Rattle.zone_map.specs.Chains.{cname_target, last_target, leads_on, chain_searches}
use Rattle.zone_map.specs.Counts.{one_more, counted_more}
use Rattle.zone_map.proofs.Chains.{rest_of, rest_none, rest_seen, rest_unfound, rest_more, searches_of, searches_none, searches_seen, searches_unfound, searches_step, chain_begins}

abbrev names : List (Name × RRset) → List Name
names es = map (λ e. e.0) es

last_of : (es : List (Name × RRset)) (e : Name × RRset) → last_target (es ++ e ∷ []) ≡ cname_target e.1
last_of [] e = refl
last_of (x ∷ []) e = refl
last_of (x ∷ y ∷ es) e = last_of (y ∷ es) e

-- whether a chain with this last target leads on
abbrev leads : List (Name × RRset) → Option Name → Bool
leads es next = nat_lt (length es) 8 && option_map_or (λ n. not (list_any (name_eq n) (names es))) next false

ended : (b : Bool) → ◌≡◌ {A = ℕ} (cond (b && false) 1 0) 0
ended true = refl
ended false = refl

plus_none : (k : ℕ) → 0 + k ≡ k
plus_none k = omega arith

suc_plus : (j k : ℕ) → suc j + k ≡ suc (j + k)
suc_plus j k = omega arith

less_one : (k : ℕ) → suc k - 1 ≡ k
less_one k = omega arith

full : (k : ℕ) → k ≡ 8 → nat_lt k 8 ≡ false
full k h = grind (arith, leb_tells)

room : (k j : ℕ) → k + suc j ≡ 8 → nat_lt k 8 ≡ true
room k j h = grind (arith, leb_tells)

module _ (m : Sets) (signed : Bool) (t : ℕ) where
  -- what the searches that are left come to, after some sets
  abbrev Comes : ℕ → List (Name × RRset) → Type 0
  Comes k es = searches_of m signed t k (names es) (last_target es) ≡ length (rest_of m signed t k (names es) (last_target es)) + cond (leads_on (es ++ rest_of m signed t k (names es) (last_target es))) 1 0

  comes : (k : ℕ) (es : List (Name × RRset)) → length es + k ≡ 8 → Comes k es
  comes zero es h =
      sym (plus_none (cond (leads_on (es ++ [])) 1 0)
      ∙ ap (λ w. cond (leads_on w) 1 0) (append-nil es)
      ∙ ap (λ b. cond (b && option_map_or (λ n. not (list_any (name_eq n) (names es))) (last_target es) false) 1 0) (full (length es) (omega (arith, h))))
  comes (suc k) es h = by (comes k) (last_target es) refl
    where
      stops : (p : Option Name) → last_target es ≡ p → rest_of m signed t (suc k) (names es) (last_target es) ≡ []
          → length (rest_of m signed t (suc k) (names es) (last_target es)) + cond (leads_on (es ++ rest_of m signed t (suc k) (names es) (last_target es))) 1 0 ≡ cond (leads es p) 1 0
      stops p e none =
          ap (λ r. length r + cond (leads_on (es ++ r)) 1 0) none
          ∙ plus_none (cond (leads_on (es ++ [])) 1 0)
          ∙ ap (λ w. cond (leads_on w) 1 0) (append-nil es)
          ∙ ap (λ q. cond (leads es q) 1 0) e

      goes : ((longer : List (Name × RRset)) → length longer + k ≡ 8 → Comes k longer) → (n : Name) → last_target es ≡ Some n → list_any (name_eq n) (names es) ≡ false → (o : Option RRset) → found m signed n t ≡ o → Comes (suc k) es
      goes ih n e new None f =
          searches_unfound m signed t (suc k) k (names es) (last_target es) n refl e new f
          ∙ sym (stops (Some n) e (rest_unfound m signed t (suc k) (names es) (last_target es) n e f)
          ∙ ap (λ b. cond (b && not (list_any (name_eq n) (names es))) 1 0) (room (length es) k h)
          ∙ ap (λ b. cond (not b) 1 0) new)
      goes ih n e new (Some s) f =
          let longer : List (Name × RRset) = es ++ (n, s) ∷ [] in
          let grown : names es ++ n ∷ [] ≡ names longer = sym (map-append (λ (e : Name × RRset). e.0) es ((n, s) ∷ [])) in
          let leads_to : cname_target s ≡ last_target longer = sym (last_of es (n, s)) in
          let left_of : List (Name × RRset) = rest_of m signed t k (names longer) (last_target longer) in
          let left : rest_of m signed t k (names es ++ n ∷ []) (cname_target s) ≡ rest_of m signed t k (names longer) (last_target longer) =
          ap (λ x. rest_of m signed t k x (cname_target s)) grown ∙ ap (rest_of m signed t k (names longer)) leads_to in
          let rest : rest_of m signed t (suc k) (names es) (last_target es) ≡ (n, s) ∷ rest_of m signed t k (names longer) (last_target longer) =
          rest_more m signed t (suc k) k (names es) (last_target es) n s refl e new f ∙ ap (λ w. (n, s) ∷ w) left in
          searches_step m signed t (suc k) k (names es) (last_target es) n s refl e new f
          ∙ ap (λ x. suc (searches_of m signed t k x (cname_target s))) grown
          ∙ ap (λ p. suc (searches_of m signed t k (names longer) p)) leads_to
          ∙ ap suc (ih longer (omega (arith, h, length-append es ((n, s) ∷ []))))
          ∙ sym (ap (λ r. length r + cond (leads_on (es ++ r)) 1 0) rest
          ∙ suc_plus (length left_of) (cond (leads_on (es ++ (n, s) ∷ left_of)) 1 0)
          ∙ ap (λ w. suc (length left_of + cond (leads_on w) 1 0)) (sym (append_assoc es ((n, s) ∷ []) left_of)))

      known : ((longer : List (Name × RRset)) → length longer + k ≡ 8 → Comes k longer) → (n : Name) → last_target es ≡ Some n → (b : Bool) → list_any (name_eq n) (names es) ≡ b → Comes (suc k) es
      known ih n e true h =
          searches_seen m signed t (suc k) (names es) (last_target es) n e h
          ∙ sym (stops (Some n) e (rest_seen m signed t (suc k) (names es) (last_target es) n e h)
          ∙ ap (λ b. cond (nat_lt (length es) 8 && not b) 1 0) h ∙ ended (nat_lt (length es) 8))
      known ih n e false h = goes ih n e h (found m signed n t) refl

      by : ((longer : List (Name × RRset)) → length longer + k ≡ 8 → Comes k longer) → (p : Option Name) → last_target es ≡ p → Comes (suc k) es
      by ih None e =
          searches_none m signed t (suc k) (names es) (last_target es) e
          ∙ sym (stops None e (rest_none m signed t (suc k) (names es) (last_target es) e) ∙ ended (nat_lt (length es) 8))
      by ih (Some n) e = known ih n e (list_any (name_eq n) (names es)) refl

  pub searches_are : (n : Name) (s : RRset) → searches_of m signed t 7 (n ∷ []) (cname_target s) ≡ chain_searches m signed n s t
  searches_are n s =
      comes 7 ((n, s) ∷ []) refl
      ∙ ap (λ k. k + cond (leads_on ((n, s) ∷ rest_of m signed t 7 (n ∷ []) (cname_target s))) 1 0) (sym (less_one (length (rest_of m signed t 7 (n ∷ []) (cname_target s)))))
      ∙ ap (λ es. length es - 1 + cond (leads_on es) 1 0) (sym (chain_begins m signed t n s))

-- ---- the count

pub at_most_one : (n : ℕ) → one_more n ≤ n + 1
at_most_one n = omega arith

pub counted_first : (k n : ℕ) → counted_more k (one_more n) ≡ one_more (counted_more k n)
counted_first zero n = refl
counted_first (suc k) n = ap one_more (counted_first k n)
