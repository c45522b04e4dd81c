-- Names in messages: what is read stays so as the message goes on, and how a name is put together from its end
use Rattle.std.proofs.Common.{◌≡◌, ℕ, zero, suc, ◌+◌, ◌/◌, ◌%◌, ◌<◌, ◌≤◌, Bool, true, false, cond, leb, ltb, eqb, List, [], ◌∷◌, ◌++◌, length, drop, Option, Some, None, refl, sym, ap, subst, ◌∙◌, arith, inl, inr}
use Rattle.std.proofs.lemmas.Bool.{leb-true, le-leb, lt-ltb, le-ltb, ne_eqb, and_parts, and_from, ltb-true, cases_lt}
use Rattle.std.proofs.lemmas.List.{drop_all}
use Rattle.zone_proto.specs.Names.{Name, Label, wire_length}
use Rattle.message_reading.specs.Octets.{◌>>=◌, octets_of}
use Rattle.message_reading.specs.MessageNames.{name_within, name_of, if_short, label_then, pointed, lead, leads_back, target_of}
use Rattle.message_writing.proofs.Steps.{bind_some, with_more, some_more, octets_go_on, octets_back, goes_on_at}

abbrev pub Found : Type 0
Found = Name × List ℕ

-- ---- what is read stays so

by_kind : (z s r : Bool) (x x' l l' p p' y y' : Option Found) → cond z x (cond s l (cond r None p)) ≡ y
    → (x ≡ y → x' ≡ y') → (l ≡ y → l' ≡ y') → (p ≡ y → p' ≡ y') → (None ≡ y → ⊥) → cond z x' (cond s l' (cond r None p')) ≡ y'
by_kind true s r x x' l l' p p' y y' e hx hl hp hn = hx e
by_kind false true r x x' l l' p p' y y' e hx hl hp hn = hl e
by_kind false false true x x' l l' p p' y y' e hx hl hp hn = absurd (hn e)
by_kind false false false x x' l l' p p' y y' e hx hl hp hn = hp e

none_found : (f : Found) → None ≡ Some f → ⊥
none_found f e = cc

pub nothing_within : (k : ℕ) (m : List ℕ) (at : ℕ) (f : Found) → name_within k m at [] ≡ Some f → ⊥
unfolding name_within
nothing_within zero m at f e = cc
nothing_within (suc k) m at f e = cc

label_goes_on : (name name' : List ℕ → Option Found) (after : List ℕ) (count : ℕ) (octets : List ℕ) (found : Found)
    → ((octets : List ℕ) (f : Found) → name octets ≡ Some f → name' (octets ++ after) ≡ Some (with_more after f))
    → label_then name count octets ≡ Some found → label_then name' count (octets ++ after) ≡ Some (with_more after found)
label_goes_on name name' after count octets found h e =
    let first = bind_some (octets_of count octets) (λ label. name label.1 >>= λ n. Some (label.0 ∷ n.0, n.1)) found e in
    let label = first.0 in
    let second = bind_some (name label.1) (λ n. Some (label.0 ∷ n.0, n.1)) found first.2 in
    let n = second.0 in
    rw (octets_go_on count octets after label first.1, h label.1 n second.1)
    (some_more after (label.0 ∷ n.0, n.1) found second.2)

pub taken : {A : Type 0} (b : Bool) (x y : A) → cond b (Some x) None ≡ Some y → (b ≡ true) × (x ≡ y)
taken true x y e = (refl, cc)
taken false x y e = absurd cc

-- what a pointer that leads somewhere says
pub record Leads (at high : ℕ) (octets : List ℕ) (to : ℕ × List ℕ) : Type 0 where
  pub low : 12 ≤ to.0
  pub back : to.0 < at
  pub longer : (at' : ℕ) → at ≤ at' → (after : List ℕ) → lead at' high (octets ++ after) ≡ Some (with_more after to)

pub leads : (at high : ℕ) (octets : List ℕ) (to : ℕ × List ℕ) → lead at high octets ≡ Some to → Leads at high octets to
leads at high [] to e = absurd cc
leads at high (low ∷ rest) to e =
    let p = target_of high low in
    let g = taken (leads_back at p) (p, rest) to e in
    let tests = and_parts (leb 12 p) (ltb p at) g.0 in
    let same : p ≡ to.0 = ap (λ (x : ℕ × List ℕ). x.0) g.1 in
    record {
      low = subst (λ x. 12 ≤ x) same (leb-true 12 p tests.0);
      back = subst (λ x. x < at) same (ltb-true p at tests.1);
      longer = λ at' le after.
          let again : leads_back at' p ≡ true = and_from (leb 12 p) (ltb p at') tests.0 (lt-ltb p at' (omega (arith, ltb-true p at tests.1))) in
          rw (again) (some_more after (p, rest) to (ap (λ (x : ℕ × List ℕ). Some x) g.1));
    }

pointer_goes_on : (name name' : ℕ → List ℕ → Option Found) (m m' after : List ℕ) (at at' high : ℕ) (octets : List ℕ) (found : Found) → at ≤ at'
    → ((p : ℕ) (f : Found) → 12 ≤ p → name p (drop p m) ≡ Some f → (x : List ℕ) × (name' p (drop p m') ≡ Some (f.0, x)))
    → pointed name m at high octets ≡ Some found → pointed name' m' at' high (octets ++ after) ≡ Some (with_more after found)
pointer_goes_on name name' m m' after at at' high octets found le h e =
    let first = bind_some (lead at high octets) (λ to. name to.0 (drop to.0 m) >>= λ n. Some (n.0, to.1)) found e in
    let to = first.0 in
    let second = bind_some (name to.0 (drop to.0 m)) (λ n. Some (n.0, to.1)) found first.2 in
    let n = second.0 in
    let led = leads at high octets to first.1 in
    let there = h to.0 n led.low second.1 in
    rw (led.longer at' le after, there.1) (some_more after (n.0, to.1) found second.2)

-- Reading is stable: in a message that goes on with this one, with more steps and more behind the octets, the same name is found. All
-- else that is said of names staying where they are follows from this.
pub within_goes_on : (k k' at at' : ℕ) (m rest m' octets after : List ℕ) (found : Found) → k ≤ k' → at ≤ at' → drop 12 m' ≡ drop 12 m ++ rest
    → name_within k m at octets ≡ Some found → name_within k' m' at' (octets ++ after) ≡ Some (with_more after found)
unfolding name_within
within_goes_on zero k' at at' m rest m' octets after found le near g e = absurd cc
within_goes_on (suc k) zero at at' m rest m' octets after found le near g e = absurd (omega arith)
within_goes_on (suc k) (suc k') at at' m rest m' [] after found le near g e = absurd cc
within_goes_on (suc k) (suc k') at at' m rest m' (b ∷ octets) after found le near g e =
    by_kind (eqb b 0) (ltb b 64) (ltb b 192)
    (Some ([], octets)) (Some ([], octets ++ after))
    (label_then (name_within k m at) b octets) (label_then (name_within k' m' at') b (octets ++ after))
    (pointed (name_within k m) m at b octets) (pointed (name_within k' m') m' at' b (octets ++ after))
    (Some found) (Some (with_more after found)) e
    (some_more after ([], octets) found)
    (label_goes_on (name_within k m at) (name_within k' m' at') after b octets found
    (λ octets' f here. within_goes_on k k' at at' m rest m' octets' after f (omega arith) near g here))
    (pointer_goes_on (name_within k m) (name_within k' m') m m' after at at' b octets found near
    (λ p f low here. there k k' m rest m' p f low g
    (λ more. within_goes_on k k' p p m rest m' (drop p m) more f (omega arith) (omega arith) g here)
    here))
    (none_found found)
  where
    there : (k k' : ℕ) (m rest m' : List ℕ) (p : ℕ) (f : Found) → 12 ≤ p → drop 12 m' ≡ drop 12 m ++ rest
        → ((more : List ℕ) → name_within k' m' p (drop p m ++ more) ≡ Some (with_more more f))
        → name_within k m p (drop p m) ≡ Some f → (x : List ℕ) × (name_within k' m' p (drop p m') ≡ Some (f.0, x))
    there k k' m rest m' p f low g h here =
        elim (cases_lt p (length m)) [
          | inl inside ↦ (f.1 ++ rest, rw (goes_on_at m rest m' g p low (omega arith)) (h rest))
          | inr past ↦ absurd (nothing_within k m p f (ap (name_within k m p) (sym (drop_all p m past)) ∙ here))
        ]

-- ---- a name from its end to its front

pub end_back : (k : ℕ) (m : List ℕ) (at : ℕ) (after : List ℕ) → name_within (suc k) m at (0 ∷ after) ≡ Some ([], after)
unfolding name_within
end_back k m at after = refl

pub label_back : (k : ℕ) (m : List ℕ) (at : ℕ) (l : Label) (octets : List ℕ) (n : Name) (after : List ℕ) → 0 < length l → length l ≤ 63
    → name_within k m at octets ≡ Some (n, after)
    → name_within (suc k) m at (length l ∷ (l ++ octets)) ≡ Some (l ∷ n, after)
unfolding name_within
label_back k m at l octets n after long_enough short_enough e =
    let some : eqb (length l) 0 ≡ false = ne_eqb (length l) 0 (λ z. omega (arith, z)) in
    let short : ltb (length l) 64 ≡ true = lt-ltb _ _ (omega arith) in
    rw (some, short, octets_back l octets, e) refl

pub pointer_back : (k : ℕ) (m : List ℕ) (at p : ℕ) (n : Name) (x after : List ℕ) → 12 ≤ p → p < at → p < 16384
    → name_within k m p (drop p m) ≡ Some (n, x)
    → name_within (suc k) m at ((192 + p / 256) ∷ (p % 256) ∷ after) ≡ Some (n, after)
unfolding name_within
pointer_back k m at p n x after low back short e =
    let h = 192 + p / 256 in
    let some : eqb h 0 ≡ false = ne_eqb h 0 (λ z. omega (arith, z)) in
    let long : ltb h 64 ≡ false = le-ltb _ _ (omega arith) in
    let high : ltb h 192 ≡ false = le-ltb _ _ (omega arith) in
    let target : target_of h (p % 256) ≡ p = omega arith in
    let led : leads_back at p ≡ true = and_from (leb 12 p) (ltb p at) (le-leb _ _ low) (lt-ltb _ _ back) in
    rw (some, long, high, target, led, e) refl

-- ---- whole names

pub short_name : (n : Name) (after : List ℕ) → wire_length n ≤ 255 → if_short (n, after) ≡ Some (n, after)
short_name n after h = let short : leb (wire_length n) 255 ≡ true = le-leb _ _ h in rw short refl

pub name_back : (m : List ℕ) (at : ℕ) (octets : List ℕ) (n : Name) (after : List ℕ) → wire_length n ≤ 255
    → name_within 256 m at octets ≡ Some (n, after) → name_of m at octets ≡ Some (n, after)
unfolding name_of
name_back m at octets n after h e = rw e (short_name n after h)
