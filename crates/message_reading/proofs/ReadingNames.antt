-- A loop that reads a name: the labels so far, and what follows the first pointer, if one was met
use Rattle.std.proofs.Common.{◌≡◌, ℕ, zero, suc, ◌+◌, ◌<◌, ◌≤◌, true, false, cond, eqb, ltb, leb, List, [], ◌∷◌, ◌++◌, length, take, drop, Option, Some, None, refl, sym, ap, subst, ◌∙◌, append_assoc, arith, length-append, Bor}
use Rattle.std.specs.Prelude.{unwrap_or, option_map}
use Rattle.std.proofs.lemmas.Bool.{le-ltb, ne_eqb, lt-ltb, lt-leb, le-leb}
use Rattle.std.proofs.lemmas.List.{append-nil, drop_all, length-take}
use Rattle.zone_proto.specs.Counting.{counting}
use Rattle.zone_proto.specs.Names.{Name, Label, wire_form, wire_length}
use Rattle.zone_proto.specs.WireForms.{HaveOctets}
use Rattle.message_reading.specs.Octets.{◌>>=◌}
use Rattle.message_reading.specs.MessageNames.{name_of, name_within, lead, if_short, Spells}
use Rattle.message_reading.proofs.NamesSpelled.{counting-push, counting_ended, filled-push, longer, one_spelling, some_length}

abbrev pub Found : Type 0
Found = Name × List ℕ

-- what was found so far, and then what is still found
abbrev pub completed : Name → Option (List ℕ) → Option Found → Option Found
completed front after found = found >>= λ x. Some (front ++ x.0, unwrap_or after x.1)

-- so many steps are left, these labels were read, and the rest is what the whole gives
pub record IsOnTheWay (message : List ℕ) (whole : Option Found) (k before : ℕ) (text rest : List ℕ) (after : Option (List ℕ)) : Type 0 where
  pub front : Name
  pub spelled : text ≡ counting front
  pub filled : HaveOctets front
  pub short : length text ≤ 254
  pub gives : completed front after (name_within k message before rest) ≡ whole

pub way_none : (message : List ℕ) (at : ℕ) (octets : List ℕ)
    → IsOnTheWay message (name_within 256 message at octets) 256 at [] octets None
way_none message at octets =
    record { front = []; spelled = refl; filled = tt; short = omega arith; gives = same (name_within 256 message at octets) }
  where
    same : (found : Option Found) → completed [] None found ≡ found
    same None = refl
    same (Some x) = refl

-- a name is one that is read and short, or there is none
pub unread : (message : List ℕ) (at : ℕ) (octets : List ℕ) → name_within 256 message at octets ≡ None → name_of message at octets ≡ None
unfolding name_of
unread message at octets e = ap (λ x. x >>= if_short) e

pub read_short : (message : List ℕ) (at : ℕ) (octets : List ℕ) → name_within 256 message at octets >>= if_short ≡ name_of message at octets
unfolding name_of
read_short message at octets = refl

nothing : (message : List ℕ) (before k : ℕ) → name_within k message before [] ≡ None
unfolding name_within
nothing message before zero = refl
nothing message before (suc k) = refl

pub way_empty : (message : List ℕ) (whole : Option Found) (k before : ℕ) (text rest : List ℕ) (after : Option (List ℕ)) → rest ≡ []
    → IsOnTheWay message whole k before text rest after → whole ≡ None
way_empty message whole k before text rest after empty w =
    sym w.gives ∙ ap (λ s. completed w.front after (name_within k message before s)) empty
    ∙ ap (completed w.front after) (nothing message before k)

pub way_out : (message : List ℕ) (whole : Option Found) (before : ℕ) (text rest : List ℕ) (after : Option (List ℕ))
    → IsOnTheWay message whole 0 before text rest after → whole ≡ None
unfolding name_within
way_out message whole before text rest after w = sym w.gives

-- the same, of octets whose first is known
step : (message : List ℕ) (whole : Option Found) (k before b : ℕ) (text rest behind : List ℕ) (after : Option (List ℕ)) → rest ≡ b ∷ behind
    → (w : IsOnTheWay message whole (suc k) before text rest after)
    → completed w.front after (name_within (suc k) message before (b ∷ behind)) ≡ whole
step message whole k before b text rest behind after e w =
    ap (λ s. completed w.front after (name_within (suc k) message before s)) (sym e) ∙ w.gives

pub way_end : (message : List ℕ) (whole : Option Found) (k before : ℕ) (text rest behind : List ℕ) (after : Option (List ℕ)) → rest ≡ 0 ∷ behind
    → IsOnTheWay message whole (suc k) before text rest after
    → Spells (Some (text ++ 0 ∷ [], unwrap_or after behind)) (whole >>= if_short)
unfolding name_within
way_end message whole k before text rest behind after e w =
    let all : wire_length (w.front ++ []) ≤ 255 = omega (arith, longer w.front [], ap length w.spelled, w.short) in
    let fits : leb (wire_length (w.front ++ [])) 255 ≡ true = le-leb _ _ all in
    let found = step message whole k before 0 text rest behind after e w in (
      w.front,
      ap (λ x. x >>= if_short) (sym found) ∙ ap (λ c. cond c (Some (w.front ++ [], unwrap_or after behind)) None) fits
          ∙ ap (λ n. Some (n, unwrap_or after behind)) (append-nil w.front),
      ap (λ s. s ++ 0 ∷ []) w.spelled ∙ counting_ended w.front,
      w.filled,
    )

pub way_short : (message : List ℕ) (whole : Option Found) (k before b : ℕ) (text rest behind : List ℕ) (after : Option (List ℕ)) → rest ≡ b ∷ behind
    → 0 < b → b < 64 → length behind < b → IsOnTheWay message whole (suc k) before text rest after → whole ≡ None
unfolding name_within
way_short message whole k before b text rest behind after e some short few w =
    let e₁ : eqb b 0 ≡ false = ne_eqb b 0 (λ z. omega (arith, z)) in
    let e₂ : ltb b 64 ≡ true = lt-ltb _ _ short in
    let e₃ : leb b (length behind) ≡ false = lt-leb _ _ few in
    sym (rw (e₁, e₂, e₃) at (step message whole k before b text rest behind after e w))

-- what is found where a label was read
labelled : (message : List ℕ) (whole : Option Found) (k before b : ℕ) (text rest behind : List ℕ) (after : Option (List ℕ)) → rest ≡ b ∷ behind
    → 0 < b → b < 64 → b ≤ length behind → (w : IsOnTheWay message whole (suc k) before text rest after)
    → completed (w.front ++ take b behind ∷ []) after (name_within k message before (drop b behind)) ≡ whole
unfolding name_within
labelled message whole k before b text rest behind after e some short enough w =
    let e₁ : eqb b 0 ≡ false = ne_eqb b 0 (λ z. omega (arith, z)) in
    let e₂ : ltb b 64 ≡ true = lt-ltb _ _ short in
    let e₃ : leb b (length behind) ≡ true = le-leb _ _ enough in
    sym (regrouped w.front after (take b behind) (name_within k message before (drop b behind)))
    ∙ (rw (e₁, e₂, e₃) at (step message whole k before b text rest behind after e w))
  where
    regrouped : (front : Name) (after : Option (List ℕ)) (l : Label) (found : Option Found)
        → completed front after (found >>= λ n. Some (l ∷ n.0, n.1)) ≡ completed (front ++ l ∷ []) after found
    regrouped front after l None = refl
    regrouped front after l (Some x) = ap (λ n. Some (n, unwrap_or after x.1)) (sym (append_assoc front (l ∷ []) x.0))

pub way_long : (message : List ℕ) (whole : Option Found) (k before b : ℕ) (text rest behind : List ℕ) (after : Option (List ℕ)) → rest ≡ b ∷ behind
    → 0 < b → b < 64 → b ≤ length behind → 253 < length text + b → IsOnTheWay message whole (suc k) before text rest after
    → whole >>= if_short ≡ None
way_long message whole k before b text rest behind after e some short enough long w =
    ap (λ x. x >>= if_short) (sym (labelled message whole k before b text rest behind after e some short enough w))
    ∙ none_short (name_within k message before (drop b behind))
  where
    size : length (take b behind) ≡ b
    size = omega (arith, length-take b behind)

    none_short : (found : Option Found) → completed (w.front ++ take b behind ∷ []) after found >>= if_short ≡ None
    none_short None = refl
    none_short (Some x) =
        let pushed = longer (w.front ++ take b behind ∷ []) x.0 in
        let counted = ap length (counting-push w.front (take b behind)) in
        let sum = length-append (counting w.front) (length (take b behind) ∷ take b behind) in
        let over : leb (wire_length ((w.front ++ take b behind ∷ []) ++ x.0)) 255 ≡ false =
        lt-leb _ _ (omega (arith, pushed, counted, sum, size, ap length w.spelled, some_length x.0, long)) in
        ap (λ c. cond c (Some ((w.front ++ take b behind ∷ []) ++ x.0, unwrap_or after x.1)) None) over

pub way_label : (message : List ℕ) (whole : Option Found) (k before b : ℕ) (text rest behind : List ℕ) (after : Option (List ℕ)) → rest ≡ b ∷ behind
    → 0 < b → b < 64 → b ≤ length behind → length text + b ≤ 253 → IsOnTheWay message whole (suc k) before text rest after
    → IsOnTheWay message whole k before (text ++ b ∷ take b behind) (drop b behind) after
way_label message whole k before b text rest behind after e some short enough room w =
    let size : length (take b behind) ≡ b = omega (arith, length-take b behind) in
    record {
      front = w.front ++ take b behind ∷ [];
      spelled = ap (λ s. s ++ b ∷ take b behind) w.spelled ∙ ap (λ n. counting w.front ++ n ∷ take b behind) (sym size)
          ∙ sym (counting-push w.front (take b behind));
      filled = filled-push w.front (take b behind) w.filled (omega (arith, size));
      short = omega (arith, length-append text (b ∷ take b behind), size);
      gives = labelled message whole k before b text rest behind after e some short enough w;
    }

pub way_reserved : (message : List ℕ) (whole : Option Found) (k before b : ℕ) (text rest behind : List ℕ) (after : Option (List ℕ))
    → rest ≡ b ∷ behind → 64 ≤ b → b < 192 → IsOnTheWay message whole (suc k) before text rest after → whole ≡ None
unfolding name_within
way_reserved message whole k before b text rest behind after e long short w =
    let e₁ : eqb b 0 ≡ false = ne_eqb b 0 (λ z. omega (arith, z)) in
    let e₂ : ltb b 64 ≡ false = le-ltb _ _ long in
    let e₃ : ltb b 192 ≡ true = lt-ltb _ _ short in
    sym (rw (e₁, e₂, e₃) at (step message whole k before b text rest behind after e w))

pub way_astray : (message : List ℕ) (whole : Option Found) (k before b : ℕ) (text rest behind : List ℕ) (after : Option (List ℕ))
    → rest ≡ b ∷ behind → 192 ≤ b → lead before b behind ≡ None → IsOnTheWay message whole (suc k) before text rest after → whole ≡ None
unfolding name_within
way_astray message whole k before b text rest behind after e tall led w =
    let e₁ : eqb b 0 ≡ false = ne_eqb b 0 (λ z. omega (arith, z)) in
    let e₂ : ltb b 64 ≡ false = le-ltb _ _ (omega arith) in
    let e₃ : ltb b 192 ≡ false = le-ltb _ _ tall in
    sym (rw (e₁, e₂, e₃, led) at (step message whole k before b text rest behind after e w))

pub way_pointer : (message : List ℕ) (whole : Option Found) (k before b : ℕ) (text rest behind : List ℕ) (after : Option (List ℕ)) (p : ℕ) (next : List ℕ)
    → rest ≡ b ∷ behind → 192 ≤ b → lead before b behind ≡ Some (p, next) → IsOnTheWay message whole (suc k) before text rest after
    → IsOnTheWay message whole k p text (drop p message) (Some (unwrap_or after next))
unfolding name_within
way_pointer message whole k before b text rest behind after p next e tall led w =
    let e₁ : eqb b 0 ≡ false = ne_eqb b 0 (λ z. omega (arith, z)) in
    let e₂ : ltb b 64 ≡ false = le-ltb _ _ (omega arith) in
    let e₃ : ltb b 192 ≡ false = le-ltb _ _ tall in
    record {
      front = w.front;
      spelled = w.spelled;
      filled = w.filled;
      short = w.short;
      gives = sym (behind_it w.front after (name_within k message p (drop p message)))
          ∙ (rw (e₁, e₂, e₃, led) at (step message whole k before b text rest behind after e w));
    }
  where
    behind_it : (front : Name) (after : Option (List ℕ)) (found : Option Found)
        → completed front after (found >>= λ n. Some (n.0, next)) ≡ completed front (Some (unwrap_or after next)) found
    behind_it front after None = refl
    behind_it front None (Some x) = refl
    behind_it front (Some s) (Some x) = refl

-- a pointer leads into the message
pub way_beyond : (message : List ℕ) (whole : Option Found) (k before b : ℕ) (text rest behind : List ℕ) (after : Option (List ℕ)) (p : ℕ) (next : List ℕ)
    → rest ≡ b ∷ behind → 192 ≤ b → lead before b behind ≡ Some (p, next) → length message ≤ p
    → IsOnTheWay message whole (suc k) before text rest after → whole ≡ None
way_beyond message whole k before b text rest behind after p next e tall led beyond w =
    way_empty message whole k p text (drop p message) (Some (unwrap_or after next)) (drop_all p message beyond)
    (way_pointer message whole k before b text rest behind after p next e tall led w)

pub way_at : (message : List ℕ) (whole : Option Found) (k k' before before' : ℕ) (text text' rest rest' : List ℕ) (after after' : Option (List ℕ)) → k ≡ k'
    → before ≡ before' → text ≡ text' → rest ≡ rest' → after ≡ after'
    → IsOnTheWay message whole k before text rest after → IsOnTheWay message whole k' before' text' rest' after'
way_at message whole k k' before before' text text' rest rest' after after' e₁ e₂ e₃ e₄ e₅ w =
    subst (λ x. IsOnTheWay message whole k' before' text' rest' x) e₅ (subst (λ x. IsOnTheWay message whole k' before' text' x after) e₄
    (subst (λ x. IsOnTheWay message whole k' before' x rest after) e₃ (subst (λ x. IsOnTheWay message whole k' x text rest after) e₂
    (subst (λ x. IsOnTheWay message whole x before text rest after) e₁ w))))

-- ---- what a caller makes of the answer

pub named : (found : Option Found) (text rest : List ℕ) (n : Name) → Spells (Some (text, rest)) found → text ≡ wire_form n → Some (n, rest) ≡ found
named found text rest n s e = ap (λ x. Some (x, rest)) (sym (one_spelling s.0 n s.3 (sym s.2 ∙ e))) ∙ sym s.1

pub unwrapped : (after : Option (Bor (List ℕ))) (behind : Bor (List ℕ)) → unwrap_or (option_map (λ s. s.now) after) behind.now ≡ (unwrap_or after behind).now
unwrapped None behind = refl
unwrapped (Some s) behind = refl
