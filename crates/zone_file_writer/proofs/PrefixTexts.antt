-- The words of address prefixes, put behind a text one after the other
use Rattle.std.proofs.Common.{◌≡◌, ◌≤◌, ◌<◌, ℕ, zero, suc, ◌+◌, ◌%◌, List, [], ◌∷◌, ◌++◌, length, take, drop, Bool, true, false, cond, Option, Some, None, refl, ap, arith, append-nil, length-drop}
use Rattle.std.specs.Prelude.{nat_le, option_map}
use Rattle.std.proofs.lemmas.Bool.Decides.{leb_tells}
use Rattle.message_reading.specs.Octets.{◌>>=◌, octet_of, octets_of, short_of}
use Rattle.zone_file_writer.specs.Prefixes.{item_front, prefix_front, prefix_word, prefixes_within}
use Rattle.zone_file_writer.specs.Rows.{appended, behind_spaces, ended, one_host}
use Rattle.zone_file_writer.specs.Words.{PrintedWord}
use Rattle.zone_file_writer.proofs.RowTexts.{further, same_rest, same_text}

-- the octets behind a prefix are fewer
pub front_shorter : (n : ℕ) (os first rest : List ℕ) → 0 < n → octets_of n os ≡ Some (first, rest) → length rest < length os
front_shorter n os first rest some h = by (nat_le n (length os)) refl h
  where
    by : (c : Bool) → nat_le n (length os) ≡ c → cond {A = Option (List ℕ × List ℕ)} c (Some (take n os, drop n os)) None ≡ Some (first, rest) → length rest < length os
    by false e g = absurd (cc)
    by true e g =
        let enough : n ≤ length os = grind (arith, leb_tells) in
        let is : drop n os ≡ rest = same_rest (take n os) (drop n os) first rest g in
        omega (arith, ap length is, length-drop n os)

item_shorter : (os first rest : List ℕ) → item_front os ≡ Some (first, rest) → length rest < length os
item_shorter os first rest h = at_family (short_of os) h
  where
    at_count : (o : Option (ℕ × List ℕ)) → (o >>= λ count. octets_of (4 + count.0 % 128) os) ≡ Some (first, rest) → length rest < length os
    at_count None g = absurd (cc)
    at_count (Some count) g = front_shorter (4 + count.0 % 128) os first rest (omega arith) g

    at_bits : (o : Option (ℕ × List ℕ)) → (o >>= λ bits. octet_of bits.1 >>= λ count. octets_of (4 + count.0 % 128) os) ≡ Some (first, rest) → length rest < length os
    at_bits None g = absurd (cc)
    at_bits (Some bits) g = at_count (octet_of bits.1) g

    at_family : (o : Option (ℕ × List ℕ)) → (o >>= λ family. octet_of family.1 >>= λ bits. octet_of bits.1 >>= λ count. octets_of (4 + count.0 % 128) os) ≡ Some (first, rest)
        → length rest < length os
    at_family None g = absurd (cc)
    at_family (Some family) g = at_bits (octet_of family.1) g

abbrev rest_or : List ℕ → Option (PrintedWord × List ℕ) → List ℕ
rest_or d None = d
rest_or d (Some y) = y.1

prefix_rest : (o : Option PrintedWord) (behind : List ℕ) (x : PrintedWord × List ℕ) → (o >>= λ w. Some (w, behind)) ≡ Some x → behind ≡ x.1
prefix_rest None behind x h = absurd (cc)
prefix_rest (Some w) behind x h = ap (rest_or behind) h

prefix_shorter : (os : List ℕ) (x : PrintedWord × List ℕ) → prefix_front os ≡ Some x → length x.1 < length os
prefix_shorter os x h = by (item_front os) refl h
  where
    by : (o : Option (List ℕ × List ℕ)) → item_front os ≡ o → (o >>= λ y. prefix_word y.0 >>= λ w. Some (w, y.1)) ≡ Some x → length x.1 < length os
    by None e g = absurd (cc)
    by (Some (first, rest)) e g =
        let is : rest ≡ x.1 = prefix_rest (prefix_word first) rest x g in
        omega (arith, ap length is, item_shorter os first rest e)

prefixes_enough : (n m : ℕ) (os : List ℕ) → length os ≤ n → length os ≤ m → prefixes_within n os ≡ prefixes_within m os
prefixes_enough n m [] h k = refl
prefixes_enough zero m (b ∷ os) h k = absurd (omega arith)
prefixes_enough (suc n) zero (b ∷ os) h k = absurd (omega arith)
prefixes_enough (suc n) (suc m) (b ∷ os) h k = by (prefix_front (b ∷ os)) refl (λ rest. prefixes_enough n m rest)
  where
    by : (o : Option (PrintedWord × List ℕ)) → prefix_front (b ∷ os) ≡ o → ((rest : List ℕ) → length rest ≤ n → length rest ≤ m → prefixes_within n rest ≡ prefixes_within m rest)
        → (o >>= λ x. option_map (λ ws. x.0 ∷ ws) (prefixes_within n x.1)) ≡ (o >>= λ x. option_map (λ ws. x.0 ∷ ws) (prefixes_within m x.1))
    by None e more = refl
    by (Some x) e more =
        let fewer : length x.1 < length (b ∷ os) = prefix_shorter (b ∷ os) x e in
        ap (λ (o : Option (List PrintedWord)). option_map (λ ws. x.0 ∷ ws) o) (more x.1 (omega arith) (omega arith))

pub prefix_more : (text new rest os : List ℕ) → Some (new, rest) ≡ appended text (one_host (prefix_front os)) → length rest < length os
    → ended new (prefixes_within (length rest) rest) ≡ ended text (prefixes_within (length os) os)
prefix_more text new rest [] h fewer = absurd (omega arith)
prefix_more text new rest (b ∷ os) h fewer = by (prefix_front (b ∷ os)) h
  where
    by : (o : Option (PrintedWord × List ℕ)) → Some (new, rest) ≡ appended text (one_host o)
        → ended new (prefixes_within (length rest) rest) ≡ ended text (o >>= λ x. option_map (λ ws. x.0 ∷ ws) (prefixes_within (length os) x.1))
    by None g = absurd (cc)
    by (Some x) g =
        let text_is = same_text new rest (text ++ behind_spaces (x.0 ∷ [])) x.1 g in
        let rest_is = same_rest new rest (text ++ behind_spaces (x.0 ∷ [])) x.1 g in
        rw (text_is, prefixes_enough (length rest) (length os) rest (omega arith) (omega arith), rest_is) (further text (x.0 ∷ []) (prefixes_within (length os) x.1))

pub prefix_stuck : (text os : List ℕ) → None ≡ appended text (one_host (prefix_front os)) → 0 < length os → ended text (prefixes_within (length os) os) ≡ None
prefix_stuck text [] h some = absurd (omega arith)
prefix_stuck text (b ∷ os) h some = by (prefix_front (b ∷ os)) h
  where
    by : (o : Option (PrintedWord × List ℕ)) → None ≡ appended text (one_host o)
        → ended text (o >>= λ x. option_map (λ ws. x.0 ∷ ws) (prefixes_within (length os) x.1)) ≡ None
    by None g = refl
    by (Some x) g = absurd (cc)

pub prefixes_end : (text os : List ℕ) → length os ≡ 0 → ended text (prefixes_within (length os) os) ≡ Some text
prefixes_end text [] h = ap (λ (t : List ℕ). Some t) (append-nil text)
prefixes_end text (b ∷ os) h = absurd (omega arith)
