-- Strings, one behind the other, and what is read of them
use Rattle.std.proofs.Common.{◌≡◌, ◌≢◌, ◌≤◌, ◌<◌, ℕ, zero, suc, ◌+◌, ◌-◌, ◌*◌, ◌/◌, ◌%◌, ◌==◌, List, [], ◌∷◌, ◌++◌, Bool, true, false, cond, ◌&&◌, ◌||◌, Option, Some, None, refl, sym, ap, subst, ◌∙◌, arith, length, take, drop, append_assoc, length-append, map}
use Rattle.std.specs.Prelude.{nat_le, option_map}
use Rattle.std.specs.List.{flat_map, AllByRecursion}
use Rattle.std.proofs.lemmas.Bool.Decides.{leb_tells, nat_tests}
use Rattle.message_reading.specs.Octets.{counted_of}
use Rattle.zone_tokens.specs.Strings.{octets_of_text}
use Rattle.zone_proto.specs.TextForm.{is_digit}
use Rattle.zone_file_writer.specs.Others.{string_word}
use Rattle.zone_file_writer.specs.Rows.{all_strings, behind_spaces}
use Rattle.zone_file_writer.specs.Strings.{escaped, escaped_octet, further_text, quoted_text, string_then, strings_of, strings_within}

-- ---- octets between quotes are read back

digit_is : (d : ℕ) → d < 10 → is_digit (48 + d) ≡ true
digit_is d h = grind (arith, leb_tells)

within : (a b : ℕ) → a ≤ b → nat_le a b ≡ true
within a b h = grind (arith, leb_tells)

octet_back : (b : ℕ) (t : List ℕ) → b < 256 → octets_of_text (escaped_octet b ++ t) ≡ option_map (λ os. b ∷ os) (octets_of_text t)
octet_back b t small = by (b == 34) refl (b == 92) refl (nat_le 32 b && nat_le b 126)
  where
    quote : b ≡ 34 → octets_of_text (92 ∷ b ∷ t) ≡ option_map (λ os. b ∷ os) (octets_of_text t)
    quote e = rw e refl

    backslash : b ≡ 92 → octets_of_text (92 ∷ b ∷ t) ≡ option_map (λ os. b ∷ os) (octets_of_text t)
    backslash e = rw e refl

    digits : octets_of_text (92 ∷ (48 + b / 100) ∷ (48 + b / 10 % 10) ∷ (48 + b % 10) ∷ t) ≡ option_map (λ os. b ∷ os) (octets_of_text t)
    digits =
        let value : 10 * (10 * (48 + b / 100 - 48) + (48 + b / 10 % 10 - 48)) + (48 + b % 10 - 48) ≡ b = omega arith in
        rw (digit_is (b / 100) (omega arith), digit_is (b / 10 % 10) (omega arith), digit_is (b % 10) (omega arith), value, within b 255 (omega arith)) refl

    by : (q : Bool) → (b == 34) ≡ q → (s : Bool) → (b == 92) ≡ s → (p : Bool)
        → octets_of_text (cond (q || s) (92 ∷ b ∷ []) (cond p (b ∷ []) (92 ∷ (48 + b / 100) ∷ (48 + b / 10 % 10) ∷ (48 + b % 10) ∷ [])) ++ t)
        ≡ option_map (λ os. b ∷ os) (octets_of_text t)
    by true e s f p = quote (grind (arith, nat_tests))
    by false e true f p = backslash (grind (arith, nat_tests))
    by false e false f true = rw f refl
    by false e false f false = digits

pub text_back : (os : List ℕ) → AllByRecursion (λ b. b < 256) os → octets_of_text (escaped os) ≡ Some os
text_back [] h = refl
text_back (b ∷ os) h = octet_back b (escaped os) h.0 ∙ rw (text_back os h.1) refl

-- ---- the string at the start of octets

abbrev pub counted : List ℕ → List ℕ
counted s = length s ∷ s

take_drop : (n : ℕ) (os : List ℕ) → n ≤ length os → (length (take n os) ≡ n) × (take n os ++ drop n os ≡ os)
take_drop zero os h = (refl, refl)
take_drop (suc n) [] h = absurd (omega arith)
take_drop (suc n) (b ∷ os) h =
    let more = take_drop n os (omega arith) in
    (omega (arith, more.0), ap (λ (t : List ℕ). b ∷ t) more.1)

-- what a string at the front says of its octets
pub record IsFront (os s rest : List ℕ) : Type 0 where
  pub all : counted s ++ rest ≡ os
  pub shorter : length rest < length os

there : Option (List ℕ × List ℕ) → List ℕ × List ℕ
there None = ([], [])
there (Some p) = p

pub front : (os s rest : List ℕ) → counted_of os ≡ Some (s, rest) → IsFront os s rest
unfolding there
front [] s rest h = absurd (cc)
front (n ∷ os) s rest h = by (nat_le n (length os)) refl h
  where
    by : (b : Bool) → nat_le n (length os) ≡ b → cond {A = Option (List ℕ × List ℕ)} b (Some (take n os, drop n os)) None ≡ Some (s, rest) → IsFront (n ∷ os) s rest
    by true e g =
        let cut = take_drop n os (grind (arith, leb_tells)) in
        let pair : (take n os, drop n os) ≡ (s, rest) = ap there g in
        let first : take n os ≡ s = ap (λ (p : List ℕ × List ℕ). p.0) pair in
        let others : drop n os ≡ rest = ap (λ (p : List ℕ × List ℕ). p.1) pair in
        let size : length s ≡ n = ap length (sym first) ∙ cut.0 in
        let whole : s ++ rest ≡ os = ap (λ (t : List ℕ). t ++ rest) (sym first) ∙ ap (λ (t : List ℕ). take n os ++ t) (sym others) ∙ cut.1 in
        record {
          all = ap (λ (k : ℕ). k ∷ (s ++ rest)) size ∙ ap (λ (t : List ℕ). n ∷ t) whole;
          shorter = omega (arith, ap length whole, length-append s rest);
        }
    by false e g = absurd (cc)

-- ---- strings, as many as there are

abbrev with_string : List ℕ → List (List ℕ) × List ℕ → List (List ℕ) × List ℕ
with_string s t = (s ∷ t.0, t.1)

enough : (n m : ℕ) (os : List ℕ) → length os ≤ n → length os ≤ m → strings_within n os ≡ strings_within m os
enough zero zero os h k = refl
enough zero (suc m) [] h k = refl
enough zero (suc m) (b ∷ os) h k = absurd (omega arith)
enough (suc n) zero [] h k = refl
enough (suc n) zero (b ∷ os) h k = absurd (omega arith)
enough (suc n) (suc m) os h k = by (counted_of os) refl (λ rest. enough n m rest)
  where
    by : (o : Option (List ℕ × List ℕ)) → counted_of os ≡ o → ((rest : List ℕ) → length rest ≤ n → length rest ≤ m → strings_within n rest ≡ strings_within m rest)
        → string_then os o (strings_within n) ≡ string_then os o (strings_within m)
    by None e more = refl
    by (Some (s, rest)) e more =
        let shorter : length rest < length os = (front os s rest e).shorter in
        ap (with_string s) (more rest (omega arith) (omega arith))

pub one_more : (os s rest : List ℕ) → counted_of os ≡ Some (s, rest) → strings_of os ≡ (s ∷ (strings_of rest).0, (strings_of rest).1)
one_more [] s rest h = absurd (cc)
one_more (b ∷ os) s rest h =
    let shorter : length rest < length (b ∷ os) = (front (b ∷ os) s rest h).shorter in
    ap (λ (o : Option (List ℕ × List ℕ)). string_then (b ∷ os) o (strings_within (length os))) h
    ∙ ap (with_string s) (enough (length os) (length rest) rest (omega arith) (omega arith))

pub none : (os : List ℕ) → counted_of os ≡ None → strings_of os ≡ ([], os)
none [] h = refl
none (b ∷ os) h = ap (λ (o : Option (List ℕ × List ℕ)). string_then (b ∷ os) o (strings_within (length os))) h

-- strings behind their lengths are the octets
pub joined_strings : (n : ℕ) (os : List ℕ) → flat_map counted (strings_within n os).0 ++ (strings_within n os).1 ≡ os
joined_strings zero os = refl
joined_strings (suc n) os = by (counted_of os) refl (joined_strings n)
  where
    by : (o : Option (List ℕ × List ℕ)) → counted_of os ≡ o → ((rest : List ℕ) → flat_map counted (strings_within n rest).0 ++ (strings_within n rest).1 ≡ rest)
        → flat_map counted (string_then os o (strings_within n)).0 ++ (string_then os o (strings_within n)).1 ≡ os
    by None e more = refl
    by (Some (s, rest)) e more =
        append_assoc (counted s) (flat_map counted (strings_within n rest).0) (strings_within n rest).1
        ∙ ap (λ (t : List ℕ). counted s ++ t) (more rest)
        ∙ (front os s rest e).all

pub further_more : (os s rest : List ℕ) → counted_of os ≡ Some (s, rest) → further_text os ≡ (32 ∷ quoted_text s) ++ further_text rest
further_more os s rest h = ap (λ (t : List (List ℕ) × List ℕ). flat_map (λ (u : List ℕ). 32 ∷ quoted_text u) t.0) (one_more os s rest h)

pub further_none : (os : List ℕ) → counted_of os ≡ None → further_text os ≡ []
further_none os h = ap (λ (t : List (List ℕ) × List ℕ). flat_map (λ (u : List ℕ). 32 ∷ quoted_text u) t.0) (none os h)

-- ---- TXT

pub spread : (ss : List (List ℕ)) → behind_spaces (map string_word ss) ≡ flat_map (λ (u : List ℕ). 32 ∷ quoted_text u) ss
spread [] = refl
spread (s ∷ ss) = ap (λ (u : List ℕ). (32 ∷ quoted_text s) ++ u) (spread ss)

some_of : (s : List ℕ) (ss : List (List ℕ)) (rest : List ℕ) → rest ≡ [] → all_strings (s ∷ ss, rest) ≡ Some (map string_word (s ∷ ss))
some_of s ss [] h = refl
some_of s ss (o ∷ rest) h = absurd (cc)

broken_of : (s : List ℕ) (ss : List (List ℕ)) (rest : List ℕ) → rest ≢ [] → all_strings (s ∷ ss, rest) ≡ None
broken_of s ss [] h = absurd (h refl)
broken_of s ss (o ∷ rest) h = refl

pub text_some : (os s rest : List ℕ) → counted_of os ≡ Some (s, rest) → (strings_of rest).1 ≡ [] → all_strings (strings_of os) ≡ Some (string_word s ∷ map string_word (strings_of rest).0)
text_some os s rest h k = ap all_strings (one_more os s rest h) ∙ some_of s (strings_of rest).0 (strings_of rest).1 k

pub text_broken : (os s rest : List ℕ) → counted_of os ≡ Some (s, rest) → (strings_of rest).1 ≢ [] → all_strings (strings_of os) ≡ None
text_broken os s rest h k = ap all_strings (one_more os s rest h) ∙ broken_of s (strings_of rest).0 (strings_of rest).1 k

pub text_none : (os : List ℕ) → counted_of os ≡ None → all_strings (strings_of os) ≡ None
text_none os h = ap all_strings (none os h)

-- ---- the octets of strings

abbrev AreOctets : List ℕ → Type 0
AreOctets os = AllByRecursion (λ b. b < 256) os

pub octets_front : (s t : List ℕ) → AreOctets (s ++ t) → AreOctets s × AreOctets t
octets_front [] t h = (tt, h)
octets_front (b ∷ s) t h = let more = octets_front s t h.1 in ((h.0, more.0), more.1)

-- strings of octets that an octet counts
abbrev pub AreStrings : List (List ℕ) → Type 0
AreStrings [] = Unit {0}
AreStrings (s ∷ ss) = AreOctets s × (length s < 256) × AreStrings ss

are_strings : (ss : List (List ℕ)) (rest : List ℕ) → AreOctets (flat_map counted ss ++ rest) → AreStrings ss
are_strings [] rest h = tt
are_strings (s ∷ ss) rest h =
    let parts = octets_front (counted s) (flat_map counted ss ++ rest) (subst AreOctets (append_assoc (counted s) (flat_map counted ss) rest) h) in
    (parts.0.1, parts.0.0, are_strings ss rest parts.1)

pub strings_in : (n : ℕ) (os : List ℕ) → AreOctets os → AreStrings (strings_within n os).0
strings_in n os h = are_strings (strings_within n os).0 (strings_within n os).1 (subst AreOctets (sym (joined_strings n os)) h)
