-- Printed IPv6 addresses are read back.
use Rattle.std.proofs.Common.{◌≡◌, ◌≤◌, ◌<◌, ℕ, zero, suc, ◌+◌, ◌-◌, ◌*◌, ◌/◌, ◌%◌, ◌==◌, List, [], ◌∷◌, ◌++◌, map, length, take, drop, replicate, Bool, true, false, cond, Option, Some, None, refl, sym, ap, subst, ◌∙◌, arith, append_assoc, append-nil, length-append}
use Rattle.std.specs.Prelude.{nat_le, nat_lt, option_map}
use Rattle.std.specs.Char.{digit_char}
use Rattle.std.specs.List.{All, AllByRecursion, count_by, flat_map}
use Rattle.std.proofs.lemmas.Bool.Decides.{leb_tells, nat_tests}
use Rattle.std.proofs.lemmas.List.{take_at, drop_at}
use Rattle.std.proofs.lemmas.List.Elements.{All-cons}
use Rattle.std.proofs.lemmas.List.Sums.{sum_by-cons}
use Rattle.std.proofs.lemmas.List.Splits.{slice_split_at, slice_split_none}
use Rattle.line_text.specs.Numbers.{number_within}
use Rattle.line_text.specs.Parts.{parts, octets_of_parts}
use Rattle.line_text.specs.Addresses.{group_octets, octets_of_group, ipv6_of_text}
use Rattle.line_text.proofs.Digits.{within_most}
use Rattle.line_text.proofs.RoundTrips.{char_value}
use Rattle.zone_tokens.specs.Addresses.{double_at, full_form, group_count, groups_of_word, ipv6_of_word, with_groups, with_zero, with_zeros}
use Rattle.zone_file_writer.specs.Addresses.{address_text, behind_colons, group_text, groups_of, groups_text, longest_run, zeros_in_front}

-- ---- one group

abbrev Lacks : List ℕ → Type 0
Lacks s = All (λ b. (b == 58) ≡ false) s

digit_lacks : (d : ℕ) (t : List ℕ) → d < 16 → Lacks t → Lacks (digit_char d ∷ t)
digit_lacks d t h more = All-cons (λ b. (b == 58) ≡ false) (digit_char d) t (grind (arith, nat_tests, leb_tells)) more

none_lacks : Lacks []
none_lacks = λ k d m. absurd (omega arith)

less_true : (a b : ℕ) → a < b → nat_lt a b ≡ true
less_true a b h = grind (arith, leb_tells)

-- a text that is that of a group, of one octet at least
pub record IsGroupText (g : ℕ) (t : List ℕ) : Type 0 where
  pub lacks : Lacks t
  pub some : 0 < length t
  pub short : length t ≤ 4
  pub value : number_within 16 65535 t ≡ Some g

is_group : (g : ℕ) → g < 65536 → IsGroupText g (group_text g)
is_group g h = by (nat_lt g 16) refl (nat_lt g 256) refl (nat_lt g 4096) refl
  where
    one : g < 16 → IsGroupText g (digit_char g ∷ [])
    one k = record {
      lacks = digit_lacks g [] k none_lacks;
      some = omega arith;
      short = omega arith;
      value = let whole : 0 * 16 + g ≡ g = omega arith in rw (char_value g (omega arith), less_true g 16 k, whole) (within_most 65535 g (omega arith));
    }

    two : g < 256 → IsGroupText g (digit_char (g / 16) ∷ digit_char (g % 16) ∷ [])
    two k = record {
      lacks = digit_lacks (g / 16) (digit_char (g % 16) ∷ []) (omega arith) (digit_lacks (g % 16) [] (omega arith) none_lacks);
      some = omega arith;
      short = omega arith;
      value =
          let whole : (0 * 16 + g / 16) * 16 + g % 16 ≡ g = omega arith in
          rw (char_value (g / 16) (omega arith), char_value (g % 16) (omega arith), less_true (g / 16) 16 (omega arith), less_true (g % 16) 16 (omega arith), whole)
          (within_most 65535 g (omega arith));
    }

    three : g < 4096 → IsGroupText g (digit_char (g / 256) ∷ digit_char (g / 16 % 16) ∷ digit_char (g % 16) ∷ [])
    three k = record {
      lacks = digit_lacks (g / 256) (digit_char (g / 16 % 16) ∷ digit_char (g % 16) ∷ []) (omega arith)
          (digit_lacks (g / 16 % 16) (digit_char (g % 16) ∷ []) (omega arith) (digit_lacks (g % 16) [] (omega arith) none_lacks));
      some = omega arith;
      short = omega arith;
      value =
          let whole : ((0 * 16 + g / 256) * 16 + g / 16 % 16) * 16 + g % 16 ≡ g = omega arith in
          rw (
            char_value (g / 256) (omega arith),
            char_value (g / 16 % 16) (omega arith),
            char_value (g % 16) (omega arith),
            less_true (g / 256) 16 (omega arith),
            less_true (g / 16 % 16) 16 (omega arith),
            less_true (g % 16) 16 (omega arith),
            whole,
          )
          (within_most 65535 g (omega arith));
    }

    four : IsGroupText g (digit_char (g / 4096) ∷ digit_char (g / 256 % 16) ∷ digit_char (g / 16 % 16) ∷ digit_char (g % 16) ∷ [])
    four = record {
      lacks = digit_lacks (g / 4096) (digit_char (g / 256 % 16) ∷ digit_char (g / 16 % 16) ∷ digit_char (g % 16) ∷ []) (omega arith)
          (digit_lacks (g / 256 % 16) (digit_char (g / 16 % 16) ∷ digit_char (g % 16) ∷ []) (omega arith)
          (digit_lacks (g / 16 % 16) (digit_char (g % 16) ∷ []) (omega arith) (digit_lacks (g % 16) [] (omega arith) none_lacks)));
      some = omega arith;
      short = omega arith;
      value =
          let whole : (((0 * 16 + g / 4096) * 16 + g / 256 % 16) * 16 + g / 16 % 16) * 16 + g % 16 ≡ g = omega arith in
          rw (
            char_value (g / 4096) (omega arith),
            char_value (g / 256 % 16) (omega arith),
            char_value (g / 16 % 16) (omega arith),
            char_value (g % 16) (omega arith),
            less_true (g / 4096) 16 (omega arith),
            less_true (g / 256 % 16) 16 (omega arith),
            less_true (g / 16 % 16) 16 (omega arith),
            less_true (g % 16) 16 (omega arith),
            whole,
          )
          (within_most 65535 g (omega arith));
    }

    by : (a : Bool) → nat_lt g 16 ≡ a → (b : Bool) → nat_lt g 256 ≡ b → (c : Bool) → nat_lt g 4096 ≡ c
        → IsGroupText g (cond a (digit_char g ∷ []) (cond b (digit_char (g / 16) ∷ digit_char (g % 16) ∷ [])
        (cond c (digit_char (g / 256) ∷ digit_char (g / 16 % 16) ∷ digit_char (g % 16) ∷ [])
        (digit_char (g / 4096) ∷ digit_char (g / 256 % 16) ∷ digit_char (g / 16 % 16) ∷ digit_char (g % 16) ∷ []))))
    by true e b f c k = one (grind (arith, leb_tells))
    by false e true f c k = two (grind (arith, leb_tells))
    by false e false f true k = three (grind (arith, leb_tells))
    by false e false f false k = four

-- ---- groups with colons between them

-- the text of groups behind the first
step : (g h : ℕ) (gs : List ℕ) → groups_text (g ∷ h ∷ gs) ≡ group_text g ++ 58 ∷ groups_text (h ∷ gs)
step g h gs = refl

parted : (g : ℕ) (gs : List ℕ) → AllByRecursion (λ g. g < 65536) (g ∷ gs) → parts 58 (groups_text (g ∷ gs)) ≡ map group_text (g ∷ gs)
parted g [] h = ap (parts 58) (append-nil (group_text g)) ∙ slice_split_none (λ x. x == 58) (group_text g) (is_group g h.0).lacks
parted g (i ∷ gs) h =
    slice_split_at (λ x. x == 58) (group_text g) 58 (groups_text (i ∷ gs)) (is_group g h.0).lacks refl
    ∙ ap (λ (ps : List (List ℕ)). group_text g ∷ ps) (parted i gs h.1)

group_read : (g : ℕ) → g < 65536 → octets_of_group (group_text g) ≡ Some (group_octets g)
group_read g h =
    let is = is_group g h in
    let short : nat_le (length (group_text g)) 4 ≡ true = let most : length (group_text g) ≤ 4 = is.short in grind (arith, leb_tells) in
    rw (short, is.value) refl

groups_read : (gs : List ℕ) → AllByRecursion (λ g. g < 65536) gs → octets_of_parts octets_of_group (map group_text gs) ≡ Some (flat_map group_octets gs)
groups_read [] h = refl
groups_read (g ∷ gs) h = rw (group_read g h.0, groups_read gs h.1) refl

counted : (gs : List ℕ) → length (map group_text gs) ≡ length gs
counted [] = refl
counted (g ∷ gs) = omega (arith, counted gs)

eight : (n : ℕ) → n ≡ 8 → (n == 8) ≡ true
eight n e = grind (arith, nat_tests)

pub full_back : (gs : List ℕ) → length gs ≡ 8 → AllByRecursion (λ g. g < 65536) gs → ipv6_of_text (groups_text gs) ≡ Some (flat_map group_octets gs)
full_back [] l h = absurd (omega arith)
full_back (g ∷ gs) l h = rw (parted g gs h, eight (length (map group_text (g ∷ gs))) (counted (g ∷ gs) ∙ l)) (groups_read (g ∷ gs) h)

-- ---- where two colons stand side by side

-- a text without colons in front
no_double : (s t : List ℕ) → Lacks s → double_at t ≡ None → double_at (s ++ t) ≡ None
no_double [] t h e = e
no_double (b ∷ s) t h e = by (s ++ t) (h 0 b (omega arith)) (no_double s t (λ k d m. h (suc k) d (omega arith)) e)
  where
    by : (u : List ℕ) → (b == 58) ≡ false → double_at u ≡ None → double_at (b ∷ u) ≡ None
    by [] f g = refl
    by (c ∷ u) f g = rw (f, g) refl

-- a colon, and no second one behind it
one_colon : (t : List ℕ) → 0 < length t → Lacks t → (u : List ℕ) → double_at (t ++ u) ≡ None → double_at (58 ∷ (t ++ u)) ≡ None
one_colon [] some h u e = absurd (omega arith)
one_colon (b ∷ t) some h u e = rw (h 0 b (omega arith), e) refl

single : (gs : List ℕ) → AllByRecursion (λ g. g < 65536) gs → double_at (behind_colons gs) ≡ None
single [] h = refl
single (g ∷ gs) h =
    let is = is_group g h.0 in
    one_colon (group_text g) is.some is.lacks (behind_colons gs) (no_double (group_text g) (behind_colons gs) is.lacks (single gs h.1))

pub no_run : (gs : List ℕ) → AllByRecursion (λ g. g < 65536) gs → double_at (groups_text gs) ≡ None
no_run [] h = refl
no_run (g ∷ gs) h = no_double (group_text g) (behind_colons gs) (is_group g h.0).lacks (single gs h.1)

-- the first two colons side by side come after a text without
more_at : ℕ → Option ℕ → Option ℕ
more_at n o = option_map (λ k. k + n) o

first_double : (s t : List ℕ) (k : ℕ) → Lacks s → double_at t ≡ Some k → double_at (s ++ t) ≡ Some (length s + k)
first_double [] t k h e = e ∙ ap (λ (n : ℕ). Some n) (omega arith)
first_double (b ∷ s) t k h e = by (s ++ t) (h 0 b (omega arith)) (first_double s t k (λ i d m. h (suc i) d (omega arith)) e)
  where
    by : (u : List ℕ) → (b == 58) ≡ false → double_at u ≡ Some (length s + k) → double_at (b ∷ u) ≡ Some (length (b ∷ s) + k)
    by [] f g = absurd (cc)
    by (c ∷ u) f g = let more : length s + k + 1 ≡ length (b ∷ s) + k = omega arith in rw (f, g) (ap (λ (n : ℕ). Some n) more)

colon_then : (t : List ℕ) → 0 < length t → Lacks t → (u : List ℕ) (k : ℕ) → double_at (t ++ u) ≡ Some k → double_at (58 ∷ (t ++ u)) ≡ Some (k + 1)
colon_then [] some h u k e = absurd (omega arith)
colon_then (b ∷ t) some h u k e = rw (h 0 b (omega arith), e) refl

run_behind : (gs t : List ℕ) → AllByRecursion (λ g. g < 65536) gs → double_at (behind_colons gs ++ 58 ∷ 58 ∷ t) ≡ Some (length (behind_colons gs))
run_behind [] t h = refl
run_behind (g ∷ gs) t h =
    let is = is_group g h.0 in
    let rest : List ℕ = behind_colons gs ++ 58 ∷ 58 ∷ t in
    let place : length (group_text g) + length (behind_colons gs) + 1 ≡ length (behind_colons (g ∷ gs)) = omega (arith, length-append (group_text g) (behind_colons gs)) in
    ap (λ (u : List ℕ). double_at (58 ∷ u)) (append_assoc (group_text g) (behind_colons gs) (58 ∷ 58 ∷ t))
    ∙ colon_then (group_text g) is.some is.lacks rest (length (group_text g) + length (behind_colons gs))
    (first_double (group_text g) rest (length (behind_colons gs)) is.lacks (run_behind gs t h.1))
    ∙ ap (λ (n : ℕ). Some n) place

run_at : (gs t : List ℕ) → AllByRecursion (λ g. g < 65536) gs → double_at (groups_text gs ++ 58 ∷ 58 ∷ t) ≡ Some (length (groups_text gs))
run_at [] t h = refl
run_at (g ∷ gs) t h =
    let rest : List ℕ = behind_colons gs ++ 58 ∷ 58 ∷ t in
    ap double_at (append_assoc (group_text g) (behind_colons gs) (58 ∷ 58 ∷ t))
    ∙ first_double (group_text g) rest (length (behind_colons gs)) (is_group g h.0).lacks (run_behind gs t h.1)
    ∙ ap (λ (n : ℕ). Some n) (sym (length-append (group_text g) (behind_colons gs)))

-- ---- groups are counted

abbrev is_colon : ℕ → ℕ
is_colon c = cond (c == 58) 1 0

no_colons : (s t : List ℕ) → Lacks s → count_by (λ c. c == 58) (s ++ t) ≡ count_by (λ c. c == 58) t
no_colons [] t h = refl
no_colons (b ∷ s) t h =
    sum_by-cons is_colon b (s ++ t)
    ∙ ap (λ (c : Bool). cond c 1 0 + count_by (λ c. c == 58) (s ++ t)) (h 0 b (omega arith))
    ∙ omega (arith, no_colons s t (λ k d m. h (suc k) d (omega arith)))

colons : (gs : List ℕ) → AllByRecursion (λ g. g < 65536) gs → count_by (λ c. c == 58) (behind_colons gs) ≡ length gs
colons [] h = refl
colons (g ∷ gs) h = omega (arith, sum_by-cons is_colon 58 (group_text g ++ behind_colons gs), no_colons (group_text g) (behind_colons gs) (is_group g h.0).lacks, colons gs h.1)

filled_count : (s : List ℕ) → 0 < length s → group_count s ≡ 1 + count_by (λ c. c == 58) s
filled_count [] h = absurd (omega arith)
filled_count (b ∷ s) h = refl

count_is : (gs : List ℕ) → AllByRecursion (λ g. g < 65536) gs → group_count (groups_text gs) ≡ length gs
count_is [] h = refl
count_is (g ∷ gs) h =
    let is = is_group g h.0 in
    let some : 0 < length (group_text g) = is.some in
    omega (
      arith,
      filled_count (groups_text (g ∷ gs)) (omega (arith, length-append (group_text g) (behind_colons gs), some)),
      no_colons (group_text g) (behind_colons gs) is.lacks,
      colons gs h.1,
    )

-- ---- groups of zero put in

abbrev zeros : ℕ → List ℕ
zeros n = replicate n 0

colons_append : (gs hs : List ℕ) → behind_colons (gs ++ hs) ≡ behind_colons gs ++ behind_colons hs
colons_append [] hs = refl
colons_append (g ∷ gs) hs = ap (λ (t : List ℕ). (58 ∷ group_text g) ++ t) (colons_append gs hs) ∙ sym (append_assoc (58 ∷ group_text g) (behind_colons gs) (behind_colons hs))

filled_zero : (s : List ℕ) → 0 < length s → with_zero s ≡ s ++ 58 ∷ 48 ∷ []
filled_zero [] h = absurd (omega arith)
filled_zero (b ∷ s) h = refl

zero_more : (gs : List ℕ) → AllByRecursion (λ g. g < 65536) gs → with_zero (groups_text gs) ≡ groups_text (gs ++ 0 ∷ [])
zero_more [] h = refl
zero_more (g ∷ gs) h =
    let some : 0 < length (group_text g) = (is_group g h.0).some in
    filled_zero (groups_text (g ∷ gs)) (omega (arith, length-append (group_text g) (behind_colons gs), some))
    ∙ append_assoc (group_text g) (behind_colons gs) (58 ∷ 48 ∷ [])
    ∙ ap (λ (t : List ℕ). group_text g ++ t) (sym (colons_append gs (0 ∷ [])))

groups_append : (gs hs : List ℕ) → AllByRecursion (λ g. g < 65536) gs → AllByRecursion (λ g. g < 65536) hs → AllByRecursion (λ g. g < 65536) (gs ++ hs)
groups_append [] hs h k = k
groups_append (g ∷ gs) hs h k = (h.0, groups_append gs hs h.1 k)

zeros_more : (n : ℕ) (gs : List ℕ) → AllByRecursion (λ g. g < 65536) gs → with_zeros n (groups_text gs) ≡ groups_text (gs ++ zeros n)
zeros_more zero gs h = ap groups_text (sym (append-nil gs))
zeros_more (suc n) gs h =
    ap (with_zeros n) (zero_more gs h)
    ∙ zeros_more n (gs ++ 0 ∷ []) (groups_append gs (0 ∷ []) h (omega arith, tt))
    ∙ ap groups_text (append_assoc gs (0 ∷ []) (zeros n))

some_text : (g : ℕ) (gs : List ℕ) → g < 65536 → 0 < length (groups_text (g ∷ gs))
some_text g gs h = let some : 0 < length (group_text g) = (is_group g h).some in omega (arith, length-append (group_text g) (behind_colons gs), some)

with_filled : (s t : List ℕ) → 0 < length t → with_groups s t ≡ s ++ 58 ∷ t
with_filled s [] h = absurd (omega arith)
with_filled s (b ∷ t) h = refl

joined_groups : (g : ℕ) (gs hs : List ℕ) → AllByRecursion (λ g. g < 65536) hs → with_groups (groups_text (g ∷ gs)) (groups_text hs) ≡ groups_text ((g ∷ gs) ++ hs)
joined_groups g gs [] h = ap groups_text (sym (append-nil (g ∷ gs)))
joined_groups g gs (i ∷ hs) h =
    with_filled (groups_text (g ∷ gs)) (groups_text (i ∷ hs)) (some_text i hs h.0)
    ∙ append_assoc (group_text g) (behind_colons gs) (58 ∷ groups_text (i ∷ hs))
    ∙ ap (λ (t : List ℕ). group_text g ++ t) (sym (colons_append gs (i ∷ hs)))

-- ---- the run that is left out

pub record IsRun (gs : List ℕ) (run : ℕ × ℕ) : Type 0 where
  pub within : run.0 + run.1 ≤ length gs
  pub zeros : run.1 ≤ zeros_in_front (drop run.0 gs)

front_most : (gs : List ℕ) → zeros_in_front gs ≤ length gs
front_most [] = omega arith
front_most (g ∷ gs) = by (g == 0) (front_most gs)
  where
    by : (b : Bool) → zeros_in_front gs ≤ length gs → cond b (1 + zeros_in_front gs) 0 ≤ length (g ∷ gs)
    by true h = omega arith
    by false h = omega arith

pub is_run : (gs : List ℕ) → IsRun gs (longest_run gs)
is_run [] = record { within = omega arith; zeros = omega arith }
is_run (g ∷ gs) = by (nat_le (longest_run gs).1 (zeros_in_front (g ∷ gs))) (is_run gs)
  where
    by : (b : Bool) → IsRun gs (longest_run gs) → IsRun (g ∷ gs) (cond b (0, zeros_in_front (g ∷ gs)) ((longest_run gs).0 + 1, (longest_run gs).1))
    by true later = record { within = omega (arith, front_most (g ∷ gs)); zeros = omega arith }
    by false later = record {
      within = omega (arith, later.within);
      zeros = let next : (longest_run gs).0 + 1 ≡ suc (longest_run gs).0 = omega arith in
          subst (λ (n : ℕ). (longest_run gs).1 ≤ zeros_in_front (drop n (g ∷ gs))) (sym next) later.zeros;
    }

-- groups of zero in front
front_zeros : (n : ℕ) (gs : List ℕ) → n ≤ zeros_in_front gs → gs ≡ zeros n ++ drop n gs
front_zeros zero gs h = refl
front_zeros (suc n) [] h = absurd (omega arith)
front_zeros (suc n) (g ∷ gs) h = by (g == 0) refl h (front_zeros n gs)
  where
    by : (b : Bool) → (g == 0) ≡ b → suc n ≤ cond b (1 + zeros_in_front gs) 0 → (n ≤ zeros_in_front gs → gs ≡ zeros n ++ drop n gs) → g ∷ gs ≡ zeros (suc n) ++ drop (suc n) (g ∷ gs)
    by true e k more = let none : g ≡ 0 = grind (arith, nat_tests) in ap (λ (m : ℕ). m ∷ gs) none ∙ ap (λ (t : List ℕ). 0 ∷ t) (more (omega arith))
    by false e k more = absurd (omega arith)

cut : (n : ℕ) (gs : List ℕ) → take n gs ++ drop n gs ≡ gs
cut zero gs = refl
cut (suc n) [] = refl
cut (suc n) (g ∷ gs) = ap (λ (t : List ℕ). g ∷ t) (cut n gs)

drop_more : (m n : ℕ) (gs : List ℕ) → drop n (drop m gs) ≡ drop (m + n) gs
drop_more zero n gs = ap (λ (k : ℕ). drop k gs) (omega arith)
drop_more (suc m) zero [] = let next : suc m + zero ≡ suc m = omega arith in rw next refl
drop_more (suc m) (suc n) [] = let next : suc m + suc n ≡ suc (m + suc n) = omega arith in rw next refl
drop_more (suc m) n (g ∷ gs) = let next : suc m + n ≡ suc (m + n) = omega arith in drop_more m n gs ∙ ap (λ (k : ℕ). drop k (g ∷ gs)) (sym next)

pub parts_of : (gs : List ℕ) (run : ℕ × ℕ) → IsRun gs run → gs ≡ take run.0 gs ++ (zeros run.1 ++ drop (run.0 + run.1) gs)
parts_of gs run h =
    sym (cut run.0 gs)
    ∙ ap (λ (t : List ℕ). take run.0 gs ++ t) (front_zeros run.1 (drop run.0 gs) h.zeros ∙ ap (λ (t : List ℕ). zeros run.1 ++ t) (drop_more run.0 run.1 gs))

-- ---- addresses

colons_short : (gs : List ℕ) → AllByRecursion (λ g. g < 65536) gs → length (behind_colons gs) ≤ 5 * length gs
colons_short [] h = omega arith
colons_short (g ∷ gs) h =
    let short : length (group_text g) ≤ 4 = (is_group g h.0).short in
    omega (arith, length-append (group_text g) (behind_colons gs), short, colons_short gs h.1)

text_short : (gs : List ℕ) → AllByRecursion (λ g. g < 65536) gs → length (groups_text gs) ≤ 5 * length gs - 1
text_short [] h = omega arith
text_short (g ∷ gs) h =
    let short : length (group_text g) ≤ 4 = (is_group g h.0).short in
    omega (arith, length-append (group_text g) (behind_colons gs), short, colons_short gs h.1)

not_long : (n : ℕ) → n ≤ 39 → nat_lt 39 n ≡ false
not_long n h = grind (arith, leb_tells)

joined_list : (gs hs : List ℕ) → 0 < length gs → AllByRecursion (λ g. g < 65536) hs → with_groups (groups_text gs) (groups_text hs) ≡ groups_text (gs ++ hs)
joined_list [] hs some h = absurd (omega arith)
joined_list (g ∷ gs) hs some h = joined_groups g gs hs h

groups_split : (gs hs : List ℕ) → AllByRecursion (λ g. g < 65536) (gs ++ hs) → AllByRecursion (λ g. g < 65536) gs × AllByRecursion (λ g. g < 65536) hs
groups_split [] hs h = (tt, h)
groups_split (g ∷ gs) hs h = let more = groups_split gs hs h.1 in ((h.0, more.0), more.1)

zeros_length : (n : ℕ) → length (zeros n) ≡ n
zeros_length zero = refl
zeros_length (suc n) = omega (arith, zeros_length n)

zero_groups : (n : ℕ) → AllByRecursion (λ g. g < 65536) (zeros n)
zero_groups zero = tt
zero_groups (suc n) = (omega arith, zero_groups n)

-- groups, and a run of zeros between them
filled_in : (front back : List ℕ) (n : ℕ) → 0 < n → length front + (n + length back) ≡ 8 → AllByRecursion (λ g. g < 65536) front → AllByRecursion (λ g. g < 65536) back
    → full_form (groups_text front) (groups_text back) ≡ Some (groups_text (front ++ (zeros n ++ back)))
filled_in front back n some l h k =
    let few : nat_lt (length front + length back) 8 ≡ true = grind (arith, leb_tells) in
    let lack : 8 - (length front + length back) ≡ n = omega arith in
    rw (count_is front h, count_is back k, few, lack, zeros_more n front h)
    (ap (λ (t : List ℕ). Some t) (
    joined_list (front ++ zeros n) back (omega (arith, length-append front (zeros n), zeros_length n)) k
    ∙ ap groups_text (append_assoc front (zeros n) back)
    ))

run_back : (front back : List ℕ) (n : ℕ) → 1 < n → length front + (n + length back) ≡ 8 → AllByRecursion (λ g. g < 65536) front → AllByRecursion (λ g. g < 65536) back
    → groups_of_word (groups_text front ++ 58 ∷ 58 ∷ groups_text back) ≡ ipv6_of_text (groups_text (front ++ (zeros n ++ back)))
run_back front back n some l h k =
    let f : List ℕ = groups_text front in
    let b : List ℕ = groups_text back in
    let short : nat_lt 39 (length (f ++ 58 ∷ 58 ∷ b)) ≡ false = not_long (length (f ++ 58 ∷ 58 ∷ b)) (omega (arith, length-append f (58 ∷ 58 ∷ b), text_short front h, text_short back k)) in
    let first : take (length f) (f ++ 58 ∷ 58 ∷ b) ≡ f = take_at f (58 ∷ 58 ∷ b) (length f) refl in
    let last : drop (length f + 2) (f ++ 58 ∷ 58 ∷ b) ≡ b =
    sym (drop_more (length f) 2 (f ++ 58 ∷ 58 ∷ b)) ∙ ap (drop 2) (drop_at f (58 ∷ 58 ∷ b) (length f) refl) in
    rw (short, run_at front b h, first, last, filled_in front back n (omega arith) l h k) refl

pub are_groups : (bs : List ℕ) → AllByRecursion (λ b. b < 256) bs → AllByRecursion (λ g. g < 65536) (groups_of bs)
are_groups [] h = tt
are_groups (b ∷ []) h = tt
are_groups (b ∷ c ∷ bs) h = (omega (arith, h.0, h.1.0), are_groups bs h.1.1)

group_count_of : (bs : List ℕ) (n : ℕ) → length bs ≡ 2 * n → length (groups_of bs) ≡ n
group_count_of [] n l = omega arith
group_count_of (b ∷ []) n l = absurd (omega arith)
group_count_of (b ∷ c ∷ bs) n l = omega (arith, group_count_of bs (n - 1) (omega arith))

octets_of_groups : (bs : List ℕ) (n : ℕ) → length bs ≡ 2 * n → AllByRecursion (λ b. b < 256) bs → flat_map group_octets (groups_of bs) ≡ bs
octets_of_groups [] n l h = refl
octets_of_groups (b ∷ []) n l h = absurd (omega arith)
octets_of_groups (b ∷ c ∷ bs) n l h =
    let first : (b * 256 + c) / 256 ≡ b = omega (arith, h.1.0) in
    let second : (b * 256 + c) % 256 ≡ c = omega (arith, h.1.0) in
    rw (first, second) (ap (λ (t : List ℕ). b ∷ c ∷ t) (octets_of_groups bs (n - 1) (omega arith) h.1.1))

groups_back : (bs : List ℕ) → length bs ≡ 16 → AllByRecursion (λ b. b < 256) bs → groups_of_word (address_text bs) ≡ Some bs
groups_back bs l h = by (nat_lt (longest_run (groups_of bs)).1 2) refl ∙ full_back (groups_of bs) (group_count_of bs 8 l) (are_groups bs h) ∙ ap (λ (t : List ℕ). Some t) (octets_of_groups bs 8 l h)
  where
    by : (b : Bool) → nat_lt (longest_run (groups_of bs)).1 2 ≡ b
        → groups_of_word (cond b (groups_text (groups_of bs)) (groups_text (take (longest_run (groups_of bs)).0 (groups_of bs)) ++ 58 ∷ 58 ∷ groups_text (drop ((longest_run (groups_of bs)).0 + (longest_run (groups_of bs)).1) (groups_of bs))))
        ≡ ipv6_of_text (groups_text (groups_of bs))
    by true e =
        let short : nat_lt 39 (length (groups_text (groups_of bs))) ≡ false = not_long (length (groups_text (groups_of bs))) (omega (arith, text_short (groups_of bs) (are_groups bs h), group_count_of bs 8 l)) in
        rw (short, no_run (groups_of bs) (are_groups bs h)) refl
    by false e =
        let front : List ℕ = take (longest_run (groups_of bs)).0 (groups_of bs) in
        let n : ℕ = (longest_run (groups_of bs)).1 in
        let back : List ℕ = drop ((longest_run (groups_of bs)).0 + (longest_run (groups_of bs)).1) (groups_of bs) in
        let whole : groups_of bs ≡ front ++ (zeros n ++ back) = parts_of (groups_of bs) (longest_run (groups_of bs)) (is_run (groups_of bs)) in
        let some : 1 < n = grind (arith, leb_tells) in
        let sizes : length front + (n + length back) ≡ 8 =
        omega (arith, ap length whole, group_count_of bs 8 l, length-append front (zeros n ++ back), length-append (zeros n) back, zeros_length n) in
        let first = groups_split front (zeros n ++ back) (subst (λ (t : List ℕ). AllByRecursion (λ g. g < 65536) t) whole (are_groups bs h)) in
        let last = groups_split (zeros n) back first.1 in
        run_back front back n some sizes first.0 last.1 ∙ ap (λ (t : List ℕ). ipv6_of_text (groups_text t)) (sym whole)

pub address_back : (bs : List ℕ) → length bs ≡ 16 → AllByRecursion (λ b. b < 256) bs → ipv6_of_word (address_text bs) ≡ Some bs
address_back bs l h = rw (groups_back bs l h) refl
