-- That a text is read as a name exactly if it is of the name's text form.
use Rattle.std.proofs.Common.{◌≡◌, ◌≢◌, ◌⊎◌, inl, inr, ℕ, ◌+◌, ◌-◌, ◌*◌, ◌/◌, ◌%◌, ◌<◌, ◌≤◌, List, [], ◌∷◌, ◌++◌, Bool, true, false, cond, refl, sym, ap, subst, ◌∙◌, arith, Some, None}
use Rattle.std.proofs.lemmas.Bool.Decides.{nat_tests}
use Rattle.std.proofs.lemmas.List.{append_assoc, append-nil}
use Rattle.std.specs.Prelude.{◌==◌, nat_le, ◌&&◌, IsTrue, IsFalse}
use Rattle.zone_proto.specs.declared.parser.Mode.{Mode}
use Rattle.zone_proto.specs.declared.parser.Mode.TheVariants.{Start, AfterDot, InLabel, Escaped, OneDigit, TwoDigits}
use Rattle.zone_proto.specs.Names.{Name, Label}
use Rattle.zone_proto.specs.Faults.{IsBadText}
use Rattle.zone_proto.specs.TextForm.{is_digit, is_graphic, three_digits, IsOctetText, itself, escaped, by_value, IsLabelText, IsLabelsText, IsNameText}
use Rattle.zone_proto.specs.Parse.{Reader, with_octet, plain_step, step_in, read_on, start, labels_of_text, next_or_none}

abbrev at : Mode → Name → Label → Reader
at m done cur = record { mode = m; labels = done; label = cur }

-- a read label ends
abbrev ended : Name → Label → Reader
ended done cur = at AfterDot (done ++ cur ∷ []) []

-- ---- a text of the form is read

-- an octet may begin here
abbrev IsReady : Mode → Type 0
IsReady Start = Unit {0}
IsReady AfterDot = Unit {0}
IsReady InLabel = Unit {0}
IsReady Escaped = ⊥
IsReady (OneDigit a) = ⊥
IsReady (TwoDigits a) = ⊥

ready_step : (m : Mode) (r : Reader) (b : ℕ) → IsReady m → step_in m r b ≡ plain_step r b
ready_step Start r b h = refl
ready_step AfterDot r b h = refl
ready_step InLabel r b h = refl
ready_step Escaped r b h = absurd h
ready_step (OneDigit a) r b h = absurd h
ready_step (TwoDigits a) r b h = absurd h

read_more : (b : ℕ) (s : List ℕ) (r q : Reader) → step_in r.mode r b ≡ Some q → read_on (b ∷ s) r ≡ read_on s q
read_more b s r q e = ap (λ o. next_or_none o (read_on s)) e

differs : (b k : ℕ) → b ≢ k → (b == k) ≡ false
differs b k h = grind (arith, nat_tests)

plain_read : (r : Reader) (b : ℕ) → IsTrue (is_graphic b) → b ≢ 46 → b ≢ 92 → plain_step r b ≡ Some (with_octet r b)
plain_read r b g d k =
    ap (λ t. cond t (Some (ended r.labels r.label)) (cond (b == 92) (Some (at Escaped r.labels r.label)) (cond (is_graphic b) (Some (with_octet r b)) None))) (differs b 46 d)
    ∙ ap (λ t. cond t (Some (at Escaped r.labels r.label)) (cond (is_graphic b) (Some (with_octet r b)) None)) (differs b 92 k)
    ∙ ap (λ t. cond t (Some (with_octet r b)) None) g

digit_is : (d : ℕ) → d < 10 → is_digit (48 + d) ≡ true
digit_is d h = grind (arith, nat_tests)

rem10 : (n : ℕ) → n % 10 < 10
rem10 n = omega arith

hundreds : (b : ℕ) → b ≤ 255 → b / 100 < 10
hundreds b h = omega arith

value : (b : ℕ) → 10 * (10 * (48 + b / 100 - 48) + (48 + b / 10 % 10 - 48)) + (48 + b % 10 - 48) ≡ b
value b = omega arith

octet_fits : (b : ℕ) → b ≤ 255 → nat_le b 255 ≡ true
octet_fits b h = grind (arith, nat_tests)

digits_read : (r : Reader) (b : ℕ) (s : List ℕ) → b ≤ 255 → read_on (three_digits b ++ s) (at Escaped r.labels r.label) ≡ read_on s (with_octet r b)
digits_read r b s h =
    let in_mode : Mode → Reader = λ m. at m r.labels r.label in
    let x : ℕ = 48 + b / 100 in
    let y : ℕ = 48 + b / 10 % 10 in
    let z : ℕ = 48 + b % 10 in
    let one : step_in Escaped (in_mode Escaped) x ≡ Some (in_mode (OneDigit (x - 48))) =
    ap (λ t. cond t (Some (in_mode (OneDigit (x - 48)))) (cond (is_graphic x) (Some (with_octet (in_mode Escaped) x)) None)) (digit_is (b / 100) (hundreds b h)) in
    let two : step_in (OneDigit (x - 48)) (in_mode (OneDigit (x - 48))) y ≡ Some (in_mode (TwoDigits (10 * (x - 48) + (y - 48)))) =
    ap (λ t. cond t (Some (in_mode (TwoDigits (10 * (x - 48) + (y - 48))))) None) (digit_is (b / 10 % 10) (rem10 (b / 10))) in
    let three : step_in (TwoDigits (10 * (x - 48) + (y - 48))) (in_mode (TwoDigits (10 * (x - 48) + (y - 48)))) z ≡ Some (with_octet r b) =
    ap (λ t. cond (t && nat_le (10 * (10 * (x - 48) + (y - 48)) + (z - 48)) 255) (Some (with_octet r (10 * (10 * (x - 48) + (y - 48)) + (z - 48)))) None) (digit_is (b % 10) (rem10 b))
    ∙ ap (λ v. cond (nat_le v 255) (Some (with_octet r v)) None) (value b)
    ∙ ap (λ t. cond t (Some (with_octet r b)) None) (octet_fits b h) in
    read_more x (y ∷ z ∷ s) (in_mode Escaped) (in_mode (OneDigit (x - 48))) one
    ∙ read_more y (z ∷ s) (in_mode (OneDigit (x - 48))) (in_mode (TwoDigits (10 * (x - 48) + (y - 48)))) two
    ∙ read_more z s (in_mode (TwoDigits (10 * (x - 48) + (y - 48)))) (with_octet r b) three

escape_read : (r : Reader) (b : ℕ) → IsTrue (is_graphic b) → IsFalse (is_digit b) → step_in Escaped (at Escaped r.labels r.label) b ≡ Some (with_octet r b)
escape_read r b g d =
    ap (λ t. cond t (Some (at (OneDigit (b - 48)) r.labels r.label)) (cond (is_graphic b) (Some (with_octet r b)) None)) d
    ∙ ap (λ t. cond t (Some (with_octet r b)) None) g

octet_read : (r : Reader) (t : List ℕ) (b : ℕ) (s : List ℕ) → IsReady r.mode → IsOctetText t b → read_on (t ++ s) r ≡ read_on s (with_octet r b)
octet_read r t b s ready (itself e g d k) =
    ap (λ t. read_on (t ++ s) r) e ∙ read_more b s r (with_octet r b) (ready_step r.mode r b ready ∙ plain_read r b g d k)
octet_read r t b s ready (escaped e g d) =
    ap (λ t. read_on (t ++ s) r) e
    ∙ read_more 92 (b ∷ s) r (at Escaped r.labels r.label) (ready_step r.mode r 92 ready)
    ∙ read_more b s (at Escaped r.labels r.label) (with_octet r b) (escape_read r b g d)
octet_read r t b s ready (by_value e h) =
    ap (λ t. read_on (t ++ s) r) e
    ∙ read_more 92 (three_digits b ++ s) r (at Escaped r.labels r.label) (ready_step r.mode r 92 ready)
    ∙ digits_read r b s h

-- a label and the dot after it
label_read : (r : Reader) (l t s : List ℕ) → IsReady r.mode → IsLabelText t l → read_on (t ++ 46 ∷ s) r ≡ read_on s (ended r.labels (r.label ++ l))
label_read r [] t s ready h =
    ap (λ t. read_on (t ++ 46 ∷ s) r) h
    ∙ read_more 46 s r (ended r.labels r.label) (ready_step r.mode r 46 ready)
    ∙ ap (λ l. read_on s (ended r.labels l)) (sym (append-nil r.label))
label_read r (b ∷ l) t s ready (first, rest, e, o, h) =
    ap (λ t. read_on (t ++ 46 ∷ s) r) e
    ∙ ap (λ t. read_on t r) (append_assoc first rest (46 ∷ s))
    ∙ octet_read r first b (rest ++ 46 ∷ s) ready o
    ∙ label_read (with_octet r b) l rest s tt h
    ∙ ap (λ m. read_on s (ended r.labels m)) (append_assoc r.label (b ∷ []) l)

-- the last label, which no dot ends
rest_read : (done : Name) (cur l t : List ℕ) → IsLabelText t l → read_on t (at InLabel done cur) ≡ Some (done ++ (cur ++ l) ∷ [])
rest_read done cur [] t h =
    ap (λ t. read_on t (at InLabel done cur)) h ∙ ap (λ l. Some (done ++ l ∷ [])) (sym (append-nil cur))
rest_read done cur (b ∷ l) t (first, rest, e, o, h) =
    ap (λ t. read_on t (at InLabel done cur)) e
    ∙ octet_read (at InLabel done cur) first b rest tt o
    ∙ rest_read done (cur ++ b ∷ []) l rest h
    ∙ ap (λ c. Some (done ++ c ∷ [])) (append_assoc cur (b ∷ []) l)

last_read : (m : Mode) (done : Name) (l t : List ℕ) → IsReady m → IsLabelText t l → l ≢ [] → read_on t (at m done []) ≡ Some (done ++ l ∷ [])
last_read m done [] t ready h some = absurd (some refl)
last_read m done (b ∷ l) t ready (first, rest, e, o, h) some =
    ap (λ t. read_on t (at m done [])) e
    ∙ octet_read (at m done []) first b rest ready o
    ∙ rest_read done (b ∷ []) l rest h

-- labels, of which those after the first are read after a dot
first_read : (m : Mode) (done : Name) (l : Label) (ls : Name) (s : List ℕ) → IsReady m
    → ((done : Name) (s : List ℕ) → IsLabelsText s ls → read_on s (at AfterDot done []) ≡ Some (done ++ ls))
    → IsLabelsText s (l ∷ ls) → read_on s (at m done []) ≡ Some (done ++ l ∷ ls)
first_read m done l ls s ready more (inl (first, rest, e, k, h)) =
    ap (λ s. read_on s (at m done [])) e
    ∙ label_read (at m done []) l first rest ready k
    ∙ more (done ++ l ∷ []) rest h
    ∙ ap Some (append_assoc done (l ∷ []) ls)
first_read m done l ls s ready more (inr (h, some, last)) =
    last_read m done l s ready h some ∙ ap (λ ls. Some (done ++ l ∷ ls)) (sym last)

after_read : (ls : Name) (done : Name) (s : List ℕ) → IsLabelsText s ls → read_on s (at AfterDot done []) ≡ Some (done ++ ls)
after_read [] done s h = ap (λ s. read_on s (at AfterDot done [])) h ∙ ap Some (sym (append-nil done))
after_read (l ∷ ls) done s h = first_read AfterDot done l ls s tt (after_read ls) h

-- a text of two octets or more, or of one that is no dot
whole_read : (s : List ℕ) (n : Name) → s ≢ 46 ∷ [] → read_on s start ≡ Some n → labels_of_text s ≡ Some n
whole_read [] n other e = e
whole_read (b ∷ []) n other e = ap (λ t. cond t (Some []) (read_on (b ∷ []) start)) (differs b 46 (λ d. other (ap (λ b. b ∷ []) d))) ∙ e
whole_read (b ∷ c ∷ s) n other e = e

pub form_read : (s : List ℕ) (n : Name) → IsNameText s n → labels_of_text s ≡ Some n
form_read s [] h = ap labels_of_text h
form_read s (l ∷ ls) (h, other) = whole_read s (l ∷ ls) other (first_read Start [] l ls s tt (after_read ls) h)

-- ---- a text that is read is of the form

-- what the text of a label and of the labels after it is, where the label goes on
abbrev Ends : List ℕ → Label → List Label → Type 0
Ends s l ls =
    ((first : List ℕ) × (rest : List ℕ) × (s ≡ first ++ 46 ∷ rest) × IsLabelText first l × IsLabelsText rest ls)
    ⊎ (IsLabelText s l × (ls ≡ []))

-- the name is what has been read, and what the text goes on with
abbrev Spells : List ℕ → Name → Label → Name → Type 0
Spells s done cur n = (l : Label) × (ls : Name) × (n ≡ done ++ (cur ++ l) ∷ ls) × Ends s l ls

octet_more : (t s : List ℕ) (b : ℕ) (done : Name) (cur : Label) (n : Name) → IsOctetText t b → Spells s done (cur ++ b ∷ []) n → Spells (t ++ s) done cur n
octet_more t s b done cur n o (l, ls, e, h) = (b ∷ l, ls, e ∙ ap (λ c. done ++ c ∷ ls) (append_assoc cur (b ∷ []) l), by h)
  where
    by : Ends s l ls → Ends (t ++ s) (b ∷ l) ls
    by (inl (first, rest, f, k, w)) = inl (t ++ first, rest, ap (λ s. t ++ s) f ∙ sym (append_assoc t first (46 ∷ rest)), (t, first, refl, o, k), w)
    by (inr (k, w)) = inr ((t, s, refl, o, k), w)

-- the part of an octet's text that has been read
abbrev begun : Mode → List ℕ
begun Start = []
begun AfterDot = []
begun InLabel = []
begun Escaped = 92 ∷ []
begun (OneDigit a) = 92 ∷ (48 + a) ∷ []
begun (TwoDigits a) = 92 ∷ (48 + a / 10) ∷ (48 + a % 10) ∷ []

-- digits are digits, and after a dot there is more
abbrev GoesOn : Mode → List ℕ → Type 0
GoesOn Start s = Unit {0}
GoesOn AfterDot s = s ≢ []
GoesOn InLabel s = Unit {0}
GoesOn Escaped s = Unit {0}
GoesOn (OneDigit a) s = a < 10
GoesOn (TwoDigits a) s = a < 100

abbrev AllSpell : List ℕ → Type 0
AllSpell s = (m : Mode) (done : Name) (cur : Label) (n : Name) → GoesOn m s → read_on s (at m done cur) ≡ Some n → Spells (begun m ++ s) done cur n

nothing : {A : Type 0} (n : Name) → None ≡ Some n → A
nothing n e = absurd (cc)

same : {A : Type 0} (x y : A) → Some x ≡ Some y → y ≡ x
same x y e = cc

ends_spell : AllSpell []
ends_spell Start done cur n h e = nothing n e
ends_spell AfterDot done cur n h e = absurd (h refl)
ends_spell InLabel done cur n h e = ([], [], same _ _ e ∙ ap (λ c. done ++ c ∷ []) (sym (append-nil cur)), inr (refl, refl))
ends_spell Escaped done cur n h e = nothing n e
ends_spell (OneDigit a) done cur n h e = nothing n e
ends_spell (TwoDigits a) done cur n h e = nothing n e

-- the labels of a text that is not empty
ends_are_labels : (s : List ℕ) (l : Label) (ls : Name) → s ≢ [] → Ends s l ls → IsLabelsText s (l ∷ ls)
ends_are_labels s l ls some (inl w) = inl w
ends_are_labels s [] ls some (inr (k, w)) = absurd (some k)
ends_are_labels s (b ∷ l) ls some (inr (k, w)) = inr (k, (λ h. cc), w)

-- a dot and the text after it
dot_spells : (s : List ℕ) (done : Name) (cur : Label) (n : Name) → AllSpell s → read_on s (ended done cur) ≡ Some n → Spells (46 ∷ s) done cur n
dot_spells [] done cur n more e = ([], [], same _ _ e ∙ ap (λ c. done ++ c ∷ []) (sym (append-nil cur)), inl ([], [], refl, refl, refl))
dot_spells (b ∷ s) done cur n more e = by (more AfterDot (done ++ cur ∷ []) [] n (λ h. cc) e)
  where
    by : Spells (b ∷ s) (done ++ cur ∷ []) [] n → Spells (46 ∷ b ∷ s) done cur n
    by (l, ls, f, h) = (
      [],
      l ∷ ls,
      f ∙ append_assoc done (cur ∷ []) (l ∷ ls) ∙ ap (λ c. done ++ c ∷ l ∷ ls) (sym (append-nil cur)),
      inl ([], b ∷ s, refl, refl, ends_are_labels (b ∷ s) l ls (λ h. cc) h),
    )

is_same : (b k : ℕ) → (b == k) ≡ true → b ≡ k
is_same b k h = grind (arith, nat_tests)

is_other : (b k : ℕ) → (b == k) ≡ false → b ≢ k
is_other b k h = grind (arith, nat_tests)

-- an octet that no backslash comes before
plain_spells : (b : ℕ) (s : List ℕ) (m : Mode) (done : Name) (cur : Label) (n : Name) → AllSpell s
    → next_or_none (plain_step (at m done cur) b) (read_on s) ≡ Some n → Spells (b ∷ s) done cur n
plain_spells b s m done cur n more = by_dot (b == 46) refl
  where
    by_graphic : (t : Bool) → is_graphic b ≡ t → b ≢ 46 → b ≢ 92 → next_or_none (cond t (Some (at InLabel done (cur ++ b ∷ []))) None) (read_on s) ≡ Some n → Spells (b ∷ s) done cur n
    by_graphic true g d k e = octet_more (b ∷ []) s b done cur n (itself refl g d k) (more InLabel done (cur ++ b ∷ []) n tt e)
    by_graphic false g d k e = nothing n e

    by_slash : (t : Bool) → (b == 92) ≡ t → b ≢ 46 → next_or_none (cond t (Some (at Escaped done cur)) (cond (is_graphic b) (Some (at InLabel done (cur ++ b ∷ []))) None)) (read_on s) ≡ Some n → Spells (b ∷ s) done cur n
    by_slash true k d e = subst (λ c. Spells (c ∷ s) done cur n) (sym (is_same b 92 k)) (more Escaped done cur n tt e)
    by_slash false k d e = by_graphic (is_graphic b) refl d (is_other b 92 k) e

    by_dot : (t : Bool) → (b == 46) ≡ t → next_or_none (cond t (Some (ended done cur)) (cond (b == 92) (Some (at Escaped done cur)) (cond (is_graphic b) (Some (at InLabel done (cur ++ b ∷ []))) None))) (read_on s) ≡ Some n → Spells (b ∷ s) done cur n
    by_dot true d e = subst (λ c. Spells (c ∷ s) done cur n) (sym (is_same b 46 d)) (dot_spells s done cur n more e)
    by_dot false d e = by_slash (b == 92) refl (is_other b 46 d) e

digit_value : (b : ℕ) → is_digit b ≡ true → b - 48 < 10
digit_value b h = grind (arith, nat_tests)

digit_text : (b : ℕ) → is_digit b ≡ true → 48 + (b - 48) ≡ b
digit_text b h = grind (arith, nat_tests)

-- an octet after a backslash
escaped_spells : (b : ℕ) (s : List ℕ) (done : Name) (cur : Label) (n : Name) → AllSpell s
    → next_or_none (step_in Escaped (at Escaped done cur) b) (read_on s) ≡ Some n → Spells (92 ∷ b ∷ s) done cur n
escaped_spells b s done cur n more = by_digit (is_digit b) refl
  where
    by_graphic : (t : Bool) → is_graphic b ≡ t → is_digit b ≡ false → next_or_none (cond t (Some (at InLabel done (cur ++ b ∷ []))) None) (read_on s) ≡ Some n → Spells (92 ∷ b ∷ s) done cur n
    by_graphic true g d e = octet_more (92 ∷ b ∷ []) s b done cur n (escaped refl g d) (more InLabel done (cur ++ b ∷ []) n tt e)
    by_graphic false g d e = nothing n e

    by_digit : (t : Bool) → is_digit b ≡ t → next_or_none (cond t (Some (at (OneDigit (b - 48)) done cur)) (cond (is_graphic b) (Some (at InLabel done (cur ++ b ∷ []))) None)) (read_on s) ≡ Some n → Spells (92 ∷ b ∷ s) done cur n
    by_digit true d e = subst (λ c. Spells (92 ∷ c ∷ s) done cur n) (digit_text b d) (more (OneDigit (b - 48)) done cur n (digit_value b d) e)
    by_digit false d e = by_graphic (is_graphic b) refl d e

two_digits : (a d : ℕ) → a < 10 → d < 10 → 10 * a + d < 100
two_digits a d h k = omega arith

tens_of : (a d : ℕ) → d < 10 → (10 * a + d) / 10 ≡ a
tens_of a d h = omega arith

ones_of : (a d : ℕ) → d < 10 → (10 * a + d) % 10 ≡ d
ones_of a d h = omega arith

-- an octet after a backslash and a digit
one_digit_spells : (a b : ℕ) (s : List ℕ) (done : Name) (cur : Label) (n : Name) → a < 10 → AllSpell s
    → next_or_none (step_in (OneDigit a) (at (OneDigit a) done cur) b) (read_on s) ≡ Some n → Spells (92 ∷ (48 + a) ∷ b ∷ s) done cur n
one_digit_spells a b s done cur n h more = by (is_digit b) refl
  where
    by : (t : Bool) → is_digit b ≡ t → next_or_none (cond t (Some (at (TwoDigits (10 * a + (b - 48))) done cur)) None) (read_on s) ≡ Some n → Spells (92 ∷ (48 + a) ∷ b ∷ s) done cur n
    by true d e =
        subst (λ c. Spells (92 ∷ (48 + a) ∷ c ∷ s) done cur n) (ap (λ c. 48 + c) (ones_of a (b - 48) (digit_value b d)) ∙ digit_text b d)
        (subst (λ c. Spells (92 ∷ (48 + c) ∷ (48 + (10 * a + (b - 48)) % 10) ∷ s) done cur n) (tens_of a (b - 48) (digit_value b d))
        (more (TwoDigits (10 * a + (b - 48))) done cur n (two_digits a (b - 48) h (digit_value b d)) e))
    by false d e = nothing n e

and_left : (p q : Bool) → (p && q) ≡ true → p ≡ true
and_left true q h = refl
and_left false q h = cc

and_right : (p q : Bool) → (p && q) ≡ true → q ≡ true
and_right true q h = h
and_right false q h = cc

hundreds_of : (a d : ℕ) → d < 10 → (10 * a + d) / 100 ≡ a / 10
hundreds_of a d h = omega arith

fits : (v : ℕ) → nat_le v 255 ≡ true → v ≤ 255
fits v h = grind (arith, nat_tests)

-- two digits of this value and a third one
abbrev with_digit : ℕ → ℕ → ℕ
with_digit a b = 10 * a + (b - 48)

-- an octet after a backslash and two digits
two_digits_spell : (a b : ℕ) (s : List ℕ) (done : Name) (cur : Label) (n : Name) → AllSpell s
    → next_or_none (step_in (TwoDigits a) (at (TwoDigits a) done cur) b) (read_on s) ≡ Some n → Spells (92 ∷ (48 + a / 10) ∷ (48 + a % 10) ∷ b ∷ s) done cur n
two_digits_spell a b s done cur n more = by (is_digit b && nat_le (with_digit a b) 255) refl
  where
    text : is_digit b ≡ true → three_digits (with_digit a b) ≡ (48 + a / 10) ∷ (48 + a % 10) ∷ b ∷ []
    text d =
        let k : b - 48 < 10 = digit_value b d in
        (λ i. (48 + hundreds_of a (b - 48) k i) ∷ (48 + tens_of a (b - 48) k i % 10) ∷ (48 + ones_of a (b - 48) k i) ∷ [])
        ∙ ap (λ c. (48 + a / 10) ∷ (48 + a % 10) ∷ c ∷ []) (digit_text b d)

    by : (t : Bool) → (is_digit b && nat_le (with_digit a b) 255) ≡ t → next_or_none (cond t (Some (at InLabel done (cur ++ with_digit a b ∷ []))) None) (read_on s) ≡ Some n → Spells (92 ∷ (48 + a / 10) ∷ (48 + a % 10) ∷ b ∷ s) done cur n
    by true d e = octet_more (92 ∷ (48 + a / 10) ∷ (48 + a % 10) ∷ b ∷ []) s (with_digit a b) done cur n
        (by_value (ap (λ ds. 92 ∷ ds) (sym (text (and_left (is_digit b) (nat_le (with_digit a b) 255) d)))) (fits (with_digit a b) (and_right (is_digit b) (nat_le (with_digit a b) 255) d)))
        (more InLabel done (cur ++ with_digit a b ∷ []) n tt e)
    by false d e = nothing n e

octet_spells : (b : ℕ) (s : List ℕ) → AllSpell s → AllSpell (b ∷ s)
octet_spells b s more Start done cur n h e = plain_spells b s Start done cur n more e
octet_spells b s more AfterDot done cur n h e = plain_spells b s AfterDot done cur n more e
octet_spells b s more InLabel done cur n h e = plain_spells b s InLabel done cur n more e
octet_spells b s more Escaped done cur n h e = escaped_spells b s done cur n more e
octet_spells b s more (OneDigit a) done cur n h e = one_digit_spells a b s done cur n h more e
octet_spells b s more (TwoDigits a) done cur n h e = two_digits_spell a b s done cur n more e

all_spell : (s : List ℕ) → AllSpell s
all_spell [] = ends_spell
all_spell (b ∷ s) = octet_spells b s (all_spell s)

whole_spells : (s : List ℕ) (n : Name) → s ≢ [] → s ≢ 46 ∷ [] → read_on s start ≡ Some n → IsNameText s n
whole_spells s n some other e = by (all_spell s Start [] [] n tt e)
  where
    by : Spells s [] [] n → IsNameText s n
    by (l, ls, f, h) = subst (λ n. IsNameText s n) (sym f) (ends_are_labels s l ls some h, other)

pub read_form : (s : List ℕ) (n : Name) → labels_of_text s ≡ Some n → IsNameText s n
read_form [] n e = nothing n e
read_form (b ∷ c ∷ s) n e = whole_spells (b ∷ c ∷ s) n (λ h. cc) (λ h. cc) e
read_form (b ∷ []) n e = by (b == 46) refl e
  where
    by : (t : Bool) → (b == 46) ≡ t → cond t (Some []) (read_on (b ∷ []) start) ≡ Some n → IsNameText (b ∷ []) n
    by true d e = subst (λ n. IsNameText (b ∷ []) n) (sym (same _ _ e)) (ap (λ b. b ∷ []) (is_same b 46 d))
    by false d e = whole_spells (b ∷ []) n (λ h. cc) (λ h. is_other b 46 d cc) e

pub one_form : (s : List ℕ) (n m : Name) → IsNameText s n → IsNameText s m → n ≡ m
one_form s n m h k = same _ _ (sym (form_read s m k) ∙ form_read s n h)

pub bad_form : (s : List ℕ) → labels_of_text s ≡ None → IsBadText s
bad_form s e n h = nothing n (sym e ∙ form_read s n h)
