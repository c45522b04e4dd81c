-- Octets of a word that are taken in one piece are read as one after the other.
use Rattle.std.proofs.Common.{◌≡◌, ◌<◌, ◌≤◌, ◌+◌, ℕ, zero, suc, List, [], ◌∷◌, ◌++◌, length, take, drop, min, Bool, true, false, ◌&&◌, ◌||◌, ◌==◌, nat_le, Option, refl, sym, ap, ◌∙◌, append_assoc, append-nil, arith}
use Rattle.std.specs.Prelude.{slice_index}
use Rattle.std.proofs.lemmas.Bool.{not-true}
use Rattle.zone_scanner.specs.declared.place.Place.{Place}
use Rattle.zone_scanner.specs.declared.signs.Mode.{Mode}
use Rattle.zone_scanner.specs.declared.signs.Mode.TheVariants.{Plain, Escape, InQuotes, EscapeInQuotes, InComment}
use Rattle.zone_scanner.specs.declared.signs.Sign.TheVariants.{Octet}
use Rattle.zone_scanner.specs.Signs.{goes_on, sign_of, mode_after, place_behind, place_along, is_blank, ends_line, semicolon, opening, closing, quote, backslash, line_feed}
use Rattle.zone_scanner.specs.Entries.{WordText, entry_limit}
use Rattle.zone_scanner.specs.Steps.{Hand, Start, Between, Going, Reader, events_from, word_with, word_of}

-- ---- an octet that goes on

and_first : (a b : Bool) → (a && b) ≡ true → a ≡ true
and_first true b h = refl
and_first false b h = h

and_second : (a b : Bool) → (a && b) ≡ true → b ≡ true
and_second true b h = h
and_second false b h = absurd cc

or_second : (a b : Bool) → (a || b) ≡ false → b ≡ false
or_second true b h = absurd cc
or_second false b h = h

or_first : (a b : Bool) → (a || b) ≡ false → a ≡ false
or_first true b h = h
or_first false b h = refl

-- what it stands for, what the next one comes after, and where that stands
record GoesOn (mode : Mode) (b : ℕ) : Type 0 where
  sign : (p : Place) → sign_of mode p b ≡ Octet b
  after : (p : Place) → mode_after mode p b ≡ mode
  behind : (p : Place) → place_behind p b ≡ place_along p 1

going : (mode : Mode) (b : ℕ) → goes_on mode b ≡ true → GoesOn mode b
going Plain b h =
    let blank : (is_blank b || b == semicolon) ≡ false = not-true _ (and_first _ _ h) in
    let h2 = and_second _ _ h in
    let ends : ends_line b ≡ false = not-true _ (and_first _ _ h2) in
    let h3 = and_second _ _ h2 in
    let opens : (b == opening) ≡ false = not-true _ (and_first _ _ h3) in
    let h4 = and_second _ _ h3 in
    let closes : (b == closing) ≡ false = not-true _ (and_first _ _ h4) in
    let h5 = and_second _ _ h4 in
    let quotes : (b == quote) ≡ false = not-true _ (and_first _ _ h5) in
    let slash : (b == backslash) ≡ false = not-true _ (and_second _ _ h5) in
    let comment : (b == semicolon) ≡ false = or_second _ _ blank in
    let feed : (b == line_feed) ≡ false = or_first _ _ ends in
    record {
      sign = λ p. rw (blank, ends, opens, closes, quotes) refl;
      after = λ p. rw (comment, quotes, slash) refl;
      behind = λ p. rw feed refl;
    }
going (InQuotes q) b h =
    let quotes : (b == quote) ≡ false = not-true _ (and_first _ _ h) in
    let h2 = and_second _ _ h in
    let feed : (b == line_feed) ≡ false = not-true _ (and_first _ _ h2) in
    let slash : (b == backslash) ≡ false = not-true _ (and_second _ _ h2) in
    record {
      sign = λ p. rw (quotes, feed) refl;
      after = λ p. rw (quotes, slash) refl;
      behind = λ p. rw feed refl;
    }
going Escape b h = absurd cc
going (EscapeInQuotes q) b h = absurd cc
going InComment b h = absurd cc

-- ---- readers

abbrev reader : Mode → Place → Bool → Option Place → ℕ → Bool → List WordText → Hand → Reader
reader mode p j o n ind ws h =
    record { mode = mode; place = p; joined = j; group = o; size = n; line = record { indented = ind; words = ws; hand = h } }

has_room : (n : ℕ) → n < entry_limit → nat_le entry_limit n ≡ false
has_room n h = grind arith

module _ (mode : Mode) (o : Option Place) (ind : Bool) (ws : List WordText) where
  one_octet : (b : ℕ) (more : List ℕ) (p : Place) (j : Bool) (n : ℕ) (h : Hand) → goes_on mode b ≡ true → n < entry_limit
      → events_from (b ∷ more) (reader mode p j o n ind ws h) ≡ events_from more (reader mode (place_along p 1) true o (n + 1) ind ws (Going (word_with h p j b)))
  one_octet b more p j n h on room =
      let g : GoesOn mode b = going mode b on in
      rw (g.sign p, g.after p, g.behind p, has_room n room) refl

  along_more : (p : Place) (k : ℕ) → place_along (place_along p k) 1 ≡ place_along p (k + 1)
  along_more p k = ap (λ c. record { line = p.line; column = c }) (arith_more p.column k)
    where
      arith_more : (c k : ℕ) → min (min (c + k) 18446744073709551615 + 1) 18446744073709551615 ≡ min (c + (k + 1)) 18446744073709551615
      arith_more c k = omega arith

  abbrev longer : WordText → List ℕ → WordText
  longer w t = record { place = w.place; quoted = w.quoted; joined = w.joined; octets = w.octets ++ t }

  abbrev Going_on : List ℕ → ℕ → Type 0
  Going_on t c = (k : ℕ) → k < c → goes_on mode (slice_index t k) ≡ true

  rest_goes_on : (b : ℕ) (t : List ℕ) (c : ℕ) → Going_on (b ∷ t) (suc c) → Going_on t c
  rest_goes_on b t c h k below = h (suc k) (omega arith)

  add_one : (x y : ℕ) → x + 1 + y ≡ x + suc y
  add_one x y = omega arith

  add_none : (x : ℕ) → x ≡ x + 0
  add_none x = omega arith

  -- octets at the start of a text that a word goes on with
  word_goes_on : (t more : List ℕ) (c : ℕ) (p : Place) (k n : ℕ) (w : WordText) → c ≤ length t → Going_on t c → n + c ≤ entry_limit
      → events_from (t ++ more) (reader mode (place_along p k) true o n ind ws (Going w))
      ≡ events_from (drop c t ++ more) (reader mode (place_along p (k + c)) true o (n + c) ind ws (Going (longer w (take c t))))
  word_goes_on t more zero p k n w within on room =
      ap (λ (u : List ℕ). events_from (t ++ more) (reader mode (place_along p k) true o n ind ws (Going (record { place = w.place; quoted = w.quoted; joined = w.joined; octets = u })))) (sym (append-nil w.octets))
      ∙ ap (λ (x : ℕ). events_from (t ++ more) (reader mode (place_along p x) true o n ind ws (Going (longer w [])))) (add_none k)
      ∙ ap (λ (x : ℕ). events_from (t ++ more) (reader mode (place_along p (k + 0)) true o x ind ws (Going (longer w [])))) (add_none n)
  word_goes_on [] more (suc c) p k n w within on room = absurd (omega arith)
  word_goes_on (b ∷ t) more (suc c) p k n w within on room =
      one_octet b (t ++ more) (place_along p k) true n (Going w) (on 0 (omega arith)) (omega arith)
      ∙ ap (λ (q : Place). events_from (t ++ more) (reader mode q true o (n + 1) ind ws (Going (longer w (b ∷ []))))) (along_more p k)
      ∙ word_goes_on t more c p (k + 1) (n + 1) (longer w (b ∷ [])) (omega arith) (rest_goes_on b t c on) (omega arith)
      ∙ ap (λ (x : ℕ). events_from (drop c t ++ more) (reader mode (place_along p x) true o (n + 1 + c) ind ws (Going (longer (longer w (b ∷ [])) (take c t))))) (add_one k c)
      ∙ ap (λ (x : ℕ). events_from (drop c t ++ more) (reader mode (place_along p (k + suc c)) true o x ind ws (Going (longer (longer w (b ∷ [])) (take c t))))) (add_one n c)
      ∙ ap (λ (u : List ℕ). events_from (drop c t ++ more) (reader mode (place_along p (k + suc c)) true o (n + suc c) ind ws (Going (record { place = w.place; quoted = w.quoted; joined = w.joined; octets = u })))) (append_assoc w.octets (b ∷ []) (take c t))

  one_more : (h : Hand) (p : Place) (j : Bool) (b : ℕ) (t : List ℕ) → longer (word_with h p j b) t ≡ word_of h p j (b ∷ t)
  one_more Start p j b t = refl
  one_more Between p j b t = refl
  one_more (Going w) p j b t = ap (λ (u : List ℕ). record { place = w.place; quoted = w.quoted; joined = w.joined; octets = u }) (append_assoc w.octets (b ∷ []) t)

  -- or that one begins with
  pub run_taken : (t more : List ℕ) (c : ℕ) (p : Place) (j : Bool) (n : ℕ) (h : Hand) → 0 < c → c ≤ length t → Going_on t c → n + c ≤ entry_limit
      → events_from (t ++ more) (reader mode p j o n ind ws h)
      ≡ events_from (drop c t ++ more) (reader mode (place_along p c) true o (n + c) ind ws (Going (word_of h p j (take c t))))
  run_taken t more zero p j n h some within on room = absurd (omega arith)
  run_taken [] more (suc c) p j n h some within on room = absurd (omega arith)
  run_taken (b ∷ t) more (suc c) p j n h some within on room =
      one_octet b (t ++ more) p j n h (on 0 (omega arith)) (omega arith)
      ∙ word_goes_on t more c p 1 (n + 1) (word_with h p j b) (omega arith) (rest_goes_on b t c on) (omega arith)
      ∙ ap (λ (x : ℕ). events_from (drop c t ++ more) (reader mode (place_along p x) true o (n + 1 + c) ind ws (Going (longer (word_with h p j b) (take c t))))) (one_plus c)
      ∙ ap (λ (x : ℕ). events_from (drop c t ++ more) (reader mode (place_along p (suc c)) true o x ind ws (Going (longer (word_with h p j b) (take c t))))) (add_one n c)
      ∙ ap (λ (w : WordText). events_from (drop c t ++ more) (reader mode (place_along p (suc c)) true o (n + suc c) ind ws (Going w))) (one_more h p j b (take c t))
    where
      one_plus : (x : ℕ) → 1 + x ≡ suc x
      one_plus x = omega arith
