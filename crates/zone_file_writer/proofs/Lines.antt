-- Printed words with single spaces between them, and a line feed behind the last, are read as an entry of these words.
use Rattle.std.proofs.Common.{◌≡◌, ◌≤◌, ◌<◌, ℕ, ◌+◌, length, List, [], ◌∷◌, ◌++◌, Bool, true, false, cond, ◌==◌, refl, sym, ap, ◌∙◌, arith, append_assoc, append-nil, length-append}
use Rattle.std.specs.Prelude.{nat_le}
use Rattle.std.proofs.lemmas.Bool.Decides.{leb_tells}
use Rattle.zone_file_writer.specs.Words.{PrintedWord, Bare, Quoted, word_text, words_text}
use Rattle.zone_scanner.specs.declared.place.Place.{Place}
use Rattle.zone_scanner.specs.declared.signs.Mode.TheVariants.{InQuotes, EscapeInQuotes}
use Rattle.zone_scanner.specs.Signs.{mode_after, next_number, place_behind}
use Rattle.zone_scanner.specs.Entries.{WordText, Event, Whole, entry_of, with_entry}
use Rattle.zone_scanner.specs.Steps.{Hand, Start, Between, Going, LineSoFar, Reader, word_at, events_from, start_of_text}

-- an octet that is one of a word, where no quote is open: none of a blank, a semicolon, an end of a line, a parenthesis, a quote
pub record IsOrdinary (b : ℕ) : Type 0 where
  pub space : (b == 32) ≡ false
  pub tab : (b == 9) ≡ false
  pub comment : (b == 59) ≡ false
  pub feed : (b == 10) ≡ false
  pub carriage : (b == 13) ≡ false
  pub opens : (b == 40) ≡ false
  pub closes : (b == 41) ≡ false
  pub quoted : (b == 34) ≡ false

-- octets of a word alone, up to its end, where no escape is open; the first of them comes after a backslash or not
abbrev pub IsInWord : Bool → List ℕ → Type 0
IsInWord false [] = Unit {0}
IsInWord true [] = ⊥
IsInWord false (b ∷ t) = IsOrdinary b × IsInWord (b == 92) t
IsInWord true (b ∷ t) = ((b == 10) ≡ false) × ((b == 13) ≡ false) × IsInWord false t

-- octets between quotes alone, up to the quote that closes them
abbrev pub IsInQuotes : Bool → List ℕ → Type 0
IsInQuotes false [] = Unit {0}
IsInQuotes true [] = ⊥
IsInQuotes false (b ∷ t) = ((b == 34) ≡ false) × ((b == 10) ≡ false) × IsInQuotes (b == 92) t
IsInQuotes true (b ∷ t) = ((b == 10) ≡ false) × ((b == 13) ≡ false) × IsInQuotes false t

-- the text of a bare word, and what is read as one word
abbrev pub IsBareText : List ℕ → Type 0
IsBareText [] = ⊥
IsBareText (b ∷ t) = IsInWord false (b ∷ t)

abbrev pub IsWordText : PrintedWord → Type 0
IsWordText (Bare t) = IsBareText t
IsWordText (Quoted t) = IsInQuotes false t

-- the place behind a text, and how many octets there are with those of a text
abbrev pub place_after : Place → List ℕ → Place
place_after p [] = p
place_after p (b ∷ t) = place_after (place_behind p b) t

abbrev counted : ℕ → List ℕ → ℕ
counted n [] = n
counted n (b ∷ t) = counted (n + 1) t

counted_is : (n : ℕ) (t : List ℕ) → counted n t ≡ n + length t
counted_is n [] = omega arith
counted_is n (b ∷ t) = counted_is (n + 1) t ∙ omega arith

pub place_after-append : (p : Place) (s t : List ℕ) → place_after p (s ++ t) ≡ place_after (place_after p s) t
place_after-append p [] t = refl
place_after-append p (b ∷ s) t = place_after-append (place_behind p b) s t

abbrev line : List WordText → Hand → LineSoFar
line ws h = record { indented = false; words = ws; hand = h }

-- within a line, outside of parentheses: behind a backslash or not
abbrev reader : Bool → Place → Bool → ℕ → LineSoFar → Reader
reader false p j n l = record start_of_text { place = p; joined = j; size = n; line = l }
reader true p j n l = record start_of_text { mode = mode_after start_of_text.mode p 92; place = p; joined = j; size = n; line = l }

-- at the beginning of a line
abbrev pub start_at : Place → Reader
start_at p = reader false p false 0 (line [] Start)

small : (n : ℕ) → n < 1048576 → nat_le 1048576 n ≡ false
small n h = grind (arith, leb_tells)

-- ---- one octet more

abbrev longer : WordText → List ℕ → WordText
longer w t = word_at w.place w.quoted w.joined (w.octets ++ t)

next_mode : (c : Bool) (s : List ℕ) (p q : Place) (n : ℕ) (l : LineSoFar)
    → events_from s (record start_of_text { mode = cond c (mode_after start_of_text.mode p 92) start_of_text.mode; place = q; joined = true; size = n; line = l })
    ≡ events_from s (reader c q true n l)
next_mode true s p q n l = refl
next_mode false s p q n l = refl

octet_on : (b : ℕ) (s : List ℕ) (p : Place) (n : ℕ) (ws : List WordText) (w : WordText) → IsOrdinary b → n < 1048576
    → events_from (b ∷ s) (reader false p true n (line ws (Going w))) ≡ events_from s (reader (b == 92) (place_behind p b) true (n + 1) (line ws (Going (longer w (b ∷ [])))))
octet_on b s p n ws w h k =
    rw (h.space, h.tab, h.comment, h.feed, h.carriage, h.opens, h.closes, h.quoted, small n k)
    (next_mode (b == 92) s p (record { line = p.line; column = next_number p.column }) (n + 1) (line ws (Going (longer w (b ∷ [])))))

escaped_on : (b : ℕ) (s : List ℕ) (p : Place) (n : ℕ) (ws : List WordText) (w : WordText) → (b == 10) ≡ false → (b == 13) ≡ false → n < 1048576
    → events_from (b ∷ s) (reader true p true n (line ws (Going w))) ≡ events_from s (reader false (place_behind p b) true (n + 1) (line ws (Going (longer w (b ∷ [])))))
escaped_on b s p n ws w feed carriage k = rw (feed, carriage, small n k) refl

pub word_on : (t rest : List ℕ) (e : Bool) (p : Place) (n : ℕ) (ws : List WordText) (w : WordText) → IsInWord e t → n + length t ≤ 1048576
    → events_from (t ++ rest) (reader e p true n (line ws (Going w))) ≡ events_from rest (reader false (place_after p t) true (counted n t) (line ws (Going (longer w t))))
word_on [] rest false p n ws w h k =
    ap (λ (t : List ℕ). events_from rest (reader false p true n (line ws (Going (word_at w.place w.quoted w.joined t))))) (sym (append-nil w.octets))
word_on [] rest true p n ws w h k = absurd h
word_on (b ∷ t) rest false p n ws w h k =
    octet_on b (t ++ rest) p n ws w h.0 (omega arith)
    ∙ word_on t rest (b == 92) (place_behind p b) (n + 1) ws (longer w (b ∷ [])) h.1 (omega arith)
    ∙ ap (λ (u : List ℕ). events_from rest (reader false (place_after p (b ∷ t)) true (counted n (b ∷ t)) (line ws (Going (word_at w.place w.quoted w.joined u))))) (append_assoc w.octets (b ∷ []) t)
word_on (b ∷ t) rest true p n ws w h k =
    escaped_on b (t ++ rest) p n ws w h.0 h.1 (omega arith)
    ∙ word_on t rest false (place_behind p b) (n + 1) ws (longer w (b ∷ [])) h.2 (omega arith)
    ∙ ap (λ (u : List ℕ). events_from rest (reader false (place_after p (b ∷ t)) true (counted n (b ∷ t)) (line ws (Going (word_at w.place w.quoted w.joined u))))) (append_assoc w.octets (b ∷ []) t)

-- where no word goes on
abbrev IsFree : Hand → Type 0
IsFree Start = Unit {0}
IsFree Between = Unit {0}
IsFree (Going w) = ⊥

octet_first : (b : ℕ) (s : List ℕ) (p : Place) (n : ℕ) (ws : List WordText) (h : Hand) → IsFree h → IsOrdinary b → n < 1048576
    → events_from (b ∷ s) (reader false p false n (line ws h)) ≡ events_from s (reader (b == 92) (place_behind p b) true (n + 1) (line ws (Going (word_at p false false (b ∷ [])))))
octet_first b s p n ws Start free h k =
    rw (h.space, h.tab, h.comment, h.feed, h.carriage, h.opens, h.closes, h.quoted, small n k)
    (next_mode (b == 92) s p (record { line = p.line; column = next_number p.column }) (n + 1) (line ws (Going (word_at p false false (b ∷ [])))))
octet_first b s p n ws Between free h k =
    rw (h.space, h.tab, h.comment, h.feed, h.carriage, h.opens, h.closes, h.quoted, small n k)
    (next_mode (b == 92) s p (record { line = p.line; column = next_number p.column }) (n + 1) (line ws (Going (word_at p false false (b ∷ [])))))
octet_first b s p n ws (Going w) free h k = absurd free

pub word_first : (t rest : List ℕ) (p : Place) (n : ℕ) (ws : List WordText) (h : Hand) → IsFree h → IsBareText t → n + length t ≤ 1048576
    → events_from (t ++ rest) (reader false p false n (line ws h)) ≡ events_from rest (reader false (place_after p t) true (counted n t) (line ws (Going (word_at p false false t))))
word_first [] rest p n ws h free e k = absurd e
word_first (b ∷ t) rest p n ws h free e k =
    octet_first b (t ++ rest) p n ws h free e.0 (omega arith)
    ∙ word_on t rest (b == 92) (place_behind p b) (n + 1) ws (word_at p false false (b ∷ [])) e.1 (omega arith)

-- ---- in quotes

-- between quotes that open at a place: behind a backslash or not
abbrev quoting : Bool → Place → Place → Bool → ℕ → LineSoFar → Reader
quoting false q p j n l = record start_of_text { mode = InQuotes q; place = p; joined = j; size = n; line = l }
quoting true q p j n l = record start_of_text { mode = EscapeInQuotes q; place = p; joined = j; size = n; line = l }

next_quoting : (c : Bool) (s : List ℕ) (q p : Place) (n : ℕ) (l : LineSoFar)
    → events_from s (record start_of_text { mode = cond c (EscapeInQuotes q) (InQuotes q); place = p; joined = true; size = n; line = l })
    ≡ events_from s (quoting c q p true n l)
next_quoting true s q p n l = refl
next_quoting false s q p n l = refl

quote_on : (b : ℕ) (s : List ℕ) (q p : Place) (j : Bool) (n : ℕ) (ws : List WordText) (w : WordText) → (b == 34) ≡ false → (b == 10) ≡ false → n < 1048576
    → events_from (b ∷ s) (quoting false q p j n (line ws (Going w)))
    ≡ events_from s (quoting (b == 92) q (place_behind p b) true (n + 1) (line ws (Going (longer w (b ∷ [])))))
quote_on b s q p j n ws w quote feed k =
    rw (quote, feed, small n k)
    (next_quoting (b == 92) s q (record { line = p.line; column = next_number p.column }) (n + 1) (line ws (Going (longer w (b ∷ [])))))

escape_on : (b : ℕ) (s : List ℕ) (q p : Place) (j : Bool) (n : ℕ) (ws : List WordText) (w : WordText) → (b == 10) ≡ false → (b == 13) ≡ false → n < 1048576
    → events_from (b ∷ s) (quoting true q p j n (line ws (Going w)))
    ≡ events_from s (quoting false q (place_behind p b) true (n + 1) (line ws (Going (longer w (b ∷ [])))))
escape_on b s q p j n ws w feed carriage k = rw (feed, carriage, small n k) refl

abbrev closed : Place → ℕ → List WordText → WordText → Reader
closed p n ws w = reader false p true n (line (ws ++ w ∷ []) Between)

quote_closed : (t rest : List ℕ) (e : Bool) (q p : Place) (j : Bool) (n : ℕ) (ws : List WordText) (w : WordText) → IsInQuotes e t → n + length t ≤ 1048576
    → events_from (t ++ 34 ∷ rest) (quoting e q p j n (line ws (Going w)))
    ≡ events_from rest (closed (place_behind (place_after p t) 34) (counted n t) ws (longer w t))
quote_closed [] rest false q p j n ws w h k =
    ap (λ (t : List ℕ). events_from rest (closed (place_behind p 34) n ws (word_at w.place w.quoted w.joined t))) (sym (append-nil w.octets))
quote_closed [] rest true q p j n ws w h k = absurd h
quote_closed (b ∷ t) rest false q p j n ws w h k =
    quote_on b (t ++ 34 ∷ rest) q p j n ws w h.0 h.1 (omega arith)
    ∙ quote_closed t rest (b == 92) q (place_behind p b) true (n + 1) ws (longer w (b ∷ [])) h.2 (omega arith)
    ∙ ap (λ (u : List ℕ). events_from rest (closed (place_behind (place_after p (b ∷ t)) 34) (counted n (b ∷ t)) ws (word_at w.place w.quoted w.joined u))) (append_assoc w.octets (b ∷ []) t)
quote_closed (b ∷ t) rest true q p j n ws w h k =
    escape_on b (t ++ 34 ∷ rest) q p j n ws w h.0 h.1 (omega arith)
    ∙ quote_closed t rest false q (place_behind p b) true (n + 1) ws (longer w (b ∷ [])) h.2 (omega arith)
    ∙ ap (λ (u : List ℕ). events_from rest (closed (place_behind (place_after p (b ∷ t)) 34) (counted n (b ∷ t)) ws (word_at w.place w.quoted w.joined u))) (append_assoc w.octets (b ∷ []) t)

quote_first : (s : List ℕ) (p : Place) (n : ℕ) (ws : List WordText) (h : Hand) → IsFree h → n < 1048576
    → events_from (34 ∷ s) (reader false p false n (line ws h)) ≡ events_from s (quoting false p (place_behind p 34) false (n + 1) (line ws (Going (word_at p true false []))))
quote_first s p n ws Start free k = rw (small n k) refl
quote_first s p n ws Between free k = rw (small n k) refl
quote_first s p n ws (Going w) free k = absurd free

-- ---- a word, and what ends it

abbrev pub word_in : Place → PrintedWord → WordText
word_in p (Bare t) = word_at p false false t
word_in p (Quoted t) = word_at p true false t

abbrev size_with : ℕ → PrintedWord → ℕ
size_with n (Bare t) = counted n t
size_with n (Quoted t) = counted (n + 1) t

size_most : (n : ℕ) (u : PrintedWord) → size_with n u ≤ n + length (word_text u)
size_most n (Bare t) = omega (arith, counted_is n t)
size_most n (Quoted t) = omega (arith, counted_is (n + 1) t, length-append t (34 ∷ []))

place_quoted : (p : Place) (t : List ℕ) → place_after p (word_text (Quoted t)) ≡ place_behind (place_after (place_behind p 34) t) 34
place_quoted p t = place_after-append (place_behind p 34) t (34 ∷ [])

-- behind a word in quotes
quoted_first : (t rest : List ℕ) (p : Place) (n : ℕ) (ws : List WordText) (h : Hand) → IsFree h → IsInQuotes false t → n + length (word_text (Quoted t)) ≤ 1048576
    → events_from (word_text (Quoted t) ++ rest) (reader false p false n (line ws h))
    ≡ events_from rest (closed (place_after p (word_text (Quoted t))) (size_with n (Quoted t)) ws (word_in p (Quoted t)))
quoted_first t rest p n ws h free are k =
    let size : length (t ++ 34 ∷ []) ≡ length t + 1 = length-append t (34 ∷ []) in
    quote_first ((t ++ 34 ∷ []) ++ rest) p n ws h free (omega arith)
    ∙ ap (λ (s : List ℕ). events_from s (quoting false p (place_behind p 34) false (n + 1) (line ws (Going (word_at p true false []))))) (append_assoc t (34 ∷ []) rest)
    ∙ quote_closed t rest false p (place_behind p 34) false (n + 1) ws (word_at p true false []) are (omega arith)
    ∙ ap (λ (q : Place). events_from rest (closed q (counted (n + 1) t) ws (word_at p true false t))) (sym (place_quoted p t))

then_blank : (u : PrintedWord) (rest : List ℕ) (p : Place) (n : ℕ) (ws : List WordText) (h : Hand) → IsFree h → IsWordText u → n + length (word_text u) ≤ 1048576
    → events_from (word_text u ++ 32 ∷ rest) (reader false p false n (line ws h))
    ≡ events_from rest (reader false (place_behind (place_after p (word_text u)) 32) false (size_with n u) (line (ws ++ word_in p u ∷ []) Between))
then_blank (Bare t) rest p n ws h free are k = word_first t (32 ∷ rest) p n ws h free are k
then_blank (Quoted t) rest p n ws h free are k = quoted_first t (32 ∷ rest) p n ws h free are k

then_feed : (u : PrintedWord) (rest : List ℕ) (p : Place) (n : ℕ) (ws : List WordText) (h : Hand) → IsFree h → IsWordText u → n + length (word_text u) ≤ 1048576
    → events_from (word_text u ++ 10 ∷ rest) (reader false p false n (line ws h))
    ≡ with_entry (entry_of false (ws ++ word_in p u ∷ [])) (events_from rest (start_at (place_behind (place_after p (word_text u)) 10)))
then_feed (Bare t) rest p n ws h free are k = word_first t (10 ∷ rest) p n ws h free are k
then_feed (Quoted t) rest p n ws h free are k = quoted_first t (10 ∷ rest) p n ws h free are k

-- ---- a line of words

-- the words of a line, from this place on
abbrev pub words_from : Place → List PrintedWord → List WordText
words_from p [] = []
words_from p (u ∷ us) = word_in p u ∷ words_from (place_behind (place_after p (word_text u)) 32) us

abbrev pub AreWordTexts : List PrintedWord → Type 0
AreWordTexts [] = Unit {0}
AreWordTexts (u ∷ us) = IsWordText u × AreWordTexts us

-- the beginning of the line behind a text
abbrev pub next_line : Place → List ℕ → Place
next_line p t = place_behind (place_after p t) 10

abbrev read_at : List WordText → Place → Place → List PrintedWord → List ℕ → List Event
read_at ws p q us rest = with_entry (entry_of false (ws ++ words_from p us)) (events_from rest (start_at q))

line_on : (u : PrintedWord) (us : List PrintedWord) (rest : List ℕ) (p : Place) (n : ℕ) (ws : List WordText) (h : Hand) → IsFree h → AreWordTexts (u ∷ us) → n + length (words_text (u ∷ us)) ≤ 1048576
    → events_from (words_text (u ∷ us) ++ 10 ∷ rest) (reader false p false n (line ws h)) ≡ read_at ws p (next_line p (words_text (u ∷ us))) (u ∷ us) rest
line_on u [] rest p n ws h free are k = then_feed u rest p n ws h free are.0 k
line_on u (v ∷ vs) rest p n ws h free are k =
    let more : List ℕ = words_text (v ∷ vs) in
    let t : List ℕ = word_text u in
    let all : length (t ++ 32 ∷ more) ≡ length t + length (32 ∷ more) = length-append t (32 ∷ more) in
    let behind : Place = place_behind (place_after p t) 32 in
    let most : size_with n u ≤ n + length t = size_most n u in
    ap (λ (s : List ℕ). events_from s (reader false p false n (line ws h))) (append_assoc t (32 ∷ more) (10 ∷ rest))
    ∙ then_blank u (more ++ 10 ∷ rest) p n ws h free are.0 (omega arith)
    ∙ line_on v vs rest behind (size_with n u) (ws ++ word_in p u ∷ []) Between tt are.1 (omega arith)
    ∙ ap (λ (q : Place). read_at (ws ++ word_in p u ∷ []) behind (place_behind q 10) (v ∷ vs) rest) (sym (place_after-append p t (32 ∷ more)))
    ∙ ap (λ (ws' : List WordText). with_entry (entry_of false ws') (events_from rest (start_at (next_line p (t ++ 32 ∷ more))))) (append_assoc ws (word_in p u ∷ []) (words_from behind (v ∷ vs)))

-- a line of words is an entry, whatever follows
pub line_read : (u : PrintedWord) (us : List PrintedWord) (rest : List ℕ) (p : Place) → AreWordTexts (u ∷ us) → length (words_text (u ∷ us)) ≤ 1048576
    → events_from (words_text (u ∷ us) ++ 10 ∷ rest) (start_at p)
    ≡ Whole (record { indented = false; words = words_from p (u ∷ us) }) ∷ events_from rest (start_at (next_line p (words_text (u ∷ us))))
line_read u us rest p are k = line_on u us rest p 0 [] Start tt are (omega arith)
