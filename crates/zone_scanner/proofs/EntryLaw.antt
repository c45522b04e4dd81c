-- What is read octet by octet are the entries of the text.
use Rattle.std.proofs.Common.{◌≡◌, ℕ, List, [], ◌∷◌, ◌++◌, Bool, true, false, Option, Some, None, refl, sym, ap, ◌∙◌, append_assoc, append-nil}
use Rattle.std.specs.List.{flat_map}
use Rattle.zone_scanner.specs.declared.place.Place.{Place}
use Rattle.zone_scanner.specs.declared.fault.EntryFault.{EntryFault}
use Rattle.zone_scanner.specs.declared.signs.Sign.{Sign}
use Rattle.zone_scanner.specs.declared.signs.Sign.TheVariants.{Blank, LineEnd, Opens, Closes, Quote, Unquote, Octet, Wrong}
use Rattle.zone_scanner.specs.declared.signs.Mode.{Mode}
use Rattle.zone_scanner.specs.declared.signs.Mode.TheVariants.{Plain}
use Rattle.zone_scanner.specs.Signs.{Mark, marks_from, end_from, mode_after, sign_of, joins, place_behind, first_place, fault_at_end}
use Rattle.zone_scanner.specs.Entries.{EntryWords, WordText, Event, Broken, entry_of, with_entry, first_fault, fault_at, open_after, size_after, unclosed, fault_from, in_group, unless_wrong, grouped, on_front, line_by, lines, pieces, octets_of, words_of_piece, is_blank_sign, entry_of_line, events_of_lines, marks_of, fault_of_text, events_of}
use Rattle.zone_scanner.specs.Steps.{Hand, Start, Between, Going, LineSoFar, Reader, start_of_text, word_at, word_with, indented_by, settled_at, reader_behind, entry_at, unless_fault, go_on, events_from, last_events}

abbrev mark : Place → Bool → Sign → Mark
mark p j x = record { place = p; joined = j; sign = x }

abbrev line : Bool → List WordText → Hand → LineSoFar
line ind ws h = record { indented = ind; words = ws; hand = h }

abbrev reader : Mode → Place → Bool → Option Place → ℕ → LineSoFar → Reader
reader mode p j o n l = record { mode = mode; place = p; joined = j; group = o; size = n; line = l }

-- the words of a line of which a part was read, by the marks that follow, and whether it is indented
abbrev longer : WordText → List ℕ → WordText
longer w t = word_at w.place w.quoted w.joined (w.octets ++ t)

abbrev going : WordText → List (List Mark) → List WordText
going w [] = w ∷ []
going w (q ∷ qs) = longer w (octets_of q) ∷ flat_map words_of_piece qs

abbrev words_left : Hand → List Mark → List WordText
words_left Start p = flat_map words_of_piece (pieces p)
words_left Between p = flat_map words_of_piece (pieces p)
words_left (Going w) p = going w (pieces p)

abbrev indented_with : Bool → Sign → Bool
indented_with ind Blank = true
indented_with ind LineEnd = ind
indented_with ind Opens = ind
indented_with ind Closes = ind
indented_with ind Quote = ind
indented_with ind Unquote = ind
indented_with ind (Octet b) = ind
indented_with ind (Wrong f) = ind

abbrev indented_at : Bool → List Mark → Bool
indented_at ind [] = ind
indented_at ind (m ∷ ms) = indented_with ind m.sign

abbrev indented_left : Hand → Bool → List Mark → Bool
indented_left Start ind p = indented_at ind p
indented_left Between ind p = ind
indented_left (Going w) ind p = ind

abbrev entry_left : Bool → List WordText → Hand → List Mark → Option EntryWords
entry_left ind ws h p = entry_of (indented_left h ind p) (ws ++ words_left h p)

-- the events of the lines that are left, of which a part of the first was read
abbrev finish : Bool → List WordText → Hand → Option EntryFault → List (List Mark) → List Event
finish ind ws h None [] = with_entry (entry_left ind ws h []) []
finish ind ws h None (p ∷ ps) = with_entry (entry_left ind ws h p) (events_of_lines None ps)
finish ind ws h (Some f) [] = Broken f ∷ []
finish ind ws h (Some f) (p ∷ []) = Broken f ∷ []
finish ind ws h (Some f) (p ∷ q ∷ ps) = with_entry (entry_left ind ws h p) (events_of_lines (Some f) (q ∷ ps))

-- a mark that is read is taken from the front of the first line
in_line : (m : Mark) (ind jnd : Bool) (ws us : List WordText) (h k : Hand)
    → ((p : List Mark) → entry_left ind ws h (m ∷ p) ≡ entry_left jnd us k p)
    → (f : Option EntryFault) (ls : List (List Mark)) → finish jnd us k f ls ≡ finish ind ws h f (on_front m ls)
in_line m ind jnd ws us h k e None [] = ap (λ x. with_entry x []) (sym (e []))
in_line m ind jnd ws us h k e None (p ∷ ps) = ap (λ x. with_entry x (events_of_lines None ps)) (sym (e p))
in_line m ind jnd ws us h k e (Some f) [] = refl
in_line m ind jnd ws us h k e (Some f) (p ∷ []) = refl
in_line m ind jnd ws us h k e (Some f) (p ∷ q ∷ ps) = ap (λ x. with_entry x (events_of_lines (Some f) (q ∷ ps))) (sym (e p))

-- a word that has ended
ended : (ws vs : List WordText) (w : WordText) → ws ++ longer w [] ∷ vs ≡ (ws ++ w ∷ []) ++ vs
ended ws vs w = ap (λ t. ws ++ word_at w.place w.quoted w.joined t ∷ vs) (append-nil w.octets) ∙ sym (append_assoc ws (w ∷ []) vs)

ended_entry : (ind : Bool) (ws vs : List WordText) (w : WordText) → entry_of ind (ws ++ longer w [] ∷ vs) ≡ entry_of ind ((ws ++ w ∷ []) ++ vs)
ended_entry ind ws vs w = ap (λ us. entry_of ind us) (ended ws vs w)

blank : (p : Place) (j ind : Bool) (ws : List WordText) (h : Hand) (r : List Mark)
    → entry_left ind ws h (mark p j Blank ∷ r) ≡ entry_left (indented_by h ind) (settled_at h ws) Between r
blank p j ind ws Start r = refl
blank p j ind ws Between r = refl
blank p j ind ws (Going w) r = ended_entry ind ws (flat_map words_of_piece (pieces r)) w

opens : (p : Place) (j ind : Bool) (ws : List WordText) (h : Hand) (r : List Mark)
    → entry_left ind ws h (mark p j Opens ∷ r) ≡ entry_left ind (settled_at h ws) Between r
opens p j ind ws Start r = refl
opens p j ind ws Between r = refl
opens p j ind ws (Going w) r = ended_entry ind ws (flat_map words_of_piece (pieces r)) w

closes : (p : Place) (j ind : Bool) (ws : List WordText) (h : Hand) (r : List Mark)
    → entry_left ind ws h (mark p j Closes ∷ r) ≡ entry_left ind (settled_at h ws) Between r
closes p j ind ws Start r = refl
closes p j ind ws Between r = refl
closes p j ind ws (Going w) r = ended_entry ind ws (flat_map words_of_piece (pieces r)) w

unquotes : (p : Place) (j ind : Bool) (ws : List WordText) (h : Hand) (r : List Mark)
    → entry_left ind ws h (mark p j Unquote ∷ r) ≡ entry_left ind (settled_at h ws) Between r
unquotes p j ind ws Start r = refl
unquotes p j ind ws Between r = refl
unquotes p j ind ws (Going w) r = ended_entry ind ws (flat_map words_of_piece (pieces r)) w

wrong : (f : EntryFault) (p : Place) (j ind : Bool) (ws : List WordText) (h : Hand) (r : List Mark)
    → entry_left ind ws h (mark p j (Wrong f) ∷ r) ≡ entry_left ind (settled_at h ws) Between r
wrong f p j ind ws Start r = refl
wrong f p j ind ws Between r = refl
wrong f p j ind ws (Going w) r = ended_entry ind ws (flat_map words_of_piece (pieces r)) w

-- a word that begins
quoted_piece : (p : Place) (j : Bool) (ps : List (List Mark)) → flat_map words_of_piece (on_front (mark p j Quote) ps) ≡ going (word_at p true j []) ps
quoted_piece p j [] = refl
quoted_piece p j (q ∷ qs) = refl

plain_piece : (p : Place) (j : Bool) (b : ℕ) (ps : List (List Mark)) → flat_map words_of_piece (on_front (mark p j (Octet b)) ps) ≡ going (word_at p false j (b ∷ [])) ps
plain_piece p j b [] = refl
plain_piece p j b (q ∷ qs) = refl

quotes : (p : Place) (j ind : Bool) (ws : List WordText) (h : Hand) (r : List Mark)
    → entry_left ind ws h (mark p j Quote ∷ r) ≡ entry_left ind (settled_at h ws) (Going (word_at p true j [])) r
quotes p j ind ws Start r = ap (λ vs. entry_of ind (ws ++ vs)) (quoted_piece p j (pieces r))
quotes p j ind ws Between r = ap (λ vs. entry_of ind (ws ++ vs)) (quoted_piece p j (pieces r))
quotes p j ind ws (Going w) r =
    ended_entry ind ws (flat_map words_of_piece (on_front (mark p j Quote) (pieces r))) w
    ∙ ap (λ vs. entry_of ind ((ws ++ w ∷ []) ++ vs)) (quoted_piece p j (pieces r))

goes_on : (p : Place) (j : Bool) (b : ℕ) (w : WordText) (ps : List (List Mark)) → going w (on_front (mark p j (Octet b)) ps) ≡ going (longer w (b ∷ [])) ps
goes_on p j b w [] = refl
goes_on p j b w (q ∷ qs) =
    ap (λ t. word_at w.place w.quoted w.joined t ∷ flat_map words_of_piece qs) (sym (append_assoc w.octets (b ∷ []) (octets_of q)))

octet : (p : Place) (j : Bool) (b : ℕ) (ind : Bool) (ws : List WordText) (h : Hand) (r : List Mark)
    → entry_left ind ws h (mark p j (Octet b) ∷ r) ≡ entry_left ind ws (Going (word_with h p j b)) r
octet p j b ind ws Start r = ap (λ vs. entry_of ind (ws ++ vs)) (plain_piece p j b (pieces r))
octet p j b ind ws Between r = ap (λ vs. entry_of ind (ws ++ vs)) (plain_piece p j b (pieces r))
octet p j b ind ws (Going w) r = ap (λ vs. entry_of ind (ws ++ vs)) (goes_on p j b w (pieces r))

-- at the end of a line
settled_entry : (ind : Bool) (ws : List WordText) (h : Hand) → entry_left ind ws h [] ≡ entry_of ind (settled_at h ws)
settled_entry ind ws Start = ap (λ us. entry_of ind us) (append-nil ws)
settled_entry ind ws Between = ap (λ us. entry_of ind us) (append-nil ws)
settled_entry ind ws (Going w) = ap (λ t. entry_of ind (ws ++ word_at w.place w.quoted w.joined t ∷ [])) (append-nil w.octets)

-- at the beginning of one
fresh_sign : (x : Sign) → indented_with false x ≡ is_blank_sign x
fresh_sign Blank = refl
fresh_sign LineEnd = refl
fresh_sign Opens = refl
fresh_sign Closes = refl
fresh_sign Quote = refl
fresh_sign Unquote = refl
fresh_sign (Octet b) = refl
fresh_sign (Wrong f) = refl

fresh : (l : List Mark) → entry_left false [] Start l ≡ entry_of_line l
fresh [] = refl
fresh (m ∷ ms) = ap (λ ind. entry_of ind (flat_map words_of_piece (pieces (m ∷ ms)))) (fresh_sign m.sign)

fresh_lines : (f : Option EntryFault) (l : List Mark) (ls : List (List Mark)) → finish false [] Start f (l ∷ ls) ≡ events_of_lines f (l ∷ ls)
fresh_lines None l ls = ap (λ e. with_entry e (events_of_lines None ls)) (fresh l)
fresh_lines (Some f) l [] = refl
fresh_lines (Some f) l (k ∷ ls) = ap (λ e. with_entry e (events_of_lines (Some f) (k ∷ ls))) (fresh l)

new_line : (f : Option EntryFault) (ind : Bool) (ws : List WordText) (h : Hand) (l : List Mark) (ls : List (List Mark))
    → with_entry (entry_of ind (settled_at h ws)) (events_of_lines f (l ∷ ls)) ≡ finish ind ws h f ([] ∷ l ∷ ls)
new_line None ind ws h l ls = ap (λ e. with_entry e (events_of_lines None (l ∷ ls))) (sym (settled_entry ind ws h))
new_line (Some f) ind ws h l ls = ap (λ e. with_entry e (events_of_lines (Some f) (l ∷ ls))) (sym (settled_entry ind ws h))

-- there is a first line
abbrev Some_line : List (List Mark) → Type 0
Some_line ls = (p : List Mark) × (ps : List (List Mark)) × (ls ≡ p ∷ ps)

some_line : (ms : List Mark) → Some_line (lines ms)
some_line [] = ([], [], refl)
some_line (m ∷ ms) = by m.sign (lines ms)
  where
    front : (m : Mark) (ls : List (List Mark)) → Some_line (on_front m ls)
    front m [] = (m ∷ [], [], refl)
    front m (p ∷ ps) = (m ∷ p, ps, refl)

    by : (x : Sign) (ls : List (List Mark)) → Some_line (line_by x m ls)
    by LineEnd ls = ([], ls, refl)
    by Blank ls = front m ls
    by Opens ls = front m ls
    by Closes ls = front m ls
    by Quote ls = front m ls
    by Unquote ls = front m ls
    by (Octet b) ls = front m ls
    by (Wrong f) ls = front m ls

fresh_at : (f : Option EntryFault) (ls : List (List Mark)) → Some_line ls → finish false [] Start f ls ≡ events_of_lines f ls
fresh_at f ls (l, ks, e) = rw e (fresh_lines f l ks)

next_line : (f : Option EntryFault) (ind : Bool) (ws : List WordText) (h : Hand) (ls : List (List Mark)) → Some_line ls
    → with_entry (entry_of ind (settled_at h ws)) (finish false [] Start f ls) ≡ finish ind ws h f ([] ∷ ls)
next_line f ind ws h ls (l, ks, e) =
    rw e (ap (with_entry (entry_of ind (settled_at h ws))) (fresh_lines f l ks) ∙ new_line f ind ws h l ks)

-- what is read of the rest of a text, once each reader reads what is left behind one sign
abbrev Reads : (Reader → List Event) → Mode → Place → Bool → List Mark → Option EntryFault → Type 0
Reads events mode p j ms ending =
    (o : Option Place) (n : ℕ) (ind : Bool) (ws : List WordText) (h : Hand)
    → events (reader mode p j o n (line ind ws h)) ≡ finish ind ws h (fault_from ms ending o n) (lines (grouped ms o n))

-- a sign that may stand where it does
passes : (x : Sign) (events : Reader → List Event) (old : Mode) (p : Place) (j : Bool) (b : ℕ) (ms : List Mark) (ending : Option EntryFault)
    → Reads events (mode_after old p b) (place_behind p b) (joins x) ms ending
    → (o : Option Place) (n : ℕ) (ind : Bool) (ws : List WordText) (h : Hand)
    → with_entry (entry_at x o (line ind ws h)) (events (reader_behind (reader old p j o n (line ind ws h)) x b))
    ≡ finish ind ws h (fault_from ms ending (open_after x p o) (size_after x o n))
    (lines (mark p j (in_group x o) ∷ grouped ms (open_after x p o) (size_after x o n)))
passes Blank events old p j b ms ending reads o n ind ws h =
    reads o n (indented_by h ind) (settled_at h ws) Between
    ∙ in_line (mark p j Blank) ind (indented_by h ind) ws (settled_at h ws) h Between (blank p j ind ws h) (fault_from ms ending o n) (lines (grouped ms o n))
passes LineEnd events old p j b ms ending reads (Some q) n ind ws h =
    reads (Some q) n (indented_by h ind) (settled_at h ws) Between
    ∙ in_line (mark p j Blank) ind (indented_by h ind) ws (settled_at h ws) h Between (blank p j ind ws h) (fault_from ms ending (Some q) n) (lines (grouped ms (Some q) n))
passes LineEnd events old p j b ms ending reads None n ind ws h =
    ap (with_entry (entry_of ind (settled_at h ws))) (reads None 0 false [] Start)
    ∙ next_line (fault_from ms ending None 0) ind ws h (lines (grouped ms None 0)) (some_line (grouped ms None 0))
passes Opens events old p j b ms ending reads o n ind ws h =
    reads (Some p) n ind (settled_at h ws) Between
    ∙ in_line (mark p j Opens) ind ind ws (settled_at h ws) h Between (opens p j ind ws h) (fault_from ms ending (Some p) n) (lines (grouped ms (Some p) n))
passes Closes events old p j b ms ending reads o n ind ws h =
    reads None n ind (settled_at h ws) Between
    ∙ in_line (mark p j Closes) ind ind ws (settled_at h ws) h Between (closes p j ind ws h) (fault_from ms ending None n) (lines (grouped ms None n))
passes Quote events old p j b ms ending reads o n ind ws h =
    reads o (size_after Quote o n) ind (settled_at h ws) (Going (word_at p true j []))
    ∙ in_line (mark p j Quote) ind ind ws (settled_at h ws) h (Going (word_at p true j [])) (quotes p j ind ws h) (fault_from ms ending o (size_after Quote o n)) (lines (grouped ms o (size_after Quote o n)))
passes Unquote events old p j b ms ending reads o n ind ws h =
    reads o n ind (settled_at h ws) Between
    ∙ in_line (mark p j Unquote) ind ind ws (settled_at h ws) h Between (unquotes p j ind ws h) (fault_from ms ending o n) (lines (grouped ms o n))
passes (Octet c) events old p j b ms ending reads o n ind ws h =
    reads o (size_after (Octet c) o n) ind ws (Going (word_with h p j c))
    ∙ in_line (mark p j (Octet c)) ind ind ws ws h (Going (word_with h p j c)) (octet p j c ind ws h) (fault_from ms ending o (size_after (Octet c) o n)) (lines (grouped ms o (size_after (Octet c) o n)))
passes (Wrong f) events old p j b ms ending reads o n ind ws h =
    reads o n ind (settled_at h ws) Between
    ∙ in_line (mark p j (Wrong f)) ind ind ws (settled_at h ws) h Between (wrong f p j ind ws h) (fault_from ms ending o n) (lines (grouped ms o n))

-- or one that may not
by_fault : (q : Option EntryFault) (e : Option EntryWords) (r : Reader) (events : Reader → List Event) (ind : Bool) (ws : List WordText) (h : Hand) (f : Option EntryFault) (ms : List Mark)
    → with_entry e (events r) ≡ finish ind ws h f (lines ms)
    → go_on (unless_fault q (e, r)) events ≡ finish ind ws h (first_fault q f) (lines (unless_wrong q ms))
by_fault (Some g) e r events ind ws h f ms k = refl
by_fault None e r events ind ws h f ms k = k

at_end : (q : Option EntryFault) (ind : Bool) (ws : List WordText) (h : Hand)
    → last_events (unless_fault q (entry_of ind (settled_at h ws))) ≡ finish ind ws h q ([] ∷ [])
at_end (Some f) ind ws h = refl
at_end None ind ws h = ap (λ e. with_entry e []) (sym (settled_entry ind ws h))

reads_rest : (s : List ℕ) (mode : Mode) (p : Place) (j : Bool) → Reads (events_from s) mode p j (marks_from s mode p j) (end_from s mode p)
reads_rest [] mode p j o n ind ws h = at_end (first_fault (fault_at_end mode p) (unclosed o)) ind ws h
reads_rest (b ∷ s) mode p j o n ind ws h =
    let x : Sign = sign_of mode p b in
    let r : Reader = reader mode p j o n (line ind ws h) in
    let ms : List Mark = marks_from s (mode_after mode p b) (place_behind p b) (joins x) in
    let ending : Option EntryFault = end_from s (mode_after mode p b) (place_behind p b) in
    by_fault (fault_at x p o n) (entry_at x o (line ind ws h)) (reader_behind r x b) (events_from s) ind ws h
    (fault_from ms ending (open_after x p o) (size_after x o n))
    (mark p j (in_group x o) ∷ grouped ms (open_after x p o) (size_after x o n))
    (passes x (events_from s) mode p j b ms ending (reads_rest s (mode_after mode p b) (place_behind p b) (joins x)) o n ind ws h)

pub reads_text : (s : List ℕ) → events_from s start_of_text ≡ events_of s
reads_text s =
    reads_rest s Plain first_place false None 0 false [] Start
    ∙ fresh_at (fault_of_text s) (lines (grouped (marks_of s) None 0)) (some_line (grouped (marks_of s) None 0))
