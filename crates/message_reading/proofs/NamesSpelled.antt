-- Labels behind their lengths, and the wire form that they are of: no other labels have it
use Rattle.std.proofs.Common.{◌≡◌, ℕ, ◌+◌, ◌<◌, List, [], ◌∷◌, ◌++◌, length, take, drop, refl, sym, ap, ◌∙◌, append_assoc, arith, length-append}
use Rattle.std.proofs.lemmas.List.{take_at, drop_at}
use Rattle.zone_proto.specs.Counting.{counting}
use Rattle.zone_proto.specs.Names.{Name, Label, wire_form, wire_length}
use Rattle.zone_proto.specs.WireForms.{HaveOctets}

pub counting-push : (n : Name) (l : Label) → counting (n ++ l ∷ []) ≡ counting n ++ length l ∷ l
counting-push [] l = ap (λ s. length l ∷ s) (nothing_behind l)
  where
    nothing_behind : (s : List ℕ) → s ++ [] ≡ s
    nothing_behind [] = refl
    nothing_behind (b ∷ s) = ap (λ t. b ∷ t) (nothing_behind s)
counting-push (m ∷ n) l =
    ap (λ s. length m ∷ (m ++ s)) (counting-push n l) ∙ ap (λ s. length m ∷ s) (sym (append_assoc m (counting n) (length l ∷ l)))

pub counting_ended : (n : Name) → counting n ++ 0 ∷ [] ≡ wire_form n
counting_ended [] = refl
counting_ended (l ∷ n) = ap (λ s. length l ∷ s) (append_assoc l (counting n) (0 ∷ []) ∙ ap (λ s. l ++ s) (counting_ended n))

pub filled-push : (n : Name) (l : Label) → HaveOctets n → 0 < length l → HaveOctets (n ++ l ∷ [])
filled-push [] l all some = (some, tt)
filled-push (m ∷ n) l all some = (all.0, filled-push n l all.1 some)

-- how long a name is whose labels go on
pub longer : (n more : Name) → wire_length (n ++ more) ≡ length (counting n) + wire_length more
longer [] more = omega arith
longer (l ∷ n) more = omega (arith, longer n more, length-append l (counting n))

pub some_length : (n : Name) → 0 < wire_length n
some_length [] = omega arith
some_length (l ∷ n) = omega (arith, some_length n)

form_is_some : (n : Name) → 0 < length (wire_form n)
form_is_some [] = omega arith
form_is_some (l ∷ n) = omega arith

head_of : List ℕ → ℕ
head_of [] = 0
head_of (b ∷ s) = b

tail_of : List ℕ → List ℕ
tail_of [] = []
tail_of (b ∷ s) = s

-- labels that have octets are told by their wire form
pub one_spelling : (a b : Name) → HaveOctets a → wire_form a ≡ wire_form b → a ≡ b
unfolding head_of tail_of
one_spelling [] [] all e = refl
one_spelling [] (m ∷ b) all e =
    absurd (omega (arith, ap length e, length-append m (wire_form b), form_is_some b))
one_spelling (l ∷ a) [] all e = let none : length l ≡ 0 = ap head_of e in absurd (omega (arith, none, all.0))
one_spelling (l ∷ a) (m ∷ b) all e =
    let size : length l ≡ length m = ap head_of e in
    let tails : l ++ wire_form a ≡ m ++ wire_form b = ap tail_of e in
    let first : l ≡ m = sym (take_at l (wire_form a) (length l) refl) ∙ ap (take (length l)) tails ∙ take_at m (wire_form b) (length l) (sym size) in
    let others : wire_form a ≡ wire_form b = sym (drop_at l (wire_form a) (length l) refl) ∙ ap (drop (length l)) tails ∙ drop_at m (wire_form b) (length l) (sym size) in
    ap (λ x. x ∷ a) first ∙ ap (λ x. m ∷ x) (one_spelling a b all.1 others)
