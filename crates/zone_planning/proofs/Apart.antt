-- Octets that are put together from parts tell the parts
use Rattle.std.proofs.Common.{◌≡◌, ℕ, zero, suc, ◌+◌, ◌*◌, ◌/◌, ◌%◌, ◌<◌, false, cond, List, [], ◌∷◌, ◌++◌, length, take, drop, Option, Some, None, refl, sym, ap, ◌∙◌, append_assoc, append-nil, arith, length-append}
use Rattle.std.proofs.lemmas.List.{take_at, drop_at}
use Rattle.std.specs.List.{AllByRecursion}
use Rattle.std.specs.Prelude.{◌==◌}
use Rattle.std.proofs.lemmas.Bool.Decides.{nat_tests}
use Rattle.zone_proto.specs.Names.{Name, IsName, wire_form}
use Rattle.message_reading.specs.Octets.{◌>>=◌, short_of, long_of, octets_of}
use Rattle.message_reading.specs.MessageNames.{plain_name_of}
use Rattle.message_writing.specs.DataText.{short_text, long_text}
use Rattle.message_writing.proofs.Fields.{short_back, long_back, plain_back}
use Rattle.message_writing.proofs.Steps.{octets_back}
use Rattle.zone_planning.specs.Filling.{signatures_text}
use Rattle.zone_planning.specs.Frames.{Asked, end_text, frames, frames_in, frames_within}
use Rattle.zone_planning.specs.SignedData.{record_text, records_text}

-- ---- parts

-- of parts of the same length
pub parts_apart : (a b x y : List ℕ) → length a ≡ length b → a ++ x ≡ b ++ y → (a ≡ b) × (x ≡ y)
parts_apart a b x y same e = (
  sym (take_at a x (length a) refl) ∙ ap (take (length a)) e ∙ take_at b y (length a) (sym same),
  sym (drop_at a x (length a) refl) ∙ ap (drop (length a)) e ∙ drop_at b y (length a) (sym same),
)

read_apart : (r s : ℕ × List ℕ) → Some r ≡ Some s → (r.0 ≡ s.0) × (r.1 ≡ s.1)
read_apart r s q = let p : r ≡ s = cc in (ap (λ (z : ℕ × List ℕ). z.0) p, ap (λ (z : ℕ × List ℕ). z.1) p)

named_apart : (r s : Name × List ℕ) → Some r ≡ Some s → (r.0 ≡ s.0) × (r.1 ≡ s.1)
named_apart r s q = let p : r ≡ s = cc in (ap (λ (z : Name × List ℕ). z.0) p, ap (λ (z : Name × List ℕ). z.1) p)

-- numbers
pub short_apart : (n k : ℕ) (x y : List ℕ) → short_text n ++ x ≡ short_text k ++ y → (n ≡ k) × (x ≡ y)
short_apart n k x y e = read_apart (n, x) (k, y) (sym (short_back n x) ∙ ap short_of e ∙ short_back k y)

pub long_apart : (n k : ℕ) (x y : List ℕ) → long_text n ++ x ≡ long_text k ++ y → (n ≡ k) × (x ≡ y)
long_apart n k x y e = read_apart (n, x) (k, y) (sym (long_back n x) ∙ ap long_of e ∙ long_back k y)

-- octets behind a number that counts them
pub counted_apart : (a b x y : List ℕ) → short_text (length a) ++ (a ++ x) ≡ short_text (length b) ++ (b ++ y) → (a ≡ b) × (x ≡ y)
counted_apart a b x y e = let h = short_apart (length a) (length b) (a ++ x) (b ++ y) e in parts_apart a b x y h.0 h.1

-- names in wire form
pub wire_apart : (n k : Name) (x y : List ℕ) → IsName n → IsName k → wire_form n ++ x ≡ wire_form k ++ y → (n ≡ k) × (x ≡ y)
wire_apart n k x y valid other e = named_apart (n, x) (k, y) (sym (plain_back n x valid) ∙ ap plain_name_of e ∙ plain_back k y other)

-- ---- signatures

not_nothing : (n : ℕ) (x : List ℕ) → [] ≡ short_text n ++ x → ⊥
not_nothing n x e = cc

pub signatures_apart : (ss ss' : List (List ℕ)) → signatures_text ss ≡ signatures_text ss' → ss ≡ ss'
signatures_apart [] [] e = refl
signatures_apart [] (s ∷ ss) e = absurd (not_nothing (length s) (s ++ signatures_text ss) e)
signatures_apart (s ∷ ss) [] e = absurd (not_nothing (length s) (s ++ signatures_text ss) (sym e))
signatures_apart (s ∷ ss) (s' ∷ ss') e =
    let h = counted_apart s s' (signatures_text ss) (signatures_text ss') e in λ i. h.0 i ∷ signatures_apart ss ss' h.1 i

text_more : (ss : List (List ℕ)) (s : List ℕ) → signatures_text (ss ++ s ∷ []) ≡ signatures_text ss ++ (short_text (length s) ++ s)
text_more [] s = ap (λ xs. short_text (length s) ++ xs) (append-nil s)
text_more (x ∷ ss) s =
    ap (λ xs. short_text (length x) ++ xs) (ap (λ xs. x ++ xs) (text_more ss s) ∙ sym (append_assoc x (signatures_text ss) (short_text (length s) ++ s)))

-- a signature behind two octets that count it was read
pub text_step : (ss more : List (List ℕ)) (s : List ℕ) (high low : ℕ) (rest left octets : List ℕ) → low < 256 → length s ≡ high * 256 + low → left ≡ high ∷ low ∷ (s ++ rest)
    → more ≡ ss ++ s ∷ [] → signatures_text ss ++ left ≡ octets → signatures_text more ++ rest ≡ octets
text_step ss more s high low rest left octets bound count is pushed so =
    let h : length s / 256 ≡ high = omega (arith, bound, count) in
    let l : length s % 256 ≡ low = omega (arith, bound, count) in
    ap (λ xs. signatures_text xs ++ rest) pushed
    ∙ ap (λ xs. xs ++ rest) (text_more ss s)
    ∙ append_assoc (signatures_text ss) (short_text (length s) ++ s) rest
    ∙ (λ i. signatures_text ss ++ (h i ∷ l i ∷ (s ++ rest)))
    ∙ ap (λ xs. signatures_text ss ++ xs) (sym is)
    ∙ so

-- what is left of signatures once some were read is a text of signatures too
pub left_are_signatures : (ss done : List (List ℕ)) (left : List ℕ) → signatures_text ss ≡ signatures_text done ++ left → (others : List (List ℕ)) × (left ≡ signatures_text others)
left_are_signatures ss [] left e = (ss, sym e)
left_are_signatures [] (d ∷ done) left e = absurd (not_nothing (length d) ((d ++ signatures_text done) ++ left) e)
left_are_signatures (s ∷ ss) (d ∷ done) left e =
    let shape : short_text (length d) ++ ((d ++ signatures_text done) ++ left) ≡ short_text (length d) ++ (d ++ (signatures_text done ++ left)) =
    ap (λ x. short_text (length d) ++ x) (append_assoc d (signatures_text done) left) in
    let h = counted_apart s d (signatures_text ss) (signatures_text done ++ left) (e ∙ shape) in
    left_are_signatures ss done left h.1

-- one octet is none
one_octet : (high : ℕ) (others : List (List ℕ)) → high ∷ [] ≡ signatures_text others → ⊥
one_octet high [] e = cc
one_octet high (s ∷ ss) e = let short : 1 ≡ length (signatures_text (s ∷ ss)) = ap length e in omega (arith, short)

pub no_count : (done ss : List (List ℕ)) (left octets : List ℕ) (high : ℕ) → signatures_text done ++ left ≡ octets → left ≡ high ∷ [] → signatures_text ss ≡ octets → ⊥
no_count done ss left octets high so is e =
    let r = left_are_signatures ss done left (e ∙ sym so) in one_octet high r.0 (sym is ∙ r.1)

-- fewer octets than the two that count them say
too_few : (high low : ℕ) (rest : List ℕ) (others : List (List ℕ)) → length rest < high * 256 + low → high ∷ low ∷ rest ≡ signatures_text others → ⊥
too_few high low rest [] few e = cc
too_few high low rest (s ∷ ss) few e =
    let read = read_apart (high * 256 + low, rest) (length s, s ++ signatures_text ss) (ap short_of e ∙ short_back (length s) (s ++ signatures_text ss)) in
    let count : high * 256 + low ≡ length s = read.0 in
    let long : length rest ≡ length (s ++ signatures_text ss) = ap length read.1 in
    omega (arith, few, count, long, length-append s (signatures_text ss))

pub no_signature : (done ss : List (List ℕ)) (left octets : List ℕ) (high low : ℕ) (rest : List ℕ) → signatures_text done ++ left ≡ octets → left ≡ high ∷ low ∷ rest
    → length rest < high * 256 + low → signatures_text ss ≡ octets → ⊥
no_signature done ss left octets high low rest so is few e =
    let r = left_are_signatures ss done left (e ∙ sym so) in too_few high low rest r.0 few (sym is ∙ r.1)

-- ---- the records of a set

pub record SameRecords (n k : Name) (t t' : ℕ) (os os' : List (List ℕ)) : Type 0 where
  pub texts : os ≡ os'
  pub owner : (os ≡ [] → ⊥) → n ≡ k
  pub types : (os ≡ [] → ⊥) → t ≡ t'

no_records : (n : Name) (t ttl : ℕ) (o x : List ℕ) → [] ≡ record_text (wire_form n) t ttl o ++ x → ⊥
no_records [] t ttl o x e = cc
no_records (l ∷ n) t ttl o x e = cc

module _ (n k : Name) (valid : IsName n) (other : IsName k) (t t' ttl ttl' : ℕ) where
  -- what stands behind the owner of a record
  abbrev behind : ℕ → ℕ → List ℕ → List ℕ → List ℕ
  behind u life o x = short_text u ++ (short_text 1 ++ (long_text life ++ (short_text (length o) ++ (o ++ x))))

  unfolded : (m : Name) (u life : ℕ) (o x : List ℕ) → record_text (wire_form m) u life o ++ x ≡ wire_form m ++ behind u life o x
  unfolded m u life o x =
      append_assoc (wire_form m) (short_text u ++ (short_text 1 ++ (long_text life ++ (short_text (length o) ++ o)))) x

  pub records_apart : (os os' : List (List ℕ)) → records_text (wire_form n) t ttl os ≡ records_text (wire_form k) t' ttl' os' → SameRecords n k t t' os os'
  records_apart [] [] e = record { texts = refl; owner = λ h. absurd (h refl); types = λ h. absurd (h refl) }
  records_apart [] (o ∷ os) e = absurd (no_records k t' ttl' o (records_text (wire_form k) t' ttl' os) e)
  records_apart (o ∷ os) [] e = absurd (no_records n t ttl o (records_text (wire_form n) t ttl os) (sym e))
  records_apart (o ∷ os) (o' ∷ os') e =
      let x = records_text (wire_form n) t ttl os in
      let y = records_text (wire_form k) t' ttl' os' in
      let named = wire_apart n k (behind t ttl o x) (behind t' ttl' o' y) valid other (sym (unfolded n t ttl o x) ∙ e ∙ unfolded k t' ttl' o' y) in
      let typed = short_apart t t' (short_text 1 ++ (long_text ttl ++ (short_text (length o) ++ (o ++ x)))) (short_text 1 ++ (long_text ttl' ++ (short_text (length o') ++ (o' ++ y)))) named.1 in
      let classed = short_apart 1 1 (long_text ttl ++ (short_text (length o) ++ (o ++ x))) (long_text ttl' ++ (short_text (length o') ++ (o' ++ y))) typed.1 in
      let lived = long_apart ttl ttl' (short_text (length o) ++ (o ++ x)) (short_text (length o') ++ (o' ++ y)) classed.1 in
      let counted = counted_apart o o' x y lived.1 in
      let ih = records_apart os os' counted.1 in
      record { texts = λ i. counted.0 i ∷ ih.texts i; owner = λ h. named.0; types = λ h. typed.0 }

-- ---- frames

-- what is read behind the count of a frame, and behind its octets
abbrev after_part : (number most count : ℕ) (part : List ℕ × List ℕ) → Option (List Asked)
after_part number most count part =
    cond (count == 0) (cond (length part.1 == 0) (Some []) None) (frames_within most part.1 >>= λ others. Some (record { number = number; octets = part.0 } ∷ others))

abbrev after_count : (number most : ℕ) (count : ℕ × List ℕ) → Option (List Asked)
after_count number most count = octets_of count.0 count.1 >>= after_part number most count.0

-- a frame of some octets is read, and then the others
frame_read : (most : ℕ) (a : Asked) (rest : List ℕ) → 0 < length a.octets
    → frames_within (suc most) (a.number ∷ (long_text (length a.octets) ++ (a.octets ++ rest))) ≡ (frames_within most rest >>= λ others. Some (a ∷ others))
frame_read most a rest some =
    let none : (length a.octets == 0) ≡ false = grind (arith, nat_tests) in
    ap (λ (o : Option (ℕ × List ℕ)). o >>= after_count a.number most) (long_back (length a.octets) (a.octets ++ rest))
    ∙ ap (λ (o : Option (List ℕ × List ℕ)). o >>= after_part a.number most (length a.octets)) (octets_back a.octets rest)
    ∙ ap (λ b. cond b (cond (length rest == 0) (Some []) None) (frames_within most rest >>= λ others. Some (a ∷ others))) none

pub frames_read : (as' : List Asked) (most : ℕ) → length as' < most → AllByRecursion (λ (a : Asked). 0 < length a.octets) as' → frames_within most (frames as' ++ end_text) ≡ Some as'
frames_read as' zero few h = absurd (omega (arith, few))
frames_read [] (suc most) few h = refl
frames_read (a ∷ as') (suc most) few h =
    let rest = frames as' ++ end_text in
    let shape : frames (a ∷ as') ++ end_text ≡ a.number ∷ (long_text (length a.octets) ++ (a.octets ++ rest)) =
    append_assoc (a.number ∷ (long_text (length a.octets) ++ a.octets)) (frames as') end_text in
    ap (frames_within (suc most)) shape
    ∙ frame_read most a rest h.0
    ∙ ap (λ (o : Option (List Asked)). o >>= λ others. Some (a ∷ others)) (frames_read as' most (omega (arith, few)) h.1)

-- there are more octets than frames
more_octets : (as' : List Asked) → length as' < length (frames as' ++ end_text)
more_octets [] = omega arith
more_octets (a ∷ as') =
    let shape = append_assoc (a.number ∷ (long_text (length a.octets) ++ a.octets)) (frames as') end_text in
    let h : length (frames (a ∷ as') ++ end_text) ≡ length ((a.number ∷ (long_text (length a.octets) ++ a.octets)) ++ (frames as' ++ end_text)) = ap length shape in
    omega (arith, h, more_octets as', length-append (a.number ∷ (long_text (length a.octets) ++ a.octets)) (frames as' ++ end_text))

pub frames_back : (as' : List Asked) → AllByRecursion (λ (a : Asked). 0 < length a.octets) as' → frames_in (frames as' ++ end_text) ≡ Some as'
frames_back as' h = frames_read as' (length (frames as' ++ end_text)) (more_octets as') h
