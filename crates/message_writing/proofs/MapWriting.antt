-- The text of a type map, as loops over types write it
use Rattle.std.proofs.Common.{◌≡◌, ℕ, zero, suc, ◌+◌, ◌-◌, ◌*◌, ◌/◌, ◌<◌, List, [], ◌∷◌, ◌++◌, length, take, drop, refl, sym, ap, ◌∙◌, append_assoc, arith, inl, inr}
use Rattle.std.specs.Prelude.{get_or}
use Rattle.std.specs.List.{drop-map}
use Rattle.std.proofs.lemmas.Bool.{cases_eq, eq-eqb, ne_eqb}
use Rattle.std.proofs.lemmas.List.{append-nil, drop_more, map-append, take-map}
use Rattle.zone_proto.specs.declared.record_type.RecordType.{RecordType}
use Rattle.message_reading.specs.TypeMaps.{weights}
use Rattle.message_writing.specs.TypeMapText.{bits_taken, octets_taken, block, block_text, last_of, map_text, numbers, run_length, window_front, window_rest, window_text}

-- ---- the types of one window

front_is : (w : ℕ) (ts : List ℕ) → take (run_length w ts) ts ≡ window_front w ts
front_is w [] = refl
front_is w (t ∷ ts) =
    elim (cases_eq (t / 256) w) [
      | inl same ↦ rw (eq-eqb (t / 256) w same) (ap (λ s. t ∷ s) (front_is w ts))
      | inr other ↦ rw (ne_eqb (t / 256) w other) refl
    ]

rest_is : (w : ℕ) (ts : List ℕ) → drop (run_length w ts) ts ≡ window_rest w ts
rest_is w [] = refl
rest_is w (t ∷ ts) =
    elim (cases_eq (t / 256) w) [
      | inl same ↦ rw (eq-eqb (t / 256) w same) (rest_is w ts)
      | inr other ↦ rw (ne_eqb (t / 256) w other) refl
    ]

pub left_at : (ts : List RecordType) (i : ℕ) (t : RecordType) → i < length ts → t ≡ get_or ts i t → numbers (drop i ts) ≡ t.0 ∷ numbers (drop (i + 1) ts)
left_at ts i t inside is = ap numbers (drop_more ts i t inside ∙ ap (λ x. x ∷ drop (i + 1) ts) (sym is))

-- ---- the blocks of a map

no_blocks : (k : ℕ) → map_text k [] ≡ []
no_blocks zero = refl
no_blocks (suc k) = refl

pub map_empty : (out text : List ℕ) (k : ℕ) (left : List RecordType) → left ≡ [] → out ++ map_text k (numbers left) ≡ text → out ≡ text
map_empty out text k left none h =
    sym (append-nil out) ∙ ap (λ s. out ++ s) (sym (no_blocks k)) ∙ ap (λ ts. out ++ map_text k (numbers ts)) (sym none) ∙ h

pub map_full : (out text : List ℕ) (k : ℕ) (left : List RecordType) → k ≡ 0 → out ++ map_text k (numbers left) ≡ text → out ≡ text
map_full out text k left none h = sym (append-nil out) ∙ ap (λ n. out ++ map_text n (numbers left)) (sym none) ∙ h

pub map_more : (out new text : List ℕ) (total i n : ℕ) (first : RecordType) (left others front rest : List RecordType) → i < total
    → left ≡ first ∷ others → n ≡ run_length (first.0 / 256) (numbers others) → front ≡ take (1 + n) left → rest ≡ drop (1 + n) left
    → new ≡ out ++ block_text (numbers front) → out ++ map_text (total - i) (numbers left) ≡ text
    → new ++ map_text (total - (i + 1)) (numbers rest) ≡ text
map_more out new text total i n first left others front rest more is run front_at rest_at pushed h =
    let w = first.0 / 256 in
    let us = numbers others in
    let k = total - (i + 1) in
    let step : total - i ≡ suc k = omega arith in
    let count : 1 + n ≡ suc (run_length w us) = omega (arith, run) in
    let types : numbers front ≡ first.0 ∷ window_front w us =
    ap numbers (front_at ∙ λ j. take (count j) (is j)) ∙ ap (λ s. first.0 ∷ s) (sym (take-map (λ t. t.0) (run_length w us) others) ∙ front_is w us) in
    let after : numbers rest ≡ window_rest w us =
    ap numbers (rest_at ∙ λ j. drop (count j) (is j)) ∙ sym (drop-map (λ t. t.0) (run_length w us) others) ∙ rest_is w us in
    let text_of : List ℕ = block first.0 (window_front w us) in
    (λ j. (pushed ∙ ap (λ s. out ++ block_text s) types) j ++ map_text k (after j))
    ∙ append_assoc out text_of (map_text k (window_rest w us)) ∙ sym (λ j. out ++ map_text (step j) (numbers (is j))) ∙ h

-- ---- the octets of a block

last_is : (t : ℕ) (ts front : List ℕ) (last : ℕ) → t ∷ ts ≡ front ++ last ∷ [] → last ≡ last_of t ts
last_is t [] [] last e = cc
last_is t [] (x ∷ []) last e = absurd cc
last_is t [] (x ∷ y ∷ front) last e = absurd cc
last_is t (u ∷ us) [] last e = absurd cc
last_is t (u ∷ us) (x ∷ front) last e = let rest : u ∷ us ≡ front ++ last ∷ [] = cc in last_is u us front last rest

pub last_type : (first last : RecordType) (types others front : List RecordType) → types ≡ first ∷ others → types ≡ front ++ last ∷ []
    → last.0 ≡ last_of first.0 (numbers others)
last_type first last types others front e f =
    last_is first.0 (numbers others) (numbers front) last.0
    (ap numbers (sym e ∙ f) ∙ map-append (λ (t : RecordType). t.0) front (last ∷ []))

pub block_is : (first last : RecordType) (types others front : List RecordType) → types ≡ first ∷ others → types ≡ front ++ last ∷ []
    → window_text first.0 last.0 (numbers types) ≡ block_text (numbers types)
block_is first last types others front e f =
    let at = last_type first last types others front e f in
    (λ j. window_text first.0 (at j) (numbers (e j))) ∙ ap (λ ts. block_text (numbers ts)) (sym e)

pub window_begins : (out out₁ out₂ : List ℕ) (window number count left : ℕ) (ts : List ℕ) → out₁ ≡ out ++ window ∷ [] → out₂ ≡ out₁ ++ count ∷ []
    → number ≡ window → left ≡ count
    → out₂ ++ (octets_taken left (number * 256) ts).0 ≡ out ++ (window ∷ count ∷ (octets_taken count (window * 256) ts).0)
window_begins out out₁ out₂ window number count left ts e₁ e₂ at size =
    let octets : List ℕ = (octets_taken count (window * 256) ts).0 in
    (λ j. (e₂ ∙ ap (λ o. o ++ count ∷ []) e₁) j ++ (octets_taken (size j) (at j * 256) ts).0)
    ∙ append_assoc (out ++ window ∷ []) (count ∷ []) octets ∙ append_assoc out (window ∷ []) (count ∷ octets)

pub block_more : (out new text : List ℕ) (total i number octet : ℕ) (left rest : List ℕ) → i < total → octet ≡ (bits_taken weights number left).0
    → rest ≡ (bits_taken weights number left).1 → new ≡ out ++ octet ∷ [] → out ++ (octets_taken (total - i) number left).0 ≡ text
    → new ++ (octets_taken (total - (i + 1)) (number + 8) rest).0 ≡ text
block_more out new text total i number octet left rest more is after pushed h =
    let k = total - (i + 1) in
    let step : total - i ≡ suc k = omega arith in
    let taken = bits_taken weights number left in
    (λ j. (pushed ∙ ap (λ b. out ++ b ∷ []) is) j ++ (octets_taken k (number + 8) (after j)).0)
    ∙ append_assoc out (taken.0 ∷ []) (octets_taken k (number + 8) taken.1).0 ∙ sym (λ j. out ++ (octets_taken (step j) number left).0) ∙ h

pub block_ends : (out text : List ℕ) (k number : ℕ) (left : List ℕ) → k ≡ 0 → out ++ (octets_taken k number left).0 ≡ text → out ≡ text
block_ends out text k number left none h = sym (append-nil out) ∙ ap (λ n. out ++ (octets_taken n number left).0) (sym none) ∙ h
