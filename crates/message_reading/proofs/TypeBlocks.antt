-- Type maps as a loop reads them, block after block and bit after bit
use Rattle.std.proofs.Common.{◌≡◌, ℕ, suc, ◌+◌, ◌-◌, ◌*◌, ◌/◌, ◌%◌, ◌<◌, ◌≤◌, Bool, false, eqb, leb, List, [], ◌∷◌, ◌++◌, map, Option, Some, None, refl, sym, ap, ◌∙◌, append_assoc, arith}
use Rattle.std.proofs.lemmas.Bool.{lt-leb, le-leb}
use Rattle.std.proofs.lemmas.List.{append-nil, map-append}
use Rattle.zone_proto.specs.declared.record_type.RecordType.{RecordType}
use Rattle.message_reading.specs.Octets.{◌>>=◌}
use Rattle.message_reading.specs.Headers.{has_bit}
use Rattle.message_reading.specs.TypeMaps.{bit_of, bits_from, block_of, if_ascending, set_bits, type_numbered, types_of, types_within, weights}
use Rattle.message_reading.proofs.Passing.{one_less}

-- these types, and then those that are still read
abbrev pub with_types : List RecordType → Option (List ℕ) → Option (List RecordType)
with_types front read = read >>= λ ts. Some (front ++ map type_numbered ts)

pub types_all : (octets : List ℕ) → with_types [] (types_within 257 0 octets) ≡ types_of octets
unfolding types_of
types_all octets = refl

types_from : (n i lowest : ℕ) (rest octets : List ℕ) (front : List RecordType) (whole : Option (List RecordType)) → i < n → rest ≡ octets
    → with_types front (types_within (n - i) lowest rest) ≡ whole
    → with_types front (types_within (suc (n - (i + 1))) lowest octets) ≡ whole
types_from n i lowest rest octets front whole less e h =
    ap (λ k. with_types front (types_within k lowest octets)) (one_less n i less)
    ∙ ap (λ s. with_types front (types_within (n - i) lowest s)) (sym e) ∙ h

pub types_end : (n i lowest : ℕ) (rest : List ℕ) (front : List RecordType) (whole : Option (List RecordType)) → i < n → rest ≡ []
    → with_types front (types_within (n - i) lowest rest) ≡ whole → Some front ≡ whole
unfolding types_within
types_end n i lowest rest front whole less e h =
    ap (λ s. Some s) (sym (append-nil front)) ∙ types_from n i lowest rest [] front whole less e h

pub types_low : (n i lowest w : ℕ) (rest behind : List ℕ) (front : List RecordType) (whole : Option (List RecordType)) → i < n → rest ≡ w ∷ behind
    → w < lowest → with_types front (types_within (n - i) lowest rest) ≡ whole → None ≡ whole
unfolding types_within
types_low n i lowest w rest behind front whole less e low h =
    let e₁ : leb lowest w ≡ false = lt-leb _ _ low in
    rw e₁ at (types_from n i lowest rest (w ∷ behind) front whole less e h)

pub types_none : (n i lowest w : ℕ) (rest behind : List ℕ) (front : List RecordType) (whole : Option (List RecordType)) → i < n → rest ≡ w ∷ behind
    → lowest ≤ w → None ≡ block_of behind → with_types front (types_within (n - i) lowest rest) ≡ whole → None ≡ whole
unfolding types_within
types_none n i lowest w rest behind front whole less e high found h =
    ap (λ b. with_types front (b >>= λ bits. types_within (n - (i + 1)) (w + 1) bits.1 >>= λ more. Some (bits_from (w * 256) bits.0 ++ more))) found
    ∙ ap (λ c. with_types front (if_ascending c behind >>= λ bits. types_within (n - (i + 1)) (w + 1) bits.1 >>= λ more. Some (bits_from (w * 256) bits.0 ++ more)))
    (sym (le-leb _ _ high)) ∙ types_from n i lowest rest (w ∷ behind) front whole less e h

pub types_more : (n i lowest w : ℕ) (rest behind bits next : List ℕ) (front : List RecordType) (whole : Option (List RecordType)) → i < n
    → rest ≡ w ∷ behind → lowest ≤ w → Some (bits, next) ≡ block_of behind → with_types front (types_within (n - i) lowest rest) ≡ whole
    → with_types (front ++ map type_numbered (bits_from (w * 256) bits)) (types_within (n - (i + 1)) (w + 1) next) ≡ whole
unfolding types_within
types_more n i lowest w rest behind bits next front whole less e high found h =
    regrouped (types_within (n - (i + 1)) (w + 1) next)
    ∙ ap (λ b. with_types front (b >>= λ bits. types_within (n - (i + 1)) (w + 1) bits.1 >>= λ more. Some (bits_from (w * 256) bits.0 ++ more))) found
    ∙ ap (λ c. with_types front (if_ascending c behind >>= λ bits. types_within (n - (i + 1)) (w + 1) bits.1 >>= λ more. Some (bits_from (w * 256) bits.0 ++ more)))
    (sym (le-leb _ _ high)) ∙ types_from n i lowest rest (w ∷ behind) front whole less e h
  where
    regrouped : (read : Option (List ℕ)) → with_types (front ++ map type_numbered (bits_from (w * 256) bits)) read
        ≡ with_types front (read >>= λ more. Some (bits_from (w * 256) bits ++ more))
    regrouped None = refl
    regrouped (Some more) =
        ap (λ s. Some s) (append_assoc front (map type_numbered (bits_from (w * 256) bits)) (map type_numbered more)
        ∙ ap (λ s. front ++ s) (sym (map-append type_numbered (bits_from (w * 256) bits) more)))

pub types_out : (k lowest : ℕ) (rest : List ℕ) (front : List RecordType) (whole : Option (List RecordType)) → k ≡ 0
    → with_types front (types_within k lowest rest) ≡ whole → None ≡ whole
unfolding types_within
types_out k lowest rest front whole e h = ap (λ j. with_types front (types_within j lowest rest)) (sym e) ∙ h

-- ---- the bits of an octet

one_more : (old mid new : List RecordType) (a b : List ℕ) → mid ≡ old ++ map type_numbered a → new ≡ mid ++ map type_numbered b
    → new ≡ old ++ map type_numbered (a ++ b)
one_more old mid new a b e f =
    f ∙ ap (λ s. s ++ map type_numbered b) e ∙ append_assoc old (map type_numbered a) (map type_numbered b)
    ∙ ap (λ s. old ++ s) (sym (map-append type_numbered a b))

numbered : (mid new : List RecordType) (k j : ℕ) (set : Bool) → k ≡ j → new ≡ mid ++ map type_numbered (bit_of k set)
    → new ≡ mid ++ map type_numbered (bit_of j set)
numbered mid new k j set e f = f ∙ ap (λ i. mid ++ map type_numbered (bit_of i set)) e

pub eight_more : (n octet : ℕ) (t₀ t₁ t₂ t₃ t₄ t₅ t₆ t₇ t₈ : List RecordType)
    → t₁ ≡ t₀ ++ map type_numbered (bit_of n (has_bit 128 octet))
    → t₂ ≡ t₁ ++ map type_numbered (bit_of (n + 1) (has_bit 64 octet))
    → t₃ ≡ t₂ ++ map type_numbered (bit_of (n + 2) (has_bit 32 octet))
    → t₄ ≡ t₃ ++ map type_numbered (bit_of (n + 3) (has_bit 16 octet))
    → t₅ ≡ t₄ ++ map type_numbered (bit_of (n + 4) (has_bit 8 octet))
    → t₆ ≡ t₅ ++ map type_numbered (bit_of (n + 5) (has_bit 4 octet))
    → t₇ ≡ t₆ ++ map type_numbered (bit_of (n + 6) (has_bit 2 octet))
    → t₈ ≡ t₇ ++ map type_numbered (bit_of (n + 7) (eqb (octet % 2) 1))
    → t₈ ≡ t₀ ++ map type_numbered (set_bits weights n octet)
eight_more n octet t₀ t₁ t₂ t₃ t₄ t₅ t₆ t₇ t₈ e₁ e₂ e₃ e₄ e₅ e₆ e₇ e₈ =
    one_more t₀ t₁ t₈ _ _ e₁ (one_more t₁ t₂ t₈ _ _ e₂ (one_more t₂ t₃ t₈ _ _ (numbered t₂ t₃ (n + 2) (n + 1 + 1) _ (omega arith) e₃)
    (one_more t₃ t₄ t₈ _ _ (numbered t₃ t₄ (n + 3) (n + 1 + 1 + 1) _ (omega arith) e₄)
    (one_more t₄ t₅ t₈ _ _ (numbered t₄ t₅ (n + 4) (n + 1 + 1 + 1 + 1) _ (omega arith) e₅)
    (one_more t₅ t₆ t₈ _ _ (numbered t₅ t₆ (n + 5) (n + 1 + 1 + 1 + 1 + 1) _ (omega arith) e₆)
    (one_more t₆ t₇ t₈ _ _ (numbered t₆ t₇ (n + 6) (n + 1 + 1 + 1 + 1 + 1 + 1) _ (omega arith) e₇)
    (one_more t₇ t₈ t₈ _ [] last (sym (append-nil t₈)))))))))
  where
    whole : octet % 2 ≡ (octet / 1) % 2
    whole = omega arith

    last : t₈ ≡ t₇ ++ map type_numbered (bit_of (n + 1 + 1 + 1 + 1 + 1 + 1 + 1) (has_bit 1 octet))
    last =
        numbered t₇ t₈ (n + 7) (n + 1 + 1 + 1 + 1 + 1 + 1 + 1) (eqb (octet % 2) 1) (omega arith) e₈
        ∙ ap (λ x. t₇ ++ map type_numbered (bit_of (n + 1 + 1 + 1 + 1 + 1 + 1 + 1) (eqb x 1))) whole
