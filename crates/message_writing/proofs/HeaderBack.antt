-- The header of a response, read back
use Rattle.std.proofs.Common.{◌≡◌, ℕ, ◌/◌, ◌%◌, Bool, true, false, eqb, List, ◌∷◌, ◌++◌, Some, refl, ap, ◌∙◌, arith}
use Rattle.message_reading.specs.declared.header.Header.{Header}
use Rattle.message_reading.specs.Octets.{octet_of, short_of}
use Rattle.message_reading.specs.Headers.{header_of, has_bit}
use Rattle.message_writing.specs.DataText.{short_text}
use Rattle.message_writing.specs.HeaderText.{high_text, low_text, header_text}
use Rattle.message_writing.proofs.Fields.{short_back}

record IsHigh (authoritative truncated desired : Bool) (h : ℕ) : Type 0 where
  response : has_bit 128 h ≡ true
  opcode : (h / 8) % 16 ≡ 0
  aa : has_bit 4 h ≡ authoritative
  tc : has_bit 2 h ≡ truncated
  rd : eqb (h % 2) 1 ≡ desired

high_is : (aa tc rd : Bool) → IsHigh aa tc rd (high_text aa tc rd)
high_is true true true = record { response = refl; opcode = refl; aa = refl; tc = refl; rd = refl }
high_is true true false = record { response = refl; opcode = refl; aa = refl; tc = refl; rd = refl }
high_is true false true = record { response = refl; opcode = refl; aa = refl; tc = refl; rd = refl }
high_is true false false = record { response = refl; opcode = refl; aa = refl; tc = refl; rd = refl }
high_is false true true = record { response = refl; opcode = refl; aa = refl; tc = refl; rd = refl }
high_is false true false = record { response = refl; opcode = refl; aa = refl; tc = refl; rd = refl }
high_is false false true = record { response = refl; opcode = refl; aa = refl; tc = refl; rd = refl }
high_is false false false = record { response = refl; opcode = refl; aa = refl; tc = refl; rd = refl }

record IsLow (code l : ℕ) : Type 0 where
  ra : has_bit 128 l ≡ false
  z : has_bit 64 l ≡ false
  ad : has_bit 32 l ≡ false
  cd : has_bit 16 l ≡ false
  rcode : l % 16 ≡ code % 16

bit_is : (l weight n : ℕ) → l / weight ≡ n → has_bit weight l ≡ eqb (n % 2) 1
bit_is l weight n e = ap (λ x. eqb (x % 2) 1) e

low_is : (code : ℕ) → IsLow code (low_text code)
low_is code =
    let l = code % 16 in
    record {
      ra = bit_is l 128 0 (omega arith);
      z = bit_is l 64 0 (omega arith);
      ad = bit_is l 32 0 (omega arith);
      cd = bit_is l 16 0 (omega arith);
      rcode = omega arith;
    }

abbrev pub header : ℕ → Bool → ℕ → Bool → Bool → Bool → Bool → Bool → Bool → Bool → ℕ → ℕ → ℕ → ℕ → ℕ → Header
header id qr opcode aa tc rd ra z ad cd rcode questions answers authorities additionals = record {
  id = id;
  is_response = qr;
  opcode = opcode;
  authoritative = aa;
  truncated = tc;
  recursion_desired = rd;
  recursion_available = ra;
  reserved = z;
  authentic_data = ad;
  checking_disabled = cd;
  response_code = rcode;
  questions = questions;
  answers = answers;
  authorities = authorities;
  additionals = additionals;
}

-- the steps of a header's reading, over any values
header_from : (octets : List ℕ) (id high low questions answers authorities additionals : ℕ × List ℕ) → short_of octets ≡ Some id
    → octet_of id.1 ≡ Some high → octet_of high.1 ≡ Some low → short_of low.1 ≡ Some questions → short_of questions.1 ≡ Some answers
    → short_of answers.1 ≡ Some authorities → short_of authorities.1 ≡ Some additionals
    → header_of octets ≡ Some (
      header id.0 (has_bit 128 high.0) ((high.0 / 8) % 16) (has_bit 4 high.0) (has_bit 2 high.0) (eqb (high.0 % 2) 1) (has_bit 128 low.0)
          (has_bit 64 low.0) (has_bit 32 low.0) (has_bit 16 low.0) (low.0 % 16) questions.0 answers.0 authorities.0 additionals.0,
      additionals.1,
    )
header_from octets id high low questions answers authorities additionals e₁ e₂ e₃ e₄ e₅ e₆ e₇ = rw (e₁, e₂, e₃, e₄, e₅, e₆, e₇) refl

pub header_back : (id code answers authorities additionals : ℕ) (aa tc rd : Bool) (after : List ℕ)
    → header_of (header_text id (high_text aa tc rd) (low_text code) answers authorities additionals ++ after)
    ≡ Some (header id true 0 aa tc rd false false false false (code % 16) 1 answers authorities additionals, after)
header_back id code answers authorities additionals aa tc rd after =
    let h = high_text aa tc rd in
    let l = low_text code in
    let high = high_is aa tc rd in
    let low = low_is code in
    let s₆ : List ℕ = short_text additionals ++ after in
    let s₅ : List ℕ = short_text authorities ++ s₆ in
    let s₄ : List ℕ = short_text answers ++ s₅ in
    let s₃ : List ℕ = short_text 1 ++ s₄ in
    header_from (short_text id ++ (h ∷ l ∷ s₃)) (id, h ∷ l ∷ s₃) (h, l ∷ s₃) (l, s₃) (1, s₄) (answers, s₅) (authorities, s₆) (additionals, after)
    (short_back id (h ∷ l ∷ s₃)) refl refl (short_back 1 s₄) (short_back answers s₅) (short_back authorities s₆) (short_back additionals after)
    ∙ λ i. Some (
      header id (high.response i) (high.opcode i) (high.aa i) (high.tc i) (high.rd i) (low.ra i) (low.z i) (low.ad i) (low.cd i) (low.rcode i)
          1 answers authorities additionals,
      after,
    )
