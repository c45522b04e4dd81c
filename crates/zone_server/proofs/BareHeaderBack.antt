-- A response of a header alone, read back
use Rattle.std.proofs.Common.{◌≡◌, ℕ, length, sym, subst, ◌+◌, ◌*◌, ◌/◌, ◌%◌, ◌<◌, Bool, true, false, eqb, List, [], Some, ap, arith}
use Rattle.std.specs.Prelude.{if◌then◌else◌, Result, Ok, Err, OnOk}
use Rattle.std.specs.declared.alloc.AllocError.{AllocError}
use Rattle.message_reading.specs.declared.header.Header.{Header}
use Rattle.message_reading.specs.Headers.{has_bit}
use Rattle.message_reading.specs.Messages.{several, sections_of, message_of}
use Rattle.zone_server.specs.BareHeaders.{bare_text, IsBareHeader}

bit_is : (weight n b : ℕ) → (n / weight) % 2 ≡ b → has_bit weight n ≡ eqb b 1
bit_is weight n b e = ap (λ x. eqb x 1) e

-- ---- QR, opcode and RD

abbrev high_of : ℕ → Bool → ℕ
high_of opcode desired = 128 + (opcode * 8 + (if desired then 1 else 0))

record IsHigh (opcode : ℕ) (desired : Bool) (n : ℕ) : Type 0 where
  response : has_bit 128 n ≡ true
  opcode_is : (n / 8) % 16 ≡ opcode
  aa : has_bit 4 n ≡ false
  tc : has_bit 2 n ≡ false
  rd : eqb (n % 2) 1 ≡ desired

high_is : (opcode : ℕ) (desired : Bool) → opcode < 16 → IsHigh opcode desired (high_of opcode desired)
high_is opcode true small =
    let n = 128 + (opcode * 8 + 1) in
    record {
      response = bit_is 128 n 1 (omega arith);
      opcode_is = omega arith;
      aa = bit_is 4 n 0 (omega arith);
      tc = bit_is 2 n 0 (omega arith);
      rd = let odd : n % 2 ≡ 1 = omega arith in ap (λ x. eqb x 1) odd;
    }
high_is opcode false small =
    let n = 128 + (opcode * 8 + 0) in
    record {
      response = bit_is 128 n 1 (omega arith);
      opcode_is = omega arith;
      aa = bit_is 4 n 0 (omega arith);
      tc = bit_is 2 n 0 (omega arith);
      rd = let even : n % 2 ≡ 0 = omega arith in ap (λ x. eqb x 1) even;
    }

-- ---- the response code

record IsLow (code n : ℕ) : Type 0 where
  ra : has_bit 128 n ≡ false
  z : has_bit 64 n ≡ false
  ad : has_bit 32 n ≡ false
  cd : has_bit 16 n ≡ false
  rcode : n % 16 ≡ code

low_is : (code : ℕ) → code < 16 → IsLow code code
low_is code small = record {
  ra = bit_is 128 code 0 (omega arith);
  z = bit_is 64 code 0 (omega arith);
  ad = bit_is 32 code 0 (omega arith);
  cd = bit_is 16 code 0 (omega arith);
  rcode = omega arith;
}

-- ---- the header

pub bare_back : (h : Header) (code : ℕ) → h.opcode < 16 → code < 16 → IsBareHeader h code (bare_text h code)
unfolding message_of sections_of several
bare_back h code small_opcode small_code =
    let high = high_is h.opcode h.recursion_desired small_opcode in
    let low = low_is code small_code in
    let id : (h.id / 256) * 256 + h.id % 256 ≡ h.id = omega arith in
    λ i. Some (record {
      header = record {
        id = id i;
        is_response = high.response i;
        opcode = high.opcode_is i;
        authoritative = high.aa i;
        truncated = high.tc i;
        recursion_desired = high.rd i;
        recursion_available = low.ra i;
        reserved = low.z i;
        authentic_data = low.ad i;
        checking_disabled = low.cd i;
        response_code = low.rcode i;
        questions = 0;
        answers = 0;
        authorities = 0;
        additionals = 0;
      };
      questions = [];
      answers = [];
      authorities = [];
      additionals = [];
    })

-- ---- written

pub bare_written : (r : Result (Unit {0}) AllocError) (h : Header) (code : ℕ) (octets : List ℕ) → h.opcode < 16 → code < 16
    → OnOk r (octets ≡ bare_text h code) → OnOk r (IsBareHeader h code octets)
bare_written (Ok done) h code octets small_opcode small_code e = subst (IsBareHeader h code) (sym e) (bare_back h code small_opcode small_code)
bare_written (Err error) h code octets small_opcode small_code e = tt

pub bare_length : (r : Result (Unit {0}) AllocError) (h : Header) (code : ℕ) (octets : List ℕ)
    → OnOk r (octets ≡ bare_text h code) → OnOk r (length octets ≡ 12)
bare_length (Ok done) h code octets e = ap length e
bare_length (Err error) h code octets e = tt
