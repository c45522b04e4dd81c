-- The data of an SOA record (RFC 1035 section 3.3.13): how they are read and printed
use Rattle.std.specs.Prelude.{◌≡◌, ◌<◌, ℕ, ℤ, pos, List, [], ◌∷◌, Some}
use Rattle.std.specs.Fmt.{decimal, signed_decimal}
use Rattle.zone_proto.specs.declared.rdata.start_of_authority.SOA.{SOA as SoaData}
use Rattle.zone_proto.specs.Names.{IsName}
use Rattle.zone_proto.specs.Text.{name_text}
use Rattle.line_text.specs.Reading.{WordList, Reading, then_read, next_name, next_timer, next_u32}
use Rattle.line_text.specs.Words.{spaced}

-- the parts in their order
abbrev pub next_soa : WordList → Reading SoaData
next_soa ws =
    then_read (next_name ws) (λ mname a. then_read (next_name a) (λ rname b.
    then_read (next_u32 b) (λ serial c. then_read (next_timer c) (λ refresh d.
    then_read (next_timer d) (λ retry e. then_read (next_timer e) (λ expire g.
    then_read (next_u32 g) (λ minimum h.
    let soa : SoaData = record {
      mname = mname;
      rname = rname;
      serial = serial;
      refresh = refresh;
      retry = retry;
      expire = expire;
      minimum = minimum;
    } in
    Some (soa, h))))))))

abbrev pub soa_text : SoaData → List ℕ
soa_text d = spaced (
    name_text d.mname ∷ name_text d.rname ∷ decimal d.serial
    ∷ signed_decimal d.refresh ∷ signed_decimal d.retry ∷ signed_decimal d.expire ∷ decimal d.minimum ∷ [])

-- the seconds of a timer that are not below zero, in a number of 32 bits with a sign
abbrev pub IsTimer : ℤ → Type 0
IsTimer z = (n : ℕ) × (z ≡ pos n) × (n < 2147483648)

-- an SOA whose timers are not below zero
pub record IsReadableSoa (d : SoaData) : Type 0 where
  pub mname : IsName d.mname
  pub rname : IsName d.rname
  pub serial : d.serial < 4294967296
  pub refresh : IsTimer d.refresh
  pub retry : IsTimer d.retry
  pub expire : IsTimer d.expire
  pub minimum : d.minimum < 4294967296
