-- The data of a type without a case of its own: how they are read
use Rattle.std.specs.Prelude.{◌≡◌, ℕ, List, Bool, true, false, Option, Some, None, option_and_then, refl}
use Rattle.zone_proto.specs.declared.rdata.RData.{RData}
use Rattle.zone_proto.specs.declared.rdata.RData.TheVariants as V
use Rattle.zone_proto.specs.Types.{has_own_case}
use Rattle.line_text.specs.Hex.{hex_word}
use Rattle.line_text.specs.Reading.{WordList, Reading, next_word}

-- octets as the data of a type without a case of its own
abbrev pub other_unless_own : (t : ℕ) → List ℕ → (b : Bool) → has_own_case t ≡ b → Option RData
other_unless_own t octets true own = None
other_unless_own t octets false own = Some (V.Other (record { record_type = record { 0 = t }; octets = octets; other = own }))

abbrev pub other_of_word : ℕ → List ℕ → Option RData
other_of_word t w = option_and_then (λ octets. other_unless_own t octets (has_own_case t) refl) (hex_word w)

-- one word of hex
abbrev pub next_other : ℕ → WordList → Reading RData
next_other t = next_word (other_of_word t)
