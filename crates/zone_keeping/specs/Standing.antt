-- The signatures that stand in a plan, handed over to be verified
use Rattle.std.specs.Prelude.{ℕ, cond, List, [], ◌∷◌, ◌++◌, length, filter_map, Option, Some, None, is_some}
use Rattle.zone_proto.specs.declared.rdata.RData.{RData}
use Rattle.zone_proto.specs.declared.rdata.RData.TheVariants as V
use Rattle.zone_proto.specs.declared.record.Record.{Record}
use Rattle.zone_proto.specs.Sets.{RRset}
use Rattle.message_writing.specs.DataText.{short_text, long_text}
use Rattle.zone_planning.specs.Blank.{blank_number}
use Rattle.zone_planning.specs.SignedData.{signed_data}

-- a signature, and what it is made of (RFC 4034 section 3.1.8.1)
pub record Standing : Type 0 where
  pub octets : List ℕ
  pub signature : List ℕ

-- of a record of a set, if it is a signature that isn't blank
abbrev pub standing_by : RRset → RData → Option Standing
standing_by set (V.RRSIG r) = cond (is_some (blank_number (V.RRSIG r))) None (Some (record { octets = signed_data r set; signature = r.signature }))
standing_by set d = None

abbrev pub standing_from : RRset → List Record → List Standing
standing_from set rs = filter_map (λ (r : Record). standing_by set r.rdata) rs

-- of each signature of a set that isn't blank, in order
abbrev pub standing_of : RRset → List Standing
standing_of set = standing_from set set.signatures

-- ---- as octets

-- how many octets it is made of in four octets, these, how many its own are in two, and its own
abbrev pub standing_text : Standing → List ℕ
standing_text s = long_text (length s.octets) ++ (s.octets ++ (short_text (length s.signature) ++ s.signature))

abbrev pub standing_texts : List Standing → List ℕ
standing_texts [] = []
standing_texts (s ∷ ss) = standing_text s ++ standing_texts ss

-- what stands behind the last one: a signature of nothing
abbrev pub end_text : List ℕ
end_text = 0 ∷ 0 ∷ 0 ∷ 0 ∷ []
