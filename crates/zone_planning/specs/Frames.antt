-- What a plan asks for: a frame for each blank signature
use Rattle.std.specs.Prelude.{ℕ, zero, suc, ◌==◌, List, [], ◌∷◌, ◌++◌, length, cond, filter_map, Option, Some, None, option_map}
use Rattle.zone_proto.specs.Sets.{RRset}
use Rattle.zone_proto.specs.declared.record.Record.{Record}
use Rattle.zone_proto.specs.declared.rdata.RData.{RData}
use Rattle.zone_proto.specs.declared.rdata.RData.TheVariants as V
use Rattle.zone_map.specs.Zones.{Sets}
use Rattle.message_reading.specs.Octets.{◌>>=◌, octet_of, long_of, octets_of}
use Rattle.message_writing.specs.DataText.{long_text}
use Rattle.zone_planning.specs.Blank.{single}
use Rattle.zone_planning.specs.SignedData.{signed_data}

-- what a key is asked to sign: the number of the key, and the octets
pub record Asked : Type 0 where
  pub number : ℕ
  pub octets : List ℕ

-- ---- of a set, and of a zone

-- of the key whose number stands in place of a blank signature: what that is made of
abbrev pub asked_by : RRset → RData → Option Asked
asked_by set (V.RRSIG rrsig) = option_map (λ n. record { number = n; octets = signed_data rrsig set }) (single rrsig.signature)
asked_by set d = None

abbrev pub asked_from : RRset → List Record → List Asked
asked_from set rs = filter_map (λ (r : Record). asked_by set r.rdata) rs

-- for each blank signature of a set, in order
abbrev pub asked_of : RRset → List Asked
asked_of set = asked_from set set.signatures

-- for those of all sets of a zone
abbrev pub asked : Sets → List Asked
asked [] = []
asked (e ∷ es) = asked_of e.1 ++ asked es

-- ---- as octets

-- a frame: the number of the key, how many octets follow in four, and these
abbrev pub frame : Asked → List ℕ
frame a = a.number ∷ (long_text (length a.octets) ++ a.octets)

abbrev pub frames : List Asked → List ℕ
frames [] = []
frames (a ∷ as') = frame a ++ frames as'

-- a frame of no octets, which stands behind the last one
abbrev pub end_text : List ℕ
end_text = 0 ∷ 0 ∷ 0 ∷ 0 ∷ 0 ∷ []

-- ---- read back

-- the frames that octets are, of which so many are read at most: each up to its last octet, and nothing behind the end
abbrev pub frames_within : ℕ → List ℕ → Option (List Asked)
frames_within zero octets = None
frames_within (suc most) octets =
    octet_of octets >>= λ number.
    long_of number.1 >>= λ count.
    octets_of count.0 count.1 >>= λ part.
    cond (count.0 == 0)
    (cond (length part.1 == 0) (Some []) None)
    (frames_within most part.1 >>= λ others. Some (record { number = number.0; octets = part.0 } ∷ others))

-- the frames that octets are
abbrev pub frames_in : List ℕ → Option (List Asked)
frames_in octets = frames_within (length octets) octets
