-- The words of printed records, and the words of types
use Rattle.std.specs.Prelude.{ℕ, ◌++◌, List, [], ◌∷◌, map, codes, unwrap_or}
use Rattle.std.specs.List.{flat_map}
use Rattle.zone_proto.specs.declared.record_type.RecordType.{RecordType}
use Rattle.zone_proto.specs.TypeText.{Word, type_text, word_of}
use Rattle.line_text.specs.Words.{spaced}

-- a word that stands bare, or between quotes
pub data PrintedWord : Type 0 where
  Bare : List ℕ → PrintedWord
  Quoted : List ℕ → PrintedWord

abbrev pub word_text : PrintedWord → List ℕ
word_text (Bare t) = t
word_text (Quoted t) = 34 ∷ t ++ 34 ∷ []

-- words with single spaces between them
abbrev pub words_text : List PrintedWord → List ℕ
words_text ws = spaced (map word_text ws)

-- the words of the types that have a row in the table of `record_fields`, but for those that `RecordType` has a word for
abbrev pub further_words : List Word
further_words =
    record { number = 3; text = codes "MD" }
    ∷ record { number = 4; text = codes "MF" }
    ∷ record { number = 7; text = codes "MB" }
    ∷ record { number = 8; text = codes "MG" }
    ∷ record { number = 9; text = codes "MR" }
    ∷ record { number = 12; text = codes "PTR" }
    ∷ record { number = 13; text = codes "HINFO" }
    ∷ record { number = 14; text = codes "MINFO" }
    ∷ record { number = 17; text = codes "RP" }
    ∷ record { number = 18; text = codes "AFSDB" }
    ∷ record { number = 19; text = codes "X25" }
    ∷ record { number = 20; text = codes "ISDN" }
    ∷ record { number = 21; text = codes "RT" }
    ∷ record { number = 22; text = codes "NSAP" }
    ∷ record { number = 23; text = codes "NSAP-PTR" }
    ∷ record { number = 25; text = codes "KEY" }
    ∷ record { number = 26; text = codes "PX" }
    ∷ record { number = 27; text = codes "GPOS" }
    ∷ record { number = 29; text = codes "LOC" }
    ∷ record { number = 31; text = codes "EID" }
    ∷ record { number = 32; text = codes "NIMLOC" }
    ∷ record { number = 35; text = codes "NAPTR" }
    ∷ record { number = 36; text = codes "KX" }
    ∷ record { number = 37; text = codes "CERT" }
    ∷ record { number = 39; text = codes "DNAME" }
    ∷ record { number = 40; text = codes "SINK" }
    ∷ record { number = 42; text = codes "APL" }
    ∷ record { number = 44; text = codes "SSHFP" }
    ∷ record { number = 45; text = codes "IPSECKEY" }
    ∷ record { number = 49; text = codes "DHCID" }
    ∷ record { number = 52; text = codes "TLSA" }
    ∷ record { number = 53; text = codes "SMIMEA" }
    ∷ record { number = 55; text = codes "HIP" }
    ∷ record { number = 56; text = codes "NINFO" }
    ∷ record { number = 57; text = codes "RKEY" }
    ∷ record { number = 58; text = codes "TALINK" }
    ∷ record { number = 59; text = codes "CDS" }
    ∷ record { number = 60; text = codes "CDNSKEY" }
    ∷ record { number = 61; text = codes "OPENPGPKEY" }
    ∷ record { number = 62; text = codes "CSYNC" }
    ∷ record { number = 63; text = codes "ZONEMD" }
    ∷ record { number = 64; text = codes "SVCB" }
    ∷ record { number = 65; text = codes "HTTPS" }
    ∷ record { number = 66; text = codes "DSYNC" }
    ∷ record { number = 99; text = codes "SPF" }
    ∷ record { number = 104; text = codes "NID" }
    ∷ record { number = 105; text = codes "L32" }
    ∷ record { number = 106; text = codes "L64" }
    ∷ record { number = 107; text = codes "LP" }
    ∷ record { number = 108; text = codes "EUI48" }
    ∷ record { number = 109; text = codes "EUI64" }
    ∷ record { number = 256; text = codes "URI" }
    ∷ record { number = 257; text = codes "CAA" }
    ∷ record { number = 258; text = codes "AVC" }
    ∷ record { number = 260; text = codes "AMTRELAY" }
    ∷ record { number = 261; text = codes "RESINFO" }
    ∷ record { number = 262; text = codes "WALLET" }
    ∷ record { number = 32768; text = codes "TA" }
    ∷ record { number = 32769; text = codes "DLV" }
    ∷ []

-- a type by its word; one that has none is `TYPE` and its number (RFC 3597 section 5)
abbrev pub type_word : ℕ → List ℕ
type_word t = unwrap_or (word_of t further_words) (type_text t)

-- types, each with a space before it
abbrev pub types_text : List RecordType → List ℕ
types_text = flat_map (λ t. 32 ∷ type_word t.0)
