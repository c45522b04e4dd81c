-- The questions of a secondary as octets (RFC 1035 section 4.1, RFC 1995 section 3)
use Rattle.std.specs.Prelude.{ℕ, ◌/◌, ◌%◌, List, [], ◌∷◌, ◌++◌}
use Rattle.zone_proto.specs.Names.{Name, lower, wire_form}
use Rattle.zone_secondary.specs.declared.secondary.Question.{Question}
use Rattle.zone_secondary.specs.declared.secondary.Question.TheVariants.{Soa, Changes, Zone}

-- the type that is asked for: SOA, IXFR, AXFR
abbrev pub type_asked : Question → ℕ
type_asked Soa = 6
type_asked (Changes held) = 251
type_asked Zone = 252

-- numbers of 16 and of 32 bits, the high octet first (RFC 1035 section 2.3.2)
abbrev pub short_text : ℕ → List ℕ
short_text n = (n / 256) ∷ (n % 256) ∷ []

abbrev pub long_text : ℕ → List ℕ
long_text n = short_text (n / 65536) ++ short_text (n % 65536)

-- how many records the authority section has
abbrev pub authorities_asked : Question → ℕ
authorities_asked Soa = 0
authorities_asked (Changes held) = 1
authorities_asked Zone = 0

-- A question for changes has an SOA record with the serial of the version that is held (RFC 1995 section 3). Its owner is that of the question, at
-- the offset 12; its names are the root and its intervals 0, since nothing but the serial is looked at.
abbrev pub authority_text : Question → List ℕ
authority_text Soa = []
authority_text (Changes held) =
    192 ∷ 12 ∷ 0 ∷ 6 ∷ 0 ∷ 1 ∷ 0 ∷ 0 ∷ 0 ∷ 0 ∷ 0 ∷ 22 ∷ 0 ∷ 0 ∷ [] ++ long_text held ++ 0 ∷ 0 ∷ 0 ∷ 0 ∷ 0 ∷ 0 ∷ 0 ∷ 0 ∷ 0 ∷ 0 ∷ 0 ∷ 0 ∷ 0 ∷ 0 ∷ 0 ∷ 0 ∷ []
authority_text Zone = []

-- a standard query, without RD: the identifier, the counts, the question of class IN, and the authority section
abbrev pub query_text : ℕ → Name → Question → List ℕ
query_text id origin question =
    short_text id ++ 0 ∷ 0 ∷ 0 ∷ 1 ∷ 0 ∷ 0 ∷ 0 ∷ authorities_asked question ∷ 0 ∷ 0 ∷ [] ++ wire_form (lower origin)
    ++ short_text (type_asked question) ++ 0 ∷ 1 ∷ [] ++ authority_text question
