-- Data in canonical form, and the records of a set in canonical order (RFC 4034 sections 6.2 and 6.3, RFC 6840 section 5.1)
use Rattle.std.specs.Prelude.{ℕ, ◌+◌, ◌==◌, ◌||◌, Bool, List, [], ◌∷◌, ◌++◌, map, fold, take, drop, slice_index, length, nat_le, Option, Some, None, if◌then◌else◌}
use Rattle.std.specs.Char.{to_ascii_lowercase}
use Rattle.std.specs.Ordering.{match_ordering}
use Rattle.zone_proto.specs.Names.{lower, octets_cmp}
use Rattle.zone_proto.specs.declared.record.Record.{Record}
use Rattle.zone_proto.specs.declared.rdata.start_of_authority.SOA.{SOA as SoaData}
use Rattle.zone_proto.specs.declared.rdata.RData.{RData}
use Rattle.zone_proto.specs.declared.rdata.RData.TheVariants as V
use Rattle.message_writing.specs.PlainText.{plain_text}

-- ---- the data of one record

abbrev pub canonical_soa : SoaData → SoaData
canonical_soa s = record s { mname = lower s.mname; rname = lower s.rname }

-- types whose data are names alone, up to the end: MD, MF, MB, MG, MR, PTR, MINFO, RP, DNAME
abbrev pub is_names : ℕ → Bool
is_names t = t == 3 || (t == 4 || (t == 7 || (t == 8 || (t == 9 || (t == 12 || (t == 14 || (t == 17 || t == 39)))))))

-- types whose data are a number of 16 bits, and then names: AFSDB, RT, PX, KX
abbrev pub is_numbered_names : ℕ → Bool
is_numbered_names t = t == 18 || (t == 21 || (t == 26 || t == 36))

-- where a string that begins at a place ends: an octet counts its octets
abbrev pub past_string : List ℕ → ℕ → ℕ
past_string octets place = if nat_le (length octets) place then place else place + (1 + slice_index octets place)

-- NAPTR has two numbers of 16 bits and three strings before its name
abbrev pub strings_length : List ℕ → ℕ
strings_length octets = past_string octets (past_string octets (past_string octets 4))

-- where the names begin in the data of a type without a case of its own, which go to the end; none if no name is put in
-- lower case
abbrev pub names_from : ℕ → List ℕ → Option ℕ
names_from t octets =
    if is_names t then Some 0
    else (if is_numbered_names t then Some 2
    else (if t == 35 then Some (strings_length octets) else None))

-- octets, of which those from a place on are in lower case. The lengths of labels are no letters
abbrev pub lowered_from : ℕ → List ℕ → List ℕ
lowered_from start octets = take start octets ++ map to_ascii_lowercase (drop start octets)

abbrev pub with_names_lowered : Option ℕ → List ℕ → List ℕ
with_names_lowered None octets = octets
with_names_lowered (Some start) octets = lowered_from start octets

-- the data in wire form, with the names in lower case in the types of RFC 4034 section 6.2. NSEC isn't among them (RFC 6840 section 5.1), and no signature is signed
abbrev pub canonical_octets : RData → List ℕ
canonical_octets (V.NS n) = plain_text (V.NS (lower n))
canonical_octets (V.CNAME n) = plain_text (V.CNAME (lower n))
canonical_octets (V.SOA s) = plain_text (V.SOA (canonical_soa s))
canonical_octets (V.MX d) = plain_text (V.MX (record d { exchange = lower d.exchange }))
canonical_octets (V.SRV d) = plain_text (V.SRV (record d { target = lower d.target }))
canonical_octets (V.Other d) = with_names_lowered (names_from d.record_type.0 d.octets) d.octets
canonical_octets d = plain_text d

-- ---- the records of a set

-- octets among others that ascend, unless they are there
abbrev pub with_octets : List ℕ → List (List ℕ) → List (List ℕ)
with_octets x [] = x ∷ []
with_octets x (y ∷ ys) = match_ordering (octets_cmp y x) (y ∷ with_octets x ys) (y ∷ ys) (x ∷ y ∷ ys)

-- octet strings, ascending, each once
abbrev pub in_order : List (List ℕ) → List (List ℕ)
in_order forms = fold (λ set x. with_octets x set) [] forms

-- the canonical forms of the data of a set
abbrev pub canonical_set : List Record → List (List ℕ)
canonical_set records = in_order (map (λ (r : Record). canonical_octets r.rdata) records)
