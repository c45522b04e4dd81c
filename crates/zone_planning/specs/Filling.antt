-- Signatures as they are handed over, and put into the places of blank ones
use Rattle.std.specs.Prelude.{ℕ, ◌+◌, ◌==◌, Bool, true, nat_lt, cond, List, [], ◌∷◌, ◌++◌, length, drop, filter_map, slice_get, Option, Some, None, is_some}
use Rattle.std.specs.Option.{option_or, option_map_or}
use Rattle.zone_proto.specs.declared.record.Record.{Record}
use Rattle.zone_proto.specs.declared.rdata.RData.{RData}
use Rattle.zone_proto.specs.declared.rdata.RData.TheVariants as V
use Rattle.zone_proto.specs.declared.rdata.signing.DNSKEY.{DNSKEY}
use Rattle.zone_map.specs.Zones.{Sets}
use Rattle.message_writing.specs.DataText.{short_text}
use Rattle.zone_keys.specs.Lengths.{signature_length}
use Rattle.zone_planning.specs.Blank.{blank_number}
use Rattle.zone_planning.specs.declared.fault.FinishFault.{FinishFault}
use Rattle.zone_planning.specs.declared.fault.FinishFault.TheVariants as fault

-- signatures one after the other, each behind two octets that count its octets
abbrev pub signatures_text : List (List ℕ) → List ℕ
signatures_text [] = []
signatures_text (s ∷ ss) = short_text (length s) ++ (s ++ signatures_text ss)

-- ---- which places are blank

-- the numbers of the keys that are to make the blank signatures among these, in order
abbrev pub numbers_in : List Record → List ℕ
numbers_in rs = filter_map (λ (r : Record). blank_number r.rdata) rs

-- those of all sets of a zone, in the order of the keys
abbrev pub blanks : Sets → List ℕ
blanks [] = []
blanks (e ∷ es) = numbers_in e.1.signatures ++ blanks es

-- ---- what is put there

abbrev pub filled_data : RData → List ℕ → RData
filled_data (V.RRSIG rrsig) octets = V.RRSIG (record rrsig { signature = octets })
filled_data d octets = d

-- a signature in place of a blank one
abbrev pub filled_record : Record → List ℕ → Record
filled_record r octets = record r { rdata = filled_data r.rdata octets }

-- the first of the signatures there; the record as it was where there is none
abbrev pub filled_first : Record → List (List ℕ) → Record
filled_first r [] = r
filled_first r (s ∷ ss) = filled_record r s

-- signatures in the places of the blank ones, one after the other, as many as there are; what isn't blank stays
abbrev pub filled_list : List Record → List (List ℕ) → List Record
filled_list [] signatures = []
filled_list (r ∷ rs) signatures =
    cond (is_some (blank_number r.rdata)) (filled_first r signatures ∷ filled_list rs (drop 1 signatures)) (r ∷ filled_list rs signatures)

-- the same for each set of a zone, in the order of the keys
abbrev pub filled : Sets → List (List ℕ) → List (List Record)
filled [] signatures = []
filled (e ∷ es) signatures = filled_list e.1.signatures signatures ∷ filled es (drop (length (numbers_in e.1.signatures)) signatures)

-- ---- why they aren't put there

-- a signature is as long as those of a key, where its algorithm tells that
abbrev pub is_as_long : DNSKEY → List ℕ → Bool
is_as_long key signature = option_map_or (λ count. length signature == count) (signature_length key) true

-- what is wrong with a signature of this number: the number that stands in its place is that of no key, or it isn't as long as those of that key
abbrev pub signature_fault : List DNSKEY → ℕ → List ℕ → ℕ → Option FinishFault
signature_fault keys number signature place =
    option_map_or (λ (key : DNSKEY). cond (is_as_long key signature) None (Some (fault.WrongLength place))) (slice_get keys number) (Some (fault.UnknownKey place))

-- what is wrong with the first of signatures with which something is, where the first of all has this number
abbrev pub first_fault : List DNSKEY → ℕ → List ℕ → List (List ℕ) → Option FinishFault
first_fault keys place [] signatures = None
first_fault keys place (n ∷ ns) [] = None
first_fault keys place (n ∷ ns) (s ∷ ss) = option_or (signature_fault keys n s place) (first_fault keys (place + 1) ns ss)

-- why signatures aren't put into a zone with these keys: there are fewer than blank ones, or more, or something is wrong with one
abbrev pub finish_fault : List DNSKEY → Sets → List (List ℕ) → Option FinishFault
finish_fault keys m signatures =
    cond (nat_lt (length signatures) (length (blanks m))) (Some fault.TooFew)
    (cond (nat_lt (length (blanks m)) (length signatures)) (Some fault.TooMany)
    (first_fault keys 0 (blanks m) signatures))
