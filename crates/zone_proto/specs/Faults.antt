-- Which fault keeps labels from being a name, and a text from being read
use Rattle.std.specs.Prelude.{◌≡◌, ◌⊎◌, ℕ, List, [], ◌∷◌, length, nat_lt, ◌==◌, Option, Some, None, if◌then◌else◌}
use Rattle.zone_proto.specs.declared.error.ProtoError.{ProtoError}
use Rattle.zone_proto.specs.declared.error.ProtoError.TheVariants.{EmptyLabel, LabelTooLong, NameTooLong, BadText, Memory}
use Rattle.zone_proto.specs.Names.{Name, wire_length}
use Rattle.zone_proto.specs.TextForm.{IsNameText}

-- from the left, the first label that is empty or has more than 63 octets (RFC 1035 section 2.3.4)
abbrev pub label_fault : Name → Option ProtoError
label_fault [] = None
label_fault (l ∷ ls) = if length l == 0 then Some EmptyLabel else (if nat_lt 63 (length l) then Some LabelTooLong else label_fault ls)

-- a wire form of more than 255 octets (RFC 1035 section 2.3.4)
abbrev pub length_fault : Name → Option ProtoError
length_fault ls = if nat_lt 255 (wire_length ls) then Some NameTooLong else None

abbrev pub first_of_faults : Option ProtoError → Option ProtoError → Option ProtoError
first_of_faults None g = g
first_of_faults (Some e) g = Some e

-- the labels are looked at first, and then the length of the whole; None if they make a name
abbrev pub fault_of : Name → Option ProtoError
fault_of ls = first_of_faults (label_fault ls) (length_fault ls)

-- a refusal is the fault if there is one, or lack of memory
abbrev pub IsFaultOrMemory : Option ProtoError → ProtoError → Type 0
IsFaultOrMemory f e = (e ≡ Memory) ⊎ (f ≡ Some e)

-- the text is of no labels' form
abbrev pub IsBadText : List ℕ → Type 0
IsBadText s = (ls : Name) → ¬ IsNameText s ls

-- why a text is not read: it is of no labels' form, which is bad text, or the labels of whose form it is have a fault
pub data IsTextFault (s : List ℕ) (e : ProtoError) : Type 0 where
  no_labels : IsBadText s → e ≡ BadText → IsTextFault s e
  no_name : (ls : Name) → IsNameText s ls → fault_of ls ≡ Some e → IsTextFault s e
