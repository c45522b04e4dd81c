-- Names as data have them, in wire form (RFC 1035 section 3.1)
use Rattle.std.specs.Prelude.{ℕ, List, [], ◌∷◌, Bool, true, false, ◌&&◌, length, nat_le, filter}
use Rattle.std.specs.List.{flat_map}
use Rattle.zone_proto.specs.Names.{Name}
use Rattle.zone_proto.specs.Text.{label_text}
use Rattle.zone_file_writer.specs.Strings.{strings_of}

abbrev pub has_octets : List ℕ → Bool
has_octets [] = false
has_octets (b ∷ s) = true

abbrev pub is_end : List ℕ → Bool
is_end [] = true
is_end (b ∷ s) = false

-- labels of 1 to 63 octets, and behind them one without octets, with which a name ends
abbrev pub are_labels : List (List ℕ) → Bool
are_labels [] = false
are_labels ([] ∷ []) = true
are_labels ([] ∷ s ∷ ss) = false
are_labels ((b ∷ l) ∷ ss) = nat_le (length (b ∷ l)) 63 && are_labels ss

abbrev pub is_name : List (List ℕ) × List ℕ → Bool
is_name t = is_end t.1 && are_labels t.0

-- octets that are the wire form of a name
abbrev pub is_wire_form : List ℕ → Bool
is_wire_form os = nat_le (length os) 255 && is_name (strings_of os)

-- the labels, without the one with which the name ends
abbrev pub labels_of : List ℕ → Name
labels_of os = filter has_octets (strings_of os).0

-- labels, each with a dot behind it; nothing of one without octets
abbrev pub part_text : List ℕ → List ℕ
part_text [] = []
part_text (b ∷ l) = label_text (b ∷ l)

abbrev pub parts_text : List ℕ → List ℕ
parts_text os = flat_map part_text (strings_of os).0
