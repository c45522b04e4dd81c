-- Examples that the definitions of names compute, so that a wrong definition is refused.
use Rattle.std.proofs.Common.{◌≡◌, ℕ, List, [], ◌∷◌, ◌++◌, refl, Some, None, true, false}
use Rattle.std.specs.Prelude.{codes, replicate, unwrap_or}
use Rattle.std.specs.declared.cmp.Ordering.TheVariants.{Less, Equal}
use Rattle.zone_proto.specs.declared.error.ProtoError.TheVariants.{EmptyLabel, LabelTooLong, NameTooLong, BadText}
use Rattle.zone_proto.specs.Names.{Name, Label, caseless_cmp, is_above, is_at_or_above, lower, suffixes, wildcard_of, wire_form}
use Rattle.zone_proto.specs.Faults.{fault_of, IsTextFault, no_labels, no_name}
use Rattle.zone_proto.specs.Parse.{labels_of_text}
use Rattle.zone_proto.specs.Text.{name_text}
use Rattle.zone_proto.proofs.Texts.TextForms.{read_form, bad_form}

-- the name of a text, or the root
abbrev name : List ℕ → Name
name s = unwrap_or (labels_of_text s) []

-- ---- the example of RFC 4034 section 6.1, ascending

abbrev names : List Name
names =
    name (codes "example.") ∷ name (codes "a.example.") ∷ name (codes "yljkjljk.a.example.") ∷ name (codes "Z.a.example.")
    ∷ name (codes "zABC.a.EXAMPLE.") ∷ name (codes "z.example.") ∷ name (92 ∷ codes "001.z.example.") ∷ name (codes "*.z.example.")
    ∷ name (92 ∷ codes "200.z.example.") ∷ []

labels_read : names ≡
    (codes "example" ∷ [])
    ∷ (codes "a" ∷ codes "example" ∷ [])
    ∷ (codes "yljkjljk" ∷ codes "a" ∷ codes "example" ∷ [])
    ∷ (codes "Z" ∷ codes "a" ∷ codes "example" ∷ [])
    ∷ (codes "zABC" ∷ codes "a" ∷ codes "EXAMPLE" ∷ [])
    ∷ (codes "z" ∷ codes "example" ∷ [])
    ∷ ((1 ∷ []) ∷ codes "z" ∷ codes "example" ∷ [])
    ∷ (codes "*" ∷ codes "z" ∷ codes "example" ∷ [])
    ∷ ((200 ∷ []) ∷ codes "z" ∷ codes "example" ∷ [])
    ∷ []
labels_read = refl

ascending : (caseless_cmp (name (codes "example.")) (name (codes "a.example.")) ≡ Less)
    × (caseless_cmp (name (codes "a.example.")) (name (codes "yljkjljk.a.example.")) ≡ Less)
    × (caseless_cmp (name (codes "yljkjljk.a.example.")) (name (codes "Z.a.example.")) ≡ Less)
    × (caseless_cmp (name (codes "Z.a.example.")) (name (codes "zABC.a.EXAMPLE.")) ≡ Less)
    × (caseless_cmp (name (codes "zABC.a.EXAMPLE.")) (name (codes "z.example.")) ≡ Less)
    × (caseless_cmp (name (codes "z.example.")) (name (92 ∷ codes "001.z.example.")) ≡ Less)
    × (caseless_cmp (name (92 ∷ codes "001.z.example.")) (name (codes "*.z.example.")) ≡ Less)
    × (caseless_cmp (name (codes "*.z.example.")) (name (92 ∷ codes "200.z.example.")) ≡ Less)
ascending = (refl, refl, refl, refl, refl, refl, refl, refl)

case_ignored : caseless_cmp (name (codes "A.Example.")) (name (codes "a.eXAMPLE")) ≡ Equal
case_ignored = refl

-- ---- texts that are read and printed

dot_quoted : labels_of_text (codes "a" ++ 92 ∷ codes ".b.example.") ≡ Some (codes "a.b" ∷ codes "example" ∷ [])
dot_quoted = refl

dot_printed : name_text (codes "a.b" ∷ codes "example" ∷ []) ≡ codes "a" ++ 92 ∷ codes "046b.example."
dot_printed = refl

decimal : labels_of_text (92 ∷ codes "065") ≡ Some (codes "A" ∷ [])
decimal = refl

root_read : labels_of_text (codes ".") ≡ Some []
root_read = refl

root_printed : name_text [] ≡ codes "."
root_printed = refl

final_dot : labels_of_text (codes "a.example") ≡ labels_of_text (codes "a.example.")
final_dot = refl

-- ---- texts that are refused

empty_text : IsTextFault [] BadText
empty_text = no_labels (bad_form [] refl) refl

over_255 : IsTextFault (92 ∷ codes "256.") BadText
over_255 = no_labels (bad_form (92 ∷ codes "256.") refl) refl

no_digit : IsTextFault (92 ∷ codes "1a2.") BadText
no_digit = no_labels (bad_form (92 ∷ codes "1a2.") refl) refl

broken_off : IsTextFault (codes "a" ++ 92 ∷ codes "06") BadText
broken_off = no_labels (bad_form (codes "a" ++ 92 ∷ codes "06") refl) refl

blank : IsTextFault (codes "a b.") BadText
blank = no_labels (bad_form (codes "a b.") refl) refl

empty_label : IsTextFault (codes "a..b.") EmptyLabel
empty_label = no_name (codes "a" ∷ [] ∷ codes "b" ∷ []) (read_form (codes "a..b.") (codes "a" ∷ [] ∷ codes "b" ∷ []) refl) refl

-- bad text is found first, wherever it stands
blank_after_empty_label : IsTextFault (codes "a..b c.") BadText
blank_after_empty_label = no_labels (bad_form (codes "a..b c.") refl) refl

-- ---- lengths

abbrev label_of : ℕ → Label
label_of n = replicate n 97

label_63 : fault_of (label_of 63 ∷ []) ≡ None
label_63 = refl

label_64 : fault_of (label_of 64 ∷ []) ≡ Some LabelTooLong
label_64 = refl

name_255 : fault_of (label_of 63 ∷ label_of 63 ∷ label_of 63 ∷ label_of 61 ∷ []) ≡ None
name_255 = refl

name_256 : fault_of (label_of 63 ∷ label_of 63 ∷ label_of 63 ∷ label_of 62 ∷ []) ≡ Some NameTooLong
name_256 = refl

-- the first bad label from the left is named, and the length of the whole last
long_before_empty : fault_of (label_of 64 ∷ [] ∷ []) ≡ Some LabelTooLong
long_before_empty = refl

-- ---- the wire form, and the tree

wire : wire_form (lower (codes "A" ∷ codes "Example" ∷ [])) ≡ 0x01 ∷ 0x61 ∷ 0x07 ∷ 0x65 ∷ 0x78 ∷ 0x61 ∷ 0x6d ∷ 0x70 ∷ 0x6c ∷ 0x65 ∷ 0x00 ∷ []
wire = refl

above : is_above (name (codes "example.")) (name (codes "a.b.example.")) ≡ true
above = refl

not_above_itself : is_above (name (codes "example.")) (name (codes "example.")) ≡ false
not_above_itself = refl

at_itself : is_at_or_above (name (codes "example.")) (name (codes "example.")) ≡ true
at_itself = refl

-- a name that ends in the same octets, but not in the same labels
not_at_part_of_label : is_at_or_above (name (codes "example.")) (name (codes "anexample.")) ≡ false
not_at_part_of_label = refl

all_suffixes : suffixes (name (codes "a.b.")) ≡ name (codes "a.b.") ∷ name (codes "b.") ∷ [] ∷ []
all_suffixes = refl

wildcard : wildcard_of (name (codes "a.b.")) ≡ name (codes "*.b.")
wildcard = refl
