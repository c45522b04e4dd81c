-- Texts of types computed from the definitions
use Rattle.std.proofs.Common.{◌≡◌, ◌++◌, refl, ap, lit<}
use Rattle.std.specs.Prelude.{Some, None, codes}
use Rattle.std.proofs.lemmas.Fmt.{decimal_digit}
use Rattle.zone_proto.specs.Types as types
use Rattle.zone_proto.specs.TypeText.{type_text, type_of_text, class_text}

printed_word : type_text types.NSEC3PARAM ≡ codes "NSEC3PARAM"
printed_word = refl

printed_number : type_text 9 ≡ codes "TYPE9"
printed_number = ap (λ ds. codes "TYPE" ++ ds) (decimal_digit 9 (lit< tt))

read_word : type_of_text (codes "ANAME") ≡ Some 65305
read_word = refl

read_number : type_of_text (codes "TYPE65535") ≡ Some 65535
read_number = refl

read_number_of_word : type_of_text (codes "TYPE1") ≡ Some types.A
read_number_of_word = refl

leading_zeros : type_of_text (codes "TYPE000000028") ≡ Some types.AAAA
leading_zeros = refl

too_great : type_of_text (codes "TYPE65536") ≡ None
too_great = refl

no_digits : type_of_text (codes "TYPE") ≡ None
no_digits = refl

signed_number : type_of_text (codes "TYPE+5") ≡ None
signed_number = refl

lower_case : type_of_text (codes "aaaa") ≡ None
lower_case = refl

lower_case_number : type_of_text (codes "type5") ≡ None
lower_case_number = refl

longer_word : type_of_text (codes "MXX") ≡ None
longer_word = refl

printed_class : class_text 4 ≡ codes "CLASS4"
printed_class = ap (λ ds. codes "CLASS" ++ ds) (decimal_digit 4 (lit< tt))
