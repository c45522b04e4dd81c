-- Texts in base32hex, computed by their definition: those of RFC 4648 section 10, in lower case and without padding
use Rattle.std.proofs.Common.{◌≡◌, [], codes, refl}
use Rattle.zone_proto.specs.Base32.{base32_text}

no_octets : base32_text [] ≡ []
no_octets = refl

one_octet : base32_text (codes "f") ≡ codes "co"
one_octet = refl

two_octets : base32_text (codes "fo") ≡ codes "cpng"
two_octets = refl

three_octets : base32_text (codes "foo") ≡ codes "cpnmu"
three_octets = refl

four_octets : base32_text (codes "foob") ≡ codes "cpnmuog"
four_octets = refl

five_octets : base32_text (codes "fooba") ≡ codes "cpnmuoj1"
five_octets = refl

six_octets : base32_text (codes "foobar") ≡ codes "cpnmuoj1e8"
six_octets = refl
