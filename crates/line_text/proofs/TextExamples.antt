-- Printed texts, computed by their definitions
use Rattle.std.proofs.Common.{◌≡◌, [], ◌∷◌, codes, refl}
use Rattle.std.specs.Fmt.{digits}
use Rattle.zone_proto.specs.declared.rdata.RData.TheVariants as V
use Rattle.line_text.specs.Hex.{hex_text}
use Rattle.line_text.specs.Data.{data_text}
use Rattle.line_text.specs.Records.{record_text, without_class}
use Rattle.line_text.specs.Words.{words}

hex : hex_text (0 ∷ 10 ∷ 255 ∷ []) ≡ codes "000aff"
hex = refl

no_hex : hex_text [] ≡ codes "-"
no_hex = refl

ipv6 : data_text (V.AAAA (32 ∷ 1 ∷ 13 ∷ 184 ∷ 0 ∷ 0 ∷ 0 ∷ 0 ∷ 0 ∷ 0 ∷ 0 ∷ 0 ∷ 0 ∷ 0 ∷ 0 ∷ 10 ∷ [])) ≡ codes "2001:0db8:0000:0000:0000:0000:0000:000a"
ipv6 = refl

mail : data_text (V.MX (record { preference = 10; exchange = (codes "mail") ∷ (codes "Example") ∷ [] })) ≡ codes "10 mail.Example."
unfolding digits
mail = refl

address : record_text (record { name = (codes "www") ∷ (codes "example") ∷ []; dns_class = record { 0 = 1 }; ttl = 60; rdata = V.A (192 ∷ 0 ∷ 2 ∷ 1 ∷ []) }) ≡ codes "www.example. 60 IN A 192.0.2.1"
unfolding digits
address = refl

-- the words that are read, without the class
address_words : without_class (words (codes "www.example. 60 IN A 192.0.2.1")) ≡ codes "www.example." ∷ codes "60" ∷ codes "A" ∷ codes "192.0.2.1" ∷ []
address_words = refl
