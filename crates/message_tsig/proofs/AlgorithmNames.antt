-- The names of the algorithms are those of their wire forms
use Rattle.std.proofs.Common.{◌≡◌, sym, rules}
use Rattle.zone_proto.specs.Names.{Name, wire_form}
use Rattle.zone_proto.specs.WireForms.{HaveOctets}
use Rattle.message_hmac.specs.declared.algorithm.Algorithm.{Algorithm}
use Rattle.message_hmac.specs.declared.algorithm.Algorithm.TheVariants.{Sha1, Sha224, Sha256, Sha384, Sha512}
use Rattle.message_reading.proofs.NamesSpelled.{one_spelling}
use Rattle.message_tsig.specs.Keys.{algorithm_name}

have_octets : (a : Algorithm) → HaveOctets (algorithm_name a)
have_octets Sha1 = search rules
have_octets Sha224 = search rules
have_octets Sha256 = search rules
have_octets Sha384 = search rules
have_octets Sha512 = search rules

pub only_name : (a : Algorithm) (n : Name) → wire_form (algorithm_name a) ≡ wire_form n → n ≡ algorithm_name a
only_name a n e = sym (one_spelling (algorithm_name a) n (have_octets a) e)
