-- The order of keys in the words of orders, and the test that it gives
use Rattle.std.proofs.Common.{◌≡◌, true, refl, ap, Ordering, Less, Equal, Greater}
use Rattle.std.specs.Ordering.{is_eq}
use Rattle.std.proofs.lemmas.Cmp.{tied_itself}
use Rattle.zone_proto.specs.Keys.{key_cmp, key_eq}
use Rattle.zone_proto.specs.declared.rr_key.RrKey.{RrKey}
use Rattle.zone_proto.proofs.Ordering.KeyLaws.{key_cmp_total, exact_keys}

pub equal_of : (o : Ordering) → is_eq o ≡ true → o ≡ Equal
equal_of Less h = cc
equal_of Equal h = refl
equal_of Greater h = cc

-- keys that are the same are identical
pub key_same : (j k : RrKey) → key_eq j k ≡ true → j ≡ k
key_same j k h = exact_keys j k (equal_of (key_cmp j k) h)

pub key_itself : (k : RrKey) → key_eq k k ≡ true
key_itself k = ap is_eq (tied_itself key_cmp_total k)
