-- The hash functions that a code is made by (RFC 8945 section 6, FIPS 180-4)
use Rattle.std.specs.Prelude.{ℕ, List}
use Rattle.sha1.specs.Sha1.{sha1}
use Rattle.sha2.specs.Sha256.{sha224, sha256}
use Rattle.sha2.specs.Sha512.{sha384, sha512}
use Rattle.message_hmac.specs.declared.algorithm.Algorithm.{Algorithm}
use Rattle.message_hmac.specs.declared.algorithm.Algorithm.TheVariants as by
use Rattle.message_hmac.specs.Hmac.{hmac}

-- the digest of octets
abbrev pub hash_by : Algorithm → List ℕ → List ℕ
hash_by by.Sha1 = sha1
hash_by by.Sha224 = sha224
hash_by by.Sha256 = sha256
hash_by by.Sha384 = sha384
hash_by by.Sha512 = sha512

-- how many octets a block has (FIPS 180-4 section 1)
abbrev pub block_by : Algorithm → ℕ
block_by by.Sha1 = 64
block_by by.Sha224 = 64
block_by by.Sha256 = 64
block_by by.Sha384 = 128
block_by by.Sha512 = 128

-- how many octets a digest has
abbrev pub size_by : Algorithm → ℕ
size_by by.Sha1 = 20
size_by by.Sha224 = 28
size_by by.Sha256 = 32
size_by by.Sha384 = 48
size_by by.Sha512 = 64

-- the code of a text under a key (RFC 2104)
unfoldable pub mac_by : Algorithm → List ℕ → List ℕ → List ℕ
mac_by algorithm key text = hmac (hash_by algorithm) (block_by algorithm) key text
