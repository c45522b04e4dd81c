-- What is wrong with a ZONEMD record (RFC 8976 section 4)
use Rattle.std.specs.Prelude.{ℕ, ◌==◌, ◌&&◌, ◌+◌, ◌*◌, Bool, false, cond, List, ◌∷◌, length, nat_lt, count_by, Option, Some, None, not}
use Rattle.std.specs.Cmp.Lexicographic.{pointwise}
use Rattle.zone_proto.specs.declared.rdata.RData.{RData}
use Rattle.zone_proto.specs.declared.rdata.RData.TheVariants as V
use Rattle.zone_proto.specs.declared.record.Record.{Record}
use Rattle.zone_proto.specs.Names.{Name}
use Rattle.zone_map.specs.Zones.{Sets}
use Rattle.zone_digest.specs.declared.digests.DigestAlgorithm.{DigestAlgorithm}
use Rattle.zone_digest.specs.declared.digests.DigestAlgorithm.TheVariants.{Sha384, Sha512}
use Rattle.zone_digest.specs.declared.verifying.DigestFault.{DigestFault}
use Rattle.zone_digest.specs.declared.verifying.DigestFault.TheVariants.{OtherSerial, Repeated, OtherLength, OtherDigest}
use Rattle.zone_digest.specs.ZoneDigests.{digest_length, zone_digest}

-- the number of four octets, the highest first
abbrev pub number_of : ℕ → ℕ → ℕ → ℕ → ℕ
number_of a b c d = (a * 256 + b) * 65536 + (c * 256 + d)

-- the algorithms that are known here, by the scheme SIMPLE, which is number 1
abbrev pub by_number : ℕ → Option DigestAlgorithm
by_number number = cond (number == 1) (Some Sha384) (cond (number == 2) (Some Sha512) None)

abbrev pub algorithm_of : ℕ → ℕ → Option DigestAlgorithm
algorithm_of scheme number = cond (scheme == 1) (by_number number) None

-- octets are those of a ZONEMD record of this scheme and algorithm
abbrev pub are_of_kind : ℕ → ℕ → List ℕ → Bool
are_of_kind scheme number (_ ∷ _ ∷ _ ∷ _ ∷ s ∷ n ∷ _) = (s == scheme) && (n == number)
are_of_kind scheme number _ = false

abbrev pub is_of_kind : ℕ → ℕ → RData → Bool
is_of_kind scheme number (V.Other d) = are_of_kind scheme number d.octets
is_of_kind scheme number _ = false

-- several records of a set have this scheme and algorithm
abbrev pub is_repeated : List Record → ℕ → ℕ → Bool
is_repeated set scheme number = nat_lt 1 (count_by (λ (r : Record). is_of_kind scheme number r.rdata) set)

-- a digest by an algorithm, where the zone has this one
abbrev pub length_or_digest : DigestAlgorithm → List ℕ → List ℕ → Option DigestFault
length_or_digest algorithm digest made = cond (not (length digest == digest_length algorithm)) (Some OtherLength) (cond (pointwise ◌==◌ made digest) None (Some OtherDigest))

abbrev pub fault_by : Option DigestAlgorithm → Bool → List ℕ → Name → Sets → Option DigestFault
fault_by None repeated digest origin m = None
fault_by (Some algorithm) repeated digest origin m = cond repeated (Some Repeated) (length_or_digest algorithm digest (zone_digest algorithm origin m))

-- the first that is wrong: another serial than the SOA's, a second record of the scheme and algorithm, another length, another digest
abbrev pub digest_fault : Name → Sets → (serial : ℕ) → List Record → List ℕ → Option DigestFault
digest_fault origin m serial set (a ∷ b ∷ c ∷ d ∷ scheme ∷ number ∷ digest) =
    cond (not (number_of a b c d == serial)) (Some OtherSerial) (fault_by (algorithm_of scheme number) (is_repeated set scheme number) digest origin m)
digest_fault origin m serial set _ = Some OtherLength
