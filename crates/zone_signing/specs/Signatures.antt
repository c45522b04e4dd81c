-- The signatures that a zone's signers make of a set
use Rattle.std.specs.Prelude.{ℕ, Bool, ◌&&◌, nat_le, cond, List, [], Option, option_map, filter_map}
use Rattle.zone_proto.specs.declared.rdata.RData.TheVariants as V
use Rattle.zone_proto.specs.declared.rdata.signing.RRSIG.{RRSIG}
use Rattle.zone_proto.specs.declared.record.Record.{Record}
use Rattle.zone_proto.specs.Sets.{RRset, record_of}
use Rattle.zone_proto.specs.Signing.{SignedPart, signed_part}
use Rattle.zone_proto.specs.Types.{IN}

-- the last second of the year 9999, in seconds since 1970: no signature is made past it
abbrev pub last_moment : ℕ
last_moment = 253402300799

module _ {S : Type 0} (signature_of : S → SignedPart → ℕ → ℕ → Option RRSIG) (now : ℕ) where
  -- a signer's signature of a set at a moment as a record, of the set's owner and TTL and of class IN; none if it
  -- doesn't sign
  abbrev pub signature : RRset → S → Option Record
  signature s signer = option_map (λ r. record_of s (V.RRSIG r)) (signature_of signer (signed_part s) IN now)

  -- the signatures of those signers that sign, in their order (RFC 4034 section 3)
  abbrev pub signatures : List S → RRset → List Record
  signatures signers s = filter_map (signature s) signers

  -- the same for a set that an answer makes: none if DNSSEC isn't asked for, nor past that moment
  abbrev pub answer_signatures : Bool → List S → RRset → List Record
  answer_signatures signed signers s = cond (signed && nat_le now last_moment) (signatures signers s) []
