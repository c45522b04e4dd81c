-- The signers of rows
use Rattle.std.specs.Prelude.{ℕ, Bool, true, false, ◌==◌, ◌%◌, if◌then◌else◌, Option, None, Some}
use Rattle.zone_proto.specs.declared.rdata.signing.DNSKEY.{DNSKEY}
use Rattle.zone_proto.specs.declared.rdata.signing.RRSIG.{RRSIG}
use Rattle.zone_proto.specs.Signing.{SignedPart}
use Rattle.zone_store.specs.DemoSigners.{Demo, demo_key, demo_signature}
use Rattle.library_rows_arguments.specs.declared.manner.Manner.{Manner}
use Rattle.library_rows_arguments.specs.declared.manner.Manner.TheVariants as M

-- the key of a signer, by its manner and the demonstration signer that it stands on
abbrev pub key_by : Manner → Demo → Option DNSKEY
key_by M.Keyless signer = None
key_by _ signer = Some (demo_key signer)

-- which types a signer signs
abbrev pub signs_type : Manner → ℕ → Bool
signs_type (M.Whole _) t = true
signs_type M.Choosy t = t % 2 == 1
signs_type _ t = false

-- its signatures
abbrev pub signature_by : Manner → Demo → SignedPart → ℕ → Option RRSIG
signature_by manner signer part now = if signs_type manner part.record_type then Some (demo_signature signer part now) else None
