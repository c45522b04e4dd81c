-- The data of NSEC records (RFC 4034 section 4), NSEC3 and NSEC3PARAM records (RFC 5155 sections 3 and 4): how they are
-- printed, the salt in hex and the hash in base32hex
use Rattle.std.specs.Prelude.{ℕ, ◌++◌, List, [], ◌∷◌, Bool, if◌then◌else◌}
use Rattle.std.specs.Fmt.{decimal}
use Rattle.std.specs.List.{flat_map}
use Rattle.zone_proto.specs.Base32.{base32_text}
use Rattle.zone_proto.specs.declared.record_type.RecordType.{RecordType}
use Rattle.zone_proto.specs.declared.rdata.denial.NSEC.{NSEC as NsecData}
use Rattle.zone_proto.specs.declared.rdata.denial.NSEC3.{NSEC3 as Nsec3Data}
use Rattle.zone_proto.specs.declared.rdata.denial.NSEC3PARAM.{NSEC3PARAM as Nsec3Parameters}
use Rattle.zone_proto.specs.Text.{name_text}
use Rattle.zone_proto.specs.TypeText.{type_text}
use Rattle.line_text.specs.Hex.{hex_text}
use Rattle.line_text.specs.Words.{spaced}

-- types, each with a space before it
abbrev pub types_text : List RecordType → List ℕ
types_text = flat_map (λ t. 32 ∷ type_text t.0)

abbrev pub nsec_text : NsecData → List ℕ
nsec_text d = name_text d.next_domain_name ++ types_text d.types

-- the flags (RFC 5155 section 3.1.2): 1 for opt-out
abbrev pub opt_out_flag : Bool → ℕ
opt_out_flag opt_out = if opt_out then 1 else 0

abbrev pub nsec3_text : Nsec3Data → List ℕ
nsec3_text d =
    spaced (
    decimal d.algorithm ∷ decimal (opt_out_flag d.opt_out) ∷ decimal d.iterations
    ∷ hex_text d.salt ∷ base32_text d.next_hashed_owner_name ∷ [])
    ++ types_text d.types

abbrev pub nsec3_parameters_text : Nsec3Parameters → List ℕ
nsec3_parameters_text d =
    spaced (decimal d.algorithm ∷ decimal (opt_out_flag d.opt_out) ∷ decimal d.iterations ∷ hex_text d.salt ∷ [])
