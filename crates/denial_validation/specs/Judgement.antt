-- What records prove of a name and a type, summed up
use Rattle.std.specs.Prelude.{ℕ, Bool, false, ◌&&◌, ◌==◌, List, Option, Some, None, length, option_map, if◌then◌else◌}
use Rattle.zone_proto.specs.Names.{Name}
use Rattle.zone_proto.specs.Types.{DS}
use Rattle.denial_validation.specs.declared.proof.Proof.{Proof}
use Rattle.denial_validation.specs.declared.proof.Proof.TheVariants.{NameError, UnsignedDelegation, EmptyNonTerminal, NoData, WildcardNoData, WildcardAnswer}
use Rattle.denial_validation.specs.NsecRecords.{NsecRecord}
use Rattle.denial_validation.specs.NsecProofs as nsec
use Rattle.denial_validation.specs.Nsec3Records.{Nsec3Record}
use Rattle.denial_validation.specs.Nsec3Proofs as nsec3

-- by NSEC records, the first that holds of: a name error, an unsigned delegation, an empty non-terminal, no data, no data by a
-- wildcard; else a wildcard's answer, by the closest encloser of a name that doesn't exist. NSEC leaves no name out
abbrev pub nsec_proof : Name → List NsecRecord → Name → ℕ → Option Proof
nsec_proof apex rs x t =
    if nsec.proves_name_error apex rs x then Some (NameError false)
    else (if nsec.proves_unsigned_delegation apex rs x then Some UnsignedDelegation
    else (if nsec.proves_empty_non_terminal apex rs x then Some EmptyNonTerminal
    else (if nsec.proves_no_data apex rs x t then Some NoData
    else (if nsec.proves_wildcard_no_data apex rs x t then Some (WildcardNoData false)
    else option_map (λ e. WildcardAnswer (length e) false) (nsec.denied_encloser apex rs x)))))

-- by NSEC3 records of the same parameters: nothing below a zone cut or a DNAME that they show; else the first that holds of: of DS, an
-- unsigned delegation that opt-out may leave out; a name error; an unsigned delegation by its own record; no data; no data by a
-- wildcard; and, of another type than DS, what opt-out may leave out; else what a wildcard may have answered from. Under opt-out
-- nearly every denial shows that there may be an unsigned delegation: told sooner, it would hide what was answered
abbrev pub nsec3_proof : Name → (Name → Option (List ℕ)) → List Nsec3Record → Name → ℕ → Option Proof
nsec3_proof apex hash rs x t =
    if nsec3.is_handed_on apex hash rs x then None
    else (if t == DS && nsec3.proves_opted_out apex hash rs x then Some UnsignedDelegation
    else (if nsec3.proves_name_error apex hash rs x then Some (NameError (nsec3.proves_opted_out apex hash rs x))
    else (if nsec3.shows_unsigned_delegation apex hash rs x then Some UnsignedDelegation
    else (if nsec3.proves_no_data apex hash rs x t then Some NoData
    else (if nsec3.proves_wildcard_no_data apex hash rs x t then Some (WildcardNoData (nsec3.proves_opted_out apex hash rs x))
    else (if nsec3.proves_opted_out apex hash rs x then Some UnsignedDelegation
    else nsec3.wildcard_answer apex hash rs x))))))
