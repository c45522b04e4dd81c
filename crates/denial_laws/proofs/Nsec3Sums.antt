-- The judgement of NSEC3 records by its tests
use Rattle.std.proofs.Common.{◌≡◌, Bool, refl}
use Rattle.std.specs.Prelude.{Option, Some, None, if◌then◌else◌}
use Rattle.std.specs.Option.{option_or}
use Rattle.denial_validation.specs.declared.proof.Proof.{Proof}
use Rattle.denial_validation.specs.declared.proof.Proof.TheVariants.{NameError, UnsignedDelegation, NoData, WildcardNoData}

pub kept : {X : Type 0} (o : Option X) → option_or o None ≡ o
kept None = refl
kept (Some v) = refl

-- the judgement by its tests
abbrev pub steps : Bool → Bool → Bool → Bool → Bool → Bool → Bool → Option Proof → Option Proof
steps handed first error out delegation none bare answer =
    if handed then None
    else (if first then Some UnsignedDelegation
    else (if error then Some (NameError out)
    else (if delegation then Some UnsignedDelegation
    else (if none then Some NoData
    else (if bare then Some (WildcardNoData out)
    else (if out then Some UnsignedDelegation
    else answer))))))
