-- The record sets of a zone after a call that secures them
use Rattle.std.proofs.Common.{◌≡◌, ◌⊎◌, inl, inr, Bool, false, sym, ap, ◌∙◌, subst}
use Rattle.std.specs.Prelude.{Result, Ok, Err, Option, Some, cond, OnOk, OnErr}
use Rattle.lookup_types.specs.declared.secure_error.SecureError.{SecureError}
use Rattle.lookup_types.specs.declared.secure_error.SecureError.TheVariants as error
use Rattle.zone_map.specs.Zones.{Sets, IsZone}

-- a map that is changed into the sets of a zone, or stays as it was, has those of a zone
pub IsZone-after : {A E : Type 0} (result : Result A E) (before after : Sets) → IsZone before → OnOk result (IsZone after) → OnErr result (after ≡ before) → IsZone after
IsZone-after (Ok a) before after zone fresh same = fresh
IsZone-after (Err e) before after zone fresh same = subst IsZone (sym same) zone

-- where no CNAME is at the origin, the only faults of a zone's denials are those of its names
pub fault_without_cname : (e : SecureError) (owned : Bool) (fault : Option SecureError) → owned ≡ false → (e ≡ error.Memory) ⊎ (fault ≡ Some e)
    → (e ≡ error.Memory) ⊎ (cond owned (Some error.CnameAtOrigin) fault ≡ Some e)
fault_without_cname e owned fault none (inl memory) = inl memory
fault_without_cname e owned fault none (inr is) = inr (ap (λ b. cond b (Some error.CnameAtOrigin) fault) none ∙ is)
