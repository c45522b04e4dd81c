-- What can't be written of a part can't be written of the whole
use Rattle.std.proofs.Common.{inl, inr}
use Rattle.zone_planning.specs.declared.fault.PlanFault.{PlanFault}
use Rattle.zone_planning.specs.Faults.{IsUnwritableUnless}

pub unwritable_all : (e : PlanFault) (part whole : Type 0) → (whole → part) → IsUnwritableUnless e part → IsUnwritableUnless e whole
unwritable_all e part whole has (inl memory) = inl memory
unwritable_all e part whole has (inr (is, wrong)) = inr (is, λ w. wrong (has w))
