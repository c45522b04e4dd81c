-- What calls answer that can be refused, where several calls say the same
use Rattle.std.specs.Prelude.{◌≡◌, ◌⊎◌, ℕ, List, ◌∷◌, Bool, IfOk, IfErr, OnOk, OnErr, IsOkUnless, MatchResult, Result, Option, None, Some, is_some, unwrap_or}
use Rattle.zone_proto.specs.declared.error.ProtoError.{ProtoError}
use Rattle.zone_proto.specs.declared.error.ProtoError.TheVariants.{Memory}
use Rattle.zone_proto.specs.Names.{Label, Name}
use Rattle.zone_proto.specs.Faults.{label_fault, fault_of, IsFaultOrMemory, IsTextFault}

-- a copy of a value, Fails only for lack of memory
pub record IsCopy {A : Type 0} (result : Result A ProtoError) (whole : A) : Type 0 where
  pub ok : IfOk result (λ copy. copy ≡ whole)
  pub err : IsOkUnless result Memory

-- a call that takes labels refuses them exactly where they have a fault, and for that fault
abbrev pub ReportsFault : {A : Type 0} → Result A ProtoError → Name → Type 0
ReportsFault result ls = MatchResult result (λ _. fault_of ls ≡ None) (λ e. fault_of ls ≡ Some e)

-- the same of a call that takes the first label of some
abbrev pub ReportsLabelFault : {A : Type 0} → Result A ProtoError → Label → Type 0
ReportsLabelFault result l = (ls : Name)
    → MatchResult result (λ _. label_fault (l ∷ ls) ≡ label_fault ls) (λ e. label_fault (l ∷ ls) ≡ Some e)

-- the same of a call that takes labels and memory, of which there may be none
abbrev pub ReportsFaultOrMemory : {A : Type 0} → Result A ProtoError → Name → Type 0
ReportsFaultOrMemory result ls = MatchResult result (λ _. fault_of ls ≡ None) (IsFaultOrMemory (fault_of ls))

-- a call that reads a text refuses it for its fault, or for lack of memory
abbrev pub ReportsTextFault : {A : Type 0} → Result A ProtoError → List ℕ → Type 0
ReportsTextFault result text = IfErr result (λ e. (e ≡ Memory) ⊎ IsTextFault text e)

-- of a value before, what an insertion makes of it, the answer, and the value after: the answer says whether what came
-- was taken, and where it wasn't, or no memory was found, the value is as it was
pub record IsInsertion {A : Type 0} (old : A) (made : Option A) (result : Result Bool ProtoError) (new : A) : Type 0 where
  pub answer : IfOk result (λ taken. taken ≡ is_some made)
  pub after : OnOk result (new ≡ unwrap_or made old)
  pub err : IsOkUnless result Memory
  pub same : OnErr result (new ≡ old)

-- of a value before, what a change makes of it, the answer, and the value after: where no memory was found, the value is as it was
pub record IsChange {A B : Type 0} (old : A) (made : A) (result : Result B ProtoError) (new : A) : Type 0 where
  pub ok : OnOk result (new ≡ made)
  pub err : IsOkUnless result Memory
  pub same : OnErr result (new ≡ old)
