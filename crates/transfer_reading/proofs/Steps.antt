-- One step after the other, as loops take them: the fault of a step is that of all
use Rattle.std.proofs.Common.{◌≡◌, Result, Err}
use Rattle.transfer_reading.specs.Answers.{IsFault}
use Rattle.transfer_reading.specs.Differences.{IsOutcomeFault}
use Rattle.transfer_reading.specs.declared.fault.AnswerFault.{AnswerFault}
use Rattle.transfer_reading.specs.declared.fault.AnswerFault.TheVariants as answers
use Rattle.transfer_reading.specs.declared.fault.OutcomeFault.{OutcomeFault}
use Rattle.transfer_reading.specs.declared.fault.OutcomeFault.TheVariants as outcomes

pub is_fault : {A : Type 0} (e : AnswerFault) (made : Result A AnswerFault) → made ≡ Err e → IsFault e made
is_fault answers.Memory made h = tt
is_fault answers.Malformed made h = h
is_fault answers.NotTheAnswer made h = h
is_fault (answers.Code n) made h = h
is_fault answers.OtherQuestion made h = h
is_fault answers.NotAuthoritative made h = h
is_fault answers.Truncated made h = h
is_fault answers.OtherClass made h = h
is_fault answers.Outside made h = h
is_fault answers.NoSoa made h = h
is_fault answers.OtherSerial made h = h
is_fault answers.BehindEnd made h = h

pub passes : {A B : Type 0} (e : OutcomeFault) (made : Result A OutcomeFault) (more : Result B OutcomeFault) → IsOutcomeFault e made
    → (made ≡ Err e → more ≡ Err e) → IsOutcomeFault e more
passes outcomes.Memory made more h f = tt
passes outcomes.Incomplete made more h f = f h
passes outcomes.NotThere made more h f = f h
passes outcomes.AlreadyThere made more h f = f h
