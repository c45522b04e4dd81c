use Rattle.std.proofs.Common.{◌≡◌, drop}
use Rattle.transfer_reading.specs.Stages.{behind_all}
use Rattle.transfer_reading.proofs.stage.behind_all.Given as goal

-- what is left leads to where all lead
abbrev pub invariant-loop-given : goal.invariant-loop-given
invariant-loop-given l = behind_all l.asked l.reached (drop l.given-index l.records) ≡ behind_all l.asked l.fn.stage l.records
