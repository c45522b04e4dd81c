-- The codes of refusals have four bits
use Rattle.std.proofs.Common.{◌<◌, arith}
use Rattle.zone_update.specs.Entries.{code_of}
use Rattle.zone_update.specs.declared.refusal.Refusal.{Refusal}
use Rattle.zone_update.specs.declared.refusal.Refusal.TheVariants.{FormErr, NXDomain, Refused, YXDomain, YXRRSet, NXRRSet, NotAuth, NotZone, Memory}

pub code_short : (e : Refusal) → code_of e < 16
code_short FormErr = omega arith
code_short Memory = omega arith
code_short NXDomain = omega arith
code_short Refused = omega arith
code_short YXDomain = omega arith
code_short YXRRSet = omega arith
code_short NXRRSet = omega arith
code_short NotAuth = omega arith
code_short NotZone = omega arith
