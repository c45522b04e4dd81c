use Rattle.std.proofs.Common.{◌≡◌, drop}
use Rattle.zone_proto.specs.Signing.{signed_part}
use Rattle.zone_keeping.specs.Fitting.{first_fit}
use Rattle.zone_keeping.proofs.fitting.first_fit.Given as goal

-- none of the signatures so far fits
abbrev pub invariant-loop-record : goal.invariant-loop-record
invariant-loop-record l =
    first_fit l.span l.key (signed_part l.set) l.old l.blank l.old.signatures ≡ first_fit l.span l.key (signed_part l.set) l.old l.blank (drop l.record-index l.record-items)
