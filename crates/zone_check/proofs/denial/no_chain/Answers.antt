use Rattle.std.proofs.Common.{sym, ap, ◌∙◌}
use Rattle.std.specs.Prelude.{option_copied}
use Rattle.zone_check.proofs.Served.{none_by_nsec, none_by_nsec3}
use Rattle.zone_check.proofs.denial.no_chain.Goals as goal

pub returns-then-not-is_without : goal.returns-then-not-is_without
returns-then-not-is_without c = absurd (none_by_nsec c.args.loaded.now c.requires.zone c.requires.kind c.in_ok-verify_nsec.ensures.chain)

pub returns-in_ok-verify_nsec3-in-Some : goal.returns-in_ok-verify_nsec3-in-Some
returns-in_ok-verify_nsec3-in-Some c =
    absurd (none_by_nsec3 c.args.loaded.now c.requires.zone c.in-Some.parameters.now c.requires.kind (ap option_copied (sym c.in-Some.is) ∙ c.in_ok-parameters.ensures.ok)
    c.in_ok-verify_nsec3-in-Some.ensures.origin)
