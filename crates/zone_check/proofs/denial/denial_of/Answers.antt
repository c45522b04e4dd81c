use Rattle.std.proofs.Common.{sym, ap, ◌∙◌}
use Rattle.std.specs.Prelude.{Some}
use Rattle.zone_proto.specs.declared.rdata.denial.NSEC3PARAM.{NSEC3PARAM as Nsec3Parameters}
use Rattle.zone_check.proofs.Served.{by_nsec, by_nsec3}
use Rattle.zone_check.proofs.denial.denial_of.Goals as goal

pub returns-in_ok-verify_nsec-in-Some-Nsec : goal.returns-in_ok-verify_nsec-in-Some-Nsec
returns-in_ok-verify_nsec-in-Some-Nsec c =
    by_nsec c.args.loaded.now c.requires.zone c.requires.top (sym c.in_ok-denial_kind.ensures.kind ∙ c.in-Some-Nsec.is ∙ ap Some c.in-Some-Nsec.field-0-is)
    c.in_ok-verify_nsec-in-Some-Nsec.ensures.chain

pub returns-in_ok-verify_nsec3-in-Some-Nsec3 : goal.returns-in_ok-verify_nsec3-in-Some-Nsec3
returns-in_ok-verify_nsec3-in-Some-Nsec3 c =
    let arm = c.in-Some-Nsec3 in
    let p : Nsec3Parameters = record { algorithm = arm.algorithm; salt = arm.salt; iterations = arm.iterations; opt_out = arm.opt_out } in
    by_nsec3 c.args.loaded.now c.requires.zone c.requires.top p (sym c.in_ok-denial_kind.ensures.kind ∙ arm.is ∙ ap Some arm.field-0-is) c.in_ok-verify_nsec3-in-Some-Nsec3.ensures.chain
