use Rattle.std.proofs.Common.{◌≡◌, ◌⊎◌, sym, ap, subst, ◌∙◌, rules}
use Rattle.std.specs.Prelude.{Some}
use Rattle.zone_proto.specs.Types.{CNAME}
use Rattle.lookup_types.specs.declared.secure_error.SecureError.TheVariants as error
use Rattle.zone_denial.specs.Nsec3Sets.{nsec3_fault}
use Rattle.zone_denial.specs.Nsec3Zones.{hash_with}
use Rattle.zone_map.specs.Zones.{owns}
use Rattle.zone_lookup.specs.Inner.{Inner}
use Rattle.zone_lookup.proofs.KeptDenials.{denials_kept}
use Rattle.zone_lookup.proofs.SecuredRecords.{fault_without_cname}
use Rattle.zone_lookup.proofs.inner_in_memory.InnerInMemory.nsec3_denials.Goals as goal

pub returns-in_err-sets-clause-err : goal.returns-in_err-sets-clause-err
returns-in_err-sets-clause-err g c =
    let hash = hash_with (g.H.Nsec3Hash.digest_of c.args.hash.now) c.args.parameters.now in
    let e = c.in_err-sets.field-0.0 in
    let fault = λ (zone : Inner g.row.S.Denot). nsec3_fault c.args.apex.now.name zone.records hash c.args.parameters.now.opt_out in
    let told =
    fault_without_cname e (owns c.args.self.now.records c.args.apex.now.name CNAME) (fault c.args.self.now)
    (sym c.in-Ok-false.ensures.owned ∙ c.in-Ok-false.field-0-test)
    (subst (λ (zone : Inner g.row.S.Denot). (e ≡ error.Memory) ⊎ (fault zone ≡ Some e)) c.self.view_is c.in_err-sets.ensures.err) in
    search (rules, told)

pub returns-in-None-clause-ok : goal.returns-in-None-clause-ok
returns-in-None-clause-ok g c =
    denials_kept (g.H.Nsec3Hash.digest_of c.args.hash.now) c.args.apex.now.name c.args.self.now.records c.args.parameters.now c.in_ok-sets.field-0 c.self.inside.records c.minimum_and_serial-minimum.result
    c.in-None.is (ap (λ (zone : Inner g.row.S.Denot). zone.records) c.self.view_is) c.minimum_and_serial-minimum.ensures c.in_ok-sets.ensures.standing c.in_ok-sets.ensures.announced
