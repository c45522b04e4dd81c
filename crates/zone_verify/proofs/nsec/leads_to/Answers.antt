use Rattle.std.proofs.Common.{◌≡◌, sym, ap, ◌∙◌}
use Rattle.std.specs.Prelude.{Some, option_map}
use Rattle.zone_proto.specs.declared.rdata.denial.NSEC.{NSEC as NsecData}
use Rattle.zone_proto.specs.Names.{Name, name_cmp, lower}
use Rattle.zone_proto.proofs.Names.Tree.{name_order}
use Rattle.zone_proto.proofs.Ordering.KeyOrder.{equal_of}
use Rattle.zone_verify.proofs.nsec.leads_to.Goals as goal

pub returns-in_ok-new-in-Some : goal.returns-in_ok-new-in-Some
returns-in_ok-new-in-Some c = λ h.
    let made : Name = c.in_ok-new-in-Some.field-0 in
    let same : made ≡ c.args.name.now = name_order.exact made c.args.name.now (equal_of (name_cmp made c.args.name.now) (sym c.eq-in-Some.ensures ∙ h)) in
    ap (option_map (λ (a : NsecData). lower a.next_domain_name)) (sym c.in-Some.ensures) ∙ ap Some (sym c.in_ok-new-in-Some.ensures.ok ∙ same)
