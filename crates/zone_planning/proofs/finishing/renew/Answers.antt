use Rattle.std.proofs.Common.{List, sym, ap, ◌∙◌, subst}
use Rattle.zone_proto.specs.declared.record.Record.{Record}
use Rattle.zone_proto.specs.declared.rr_key.RrKey.{RrKey}
use Rattle.zone_map.specs.Renewals.{AreHanded}
use Rattle.zone_planning.proofs.Unstepped.{unstepped}
use Rattle.zone_planning.proofs.finishing.renew.Goals as goal

pub renew-requires : goal.renew-requires
renew-requires c =
    subst (λ (x : List Record). (made : List (List Record)) × AreHanded c.args.plan.records made c.args.lists.items x) (sym c.in-Ok.ensures.ok) c.requires.handed

pub returns-clause-sets : goal.returns-clause-sets
returns-clause-sets c =
    λ made h.
    c.renew.ensures.sets made (subst (λ (x : List Record). AreHanded c.args.plan.records made c.args.lists.items x) (sym c.in-Ok.ensures.ok) h)
    ∙ unstepped c.new-none.result c.args.plan.records made (ap (λ (k : RrKey). k.record_type.0) c.new-none.ensures.value) c.requires.stored
