use Rattle.std.proofs.Common.{◌≡◌, true, false, sym, ap, ◌∙◌}
use Rattle.std.specs.List.{list_any}
use Rattle.zone_proto.specs.Names.{name_eq}
use Rattle.zone_response.proofs.HostFacts.{listed_already, listed_last}
use Rattle.zone_response.proofs.additional.add_new.Goals as goal

pub returns-then-has_name-clause-ok : goal.returns-then-has_name-clause-ok
returns-then-has_name-clause-ok c =
    let known : list_any (name_eq c.args.name) c.args.names.now.items ≡ true = ap (list_any (name_eq c.args.name)) (sym c.deref.ensures.value) ∙ sym c.has_name.ensures ∙ c.if-has_name.true in
    listed_already c.args.names.now.items c.args.name known

pub returns-clause-ok : goal.returns-clause-ok
returns-clause-ok c =
    let new : list_any (name_eq c.args.name) c.args.names.now.items ≡ false = ap (list_any (name_eq c.args.name)) (sym c.deref.ensures.value) ∙ sym c.has_name.ensures ∙ c.if-has_name.false in
    listed_last c.push.result c.args.names.now.items c.push.new.list.items c.args.name new c.push.ensures.ok
