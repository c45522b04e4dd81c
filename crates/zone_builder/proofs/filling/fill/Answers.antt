use Rattle.std.proofs.Common.{◌≡◌, [], sym, ap, ◌∙◌, subst}
use Rattle.std.specs.List.{AllByRecursion}
use Rattle.std.proofs.lemmas.Result.{on_ok_weaker}
use Rattle.zone_proto.specs.Data.{type_of}
use Rattle.zone_proto.specs.Names.{lower}
use Rattle.zone_proto.specs.Sets.{stores}
use Rattle.zone_builder.specs.declared.given.GivenRecord.{GivenRecord}
use Rattle.zone_builder.specs.Repeats.{AreNew}
use Rattle.zone_builder.proofs.FirstTaken.{appending_all, are_new, taken_first, Alike}
use Rattle.zone_builder.proofs.Repeating.{all_new}
use Rattle.zone_builder.proofs.filling.fill.Goals as goal

pub append_all-requires-clause-owners : goal.append_all-requires-clause-owners
append_all-requires-clause-owners c =
    subst (AllByRecursion (λ (g : GivenRecord). lower g.record.name ≡ c.args.key.now.name)) (sym c.in_ok-first.ensures.ok)
    (all_new (λ (g : GivenRecord). lower g.record.name ≡ c.args.key.now.name) [] c.args.records.items c.requires.owners)

pub append_all-requires-clause-types : goal.append_all-requires-clause-types
append_all-requires-clause-types c =
    subst (AllByRecursion (λ (g : GivenRecord). type_of g.record.rdata ≡ c.args.key.now.record_type.0)) (sym c.in_ok-first.ensures.ok)
    (all_new (λ (g : GivenRecord). type_of g.record.rdata ≡ c.args.key.now.record_type.0) [] c.args.records.items c.requires.types)

pub append_all-requires-clause-new : goal.append_all-requires-clause-new
append_all-requires-clause-new c =
    let alike : Alike c.args.serial c.args.ttl c.args.set.now.records [] = λ d. ap (λ rs. stores rs d) c.requires.empty in
    subst (AreNew c.args.ttl c.args.set.now.records) (sym c.in_ok-first.ensures.ok) (are_new c.args.serial c.args.ttl c.args.set.now.records [] c.args.records.items alike)

pub returns-clause-ok : goal.returns-clause-ok
returns-clause-ok c =
    let alike : Alike c.args.serial c.args.ttl c.args.set.now.records [] = λ d. ap (λ rs. stores rs d) c.requires.empty in
    on_ok_weaker c.append_all.result
    (λ h. h ∙ ap (appending_all c.args.serial c.args.ttl c.args.set.now) c.in_ok-first.ensures.ok
    ∙ taken_first c.args.serial c.args.ttl c.args.key.now.record_type.0 (sym c.is_single.ensures ∙ c.if-is_single.false) c.args.set.now [] c.args.records.items alike c.requires.types)
    c.append_all.ensures.ok
