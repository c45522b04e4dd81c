use Rattle.std.proofs.Common.{◌≡◌, List, map, sym, ap, ◌∙◌, subst}
use Rattle.zone_proto.specs.Names.{Name, lower}
use Rattle.zone_builder.specs.declared.given.GivenRecord.{GivenRecord}
use Rattle.file_origins.specs.Origins.{origin_of}
use Rattle.zone_database.specs.Texts.{given_of, IsZoneOf}
use Rattle.zone_check.specs.Publications.{IsFit}
use Rattle.zone_check.proofs.Served.{fit, served_rightly, unreferred}
use Rattle.zone_check.proofs.zone.check_zone.Goals as goal

pub tell_loaded-requires-clause-top : goal.tell_loaded-requires-clause-top
tell_loaded-requires-clause-top g c = unreferred (lower c.in-Ok.origin) (map given_of c.args.records.items) c.in-Ok-load_records.loaded c.in-Ok-load_records.ensures.zone

pub returns-in-Ok-load_records-clause-served : goal.returns-in-Ok-load_records-clause-served
returns-in-Ok-load_records-clause-served g c = λ none z made.
    let gs : List GivenRecord = map given_of c.args.records.items in
    let wanted : Name = origin_of c.args.wanted.now.origin c.args.records.items in
    let same : c.in-Ok.origin ≡ wanted = c.in-Ok.ensures.ok ∙ ap (origin_of c.args.wanted.now.origin) c.as_slice.ensures.value in
    served_rightly (lower c.in-Ok.origin) gs c.in-Ok-load_records.loaded c.in-Ok-load_records.ensures.zone (c.tell_loaded.ensures.served none) z
    (subst (λ (o : Name). IsZoneOf (lower o) gs z) (sym same) made)

pub returns-in-Ok-load_records-clause-fit : goal.returns-in-Ok-load_records-clause-fit
returns-in-Ok-load_records-clause-fit g c = λ none.
    let gs : List GivenRecord = map given_of c.args.records.items in
    let wanted : Name = origin_of c.args.wanted.now.origin c.args.records.items in
    let same : c.in-Ok.origin ≡ wanted = c.in-Ok.ensures.ok ∙ ap (origin_of c.args.wanted.now.origin) c.as_slice.ensures.value in
    subst (λ (o : Name). IsFit c.args.wanted.now.is_strict c.args.wanted.now.period (lower o) gs) same
    (fit c.args.wanted.now.is_strict c.args.wanted.now.period (lower c.in-Ok.origin) gs c.in-Ok-load_records.loaded c.in-Ok-load_records.ensures.zone (c.tell_loaded.ensures.published none))
