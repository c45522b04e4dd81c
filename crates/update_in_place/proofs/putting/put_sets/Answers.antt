use Rattle.std.proofs.Common.{ap, ◌∙◌}
use Rattle.std.specs.Prelude.{Option, None, if◌then◌else◌, is_some}
use Rattle.std.specs.List.{list_any}
use Rattle.std.specs.Option.{option_or}
use Rattle.zone_proto.specs.Keys.{key, key_eq}
use Rattle.zone_proto.specs.Sets.{RRset}
use Rattle.zone_map.specs.Zones.{set_at}
use Rattle.update_in_place.proofs.Exchanged.{put_by, stands_under}
use Rattle.update_in_place.proofs.putting.put_sets.Goals as goal

pub exchange-requires : goal.exchange-requires
exchange-requires c = record {
  part =
      λ n t h. c.in_ok-before.ensures.ok n t
      ∙ stands_under (set_at c.args.sets.now n t) (list_any (key_eq (key n t)) c.args.gone.now) (set_at c.args.zone.now n t) h;
}

pub returns-clause-put : goal.returns-clause-put
returns-clause-put c = λ n t.
    let old = set_at c.args.zone.now n t in
    let sets = set_at c.args.sets.now n t in
    c.in_ok-exchange.ensures.exchanged n t
    ∙ ap (λ (o : Option RRset). option_or sets (if is_some o then None else old)) (c.in_ok-before.ensures.ok n t)
    ∙ put_by sets (list_any (key_eq (key n t)) c.args.gone.now) old
