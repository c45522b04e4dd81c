use Rattle.std.proofs.Common.{List, Bool, sym, ap, ◌∙◌}
use Rattle.std.specs.Prelude.{Option, None, if◌then◌else◌}
use Rattle.std.specs.List.{list_any}
use Rattle.std.specs.Map.{lookup}
use Rattle.std.specs.Option.{option_or}
use Rattle.std.proofs.lemmas.Map.Made.{is_some-lookup}
use Rattle.zone_proto.specs.Keys.{key, key_eq}
use Rattle.zone_proto.specs.Sets.{RRset}
use Rattle.zone_proto.specs.declared.rr_key.RrKey.{RrKey}
use Rattle.zone_map.specs.Zones.{owns, Sets}
use Rattle.update_in_place.proofs.Copied.{both}
use Rattle.update_in_place.proofs.putting.sets_under.Goals as goal

pub returns-clause-ok : goal.returns-clause-ok
returns-clause-ok c = λ n t.
    let q : RrKey = key n t in
    let zone : Sets = c.args.zone.now in
    let others : Sets = c.args.others.now in
    let ks : List RrKey = c.args.keys.now in
    c.in_ok-put_copies-2.ensures.copied q
    ∙ ap (λ (o : Option RRset). option_or o (if list_any (key_eq q) ks then lookup (key_eq q) zone else None))
    (c.in_ok-put_copies.ensures.copied q
    ∙ ap (λ (m : Sets). option_or (lookup (key_eq q) m) (if list_any (key_eq q) c.as_slice.result.now then lookup (key_eq q) zone else None)) c.new-before.ensures
    ∙ ap (λ (xs : List RrKey). if list_any (key_eq q) xs then lookup (key_eq q) zone else None) (c.as_slice.ensures.value ∙ c.in_ok-own.ensures.ok)
    ∙ ap (λ (b : Bool). if b then lookup (key_eq q) zone else None) (sym (is_some-lookup (key_eq q) others)))
    ∙ both zone q (owns others n t) (list_any (key_eq q) ks) None
