use Rattle.std.proofs.Common.{◌≡◌, List, ◌∷◌, ap, ◌∙◌, subst}
use Rattle.std.specs.Prelude.{Option, None}
use Rattle.std.specs.Vec.Iter.{into_iter_items}
use Rattle.zone_proto.specs.declared.record.Record.{Record}
use Rattle.zone_map.specs.Renewals.{IsHanded}
use Rattle.zone_map.proofs.Renewing.{part_exchanged}
use Rattle.zone_map.proofs.record_map.renewal.put_next.Goals as goal

pub returns-in-Some-None : goal.returns-in-Some-None
returns-in-Some-None c signatures part rest list lists left given handed =
    let items : into_iter_items c.args.left.now ≡ None ∷ into_iter_items c.next.new.self = c.in-Some-None.ensures.items ∙ ap (λ (o : Option (List Record)). o ∷ into_iter_items c.next.new.self) c.in-Some-None.field-0-is in
    let none : list ≡ None = cc in
    let after : into_iter_items c.next.new.self ≡ lists = cc in
    let own = subst (λ (o : Option (List Record)). IsHanded c.args.set.now signatures o part) none handed in
    let both = part_exchanged c.args.set.now _ signatures part rest c.args.exchanged.now _ c.args.next.now c.exchange_rrsigs.result given own c.exchange_rrsigs.ensures.set c.exchange_rrsigs.ensures.others c.exchange_rrsigs.ensures.next in
    (both.0, after, both.1)
