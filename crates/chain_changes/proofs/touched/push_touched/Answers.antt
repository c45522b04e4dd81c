use Rattle.std.proofs.Common.{◌||◌, ◌&&◌, Bool, sym, ap, ◌∙◌}
use Rattle.zone_proto.specs.Names.{is_at_or_above}
use Rattle.zone_map.specs.Zones.{names_of}
use Rattle.update_in_place.specs.Parts.{is_among}
use Rattle.chain_changes.proofs.Pushed.{touched_alone, touched_with}
use Rattle.chain_changes.proofs.touched.push_touched.Goals as goal

pub returns-then-not-is_cut_key-clause-ok : goal.returns-then-not-is_cut_key-clause-ok
returns-then-not-is_cut_key-clause-ok c = λ n.
    c.in_ok-push_once.ensures.ok n
    ∙ touched_alone c.args.origin.now c.args.zone.now c.args.key.now n (is_among c.args.names.now.items n) (sym c.is_cut_key.ensures ∙ c.if-not-is_cut_key.true)

pub returns-clause-ok : goal.returns-clause-ok
returns-clause-ok c = λ n.
    let m = c.args.zone.now in
    let k = c.args.key.now in
    c.in_ok-push_below.ensures.ok n
    ∙ ap (λ (b : Bool). b || (is_at_or_above k.name n && is_among (names_of m) n)) (c.in_ok-push_once.ensures.ok n)
    ∙ touched_with c.args.origin.now m k n (is_among c.args.names.now.items n) (sym c.is_cut_key.ensures ∙ c.if-not-is_cut_key.false)
