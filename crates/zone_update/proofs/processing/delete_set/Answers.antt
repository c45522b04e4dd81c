use Rattle.std.proofs.Common.{sym, ap, ◌∙◌}
use Rattle.std.specs.Prelude.{if◌then◌else◌, Option, Some, None}
use Rattle.zone_map.specs.Zones.{Sets, without}
use Rattle.zone_update.proofs.Made.{nothing_made, something_made}
use Rattle.zone_update.proofs.processing.delete_set.Goals as goal

pub returns-then-is_left : goal.returns-then-is_left
returns-then-is_left c =
    let gone : Option Sets = Some (without c.args.records.now c.args.key.now.name c.args.key.now.record_type.0) in
    nothing_made c.args.records.now _ (ap (λ b. if b then None else gone) (sym c.is_left.ensures ∙ c.if-is_left.true))

pub returns : goal.returns
returns c =
    let gone : Option Sets = Some (without c.args.records.now c.args.key.now.name c.args.key.now.record_type.0) in
    something_made c.args.records.now c.remove.new.self _
    (ap (λ b. if b then None else gone) (sym c.is_left.ensures ∙ c.if-is_left.false) ∙ ap Some (sym c.remove.ensures.removed))
