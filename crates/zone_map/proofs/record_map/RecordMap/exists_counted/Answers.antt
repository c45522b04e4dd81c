use Rattle.std.proofs.Common.{sym, ap, ◌∙◌}
use Rattle.std.specs.List.{list_any}
use Rattle.zone_proto.specs.Names.{is_at_or_above}
use Rattle.zone_map.specs.Wildcards.{exists}
use Rattle.zone_map.specs.Zones.{Sets, has_key_from, owns_at_or_below}
use Rattle.zone_map.proofs.OtherOwners.{exists_listed}
use Rattle.zone_map.proofs.OwnerIndexes.{others_of, exists_plain, at_most_one}
use Rattle.zone_map.proofs.record_map.RecordMap.exists_counted.Goals as goal

pub returns-then-is_without_denials-clause-answer : goal.returns-then-is_without_denials-clause-answer
returns-then-is_without_denials-clause-answer c =
    let n = c.args.least.now.name in
    c.owns_from.ensures.owned
    ∙ ap (λ (x : Sets). owns_at_or_below x n) (sym c.self.view_is)
    ∙ exists_plain c.self.inside.sets n c.self.inside.index c.self.invariant.index (sym c.is_without_denials.ensures ∙ c.if-is_without_denials.true)
    ∙ ap (λ (x : Sets). exists x n) c.self.view_is

pub returns-then-is_without_denials-clause-counted : goal.returns-then-is_without_denials-clause-counted
returns-then-is_without_denials-clause-counted c = at_most_one (has_key_from c.args.self.now c.args.least.now.name) c.args.reads.now c.owns_from.new.reads c.owns_from.ensures.counted

pub returns-clause-answer : goal.returns-clause-answer
returns-clause-answer c =
    let n = c.args.least.now.name in
    let m = c.self.inside.sets in
    c.owns_other_at_or_below.ensures
    ∙ ap (list_any (is_at_or_above n)) (others_of m c.self.inside.index c.self.invariant.index (sym c.is_without_denials.ensures ∙ c.if-is_without_denials.false))
    ∙ exists_listed m n
    ∙ ap (λ (x : Sets). exists x n) c.self.view_is
