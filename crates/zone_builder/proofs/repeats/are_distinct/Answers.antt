use Rattle.std.proofs.Common.{◌≡◌, ◌+◌, ◌&&◌, true, false, not, drop, sym, ap, ◌∙◌}
use Rattle.zone_builder.specs.Repeats.{are_distinct, holds}
use Rattle.zone_builder.proofs.Repeating.{distinct_at, rest_whole}
use Rattle.zone_builder.proofs.repeats.are_distinct.Goals as goal

pub returns-then-holds : goal.returns-then-holds
returns-then-holds c =
    let gs = c.args.records.now in
    let i = c.loop-index.index in
    let g = c.index-records-index.result in
    let held : holds (drop (i + 1) gs) g.record.rdata ≡ true = ap (λ rest. holds rest g.record.rdata) (sym (rest_whole gs (i + 1))) ∙ sym c.holds.ensures ∙ c.if-holds.true in
    sym (ap (λ b. not b && are_distinct (drop (i + 1) gs)) held) ∙ sym (distinct_at gs i g c.loop-index-test.true c.index-records-index.is) ∙ c.loop-index.invariant

pub loop-index-preserved : goal.loop-index-preserved
loop-index-preserved c =
    let gs = c.args.records.now in
    let i = c.loop-index.index in
    let g = c.index-records-index.result in
    let held : holds (drop (i + 1) gs) g.record.rdata ≡ false = ap (λ rest. holds rest g.record.rdata) (sym (rest_whole gs (i + 1))) ∙ sym c.holds.ensures ∙ c.if-holds.false in
    sym (ap (λ b. not b && are_distinct (drop (i + 1) gs)) held) ∙ sym (distinct_at gs i g c.loop-index-test.true c.index-records-index.is) ∙ c.loop-index.invariant
