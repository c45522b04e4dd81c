use Rattle.std.proofs.Common.{sym, ◌∙◌, true≢false, arith}
use Rattle.std.proofs.lemmas.Result.{IfOk-weaker}
use Rattle.std.specs.Prelude.{option_map}
use Rattle.zone_origins.proofs.Lookups.{none, here, goes_on, smaller}
use Rattle.zone_origins.proofs.origins.+nearest.Goals as goal

pub returns-in_default : goal.returns-in_default
returns-in_default g t c =
    none c.args.name.now c.args.entries.now.entries c.range.result c.range.ensures.ordered (c.range.ensures.between tt) c.in_default.ensures.steps.0

pub returns-then-zone_of : goal.returns-then-zone_of
returns-then-zone_of g t c =
    here c.args.name.now c.args.entries.now.entries c.range.result c.next_back.new.self (c.in-Some.last.now, c.in-Some.value.now) c.range.ensures.ordered (c.range.ensures.between tt) c.in-Some.ensures.steps
    (c.zone_of.ensures.0 c.if-zone_of.true)

pub nearest-requires : goal.nearest-requires
nearest-requires g t c κs within = (
  omega (
    arith,
    c.decreases,
    smaller c.args.name.now c.args.entries.now.entries c.range.result c.next_back.new.self (c.in-Some.last.now, c.in-Some.value.now) c.range.ensures.ordered (c.range.ensures.between tt) c.in-Some.ensures.steps
        c.in-Ok.meeting c.in-Ok.ensures (λ w. true≢false (sym (c.zone_of.ensures.1 w) ∙ c.if-zone_of.false)),
  ),
  within,
)

pub returns : goal.returns
returns g t c = IfOk-weaker c.nearest.result _ _
    (λ found. goes_on c.args.name.now c.args.entries.now.entries c.range.result c.next_back.new.self (c.in-Some.last.now, c.in-Some.value.now) c.range.ensures.ordered (c.range.ensures.between tt) c.in-Some.ensures.steps
    c.in-Ok.meeting c.in-Ok.ensures (option_map (λ p. (p.0.now, p.1.now)) found))
    c.nearest.ensures
