use Rattle.std.proofs.Common.{◌≡◌, sym, ◌∙◌, subst}
use Rattle.std.specs.Prelude.{IfOk, option_copied}
use Rattle.zone_response.proofs.NodeCases.{unasked, any_asked, own_asked}
use Rattle.zone_response.proofs.nodes.asked_set.Goals as goal

pub returns-then-eq-clause-set : goal.returns-then-eq-clause-set
returns-then-eq-clause-set g c = unasked c.args.inner.now.records c.args.key.now.name c.args.record_type.0 (sym c.if-eq.ensures)

pub returns-then-asks_any-clause-set : goal.returns-then-asks_any-clause-set
returns-then-asks_any-clause-set g c =
    subst (λ o. IfOk c.any_set.result (λ set. option_copied set ≡ o))
    (any_asked c.args.inner.now.records c.args.key.now.name c.args.record_type.0 (sym c.if-eq.ensures) (sym c.asks_any.ensures ∙ c.if-asks_any.true)) c.any_set.ensures.set

pub returns-clause-set : goal.returns-clause-set
returns-clause-set g c =
    own_asked c.args.inner.now.records c.args.key.now.name c.args.record_type.0 (option_copied c.args.own) (sym c.if-eq.ensures) (sym c.asks_any.ensures ∙ c.if-asks_any.false) c.requires
