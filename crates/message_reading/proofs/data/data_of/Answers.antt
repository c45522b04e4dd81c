use Rattle.std.proofs.Common.{◌≡◌, subst, sym, ◌∙◌}
use Rattle.std.specs.Prelude.{IfOk}
use Rattle.message_reading.proofs.DataCases.{own_is}
use Rattle.message_reading.proofs.data.data_of.Goals as goal

pub returns-then-has_own_case : goal.returns-then-has_own_case
returns-then-has_own_case c =
    subst (λ x. IfOk c.own_data_of.result (λ rdata. rdata ≡ x))
    (own_is c.args.record_type.0 c.args.message.now c.args.at c.args.octets.now (sym c.has_own_case.ensures ∙ c.if-has_own_case.true)) c.own_data_of.ensures
