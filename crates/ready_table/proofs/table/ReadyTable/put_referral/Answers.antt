use Rattle.std.proofs.Common.{inl, subst}
use Rattle.std.proofs.lemmas.Result.{IfOk-weaker}
use Rattle.zone_server.specs.Answers.{IsSent}
use Rattle.ready_table.proofs.table.ReadyTable.put_referral.Goals as goal

pub returns : goal.returns
returns c =
    IfOk-weaker c.put_referral.result _ _
    (λ referred h t z are. record {
      said = (h t z are).said;
      says = (h t z are).says;
      goes_out = inl (subst (λ l. IsSent l c.args.query.now (h t z are).said c.put_referral.new.out.items) c.limit_for-limit.ensures (h t z are).sent);
    })
    c.put_referral.ensures
