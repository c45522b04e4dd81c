use Rattle.std.proofs.Common.{Bor, sym, ap, ◌∙◌}
use Rattle.std.specs.Prelude.{Option, option_copied}
use Rattle.zone_proto.specs.declared.rr_key.RrKey.{RrKey}
use Rattle.transfer_messages.specs.Transfers.{ahead_of}
use Rattle.transfer_messages.proofs.ahead.sets_ahead.Goals as goal

pub returns-in-None-clause-value : goal.returns-in-None-clause-value
returns-in-None-clause-value c =
    c.iter.ensures.rest
    ∙ ap (λ (o : Option (Bor RrKey)). ahead_of c.args.sets.now (option_copied o)) (sym c.in-None.is)
