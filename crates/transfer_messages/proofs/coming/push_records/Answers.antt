use Rattle.std.proofs.Common.{ℕ, ◌-◌, ap, ◌∙◌}
use Rattle.message_writing.specs.Responses.{with_ttl}
use Rattle.transfer_messages.proofs.Gathered.{gathered_records}
use Rattle.transfer_messages.proofs.coming.push_records.Goals as goal

pub returns-clause-taken : goal.returns-clause-taken
returns-clause-taken c =
    gathered_records c.args.groups.now.items c.push_singles.new.singles.items (with_ttl c.args.ttl) c.args.records.now c.split_at.result.1.now c.split_at-2.result.0.now
    c.args.skip c.min-start.result c.saturating_sub-room.result c.min.result c.min-start.ensures c.split_at.ensures.back
    (c.saturating_sub-room.ensures ∙ ap (λ (n : ℕ). 4096 - n) (c.len.ensures ∙ c.args.groups.now.ok.0)) c.min.ensures
    c.split_at-2.ensures.front c.in_ok-push_singles.ensures
