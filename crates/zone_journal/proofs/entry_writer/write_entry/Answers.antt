use Rattle.std.proofs.Common.{◌≡◌, true, List, sym, ap, ◌∙◌}
use Rattle.std.specs.Prelude.{Some}
use Rattle.zone_proto.specs.declared.record.Record.{Record}
use Rattle.message_writing.specs.Responses.{all_records}
use Rattle.message_writing.specs.declared.response.Group.{Group}
use Rattle.message_series.specs.Series.{records_of}
use Rattle.shown_zones.specs.Steps.{step_of}
use Rattle.shown_zones.specs.Sending.{sent_step}
use Rattle.zone_journal.specs.Writing.{is_writable}
use Rattle.zone_journal.proofs.Parted.{entry_back}
use Rattle.zone_journal.proofs.entry_writer.write_entry.Goals as goal

pub returns-in-Ok-clause-reads : goal.returns-in-Ok-clause-reads
returns-in-Ok-clause-reads c =
    let reads : records_of c.in-Ok.octets.items ≡ Some (sent_step (step_of c.args.step.now)) =
    c.in-Ok.ensures.reads ∙ ap (λ (gs : List Group). Some (all_records gs)) c.as_slice.ensures.value ∙ ap (λ (rs : List Record). Some rs) c.in_ok-groups.ensures.records in
    let writable : is_writable (step_of c.args.step.now) ≡ true = sym c.is_writable.ensures ∙ c.if-not-is_writable.false in
    entry_back c.in-Ok.octets.items (step_of c.args.step.now) reads writable c.in_ok-groups.ensures.sound
