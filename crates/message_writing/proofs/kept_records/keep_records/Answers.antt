use Rattle.std.proofs.Common.{sym, ◌∙◌}
use Rattle.message_writing.specs.Responses.{with_ttl}
use Rattle.message_writing.proofs.KeptBack.{kept_both, some_is}
use Rattle.message_writing.proofs.Sections.{group_length}
use Rattle.message_writing.proofs.kept_records.keep_records.Goals as goal

pub returns : goal.returns
returns c =
    let g = c.args.group.now in
    record {
      read = kept_both (with_ttl g.ttl) g.records.now g.signatures.now c.args.origin.now c.new-text.result c.in-Some.text c.in-Some-2.text c.new-text.ensures
          (some_is _ _ _ c.in-Some.is c.in_ok-text.ensures) (some_is _ _ _ c.in-Some-2.is c.in_ok-text-2.ensures);
      counted = c.count_of.ensures ∙ sym (group_length g);
    }
