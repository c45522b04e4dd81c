use Rattle.std.proofs.Common.{List, ap, ◌∙◌}
use Rattle.std.specs.Prelude.{Option}
use Rattle.std.specs.Option.{option_or}
use Rattle.zone_proto.specs.Keys.{key}
use Rattle.zone_proto.specs.Names.{Name}
use Rattle.zone_proto.specs.Sets.{RRset}
use Rattle.zone_map.specs.Zones.{Sets, set_at}
use Rattle.zone_planning.specs.Filling.{filled}
use Rattle.update_in_place.specs.Parts.{sets_of}
use Rattle.signed_in_place.proofs.Unowned.{none_signed}
use Rattle.signed_in_place.proofs.finishing.finish_change.Goals as goal

pub returns-clause-changed : goal.returns-clause-changed
returns-clause-changed c =
    let records = c.args.prepared.plan.records in
    record {
      before_is = c.in_ok-before.ensures.ok ∙ ap (λ (ns : List Name). sets_of ns c.args.zone.now) c.as_slice.ensures.value;
      after_is = c.in_ok-after.ensures.ok ∙ ap (λ (ns : List Name). sets_of ns c.put_signed.new.zone) c.as_slice-2.ensures.value;
      ordered = c.len-has.ensures.zone.ordered;
      others = λ n t h.
          c.in_ok-put_signed.ensures.put n t
          ∙ ap (λ (o : Option RRset). option_or o (set_at c.args.next.now n t))
          (ap (λ (m : Sets). set_at m n t) c.in-Ok.ensures.filled ∙ none_signed (key n t) records (filled records c.args.signatures.now) (c.requires.planned n t h))
          ∙ c.requires.others n t h;
    }

pub returns-clause-signed : goal.returns-clause-signed
returns-clause-signed c = λ n t.
    c.in_ok-put_signed.ensures.put n t ∙ ap (λ (m : Sets). option_or (set_at m n t) (set_at c.args.next.now n t)) c.in-Ok.ensures.filled
