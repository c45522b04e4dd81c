use Rattle.std.proofs.Common.{◌≡◌, List, [], sym, ap, ◌∙◌}
use Rattle.std.specs.Prelude.{Some}
use Rattle.std.proofs.lemmas.List.{nil_from_length}
use Rattle.std.specs.Vec.Iter.{into_iter_items, into_iter_deque}
use Rattle.zone_proto.specs.Sets.{RRset}
use Rattle.zone_journal.specs.Standing.{grouped_of}
use Rattle.zone_journal.proofs.Reading.{all_read, none_more, some_more}
use Rattle.zone_journal.proofs.grouping.sets_in.Goals as goal

pub returns-in-None-2 : goal.returns-in-None-2
returns-in-None-2 c =
    none_more (grouped_of c.loop-next.groups) (into_iter_items c.loop-next.next-iterator) (into_iter_items c.next.new.self) c.args.records.items c.in-Some.next
    c.in-Some.ensures.steps.0 (rw c.in-None-2.is at c.in_ok-with_record.ensures) c.loop-next.invariant

pub loop-next-preserved : goal.loop-next-preserved
loop-next-preserved c =
    some_more (grouped_of c.loop-next.groups) (grouped_of c.in-Some-2.more) (into_iter_items c.loop-next.next-iterator) (into_iter_items c.next.new.self) c.args.records.items
    c.in-Some.next c.in-Some.ensures.steps.0 (rw c.in-Some-2.is at c.in_ok-with_record.ensures) c.loop-next.invariant

pub returns : goal.returns
returns c =
    let left = c.loop-next.next-iterator in
    let none : into_iter_items left ≡ [] = nil_from_length (into_iter_items left) (sym (into_iter_deque left).ok.0 ∙ c.in-None.ensures.steps.0) in
    ap (λ (xs : List RRset). Some xs) c.in_ok-all_sets.ensures ∙ all_read (grouped_of c.loop-next.groups) (into_iter_items left) c.args.records.items none c.loop-next.invariant
