use Rattle.std.proofs.Common.{◌≡◌, [], ◌∷◌, ◌++◌, sym, ap, ◌∙◌, append-nil}
use Rattle.std.proofs.lemmas.List.{nil_from_length}
use Rattle.std.specs.Vec.Iter.{into_iter_items, into_iter_deque}
use Rattle.zone_builder.specs.Groups.{all_records_in, all_signatures_in}
use Rattle.zone_builder.specs.Records.{is_data_of, is_signature_of}
use Rattle.zone_builder.specs.Warnings.{outside_warnings}
use Rattle.zone_builder.proofs.Warned.{outside_more}
use Rattle.zone_builder.proofs.RecordsGrouped.{one_more, none_left}
use Rattle.zone_builder.proofs.grouping.in_turn.Goals as goal

pub loop-given-preserved : goal.loop-given-preserved
loop-given-preserved c =
    let left = into_iter_items c.loop-given.given-iterator in
    let rest = into_iter_items c.next.new.self in
    let steps : left ≡ c.in-Some.given ∷ rest = c.in-Some.ensures.steps.0 in
    record {
      named = c.in_ok-take.ensures.named c.loop-given.invariant.named;
      records = λ k. one_more (is_data_of c.args.origin.now k) (all_records_in c.loop-given.groups.items k) (all_records_in c.take.new.groups.items k) left rest c.in-Some.given (c.in_ok-take.ensures.records k) steps ∙ c.loop-given.invariant.records k;
      warned = outside_more c.args.origin.now c.loop-given.warnings.items c.take.new.warnings.items left rest c.in-Some.given c.in_ok-take.ensures.warned steps ∙ c.loop-given.invariant.warned;
      signatures = λ k. one_more (is_signature_of c.args.origin.now k) (all_signatures_in c.loop-given.groups.items k) (all_signatures_in c.take.new.groups.items k) left rest c.in-Some.given (c.in_ok-take.ensures.signatures k) steps ∙ c.loop-given.invariant.signatures k;
    }

pub returns-clause-records : goal.returns-clause-records
returns-clause-records c =
    let left = c.loop-given.given-iterator in
    let none : into_iter_items left ≡ [] = nil_from_length (into_iter_items left) (sym (into_iter_deque left).ok.0 ∙ c.in-None.ensures.steps.0) in
    λ k. none_left (is_data_of c.args.origin.now k) (all_records_in c.loop-given.groups.items k) (into_iter_items left) none ∙ c.loop-given.invariant.records k

pub returns-clause-signatures : goal.returns-clause-signatures
returns-clause-signatures c =
    let left = c.loop-given.given-iterator in
    let none : into_iter_items left ≡ [] = nil_from_length (into_iter_items left) (sym (into_iter_deque left).ok.0 ∙ c.in-None.ensures.steps.0) in
    λ k. none_left (is_signature_of c.args.origin.now k) (all_signatures_in c.loop-given.groups.items k) (into_iter_items left) none ∙ c.loop-given.invariant.signatures k

pub returns-clause-warned : goal.returns-clause-warned
returns-clause-warned c =
    let left = c.loop-given.given-iterator in
    let none : into_iter_items left ≡ [] = nil_from_length (into_iter_items left) (sym (into_iter_deque left).ok.0 ∙ c.in-None.ensures.steps.0) in
    sym (append-nil c.loop-given.warnings.items) ∙ ap (λ gs. c.loop-given.warnings.items ++ outside_warnings c.args.origin.now gs) (sym none) ∙ c.loop-given.invariant.warned
