use Rattle.std.proofs.Common.{◌≡◌, ◌++◌, [], true, map, sym, ap, ◌∙◌, append-nil}
use Rattle.std.proofs.lemmas.Result.{IfOk-weaker, on_ok_weaker}
use Rattle.zone_proto.specs.Data.{same_data}
use Rattle.zone_builder.specs.declared.given.GivenRecord.{GivenRecord}
use Rattle.zone_builder.specs.Repeats.{are_distinct, flagged, unflagged, repeats_behind}
use Rattle.zone_builder.specs.Warnings.{repeated_warning}
use Rattle.zone_builder.proofs.Repeating.{all_first, flagged_repeats, none_repeated, unflagged_repeats}
use Rattle.zone_builder.proofs.repeats.first_ones.Goals as goal

pub returns-then-are_distinct-clause-ok : goal.returns-then-are_distinct-clause-ok
returns-then-are_distinct-clause-ok c =
    let distinct : are_distinct c.args.records.items ≡ true = ap are_distinct (sym c.as_slice.ensures.value) ∙ sym c.are_distinct.ensures ∙ c.if-are_distinct.true in
    sym (all_first c.args.records.items distinct)

pub returns-then-are_distinct-clause-warned : goal.returns-then-are_distinct-clause-warned
returns-then-are_distinct-clause-warned c =
    let distinct : are_distinct c.args.records.items ≡ true = ap are_distinct (sym c.as_slice.ensures.value) ∙ sym c.are_distinct.ensures ∙ c.if-are_distinct.true in
    sym (append-nil c.args.warnings.now.items) ∙ ap (λ gs. c.args.warnings.now.items ++ map repeated_warning gs) (sym (none_repeated c.args.records.items distinct))

pub returns-clause-ok : goal.returns-clause-ok
returns-clause-ok c =
    let said : c.in_ok-repeats.repeats.items ≡ repeats_behind same_data [] (map (λ (g : GivenRecord). g.record.rdata) c.args.records.items) =
    c.in_ok-repeats.ensures ∙ ap (λ gs. repeats_behind same_data [] (map (λ (g : GivenRecord). g.record.rdata) gs)) c.as_slice-2.ensures.value in
    IfOk-weaker c.parted.result _ _ (λ first h. h ∙ ap (unflagged c.args.records.items) said ∙ unflagged_repeats [] c.args.records.items) c.parted.ensures.ok

pub returns-clause-warned : goal.returns-clause-warned
returns-clause-warned c =
    let said : c.in_ok-repeats.repeats.items ≡ repeats_behind same_data [] (map (λ (g : GivenRecord). g.record.rdata) c.args.records.items) =
    c.in_ok-repeats.ensures ∙ ap (λ gs. repeats_behind same_data [] (map (λ (g : GivenRecord). g.record.rdata) gs)) c.as_slice-2.ensures.value in
    on_ok_weaker c.parted.result (λ h. h ∙ ap (λ gs. c.args.warnings.now.items ++ map repeated_warning gs) (ap (flagged c.args.records.items) said ∙ flagged_repeats [] c.args.records.items)) c.parted.ensures.warned
