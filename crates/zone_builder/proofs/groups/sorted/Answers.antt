use Rattle.std.proofs.Common.{rules}
use Rattle.std.proofs.lemmas.List.Sorted.{answers_always}
use Rattle.zone_builder.specs.declared.groups.Group.{Group}
use Rattle.zone_builder.proofs.Sorting.{is_before, is_before_ranks, named_sorted, sorted_so, under_sorted}
use Rattle.zone_builder.proofs.groups.sorted.Goals as goal

pub returns-clause-records : goal.returns-clause-records
returns-clause-records c =
    under_sorted (λ (g : Group). g.records.items) c.args.groups.items c.sort_by.new.self.items c.in_ok-sort_by.ensures.permutation
    (c.in_ok-sort_by.ensures.stable is_before is_before_ranks (answers_always _ _ _ (λ f a r g h. search rules)))

pub returns-clause-signatures : goal.returns-clause-signatures
returns-clause-signatures c =
    under_sorted (λ (g : Group). g.signatures.items) c.args.groups.items c.sort_by.new.self.items c.in_ok-sort_by.ensures.permutation
    (c.in_ok-sort_by.ensures.stable is_before is_before_ranks (answers_always _ _ _ (λ f a r g h. search rules)))

pub returns-clause-named : goal.returns-clause-named
returns-clause-named c = named_sorted c.args.groups.items c.sort_by.new.self.items c.in_ok-sort_by.ensures.permutation

pub returns-clause-sorted : goal.returns-clause-sorted
returns-clause-sorted c =
    sorted_so c.sort_by.new.self.items (c.in_ok-sort_by.ensures.sorted is_before is_before_ranks (answers_always _ _ _ (λ f a r g h. search rules)))
