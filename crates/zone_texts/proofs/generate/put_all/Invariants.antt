use Rattle.std.proofs.Common.{◌≡◌, ◌++◌}
use Rattle.std.specs.Prelude.{option_map}
use Rattle.zone_texts.specs.Generation.{Template, count_of, records_from}
use Rattle.zone_texts.proofs.generate.put_all.Given as goal

abbrev pub invariant-loop-left : goal.invariant-loop-left
invariant-loop-left l =
    let t : Template = record { owner = l.template.owner.now; middle = l.template.middle.now; data_word = l.template.data_word.now } in
    option_map (λ rs. l.fn.records.items ++ rs) (records_from l.context l.place t l.numbers.step (count_of l.numbers) l.numbers.first)
    ≡ option_map (λ rs. l.records.items ++ rs) (records_from l.context l.place t l.numbers.step l.left l.number)

abbrev pub decreases-loop-left : goal.decreases-loop-left
decreases-loop-left l = l.left
