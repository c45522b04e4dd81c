use Rattle.std.proofs.Common.{◌≡◌, ℕ, List, [], ◌++◌, Some, refl, sym, ap, ◌∙◌, append_assoc, rules}
use Rattle.std.specs.Fmt.{HasWritten, IsPlainFormatter}
use Rattle.std.proofs.lemmas.Grind.{put_two}
use Rattle.message_reading.specs.Octets.{counted_of}
use Rattle.zone_file_writer.specs.Labels.{part_text, parts_text}
use Rattle.zone_file_writer.proofs.LabelFacts.{parts_more}
use Rattle.zone_file_writer.proofs.labels.LabelsTextDisplay.fmt.Goals as goal

pub loop-label-init : goal.loop-label-init
loop-label-init g c = ([], search rules, λ p. search rules)

pub loop-label-preserved : goal.loop-label-preserved
loop-label-preserved g c =
    let written : List ℕ = c.loop-label.invariant.0 in
    let one : List ℕ = part_text c.in-Some.label.now in
    let others : List ℕ = c.in-Some.others.now in
    let split : counted_of c.loop-label.rest.now ≡ Some (c.in-Some.label.now, others) = search rules in (
      written ++ one,
      c.loop-label.invariant.1
          ∙ ap (λ (z : List ℕ). written ++ z) (parts_more c.loop-label.rest.now c.in-Some.label.now others split)
          ∙ sym (append_assoc written one (parts_text others)),
      λ p. let before = c.loop-label.invariant.2 p in
          let plain : IsPlainFormatter c.loop-label.f = before.plain in
          let now : HasWritten g.W.Write.write_str_gives c.loop-label.f one c.write.new.self = search rules in
          put_two g.W.Write.write_str_gives _ _ _ written one _ before now refl,
    )
