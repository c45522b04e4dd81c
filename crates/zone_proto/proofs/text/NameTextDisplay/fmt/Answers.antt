use Rattle.std.proofs.Common.{[], ◌++◌, refl, sym, ap, ◌∙◌, append_assoc, rules}
use Rattle.std.specs.Fmt.{HasWritten, IsPlainFormatter}
use Rattle.std.specs.List.{flat_map}
use Rattle.std.proofs.lemmas.Grind.{put_two}
use Rattle.zone_proto.specs.Text.{label_text}
use Rattle.zone_proto.proofs.text.NameTextDisplay.fmt.Goals as goal

pub loop-label-init : goal.loop-label-init
loop-label-init g c = ([], search rules, λ p. search rules)

pub loop-label-preserved : goal.loop-label-preserved
loop-label-preserved g c =
    let written = c.loop-label.invariant.0 in
    let one = label_text c.in-Some-label.label.now in (
      written ++ one,
      c.loop-label.invariant.1
          ∙ ap (λ z. written ++ flat_map label_text z) c.in-Some-label.ensures.steps
          ∙ sym (append_assoc written one (flat_map label_text c.next.new.self)),
      λ p. let before = c.loop-label.invariant.2 p in
          let plain : IsPlainFormatter c.loop-label.f = before.plain in
          let now : HasWritten g.W.Write.write_str_gives c.loop-label.f one c.write-in-loop-label.new.self = search rules in
          put_two g.W.Write.write_str_gives _ _ _ written one _ before now refl,
    )
