use Rattle.std.proofs.Common.{◌≡◌, ℕ, List, [], ◌++◌, ◌∷◌, Some, refl, sym, ap, ◌∙◌, append_assoc, rules}
use Rattle.std.specs.Fmt.{HasWritten, IsPlainFormatter}
use Rattle.std.proofs.lemmas.Grind.{put_two}
use Rattle.message_reading.specs.Octets.{counted_of}
use Rattle.zone_file_writer.specs.Strings.{further_text, quoted_text}
use Rattle.zone_file_writer.proofs.StringFacts.{further_more}
use Rattle.zone_file_writer.proofs.strings.FurtherStringsDisplay.fmt.Goals as goal

pub loop-string-init : goal.loop-string-init
loop-string-init g c = ([], search rules, λ p. search rules)

pub loop-string-preserved : goal.loop-string-preserved
loop-string-preserved g c =
    let written : List ℕ = c.loop-string.invariant.0 in
    let one : List ℕ = 32 ∷ quoted_text c.in-Some.string.now in
    let others : List ℕ = c.in-Some.others.now in
    let split : counted_of c.loop-string.rest.now ≡ Some (c.in-Some.string.now, others) = search rules in (
      written ++ one,
      c.loop-string.invariant.1
          ∙ ap (λ (z : List ℕ). written ++ z) (further_more c.loop-string.rest.now c.in-Some.string.now others split)
          ∙ sym (append_assoc written one (further_text others)),
      λ p. let before = c.loop-string.invariant.2 p in
          let plain : IsPlainFormatter c.loop-string.f = before.plain in
          let now : HasWritten g.W.Write.write_str_gives c.loop-string.f one c.write.new.self = search rules in
          put_two g.W.Write.write_str_gives _ _ _ written one _ before now refl,
    )
