use Rattle.std.proofs.Common.{ℕ, List, [], ◌++◌, refl, sym, ap, ◌∙◌, append_assoc, rules}
use Rattle.std.specs.Fmt.{HasWritten, IsPlainFormatter}
use Rattle.std.proofs.lemmas.Grind.{put_two}
use Rattle.zone_proto.specs.Sets.{RRset}
use Rattle.zone_proto.specs.declared.rr_key.RrKey.{RrKey}
use Rattle.zone_map.specs.Zones.{Sets}
use Rattle.zone_file_writer.specs.Printing.{lines_text}
use Rattle.zone_printing.specs.ZoneRecords.{other_records, records_unless_at}
use Rattle.zone_printing.proofs.ZoneTexts.{first_of_others}
use Rattle.zone_printing.proofs.zone_text.OthersTextDisplay.fmt.Goals as goal

pub loop-key-init : goal.loop-key-init
loop-key-init g c = ([], search rules, λ p. search rules)

pub loop-key-preserved : goal.loop-key-preserved
loop-key-preserved g c =
    let k : RrKey = c.args.self.now.1.now in
    let e : RrKey × RRset = (c.in-Some.key.now, c.in-Some.set.now) in
    let written : List ℕ = c.loop-key.invariant.0 in
    let one : List ℕ = lines_text (records_unless_at k e) in
    let left : List ℕ = lines_text (other_records k c.next.new.self) in (
      written ++ one,
      c.loop-key.invariant.1
          ∙ ap (λ (z : Sets). written ++ lines_text (other_records k z)) c.in-Some.ensures.steps
          ∙ ap (λ (z : List ℕ). written ++ z) (first_of_others k c.next.new.self e)
          ∙ sym (append_assoc written one left),
      λ p. let before = c.loop-key.invariant.2 p in
          let plain : IsPlainFormatter c.loop-key.f = before.plain in
          let now : HasWritten g.W.Write.write_str_gives c.loop-key.f one c.write.new.self = search rules in
          put_two g.W.Write.write_str_gives _ _ _ written one _ before now refl,
    )
