use Rattle.std.proofs.Common.{rules, ◌≡◌, ◌+◌, ◌∷◌, false, Some, drop, sym, ap, ◌∙◌}
use Rattle.std.proofs.lemmas.List.{drop_more}
use Rattle.record_fields.specs.Prefixes.{prefix_of_word}
use Rattle.record_fields.specs.Readings.{after}
use Rattle.record_fields.specs.Texts.{prefixes_of}
use Rattle.record_fields.proofs.PrefixFacts.{one_prefix_more}
use Rattle.record_fields.proofs.prefixes.push_all.Goals as goal

pub loop-word-preserved : goal.loop-word-preserved
loop-word-preserved c =
    let words = c.args.words.now in
    let i = c.loop-word.word-index in
    let left : drop i words ≡ c.word-item.result ∷ drop (i + 1) words = drop_more words i c.word-item.result c.loop-word-test.true ∙ ap (λ w. w ∷ drop (i + 1) words) (sym c.word-item.is) in
    let plain : c.word-item.result.quoted ≡ false = search rules in
    let read : prefix_of_word c.word-item.result.octets ≡ Some c.in-Some.octets.items = search rules in
    one_prefix_more c.loop-word.out.items c.extend_from_slice.new.self.items c.in-Some.octets.items c.word-item.result (drop i words) (drop (i + 1) words)
    (after c.args.out.now.items (prefixes_of words)) left (search rules) plain read c.loop-word.invariant
