use Rattle.std.proofs.Common.{rules, ◌≡◌, ◌+◌, Some, drop, ◌∷◌, sym, ap, ◌∙◌}
use Rattle.std.proofs.lemmas.List.{drop_more}
use Rattle.record_fields.specs.TypeLists.{types_named}
use Rattle.record_fields.specs.Fields.{record_type_named}
use Rattle.record_fields.proofs.TypeFacts.{one_type_more}
use Rattle.record_fields.proofs.type_lists.read_types.Goals as goal

pub loop-word-preserved : goal.loop-word-preserved
loop-word-preserved c =
    let words = c.args.words.now in
    let i = c.loop-word.word-index in
    let left : drop i words ≡ c.word-item.result ∷ drop (i + 1) words = drop_more words i c.word-item.result c.loop-word-test.true ∙ ap (λ w. w ∷ drop (i + 1) words) (sym c.word-item.is) in
    let named : record_type_named c.word-item.result.octets ≡ Some c.in-Some.record_type = search rules in
    one_type_more c.loop-word.types.items c.push.new.self.items c.in-Some.record_type c.word-item.result (drop i words) (drop (i + 1) words) (types_named words)
    left c.in_ok-push.ensures.items named c.loop-word.invariant
