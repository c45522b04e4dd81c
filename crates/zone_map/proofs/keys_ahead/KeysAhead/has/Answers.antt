use Rattle.std.proofs.Common.{◌≡◌, true, ap, sym, ◌∙◌, subst}
use Rattle.std.specs.Prelude.{IfSome, option_copied}
use Rattle.std.specs.List.{list_any}
use Rattle.std.specs.List.Sorted.{IsStrictlySortedBy}
use Rattle.std.specs.Map.{keys_of}
use Rattle.zone_proto.specs.Keys.{key_cmp, key_eq}
use Rattle.zone_proto.specs.Order.{is_upto}
use Rattle.zone_map.specs.Ahead.{ahead}
use Rattle.zone_map.proofs.Ahead.{only_first, upto_itself}
use Rattle.zone_map.proofs.keys_ahead.KeysAhead.has.Goals as goal
use Rattle.zone_map.proofs.keys_ahead.KeysAhead.has.Goals.{in-Some, in-None}

pub returns-clause-answer : goal.returns-clause-answer
returns-clause-answer c =
    let k = c.args.key.now in
    let passed = c.first_not_before-self-inside in
    let others = keys_of passed.new.others in
    let same = passed.ensures.same k (upto_itself k) ∙ ap (list_any (key_eq k)) c.self.view_is in
    elim c.match-self.branch [
      | in-Some w ↦
          let ordered = subst (λ o. IsStrictlySortedBy key_cmp (ahead (option_copied o) others)) w.in-Some.is passed.ensures.ordered in
          let upto = subst (λ o. IfSome o (λ f. is_upto key_cmp k f.now ≡ true)) w.in-Some.is passed.ensures.first in
          w.result-is ∙ w.same_as.ensures ∙ sym (only_first w.in-Some.first.now k others ordered upto)
          ∙ ap (λ o. list_any (key_eq k) (ahead (option_copied o) others)) (sym w.in-Some.is) ∙ same
      | in-None w ↦ w.result-is ∙ ap (λ o. list_any (key_eq k) (ahead (option_copied o) others)) (sym w.in-None.is) ∙ same
    ]
