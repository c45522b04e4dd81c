use Rattle.std.proofs.Common.{◌≡◌, true, false, List, [], ◌∷◌, ◌++◌, ap, sym, ◌∙◌, subst}
use Rattle.std.specs.Prelude.{filter, not}
use Rattle.std.specs.List.{AllByRecursion, list_any}
use Rattle.std.specs.List.Sorted.{IsStrictlySortedBy}
use Rattle.std.specs.Map.{keys_of}
use Rattle.std.proofs.lemmas.Map.Keys.{sorted_head, sorted_tail}
use Rattle.zone_proto.specs.declared.rr_key.RrKey.{RrKey}
use Rattle.zone_proto.specs.Keys.{key_cmp, key_eq}
use Rattle.zone_map.proofs.Ahead.{still_ahead}
use Rattle.zone_map.proofs.Parting.{kept_more, passed_over}
use Rattle.zone_map.proofs.record_map.puts.absent_keys.Goals as goal

seen_of : (a b : List RrKey) → a ≡ b → (ks : List RrKey) → AllByRecursion (λ q. list_any (key_eq q) a ≡ list_any (key_eq q) b) ks
seen_of a b same [] = tt
seen_of a b same (k ∷ ks) = (ap (list_any (key_eq k)) same, seen_of a b same ks)

pub loop-key-init : goal.loop-key-init
loop-key-init c =
    let keys : c.into_iter-key-iterator.result ≡ keys_of c.args.more.now.entries = c.into_iter-key-iterator.ensures.into_iter_gives ∙ c.keys-key-items.ensures.rest in
    let here : c.new-ahead.result ≡ keys_of c.args.sets.now = c.new-ahead.ensures ∙ ap keys_of c.iter.ensures.rest in
    record {
      ordered = subst (IsStrictlySortedBy key_cmp) (sym keys) c.keys-key-items.ensures.ordered;
      seen = seen_of c.new-ahead.result (keys_of c.args.sets.now) here c.into_iter-key-iterator.result;
      absent =
          ap (λ (ks : List RrKey). ks ++ filter (λ q. not (list_any (key_eq q) (keys_of c.args.sets.now))) c.into_iter-key-iterator.result) c.new-absent.ensures.items
          ∙ ap (filter (λ q. not (list_any (key_eq q) (keys_of c.args.sets.now)))) keys;
    }

pub loop-key-preserved-in_ok-push : goal.loop-key-preserved-in_ok-push
loop-key-preserved-in_ok-push c =
    let k = c.in-Some.key.now in
    let left : List RrKey = c.next.new.self in
    let here : List RrKey = keys_of c.args.sets.now in
    let absent : List RrKey = c.loop-key.absent.items in
    let steps : c.loop-key.key-iterator ≡ k ∷ left = c.in-Some.ensures.steps in
    let sorted : IsStrictlySortedBy key_cmp (k ∷ left) = subst (IsStrictlySortedBy key_cmp) steps c.loop-key.invariant.ordered in
    let seen : AllByRecursion (λ q. list_any (key_eq q) c.loop-key.ahead ≡ list_any (key_eq q) here) (k ∷ left) =
    subst (AllByRecursion (λ q. list_any (key_eq q) c.loop-key.ahead ≡ list_any (key_eq q) here)) steps c.loop-key.invariant.seen in
    let stands : list_any (key_eq k) here ≡ false = sym seen.0 ∙ sym c.has.ensures.answer ∙ c.if-not-has.true in
    record {
      ordered = sorted_tail key_cmp k left sorted;
      seen = still_ahead k left c.loop-key.ahead c.has.new.self (λ q. list_any (key_eq q) here) (sorted_head key_cmp k left sorted) seen.1 c.has.ensures.later;
      absent =
          ap (λ (ks : List RrKey). ks ++ filter (λ q. not (list_any (key_eq q) here)) left) (c.in_ok-push.ensures.items ∙ ap (λ (x : RrKey). absent ++ x ∷ []) c.in_ok-clone.ensures.copy.ok)
          ∙ kept_more (λ q. not (list_any (key_eq q) here)) k absent c.loop-key.key-iterator left (filter (λ q. not (list_any (key_eq q) here)) (keys_of c.args.more.now.entries)) c.loop-key.invariant.absent steps (ap not stands);
    }

pub loop-key-preserved : goal.loop-key-preserved
loop-key-preserved c =
    let k = c.in-Some.key.now in
    let left : List RrKey = c.next.new.self in
    let here : List RrKey = keys_of c.args.sets.now in
    let steps : c.loop-key.key-iterator ≡ k ∷ left = c.in-Some.ensures.steps in
    let sorted : IsStrictlySortedBy key_cmp (k ∷ left) = subst (IsStrictlySortedBy key_cmp) steps c.loop-key.invariant.ordered in
    let seen : AllByRecursion (λ q. list_any (key_eq q) c.loop-key.ahead ≡ list_any (key_eq q) here) (k ∷ left) =
    subst (AllByRecursion (λ q. list_any (key_eq q) c.loop-key.ahead ≡ list_any (key_eq q) here)) steps c.loop-key.invariant.seen in
    let stands : list_any (key_eq k) here ≡ true = sym seen.0 ∙ sym c.has.ensures.answer ∙ c.if-not-has.false in
    record {
      ordered = sorted_tail key_cmp k left sorted;
      seen = still_ahead k left c.loop-key.ahead c.has.new.self (λ q. list_any (key_eq q) here) (sorted_head key_cmp k left sorted) seen.1 c.has.ensures.later;
      absent = passed_over (λ q. not (list_any (key_eq q) here)) k c.loop-key.absent.items c.loop-key.key-iterator left (filter (λ q. not (list_any (key_eq q) here)) (keys_of c.args.more.now.entries)) c.loop-key.invariant.absent steps (ap not stands);
    }
