use Rattle.std.proofs.Common.{◌≡◌, true, false, List, [], ◌∷◌, ◌++◌, ap, sym, ◌∙◌, subst}
use Rattle.std.specs.Prelude.{option_map}
use Rattle.std.specs.List.{AllByRecursion, list_any}
use Rattle.std.specs.List.Sorted.{IsStrictlySortedBy}
use Rattle.std.specs.Map.{keys_of}
use Rattle.std.proofs.lemmas.Map.Keys.{sorted_head, sorted_tail}
use Rattle.zone_proto.specs.declared.rr_key.RrKey.{RrKey}
use Rattle.zone_proto.specs.Keys.{key_cmp, key_eq}
use Rattle.zone_map.specs.Zones.{Sets}
use Rattle.zone_map.proofs.Ahead.{still_ahead}
use Rattle.zone_map.proofs.Parting.{kept_more, passed_over}
use Rattle.zone_signing.specs.Secured.{goes, gone}
use Rattle.zone_signing.proofs.Changes.{goes-stays, goes-else}
use Rattle.zone_signing.proofs.securing.list_gone.Goals as goal
use Rattle.zone_signing.proofs.securing.list_gone.Goals.{else-not-stays-via-then-not-stays+else-not-has, else-not-stays-via-else-not-stays}

pub loop-key-preserved-then-not-has : goal.loop-key-preserved-then-not-has
loop-key-preserved-then-not-has c =
    let d = option_map (λ t. t.0) c.args.denials in
    let fresh : Sets = c.args.new_denials.now in
    let k = c.in-Some.key.now in
    let left : Sets = c.next.new.self in
    let keys : List RrKey = c.loop-key.keys.items in
    let steps : c.loop-key.key-iterator ≡ (k, c.in-Some.field-0-1.now) ∷ left = c.in-Some.ensures.steps in
    let sorted : IsStrictlySortedBy key_cmp (k ∷ keys_of left) = subst (λ (es : Sets). IsStrictlySortedBy key_cmp (keys_of es)) steps c.loop-key.invariant.ordered in
    let seen : AllByRecursion (λ q. list_any (key_eq q) c.loop-key.ahead ≡ list_any (key_eq q) (keys_of fresh)) (k ∷ keys_of left) =
    subst (λ (es : Sets). AllByRecursion (λ q. list_any (key_eq q) c.loop-key.ahead ≡ list_any (key_eq q) (keys_of fresh)) (keys_of es)) steps c.loop-key.invariant.seen in
    let leaves = goes-else d fresh k false (sym c.stays.ensures ∙ c.if-not-stays.true) (sym seen.0 ∙ sym c.has.ensures.answer ∙ c.if-not-has.true) in
    record {
      ordered = sorted_tail key_cmp k (keys_of left) sorted;
      seen = still_ahead k (keys_of left) c.loop-key.ahead c.has.new.self (λ q. list_any (key_eq q) (keys_of fresh)) (sorted_head key_cmp k (keys_of left) sorted) seen.1 c.has.ensures.later;
      gone =
          ap (λ (ks : List RrKey). ks ++ gone d fresh left) (c.in_ok-push.ensures.items ∙ ap (λ (x : RrKey). keys ++ x ∷ []) c.in_ok-clone.ensures.copy.ok)
          ∙ kept_more (goes d fresh) k keys (keys_of c.loop-key.key-iterator) (keys_of left) (gone d fresh c.args.zone.now) c.loop-key.invariant.gone (ap keys_of steps) leaves;
    }

pub loop-key-preserved : goal.loop-key-preserved
loop-key-preserved c =
    let d = option_map (λ t. t.0) c.args.denials in
    let fresh : Sets = c.args.new_denials.now in
    let k = c.in-Some.key.now in
    let left : Sets = c.next.new.self in
    let keys : List RrKey = c.loop-key.keys.items in
    let steps : c.loop-key.key-iterator ≡ (k, c.in-Some.field-0-1.now) ∷ left = c.in-Some.ensures.steps in
    let sorted : IsStrictlySortedBy key_cmp (k ∷ keys_of left) = subst (λ (es : Sets). IsStrictlySortedBy key_cmp (keys_of es)) steps c.loop-key.invariant.ordered in
    let seen : AllByRecursion (λ q. list_any (key_eq q) c.loop-key.ahead ≡ list_any (key_eq q) (keys_of fresh)) (k ∷ keys_of left) =
    subst (λ (es : Sets). AllByRecursion (λ q. list_any (key_eq q) c.loop-key.ahead ≡ list_any (key_eq q) (keys_of fresh)) (keys_of es)) steps c.loop-key.invariant.seen in
    let over = passed_over (goes d fresh) k keys (keys_of c.loop-key.key-iterator) (keys_of left) (gone d fresh c.args.zone.now) c.loop-key.invariant.gone (ap keys_of steps) in
    elim c.else-not-stays.branch [
      | else-not-stays-via-then-not-stays+else-not-has w ↦
          record {
            ordered = sorted_tail key_cmp k (keys_of left) sorted;
            seen =
                subst (λ (ahead : List RrKey). AllByRecursion (λ q. list_any (key_eq q) ahead ≡ list_any (key_eq q) (keys_of fresh)) (keys_of left)) (sym w.ahead-is)
                (still_ahead k (keys_of left) c.loop-key.ahead w.has.new.self (λ q. list_any (key_eq q) (keys_of fresh)) (sorted_head key_cmp k (keys_of left) sorted) seen.1 w.has.ensures.later);
            gone = over (goes-else d fresh k true (sym c.stays.ensures ∙ w.if-not-stays.true) (sym seen.0 ∙ sym w.has.ensures.answer ∙ w.if-not-has.false));
          }
      | else-not-stays-via-else-not-stays w ↦
          record {
            ordered = sorted_tail key_cmp k (keys_of left) sorted;
            seen = subst (λ (ahead : List RrKey). AllByRecursion (λ q. list_any (key_eq q) ahead ≡ list_any (key_eq q) (keys_of fresh)) (keys_of left)) (sym w.ahead-is) seen.1;
            gone = over (goes-stays d fresh k (sym c.stays.ensures ∙ w.if-not-stays.false));
          }
    ]
