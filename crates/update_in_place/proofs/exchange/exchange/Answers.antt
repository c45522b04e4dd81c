use Rattle.std.proofs.Common.{◌≡◌, List, sym, ap, ◌∙◌, subst}
use Rattle.std.specs.Prelude.{None, if◌then◌else◌}
use Rattle.std.specs.List.{list_any}
use Rattle.std.specs.List.Sorted.{IsStrictlySortedBy}
use Rattle.std.specs.Map.{keys_of, lookup}
use Rattle.std.specs.Option.{option_or}
use Rattle.std.proofs.lemmas.List.Elements.{All-filter}
use Rattle.zone_proto.specs.Sets.{RRset}
use Rattle.zone_proto.specs.declared.rr_key.RrKey.{RrKey}
use Rattle.zone_proto.specs.Keys.{key_cmp, key_eq}
use Rattle.zone_map.specs.Puts.{without_all}
use Rattle.zone_map.specs.Zones.{owns, AreStored, IsStoredAt, Sets}
use Rattle.zone_map.proofs.Putting.{sorted_filter}
use Rattle.update_in_place.specs.Parts.{keys_lacking}
use Rattle.update_in_place.proofs.Exchanged.{exchanged_all, lacking_absent}
use Rattle.update_in_place.proofs.exchange.exchange.Goals as goal

pub put_fresh-requires : goal.put_fresh-requires
put_fresh-requires c =
    let is : c.as_slice.result.now ≡ keys_lacking c.args.after.now c.args.before.now = c.as_slice.ensures.value ∙ c.in_ok-fresh.ensures.ok in
    record { absent = λ k h. lacking_absent c.args.zone.now c.args.before.now c.args.after.now c.requires.part k (sym (ap (list_any (key_eq k)) is) ∙ h) }

pub replace_all-requires : goal.replace_all-requires
replace_all-requires c =
    let before = c.args.before.now in
    let after = c.args.after.now in
    record {
      stored =
          subst AreStored (sym c.in_ok-common.ensures.ok)
          (All-filter (λ (e : RrKey × RRset). owns before e.0.name e.0.record_type.0) (λ (e : RrKey × RRset). IsStoredAt e.0.name e.0.record_type.0 e.1) after c.in_ok-common.ensures.stored);
      ordered =
          subst (λ (m : Sets). IsStrictlySortedBy key_cmp (keys_of m)) (sym c.in_ok-common.ensures.ok)
          (sorted_filter (λ (k : RrKey). owns before k.name k.record_type.0) after c.len-sorted.ensures.zone.ordered);
    }

pub returns-clause-exchanged : goal.returns-clause-exchanged
returns-clause-exchanged c =
    let old = c.args.zone.now in
    let after = c.args.after.now in
    let is : c.as_slice.result.now ≡ keys_lacking after c.args.before.now = c.as_slice.ensures.value ∙ c.in_ok-fresh.ensures.ok in
    exchanged_all old c.put_fresh.new.zone c.replace_all.new.zone c.remove_all.new.zone c.args.before.now after c.in_ok-common.common.items c.len-has.ensures.zone.ordered c.requires.part c.in_ok-common.ensures.ok
    (λ q. c.in_ok-put_fresh.ensures.put q
    ∙ ap (λ (ks : List RrKey). option_or (lookup (key_eq q) old) (if list_any (key_eq q) ks then lookup (key_eq q) after else None)) is)
    c.replace_all.ensures
    (c.remove_all.ensures ∙ ap (without_all c.replace_all.new.zone) (c.as_slice-2.ensures.value ∙ c.in_ok-gone.ensures.ok))
