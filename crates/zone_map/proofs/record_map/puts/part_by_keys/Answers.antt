use Rattle.std.proofs.Common.{◌≡◌, length, ap, sym, ◌∙◌, arith, rules}
use Rattle.std.specs.Prelude.{not, filter, Some}
use Rattle.std.specs.List.{list_any}
use Rattle.std.specs.Map.{keys_of}
use Rattle.zone_proto.specs.declared.rr_key.RrKey.{RrKey}
use Rattle.zone_proto.specs.Keys.{key_eq}
use Rattle.zone_map.proofs.Parting.{none_stands, all_fresh, map_of_filter}
use Rattle.zone_map.proofs.Putting.{keys_of-filter}
use Rattle.zone_map.proofs.record_map.puts.part_by_keys.Goals as goal

pub returns-then-len : goal.returns-then-len
returns-then-len c =
    let stands = λ (q : RrKey). list_any (key_eq q) (keys_of c.args.sets.now) in
    let more = c.args.more.entries in
    let added = c.in_ok-added.added in
    let all : length (filter (λ k. not (stands k)) (keys_of more)) ≡ length more = omega (arith, ap length c.in_ok-added.ensures.ok, added.ok.0) in
    record {
      common = c.new.ensures.items ∙ sym (none_stands stands more all);
      fresh = sym (all_fresh stands more all);
      added = ap Some (c.in_ok-added.ensures.ok ∙ sym (keys_of-filter (λ k. not (stands k)) more) ∙ ap keys_of (all_fresh stands more all));
      err = search rules;
    }

pub separate-requires : goal.separate-requires
separate-requires c = ((λ q. list_any (key_eq q) (keys_of c.args.sets.now)), c.as_slice.ensures.value ∙ c.in_ok-added.ensures.ok)

pub returns : goal.returns
returns c =
    let stands = λ (q : RrKey). list_any (key_eq q) (keys_of c.args.sets.now) in
    let more = c.args.more.entries in
    let are_added = c.as_slice.ensures.value ∙ c.in_ok-added.ensures.ok in
    let parts = c.in_ok-common in
    let made = map_of_filter (λ k. not (stands k)) more parts.fresh.items c.in_ok-fresh.fresh c.len-2.ensures.ordered (parts.ensures.fresh stands are_added) c.in_ok-fresh.ensures in
    record {
      common = parts.ensures.common stands are_added;
      fresh = made;
      added = ap Some (c.in_ok-added.ensures.ok ∙ sym (keys_of-filter (λ k. not (stands k)) more) ∙ ap keys_of (sym made));
      err = search rules;
    }
