use Rattle.std.proofs.Common.{option_copied, rules, arith}
use Rattle.std.proofs.lemmas.List.Sorted.{IsPartitionPoint-from_clause}
use Rattle.zone_proto.specs.Names.{name_cmp}
use Rattle.zone_proto.specs.Order.{is_upto}
use Rattle.hashed_changes.specs.declared.places.Place.{Place}
use Rattle.hashed_changes.proofs.Halving.{parts}
use Rattle.hashed_changes.proofs.InOrder.{place_owner}
use Rattle.hashed_changes.proofs.NextPlaces.{comes_next, comes_first_of_all}
use Rattle.hashed_changes.proofs.places.next_among.Goals as goal

pub returns-then-after-places : goal.returns-then-after-places
returns-then-after-places c =
    let o = c.args.owner.now in
    let point = IsPartitionPoint-from_clause (λ (p : Place). is_upto name_cmp p.owner o) _ _ c.partition_point-after.ensures.partitioned (parts place_owner o c.args.places.now c.requires) (λ a r q k. search rules) in
    comes_next o c.args.places.now c.requires c.partition_point-after.result point c.index-places-after.result (omega arith) c.index-places-after.is

pub returns : goal.returns
returns c =
    let o = c.args.owner.now in
    let point = IsPartitionPoint-from_clause (λ (p : Place). is_upto name_cmp p.owner o) _ _ c.partition_point-after.ensures.partitioned (parts place_owner o c.args.places.now c.requires) (λ a r q k. search rules) in
    comes_first_of_all o c.args.places.now c.requires c.partition_point-after.result point (omega arith) (option_copied c.first.result) c.first.ensures.value
