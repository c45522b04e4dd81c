use Rattle.std.proofs.Common.{◌≡◌, [], refl, sym, ap}
use Rattle.std.specs.Map.{lookup, update_all}
use Rattle.std.proofs.lemmas.List.{nil_from_length}
use Rattle.zone_proto.specs.Keys.{key_eq}
use Rattle.zone_map.specs.Zones.{Sets}
use Rattle.zone_map.proofs.OwnerIndexes.{index_of_keys}
use Rattle.zone_map.proofs.Putting.{all_moved}
use Rattle.zone_map.proofs.record_map.puts.add.Goals as goal

pub returns-then-is_empty-clause-added : goal.returns-then-is_empty-clause-added
returns-then-is_empty-clause-added c =
    let none : c.args.fresh.entries ≡ [] = nil_from_length c.args.fresh.entries (c.is_empty.ensures.0 c.if-is_empty.true) in
    (λ q. sym (ap (λ (xs : Sets). update_all key_eq (λ k. lookup (key_eq k) c.args.sets.now) xs q) none), c.requires)

pub returns-then-is_empty-clause-moved : goal.returns-then-is_empty-clause-moved
returns-then-is_empty-clause-moved c = (c.args.fresh.entries, ([], refl, ((λ q. refl), c.requires)))

pub returns-then-is_empty-clause-index : goal.returns-then-is_empty-clause-index
returns-then-is_empty-clause-index c = λ had keys is. index_of_keys had c.args.sets.now c.args.index.now keys is

pub returns-clause-added : goal.returns-clause-added
returns-clause-added c = all_moved c.args.sets.now c.args.fresh.entries c.append.new.self c.append.new.more.entries c.append.ensures.moved c.in_ok-append.ensures.ok
