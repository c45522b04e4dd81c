use Rattle.std.proofs.Common.{◌≡◌, ap, sym, ◌∙◌, subst}
use Rattle.std.specs.List.Sorted.{IsStrictlySortedBy}
use Rattle.std.specs.Map.{keys_of}
use Rattle.std.specs.Option.{unwrap_or}
use Rattle.zone_proto.specs.Keys.{key, key_cmp}
use Rattle.zone_map.specs.DenialOwners.{listed_of}
use Rattle.zone_map.specs.Puts.{ArePut, with_exchanged, with_before}
use Rattle.zone_map.specs.Zones.{Sets, IsZone}
use Rattle.zone_map.proofs.FirstDenials.{all_undone}
use Rattle.zone_map.proofs.Putting.{keys_exchanged, are_put, IsZone-put_all}
use Rattle.zone_map.proofs.record_map.RecordMap.put_all.Goals as goal

-- the new sets that were put
are_there : (c : goal.In-Ok) → ArePut c.args.self.now c.args.sets c.add.new.sets
are_there c =
    let had : Sets = c.args.self.now in
    let parted = c.in_ok-parted in
    let more : Sets = c.into_map.result.entries in
    let ordered : IsStrictlySortedBy key_cmp (keys_of more) = subst (λ (m : Sets). IsStrictlySortedBy key_cmp (keys_of m)) (sym c.into_map.ensures.entries) c.into_map.ensures.zone.ordered in
    subst (λ (m : Sets). ArePut had m c.add.new.sets) c.into_map.ensures.entries
    (are_put had more parted.parted.common.items ordered parted.ensures.common parted.parted.fresh.entries parted.ensures.fresh
    c.exchange.new.sets c.add.new.sets (c.exchange.ensures.put ∙ ap (λ (m : Sets). with_exchanged m parted.parted.common.items) c.self.view_is) c.in-Ok.ensures.added)

index : (c : goal.In-Ok) → c.add.new.index ≡ listed_of c.add.new.sets
index c =
    c.in-Ok.ensures.index c.self.inside.sets (ap keys_of c.exchange.ensures.put ∙ keys_exchanged c.self.inside.sets c.in_ok-parted.parted.common.items) c.self.invariant.index

pub invariant_of-self : goal.invariant_of-self
invariant_of-self c =
    record {
      zone = IsZone-put_all c.args.self.now c.args.sets c.add.new.sets (subst IsZone c.self.view_is c.self.invariant.zone) c.into_map.ensures.zone (are_there c);
      index = index c;
    }

pub returns-in-Ok-clause-ok : goal.returns-in-Ok-clause-ok
returns-in-Ok-clause-ok c = λ n t. (are_there c).found (key n t)

pub returns-in-Ok-clause-before : goal.returns-in-Ok-clause-before
returns-in-Ok-clause-before c =
    let had : Sets = c.args.self.now in
    let parted = c.in_ok-parted in
    let more : Sets = c.into_map.result.entries in
    let ordered : IsStrictlySortedBy key_cmp (keys_of more) = subst (λ (m : Sets). IsStrictlySortedBy key_cmp (keys_of m)) (sym c.into_map.ensures.entries) c.into_map.ensures.zone.ordered in
    record {
      zone = subst IsZone c.self.view_is c.self.invariant.zone;
      sets =
          all_undone (λ keys. keys.items) parted.parted.added had more parted.parted.common.items ordered parted.ensures.common parted.parted.fresh.entries parted.ensures.fresh parted.ensures.added parted.ensures.denials
          c.exchange.new.sets c.add.new.sets c.exchange.new.exchanged.items (c.exchange.ensures.put ∙ ap (λ (m : Sets). with_exchanged m parted.parted.common.items) c.self.view_is) c.exchange.ensures.ordered
          c.in-Ok.ensures.moved (c.exchange.ensures.before ∙ ap (with_before c.self.inside.sets) c.in_ok-exchanged.ensures.items ∙ c.self.view_is);
      index = ap (unwrap_or c.in-Ok.index) (sym (index c)) ∙ c.in-Ok.ensures.was ∙ c.self.invariant.index ∙ ap listed_of c.self.view_is;
    }

-- the sets that were put are taken out again
as_they_were : (c : goal.After-put_back) → c.put_back.new.sets ≡ c.args.self.now
as_they_were c =
    let had : Sets = c.args.self.now in
    let parted = c.in_ok-parted in
    let more : Sets = c.into_map.result.entries in
    let ordered : IsStrictlySortedBy key_cmp (keys_of more) = subst (λ (m : Sets). IsStrictlySortedBy key_cmp (keys_of m)) (sym c.into_map.ensures.entries) c.into_map.ensures.zone.ordered in
    c.put_back.ensures
    ∙ all_undone (λ keys. keys.items) parted.parted.added had more parted.parted.common.items ordered parted.ensures.common parted.parted.fresh.entries parted.ensures.fresh parted.ensures.added parted.ensures.denials
    c.exchange.new.sets c.add.new.sets c.exchange.new.exchanged.items (c.exchange.ensures.put ∙ ap (λ (m : Sets). with_exchanged m parted.parted.common.items) c.self.view_is) c.exchange.ensures.ordered
    c.in-Err.ensures.moved (c.exchange.ensures.before ∙ ap (with_before c.self.inside.sets) c.in_ok-exchanged.ensures.items ∙ c.self.view_is)

pub invariant_of-self-in-Err : goal.invariant_of-self-in-Err
invariant_of-self-in-Err c =
    record {
      zone = subst IsZone (c.self.view_is ∙ sym (as_they_were c)) c.self.invariant.zone;
      index = c.in-Err.ensures.same ∙ c.self.invariant.index ∙ ap listed_of (c.self.view_is ∙ sym (as_they_were c));
    }

pub returns-in-Err-clause-same : goal.returns-in-Err-clause-same
returns-in-Err-clause-same c = as_they_were c
