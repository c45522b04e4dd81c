use Rattle.std.proofs.Common.{◌≡◌, [], ap, sym, ◌∙◌, subst}
use Rattle.std.specs.List.{list_any}
use Rattle.std.specs.Map.{keys_of}
use Rattle.zone_proto.specs.declared.rr_key.RrKey.{RrKey}
use Rattle.zone_proto.specs.Keys.{key_eq}
use Rattle.zone_map.specs.DenialOwners.{Listed, owners_of, none_deny}
use Rattle.zone_map.specs.Puts.{without_denials}
use Rattle.zone_map.specs.Zones.{Sets}
use Rattle.zone_map.proofs.FirstDenials.{none_denied, none_common}
use Rattle.zone_map.proofs.OwnerIndexes.{none_of_either}
use Rattle.zone_map.proofs.Parting.{fresh_where_none}
use Rattle.zone_map.proofs.record_map.RecordMap.part.Goals as goal

none : (c : goal.After-new) → without_denials c.args.self.now ≡ c.args.self.now
none c =
    subst (λ (m : Sets). without_denials m ≡ m) c.self.view_is
    (let either = none_of_either (owners_of c.self.inside.sets) (sym (ap (λ (l : Listed). none_deny l.denials) c.self.invariant.index) ∙ sym c.is_without_denials.ensures ∙ c.if-is_without_denials.true) in
    none_denied c.self.inside.sets c.self.invariant.zone.ordered either.0 either.1)

all : (c : goal.After-new) → without_denials c.args.more.entries ≡ []
all c = c.are_denials.ensures c.if-are_denials.true

pub returns-then-are_denials-clause-common : goal.returns-then-are_denials-clause-common
returns-then-are_denials-clause-common c = c.new.ensures.items ∙ sym (none_common c.args.self.now c.args.more.entries (none c) (all c))

pub returns-then-are_denials-clause-fresh : goal.returns-then-are_denials-clause-fresh
returns-then-are_denials-clause-fresh c =
    sym (fresh_where_none (λ (q : RrKey). list_any (key_eq q) (keys_of c.args.self.now)) c.args.more.entries (none_common c.args.self.now c.args.more.entries (none c) (all c)))

pub returns-then-are_denials-clause-denials : goal.returns-then-are_denials-clause-denials
returns-then-are_denials-clause-denials c = (c.new.ensures.items, none c, all c)
