use Rattle.std.proofs.Common.{◌≡◌, cond, subst, sym, ◌∙◌}
use Rattle.std.specs.Prelude.{Some}
use Rattle.std.specs.BTreeMap.{get}
use Rattle.std.specs.Ordering.{is_eq}
use Rattle.zone_proto.specs.Names.{Name, name_cmp}
use Rattle.zone_server.proofs.FirstPlaces.{place_put, place_stays}
use Rattle.zone_server.proofs.listed_zones.put_first.Goals as goal

pub returns-then-contains_key-clause-put : goal.returns-then-contains_key-clause-put
returns-then-contains_key-clause-put c =
    place_stays c.args.places.now c.args.origin.now c.args.place (sym c.contains_key.ensures ∙ c.if-contains_key.true)

pub returns-clause-put : goal.returns-clause-put
returns-clause-put c =
    place_put c.args.places.now c.args.origin.now c.args.place c.insert.new.self (sym c.contains_key.ensures ∙ c.if-contains_key.false)
    (subst (λ (n : Name). (x : Name) → get name_cmp c.insert.new.self x ≡ cond (is_eq (name_cmp n x)) (Some c.args.place) (get name_cmp c.args.places.now x)) c.in-Ok.ensures.copy.ok
    c.in_ok-insert.ensures.updates.0)
