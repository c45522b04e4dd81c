use Rattle.std.proofs.Common.{List, map, sym, ap, ◌∙◌, subst, ◌≡◌}
use Rattle.std.specs.Prelude.{All}
use Rattle.std.specs.List.Sorted.{IsStrictlySortedBy}
use Rattle.zone_proto.specs.Types.{NSEC3, NSEC3PARAM}
use Rattle.zone_map.specs.Standing.{standing_at}
use Rattle.zone_map.specs.Zones.{set_at}
use Rattle.zone_denial.specs.declared.hashed_names.HashedName.{HashedName as HeldName}
use Rattle.zone_denial.specs.HashedNames.{hashed}
use Rattle.zone_denial.specs.Nsec3Circle.{nsec3_types}
use Rattle.zone_denial.specs.Nsec3Nodes.{name_of, types_of}
use Rattle.zone_denial.specs.Nsec3Sets.{hashed_cmp}
use Rattle.zone_denial.specs.Nsec3Zones.{hash_with}
use Rattle.zone_denial.proofs.Sets.CirclesOfZones.{names_rise, held_rise, made_same, stood_same, one_same}
use Rattle.zone_denial.proofs.nsec3_sets.nsec3_sets.Goals as goal

pub hashed_names-requires : goal.hashed_names-requires
hashed_names-requires g c =
    let hash = hash_with (g.H.Nsec3Hash.digest_of c.args.hash.now) c.args.parameters.now in
    let are = ap (map name_of) c.deref.ensures.value ∙ c.in-Ok.ensures.names in
    names_rise c.args.origin.now c.args.records.now hash c.args.parameters.now c.deref.result.now are

pub sets_of_circle-requires : goal.sets_of_circle-requires
sets_of_circle-requires g c =
    let hash = hash_with (g.H.Nsec3Hash.digest_of c.args.hash.now) c.args.parameters.now in
    let are = ap (map name_of) c.deref.ensures.value ∙ c.in-Ok.ensures.names in
    let held = c.in-Ok-hashed_names.held.items in
    let rise = held_rise c.args.origin.now c.args.records.now hash c.args.parameters.now c.deref.result.now are held c.in-Ok-hashed_names.ensures.ok in
    record { ascending = subst (λ (hs : List HeldName). IsStrictlySortedBy hashed_cmp (map hashed hs)) (sym c.deref-2.ensures.value) rise }

pub returns-in-Ok-sets_of_circle-clause-made : goal.returns-in-Ok-sets_of_circle-clause-made
returns-in-Ok-sets_of_circle-clause-made g c =
    let hash = hash_with (g.H.Nsec3Hash.digest_of c.args.hash.now) c.args.parameters.now in
    let are = ap (map name_of) c.deref.ensures.value ∙ c.in-Ok.ensures.names in
    let typed = subst (All (λ n. types_of n ≡ nsec3_types c.args.origin.now c.args.records.now (name_of n))) (sym c.deref.ensures.value) c.in-Ok.ensures.types in
    made_same c.args.origin.now c.args.records.now hash c.args.parameters.now c.deref.result.now are c.in-Ok-hashed_names.held.items c.in-Ok-hashed_names.ensures.ok c.args.ttl c.args.serial
    c.in-Ok-hashed_names.ensures.names typed c.deref-2.result.now c.deref-2.ensures.value c.in-Ok-sets_of_circle.sets c.in-Ok-sets_of_circle.ensures.made

pub returns-in-Ok-sets_of_circle-clause-standing : goal.returns-in-Ok-sets_of_circle-clause-standing
returns-in-Ok-sets_of_circle-clause-standing g c =
    let hash = hash_with (g.H.Nsec3Hash.digest_of c.args.hash.now) c.args.parameters.now in
    let are = ap (map name_of) c.deref.ensures.value ∙ c.in-Ok.ensures.names in
    let typed = subst (All (λ n. types_of n ≡ nsec3_types c.args.origin.now c.args.records.now (name_of n))) (sym c.deref.ensures.value) c.in-Ok.ensures.types in
    stood_same c.args.origin.now c.args.records.now hash c.args.parameters.now c.deref.result.now are c.in-Ok-hashed_names.held.items c.in-Ok-hashed_names.ensures.ok c.args.ttl c.args.serial
    c.in-Ok-hashed_names.ensures.names typed c.deref-2.result.now c.deref-2.ensures.value c.in-Ok-sets_of_circle.sets (λ n. standing_at c.args.records.now NSEC3 c.args.serial n NSEC3) NSEC3
    c.in-Ok-sets_of_circle.ensures.standing

pub returns-in-Ok-sets_of_circle-clause-announced : goal.returns-in-Ok-sets_of_circle-clause-announced
returns-in-Ok-sets_of_circle-clause-announced g c =
    let hash = hash_with (g.H.Nsec3Hash.digest_of c.args.hash.now) c.args.parameters.now in
    let are = ap (map name_of) c.deref.ensures.value ∙ c.in-Ok.ensures.names in
    let typed = subst (All (λ n. types_of n ≡ nsec3_types c.args.origin.now c.args.records.now (name_of n))) (sym c.deref.ensures.value) c.in-Ok.ensures.types in
    one_same c.args.origin.now c.args.records.now hash c.args.parameters.now c.deref.result.now are c.in-Ok-hashed_names.held.items c.in-Ok-hashed_names.ensures.ok c.args.ttl c.args.serial
    c.in-Ok-hashed_names.ensures.names typed c.deref-2.result.now c.deref-2.ensures.value c.in-Ok-sets_of_circle.sets (set_at c.args.records.now c.args.origin.now NSEC3PARAM) c.args.origin.now NSEC3PARAM
    c.in-Ok-sets_of_circle.ensures.announced
