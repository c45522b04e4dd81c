use Rattle.std.proofs.Common.{◌≡◌, ◌⊎◌, ℕ, ◌+◌, List, ◌++◌, ◌∷◌, [], map, false, take, sym, subst, inl, inr, arith, rules, Option, None}
use Rattle.std.specs.List.{Contains}
use Rattle.std.proofs.Math.Numerals.{add-one}
use Rattle.std.proofs.lemmas.List.{take_all}
use Rattle.std.proofs.lemmas.List.Elements.{Contains-get_or}
use Rattle.zone_proto.specs.declared.error.ProtoError.{ProtoError}
use Rattle.zone_proto.specs.declared.error.ProtoError.TheVariants.{Hash, Memory}
use Rattle.zone_proto.specs.Names.{Name}
use Rattle.zone_proto.proofs.Members.{In, Contains-In}
use Rattle.zone_denial.specs.declared.hashed_names.HashedName.{HashedName as HeldName}
use Rattle.zone_denial.specs.declared.nsec3_names.Nsec3Name.{Nsec3Name}
use Rattle.zone_denial.specs.HashedNames.{all_hashed}
use Rattle.zone_denial.specs.Nsec3Nodes.{name_of}
use Rattle.zone_denial.specs.Nsec3Zones.{hash_with}
use Rattle.zone_denial.proofs.Hashed.HashedNames.{HashedSoFar, HashedSoFar-more, none_hashed, sorted_is, names_moved}
use Rattle.zone_denial.proofs.hashed_names.hashed_names.Goals as goal

by_cause : (hash : Name → Option (List ℕ)) (ns : List Nsec3Name) (n : Nsec3Name) (e : ProtoError) → In n ns → (e ≡ Memory) ⊎ ((e ≡ Hash) × (hash (name_of n) ≡ None)) → (e ≡ Memory) ⊎ ((e ≡ Hash) × (all_hashed hash (map name_of ns) ≡ false))
by_cause hash ns n e i (inl m) = inl m
by_cause hash ns n e i (inr p) = inr (p.0, none_hashed hash ns n i p.1)

pub returns-in_err-hash_name-clause-err : goal.returns-in_err-hash_name-clause-err
returns-in_err-hash_name-clause-err g c =
    let hash = hash_with (g.H.Nsec3Hash.digest_of c.args.hash.now) c.args.parameters.now in
    let ns = c.args.names.now in
    let n = c.name-item.result in
    let listed = Contains-In n ns (subst (Contains ns) (sym c.name-item.is) (Contains-get_or ns c.loop-name.name-index n c.loop-name-test.true)) in
    let told = by_cause hash ns n c.in_err-hash_name.field-0.0 listed c.in_err-hash_name.ensures.err in
    search (rules, told)

pub loop-name-preserved : goal.loop-name-preserved
loop-name-preserved g c =
    let hash = hash_with (g.H.Nsec3Hash.digest_of c.args.hash.now) c.args.parameters.now in
    let ns = c.args.names.now in
    subst (λ (hs : List HeldName). HashedSoFar hash (take (c.loop-name.name-index + 1) ns) hs) (sym c.in_ok-push.ensures.items)
    (subst (λ (k : ℕ). HashedSoFar hash (take k ns) (c.loop-name.held.items ++ c.in_ok-hash_name.field-0 ∷ [])) (sym (add-one c.loop-name.name-index))
    (HashedSoFar-more hash ns c.loop-name.name-index c.loop-name.held.items c.in_ok-hash_name.field-0 c.name-item.result c.loop-name-test.true c.name-item.is
    c.in_ok-hash_name.ensures.digest c.in_ok-hash_name.ensures.name c.loop-name.invariant))

pub returns-clause-ok : goal.returns-clause-ok
returns-clause-ok g c =
    let hash = hash_with (g.H.Nsec3Hash.digest_of c.args.hash.now) c.args.parameters.now in
    let ns = c.args.names.now in
    let made = subst (λ (front : List Nsec3Name). HashedSoFar hash front c.loop-name.held.items) (take_all c.loop-name.name-index ns (omega arith)) c.loop-name.invariant in
    sorted_is hash ns c.loop-name.held.items c.sort_unstable.new.self.items made c.sort_unstable.ensures.permutation c.requires c.sort_unstable.ensures.sorted

pub returns-clause-names : goal.returns-clause-names
returns-clause-names g c =
    let hash = hash_with (g.H.Nsec3Hash.digest_of c.args.hash.now) c.args.parameters.now in
    let ns = c.args.names.now in
    let made = subst (λ (front : List Nsec3Name). HashedSoFar hash front c.loop-name.held.items) (take_all c.loop-name.name-index ns (omega arith)) c.loop-name.invariant in
    names_moved hash ns c.loop-name.held.items c.sort_unstable.new.self.items made c.sort_unstable.ensures.permutation
