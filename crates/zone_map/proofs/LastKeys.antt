-- The last owner of a type that isn't after a name is in the last key that isn't after the name and the type, where
-- that is of the type
use Rattle.std.proofs.Common.{◌≡◌, ◌==◌, eqb-true, eq-eqb, Bool, not, true, false, cond, [], ◌∷◌, ◌++◌, refl, sym, ap, ◌∙◌, Ordering, Less, Equal, Greater}
use Rattle.std.specs.Prelude.{Some, None, filter, filter_map}
use Rattle.std.specs.BTreeMap.Range.{range_contains}
use Rattle.std.specs.Cmp.{nat_cmp_total}
use Rattle.std.specs.Ordering.{is_lt, nat_cmp, ordering_then}
use Rattle.std.specs.declared.ops.Bound.TheVariants.{Included, Unbounded}
use Rattle.std.proofs.lemmas.Cmp.{tied_itself}
use Rattle.std.proofs.lemmas.List.Elements.{filter_map-append}
use Rattle.zone_proto.specs.declared.rr_key.RrKey.{RrKey}
use Rattle.zone_proto.specs.Keys.{key_cmp}
use Rattle.zone_proto.specs.Names.{name_cmp}
use Rattle.zone_proto.specs.Order.{is_upto}
use Rattle.zone_proto.specs.Sets.{RRset}
use Rattle.zone_map.specs.DenialOwners.{owners_upto, IsLastOf}
use Rattle.zone_map.specs.Zones.{Sets, owners}
use Rattle.zone_map.proofs.OwnersKept.{upto_bound}

-- the entries whose keys aren't after a key
abbrev upto : RrKey → Sets → Sets
upto k m = filter (λ e. range_contains key_cmp Unbounded (Included k) e.0) m

-- of keys of one type the names stand as the keys do
same_type : (k j : RrKey) → k.record_type.0 ≡ j.record_type.0 → range_contains key_cmp Unbounded (Included k) j ≡ is_upto name_cmp j.name k.name
same_type k j e =
    ap (λ t. not (is_lt (ordering_then (name_cmp k.name j.name) (nat_cmp k.record_type.0 t)))) (sym e)
    ∙ ap (λ c. not (is_lt (ordering_then (name_cmp k.name j.name) c))) (tied_itself nat_cmp_total k.record_type.0)
    ∙ by (name_cmp k.name j.name)
    ∙ upto_bound k.name j.name
  where
    by : (c : Ordering) → not (is_lt (ordering_then c Equal)) ≡ not (is_lt c)
    by Less = refl
    by Equal = refl
    by Greater = refl

owners_read : (k : RrKey) (m : Sets) → owners_upto m k.record_type.0 k.name ≡ owners (upto k m) k.record_type.0
owners_read k [] = refl
owners_read k (e ∷ es) = by (owners_read k es) (k.record_type.0 == e.0.record_type.0) refl (range_contains key_cmp Unbounded (Included k) e.0) refl
  where
    Claim : Type 0
    Claim = owners_upto (e ∷ es) k.record_type.0 k.name ≡ owners (upto k (e ∷ es)) k.record_type.0

    by : owners_upto es k.record_type.0 k.name ≡ owners (upto k es) k.record_type.0 → (b : Bool) → (k.record_type.0 == e.0.record_type.0) ≡ b → (c : Bool) → range_contains key_cmp Unbounded (Included k) e.0 ≡ c → Claim
    by rest true t true c =
        let in_order = sym (same_type k e.0 (eqb-true k.record_type.0 e.0.record_type.0 t)) ∙ c in
        rw (c, t, in_order) (ap (λ os. e.0.name ∷ os) rest)
    by rest true t false c =
        let in_order = sym (same_type k e.0 (eqb-true k.record_type.0 e.0.record_type.0 t)) ∙ c in
        rw (c, t, in_order) rest
    by rest false t true c = rw (c, t) rest
    by rest false t false c = rw (c, t) rest

pub last_owner : (m : Sets) (k j : RrKey) (s : RRset) (read front : Sets)
    → read ≡ upto k m → read ≡ front ++ (j, s) ∷ [] → j.record_type.0 ≡ k.record_type.0 → IsLastOf j.name (owners_upto m k.record_type.0 k.name)
last_owner m k j s read front is last same = (
  owners front k.record_type.0,
  owners_read k m
      ∙ ap (λ es. owners es k.record_type.0) (sym is ∙ last)
      ∙ filter_map-append (λ (e : RrKey × RRset). cond (k.record_type.0 == e.0.record_type.0) (Some e.0.name) None) front ((j, s) ∷ [])
      ∙ ap (λ os. owners front k.record_type.0 ++ os) (one (k.record_type.0 == j.record_type.0) (eq-eqb k.record_type.0 j.record_type.0 (sym same))),
)
  where
    one : (b : Bool) → b ≡ true → filter_map (λ (e : RrKey × RRset). cond b (Some e.0.name) None) ((j, s) ∷ []) ≡ j.name ∷ []
    one true h = refl
    one false h = absurd cc
