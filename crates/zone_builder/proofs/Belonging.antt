-- What is under a key of the groups belongs to it
use Rattle.std.proofs.Common.{◌≡◌, Bool, true, false, cond, not, ◌&&◌, List, [], ◌∷◌, refl, sym, ap, ◌∙◌, subst, true≢false}
use Rattle.std.specs.Prelude.{Some, filter}
use Rattle.std.specs.List.{AllByRecursion}
use Rattle.std.specs.List.Sorted.{IsStrictlySortedBy}
use Rattle.std.specs.Map.{lookup, keys_of}
use Rattle.std.specs.Option.{option_map_or}
use Rattle.zone_proto.specs.declared.rdata.RData.{RData}
use Rattle.zone_proto.specs.declared.rdata.RData.TheVariants as V
use Rattle.zone_proto.specs.declared.rr_key.RrKey.{RrKey}
use Rattle.zone_proto.specs.Data.{type_of}
use Rattle.zone_proto.specs.Keys.{key_cmp, key_eq}
use Rattle.zone_proto.specs.Names.{Name, IsName, lower}
use Rattle.zone_proto.proofs.Ordering.KeyOrder.{key_same}
use Rattle.zone_builder.specs.declared.given.GivenRecord.{GivenRecord}
use Rattle.zone_builder.specs.declared.groups.Group.{Group}
use Rattle.zone_builder.specs.Groups.{Groups, records_in, signatures_in, IsGroupOf, AreGroups, AreNamed}
use Rattle.zone_builder.specs.Records.{is_signature, is_of_set, is_data_of, is_signature_of, set_key, set_type}
use Rattle.zone_builder.proofs.KeysFound.{entries_found}

-- ---- what passes a test has what the test says

all_passing : (p : GivenRecord → Bool) (P : GivenRecord → Type 0) → ((g : GivenRecord) → p g ≡ true → P g) → (gs : List GivenRecord) → AllByRecursion P (filter p gs)
all_passing p P says [] = tt
all_passing p P says (g ∷ gs) = by (p g) refl (all_passing p P says gs)
  where
    by : (b : Bool) → p g ≡ b → AllByRecursion P (filter p gs) → AllByRecursion P (cond b (g ∷ filter p gs) (filter p gs))
    by true e rest = (says g e, rest)
    by false e rest = rest

first_of : (a b : Bool) → (a && b) ≡ true → a ≡ true
first_of true b h = refl
first_of false b h = h

second_of : (a b : Bool) → (a && b) ≡ true → b ≡ true
second_of true b h = h
second_of false b h = absurd (true≢false (sym h))

not_true : (b : Bool) → not b ≡ true → b ≡ false
not_true true h = sym h
not_true false h = refl

own_type : (d : RData) → is_signature d ≡ false → type_of d ≡ set_type d
own_type (V.RRSIG a) h = absurd (true≢false h)
own_type d h = refl

signs : (origin : Name) (k : RrKey) (g : GivenRecord) → is_signature_of origin k g ≡ true → is_signature g.record.rdata ≡ true
unfolding is_signature_of
signs origin k g h = first_of _ _ h

module _ (origin : Name) (k : RrKey) (g : GivenRecord) (h : is_data_of origin k g ≡ true) where
  own_key : set_key g.record ≡ k
  unfolding is_data_of is_of_set
  own_key = key_same (set_key g.record) k (second_of _ _ (second_of _ _ h))

  owner_of : lower g.record.name ≡ k.name
  owner_of = ap (λ (x : RrKey). x.name) own_key

  kind_of : type_of g.record.rdata ≡ k.record_type.0
  unfolding is_data_of
  kind_of = own_type g.record.rdata (not_true _ (first_of _ _ h)) ∙ ap (λ (x : RrKey). x.record_type.0) own_key

-- ---- so the groups of records are groups of their keys

module _ (origin : Name) (gs : List GivenRecord) (groups : Groups)
    (own : (k : RrKey) → records_in groups k ≡ filter (is_data_of origin k) gs) (signatures : (k : RrKey) → signatures_in groups k ≡ filter (is_signature_of origin k) gs) where
  group_of : (e : RrKey × Group) → IsName e.0.name → lookup (key_eq e.0) groups ≡ Some e.1 → IsGroupOf e.0 e.1
  group_of e named found =
      let records : filter (is_data_of origin e.0) gs ≡ e.1.records.items = sym (own e.0) ∙ ap (λ o. option_map_or (λ (g : Group). g.records.items) o []) found in
      let signing : filter (is_signature_of origin e.0) gs ≡ e.1.signatures.items = sym (signatures e.0) ∙ ap (λ o. option_map_or (λ (g : Group). g.signatures.items) o []) found in
      record {
        named = named;
        owners = subst (AllByRecursion (λ (r : GivenRecord). lower r.record.name ≡ e.0.name)) records (all_passing (is_data_of origin e.0) _ (owner_of origin e.0) gs);
        types = subst (AllByRecursion (λ (r : GivenRecord). type_of r.record.rdata ≡ e.0.record_type.0)) records (all_passing (is_data_of origin e.0) _ (kind_of origin e.0) gs);
        signatures = subst (AllByRecursion (λ (r : GivenRecord). is_signature r.record.rdata ≡ true)) signing (all_passing (is_signature_of origin e.0) _ (signs origin e.0) gs);
      }

  all_groups : (es : List (RrKey × Group)) → AllByRecursion (λ (k : RrKey). IsName k.name) (keys_of es) → AllByRecursion (λ (e : RrKey × Group). lookup (key_eq e.0) groups ≡ Some e.1) es → AllByRecursion (λ (e : RrKey × Group). IsGroupOf e.0 e.1) es
  all_groups [] named h = tt
  all_groups (e ∷ es) named h = (group_of e named.0 h.0, all_groups es named.1 h.1)

  pub are_groups : AreNamed groups → IsStrictlySortedBy key_cmp (keys_of groups) → AreGroups groups
  are_groups named sorted = all_groups groups named (entries_found groups sorted)
