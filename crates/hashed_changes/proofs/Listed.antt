-- The types that the NSEC3 set of a name lists, put together from those that it owns
use Rattle.std.proofs.Common.{◌≡◌, ℕ, Bool, true, false, not, ◌==◌, cond, List, [], ◌∷◌, length, refl, sym, ap, ◌∙◌, true≢false}
use Rattle.std.specs.Prelude.{filter}
use Rattle.std.specs.Ordering.{nat_cmp, eq_by_cmp}
use Rattle.zone_proto.specs.declared.record_type.RecordType.{RecordType}
use Rattle.zone_proto.specs.Names.{Name, name_cmp, name_eq}
use Rattle.zone_proto.specs.Types.{RRSIG, NSEC3, NSEC3PARAM}
use Rattle.zone_proto.proofs.Members.{no_items}
use Rattle.zone_proto.proofs.Ordering.Orders.{number_order}
use Rattle.zone_map.specs.Zones.{Sets, IsZone, types_at}
use Rattle.zone_map.proofs.Lists.{types_ascend}
use Rattle.zone_denial.specs.Nsec3Circle.{nsec3_types, with_rrsig}
use Rattle.zone_denial.specs.TypeLists.{joined, in_order}
use Rattle.zone_denial.proofs.Ascending.{Ascends-filter, Ascends-from_sorted, sorted_from_Ascends}
use Rattle.zone_denial.proofs.InOrder.{in_order_itself}
use Rattle.zone_denial.proofs.Sets.TypesJoined.{numbers}
use Rattle.hashed_changes.proofs.Counted.{same_by, other_by}

abbrev pub others : List RecordType → List RecordType
others ts = filter (λ (t : RecordType). not (t.0 == NSEC3)) ts

abbrev pub own_numbers : List ℕ → List ℕ
own_numbers us = filter (λ t. not (t == NSEC3)) us

pub numbers_of_others : (ts : List RecordType) → numbers (others ts) ≡ own_numbers (numbers ts)
numbers_of_others [] = refl
numbers_of_others (t ∷ ts) = by (not (t.0 == NSEC3)) (numbers_of_others ts)
  where
    by : (b : Bool) → numbers (others ts) ≡ own_numbers (numbers ts) → numbers (cond b (t ∷ others ts) (others ts)) ≡ cond b (t.0 ∷ own_numbers (numbers ts)) (own_numbers (numbers ts))
    by true e = ap (λ us. t.0 ∷ us) e
    by false e = e

module _ (origin : Name) (m : Sets) (n : Name) (zone : IsZone m) where
  abbrev own : List ℕ
  own = own_numbers (types_at m n)

  own_in_order : in_order nat_cmp own ≡ own
  own_in_order = in_order_itself number_order own (sorted_from_Ascends nat_cmp own (Ascends-filter nat_cmp (λ t. not (t == NSEC3)) (types_at m n) (Ascends-from_sorted nat_cmp (types_at m n) (types_ascend m n zone.ordered))))

  below_origin : name_eq n origin ≡ false → nsec3_types origin m n ≡ with_rrsig own
  below_origin e = ap (λ b. cond b (in_order nat_cmp (NSEC3PARAM ∷ RRSIG ∷ own)) (with_rrsig own)) e

  -- below the origin, where some types are listed and where none are
  pub none_listed : (ts : List RecordType) (len : ℕ) → eq_by_cmp name_cmp n origin ≡ false → numbers ts ≡ own → len ≡ length ts → (len == 0) ≡ true → numbers ts ≡ nsec3_types origin m n
  none_listed ts len h e size none =
      let nothing : numbers ts ≡ [] = ap numbers (no_items ts len size none) in
      nothing ∙ sym (below_origin (other_by n origin h) ∙ ap with_rrsig (sym e ∙ nothing))

  pub some_listed : (ts : List RecordType) (us : List ℕ) (len : ℕ) → eq_by_cmp name_cmp n origin ≡ false → numbers ts ≡ own → len ≡ length ts → (len == 0) ≡ false → us ≡ joined nat_cmp RRSIG (numbers ts) → us ≡ nsec3_types origin m n
  some_listed [] us len h e size some made = absurd (true≢false (sym (ap (λ k. k == 0) size) ∙ some))
  some_listed (t ∷ ts) us len h e size some made =
      made
      ∙ ap (joined nat_cmp RRSIG) (e ∙ sym own_in_order ∙ ap (in_order nat_cmp) (sym e))
      ∙ ap with_rrsig e
      ∙ sym (below_origin (other_by n origin h))

  pub at_origin : (us vs ws : List ℕ) → eq_by_cmp name_cmp n origin ≡ true → us ≡ joined nat_cmp NSEC3PARAM vs → vs ≡ joined nat_cmp RRSIG ws → ws ≡ own → us ≡ nsec3_types origin m n
  at_origin us vs ws h e f g =
      e
      ∙ ap (joined nat_cmp NSEC3PARAM) (f ∙ ap (joined nat_cmp RRSIG) (g ∙ sym own_in_order))
      ∙ sym (ap (λ b. cond b (in_order nat_cmp (NSEC3PARAM ∷ RRSIG ∷ own)) (with_rrsig own)) (same_by n origin h))
