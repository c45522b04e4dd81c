-- A zone that is like a version is like the next one behind the step to it
use Rattle.std.proofs.Common.{◌≡◌, Bool, true, false, cond, not, List, ◌∷◌, ◌++◌, [], map, refl, sym, ap, ◌∙◌, subst, ◌⊎◌, inl, inr}
use Rattle.std.specs.Prelude.{◌||◌, ◌&&◌, filter, if◌then◌else◌, Option, Some, None, is_some}
use Rattle.std.specs.Cmp.{eq_by_cmp_equiv}
use Rattle.std.specs.Map.{lookup}
use Rattle.std.specs.Option.{option_or}
use Rattle.zone_proto.specs.declared.rr_key.RrKey.{RrKey}
use Rattle.zone_proto.specs.Keys.{key, key_cmp, key_eq}
use Rattle.zone_proto.specs.Names.{lower, Name}
use Rattle.zone_proto.specs.SetEquality.{same_set_equiv}
use Rattle.zone_proto.specs.Sets.{RRset, same_set}
use Rattle.zone_proto.specs.Types.{SOA}
use Rattle.zone_proto.proofs.Ordering.KeyLaws.{key_cmp_total}
use Rattle.zone_proto.proofs.Ordering.KeyOrder.{key_itself, key_same}
use Rattle.zone_map.specs.Zones.{Sets, IsStoredAt, IsZone}
use Rattle.zone_difference.specs.Differences.{same_at}
use Rattle.zone_difference.proofs.Found.{InOrder}
use Rattle.shown_zones.specs.Shown.{shown_if, shown_set}
use Rattle.shown_zones.specs.Steps.{given_in, is_changed, taken_in, Step, IsStep}
use Rattle.shown_zones.proofs.Shows.{found_shown}
use Rattle.condensed_steps.specs.Condensing.{back, behind, key_of}
use Rattle.condensed_steps.specs.CondenseLaws.{AreOf, IsLike, IsOfOne}
use Rattle.condensed_steps.proofs.Changed.{changed_at, changed_first, changed_in_order, found_changed, key_stored, own_stored, own_values, stored_changed, under_values}
use Rattle.condensed_steps.proofs.Lookups.{found_behind, is_among, is_some_under, turned, under, under_last, zone_behind, AreOwn}

-- ---- equal sets

same_along : (o p q : Option RRset) → same_at o p ≡ true → same_at p q ≡ true → same_at o q ≡ true
same_along None None q h g = g
same_along None (Some t) q h g = absurd cc
same_along (Some s) None q h g = absurd cc
same_along (Some s) (Some t) None h g = absurd cc
same_along (Some s) (Some t) (Some u) h g = same_set_equiv.congr s t u h ∙ g

-- of what is found in two versions under another key than that of the SOA: the set of the first, where the second doesn't show it
abbrev only : Option RRset → Option RRset → Option RRset
only None y = None
only (Some s) y = if not (same_at (shown_if y) (Some (shown_set s))) then Some s else None

changed_other : (soa q : RrKey) (x y : Option RRset) → key_eq soa q ≡ false → changed_at soa q x y ≡ only x y
changed_other soa q None y g = refl
changed_other soa q (Some s) y g = ap (λ b. if not b && not (same_at (shown_if y) (Some (shown_set s))) then Some s else None) g

-- What stands under a key and is like the first is like the second once that is taken out which only the first has, and that is put in which only
-- the second has.
arrives : (x y z : Option RRset) → same_at (shown_if z) (shown_if x) ≡ true
    → same_at (shown_if (option_or (only y x) (cond (is_some (only x y)) None z))) (shown_if y) ≡ true
arrives None None z like = like
arrives None (Some t) z like = same_set_equiv.refl (shown_set t)
arrives (Some s) None z like = refl
arrives (Some s) (Some t) z like = by (same_set (shown_set s) (shown_set t)) refl
  where
    by : (b : Bool) → same_set (shown_set s) (shown_set t) ≡ b
        → same_at (shown_if (option_or (if not b then Some t else None) (cond (is_some (if not (same_set (shown_set t) (shown_set s)) then Some s else None)) None z))) (Some (shown_set t)) ≡ true
    by false g = same_set_equiv.refl (shown_set t)
    by true g =
        ap (λ c. same_at (shown_if (cond (is_some (if not c then Some s else None)) None z)) (Some (shown_set t))) (same_set_equiv.symm (shown_set t) (shown_set s) ∙ g)
        ∙ same_along (shown_if z) (Some (shown_set s)) (Some (shown_set t)) like g

own_last : (ss : List RRset) (t : RRset) → AreOwn ss → IsStoredAt (lower t.owner) t.record_type t → AreOwn (ss ++ t ∷ [])
own_last [] t h g = (g, tt)
own_last (s ∷ ss) t h g = (h.0, own_last ss t h.1 g)

-- the step back leads back
pub step_back : (origin : Name) (v w : Sets) (s : Step) → IsStep origin v w s → IsStep origin w v (back s)
step_back origin v w s step = record { old_soa = step.new_soa; deleted = step.added; new_soa = step.old_soa; added = step.deleted }

-- ---- a step

module _ (origin : Name) (v w : Sets) (s : Step) (step : IsStep origin v w s) (zv : IsZone v) (zw : IsZone w) where
  abbrev soa : RrKey
  soa = key origin SOA

  -- the sets that are deleted, and those that are added, by their keys
  abbrev gone : Sets
  gone = filter (is_changed soa w) v

  abbrev come : Sets
  come = filter (is_changed soa v) w

  old_key : key_of s.old_soa ≡ soa
  old_key = key_stored soa s.old_soa (zv.stored origin SOA s.old_soa step.old_soa)

  new_key : key_of s.new_soa ≡ soa
  new_key = key_stored soa s.new_soa (zw.stored origin SOA s.new_soa step.new_soa)

  pub own_given : AreOwn (given_in s)
  own_given = own_last s.added s.new_soa (subst AreOwn (sym step.added) (own_values come (stored_changed soa w v zw))) (own_stored soa s.new_soa (zw.stored origin SOA s.new_soa step.new_soa))

  under_given : (q : RrKey) → under q (given_in s)
      ≡ option_or (cond (key_eq q soa) (Some s.new_soa) None) (changed_at soa q (lookup (key_eq q) w) (lookup (key_eq q) v))
  under_given q =
      let added : under q s.added ≡ changed_at soa q (lookup (key_eq q) w) (lookup (key_eq q) v) =
      ap (under q) step.added ∙ under_values come q (changed_in_order soa w v zw.ordered) (stored_changed soa w v zw) ∙ found_changed soa w v q zw.ordered in
      under_last q s.added s.new_soa ∙ (λ i. option_or (cond (key_eq q (new_key i)) (Some s.new_soa) None) (added i))

  among_taken : (q : RrKey) → is_among q (taken_in s) ≡ (key_eq q soa || is_some (changed_at soa q (lookup (key_eq q) v) (lookup (key_eq q) w)))
  among_taken q =
      let deleted : under q s.deleted ≡ changed_at soa q (lookup (key_eq q) v) (lookup (key_eq q) w) =
      ap (under q) step.deleted ∙ under_values gone q (changed_in_order soa v w zv.ordered) (stored_changed soa v w zv) ∙ found_changed soa v w q zv.ordered in
      (λ i. key_eq q (old_key i) || (sym (is_some_under q s.deleted) ∙ ap is_some deleted) i)

  turned_is : (q : RrKey) (o : Option RRset) → turned q s o
      ≡ option_or (option_or (cond (key_eq q soa) (Some s.new_soa) None) (changed_at soa q (lookup (key_eq q) w) (lookup (key_eq q) v)))
      (cond (key_eq q soa || is_some (changed_at soa q (lookup (key_eq q) v) (lookup (key_eq q) w))) None o)
  turned_is q o = (λ i. option_or (under_given q i) (cond (among_taken q i) None o))

  -- under the key of the SOA, and elsewhere
  at_soa : (q : RrKey) (o : Option RRset) → key_eq q soa ≡ true → turned q s o ≡ Some s.new_soa
  at_soa q o g =
      turned_is q o
      ∙ ap (λ b. option_or (option_or (cond b (Some s.new_soa) None) (changed_at soa q (lookup (key_eq q) w) (lookup (key_eq q) v)))
      (cond (b || is_some (changed_at soa q (lookup (key_eq q) v) (lookup (key_eq q) w))) None o)) g

  elsewhere : (q : RrKey) (o : Option RRset) → key_eq q soa ≡ false
      → turned q s o ≡ option_or (changed_at soa q (lookup (key_eq q) w) (lookup (key_eq q) v)) (cond (is_some (changed_at soa q (lookup (key_eq q) v) (lookup (key_eq q) w))) None o)
  elsewhere q o g =
      turned_is q o
      ∙ ap (λ b. option_or (option_or (cond b (Some s.new_soa) None) (changed_at soa q (lookup (key_eq q) w) (lookup (key_eq q) v)))
      (cond (b || is_some (changed_at soa q (lookup (key_eq q) v) (lookup (key_eq q) w))) None o)) g

  other_way : (q : RrKey) → key_eq q soa ≡ false → key_eq soa q ≡ false
  other_way q g = (eq_by_cmp_equiv key_cmp_total).symm soa q ∙ g

  new_there : (q : RrKey) → key_eq q soa ≡ true → lookup (key_eq q) w ≡ Some s.new_soa
  new_there q g = ap (λ (k : RrKey). lookup (key_eq k) w) (key_same q soa g) ∙ step.new_soa

  -- what answers show of it
  turned_alike : (q : RrKey) (o : Option RRset) (b : Bool) → key_eq q soa ≡ b → same_at (shown_if o) (shown_if (lookup (key_eq q) v)) ≡ true
      → same_at (shown_if (turned q s o)) (shown_if (lookup (key_eq q) w)) ≡ true
  turned_alike q o true g like = (λ i. same_at (shown_if (at_soa q o g i)) (shown_if (new_there q g i))) ∙ same_set_equiv.refl (shown_set s.new_soa)
  turned_alike q o false g like =
      let x = lookup (key_eq q) v in
      let y = lookup (key_eq q) w in
      let is : turned q s o ≡ option_or (only y x) (cond (is_some (only x y)) None o) =
      elsewhere q o g ∙ (λ i. option_or (changed_other soa q y x (other_way q g) i) (cond (is_some (changed_other soa q x y (other_way q g) i)) None o)) in
      ap (λ (z : Option RRset). same_at (shown_if z) (shown_if y)) is ∙ arrives x y o like

  -- it is of the version, or stood there before
  turned_of : (q : RrKey) (o : Option RRset) (t : RRset) (b : Bool) → key_eq q soa ≡ b → turned q s o ≡ Some t → (lookup (key_eq q) w ≡ Some t) ⊎ (o ≡ Some t)
  turned_of q o t true g h = inl (new_there q g ∙ sym (at_soa q o g) ∙ h)
  turned_of q o t false g h =
      by (changed_at soa q (lookup (key_eq q) w) (lookup (key_eq q) v)) refl (is_some (changed_at soa q (lookup (key_eq q) v) (lookup (key_eq q) w))) (sym (elsewhere q o g) ∙ h)
    where
      by : (x : Option RRset) → changed_at soa q (lookup (key_eq q) w) (lookup (key_eq q) v) ≡ x → (c : Bool) → option_or x (cond c None o) ≡ Some t
          → (lookup (key_eq q) w ≡ Some t) ⊎ (o ≡ Some t)
      by None e true f = absurd cc
      by None e false f = inr f
      by (Some u) e c f = inl (changed_first soa q (lookup (key_eq q) w) (lookup (key_eq q) v) t (e ∙ f))

  pub like_behind : (vs : List Sets) (m : Sets) → AreOf vs w → IsLike origin vs v m → IsLike origin vs w (behind m s)
  like_behind vs m of_one like = record {
    zone = zone_behind m s like.zone own_given;
    alike = λ q.
        (λ i. same_at ((found_shown (behind m s) q ∙ ap shown_if (found q)) i) (found_shown w q i))
        ∙ turned_alike q (lookup (key_eq q) m) (key_eq q soa) refl ((λ i. same_at (sym (found_shown m q) i) (sym (found_shown v q) i)) ∙ like.alike q);
    soa = found soa ∙ at_soa soa (lookup (key_eq soa) m) (key_itself soa) ∙ sym step.new_soa;
    sets = λ q t h. by q t (turned_of q (lookup (key_eq q) m) t (key_eq q soa) refl (sym (found q) ∙ h));
  }
    where
      found : (q : RrKey) → lookup (key_eq q) (behind m s) ≡ turned q s (lookup (key_eq q) m)
      found q = found_behind m s q like.zone own_given

      by : (q : RrKey) (t : RRset) → (lookup (key_eq q) w ≡ Some t) ⊎ (lookup (key_eq q) m ≡ Some t) → IsOfOne vs q t
      by q t (inl e) = of_one q t e
      by q t (inr e) = like.sets q t e
