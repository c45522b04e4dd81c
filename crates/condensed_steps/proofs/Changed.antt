-- The sets of a version that another doesn't show
use Rattle.std.proofs.Common.{◌≡◌, Bool, true, false, cond, not, List, [], ◌∷◌, map, refl, sym, ap, ◌∙◌, subst, Less}
use Rattle.std.specs.Prelude.{◌&&◌, filter, if◌then◌else◌, Option, Some, None}
use Rattle.std.specs.List.{AllByRecursion}
use Rattle.std.specs.Map.{lookup, keys_of}
use Rattle.std.specs.Option.{option_or}
use Rattle.std.proofs.lemmas.Map.Keys.{sorted_head, sorted_tail}
use Rattle.zone_proto.specs.declared.rr_key.RrKey.{RrKey}
use Rattle.zone_proto.specs.Keys.{key, key_cmp, key_eq}
use Rattle.zone_proto.specs.Names.{lower, IsName}
use Rattle.zone_proto.specs.SetEquality.{same_set_equiv}
use Rattle.zone_proto.specs.Sets.{RRset}
use Rattle.zone_proto.proofs.Ordering.KeyOrder.{key_same}
use Rattle.zone_map.specs.Zones.{Sets, IsStoredAt, IsZone}
use Rattle.zone_map.proofs.Putting.{same_entries}
use Rattle.zone_difference.specs.Differences.{same_at}
use Rattle.zone_difference.proofs.Found.{each_found, filter_in_order, found_filter, none_found, InOrder}
use Rattle.shown_zones.specs.Shown.{shown_if, shown_set}
use Rattle.shown_zones.specs.Steps.{changed, is_changed}
use Rattle.condensed_steps.specs.Condensing.{key_of}
use Rattle.condensed_steps.proofs.Lookups.{or_none, under, AreOwn}

-- of what is found in two versions: the set of the first, where the second doesn't show it and the key isn't that of the SOA
abbrev pub changed_at : RrKey → RrKey → Option RRset → Option RRset → Option RRset
changed_at soa q None p = None
changed_at soa q (Some s) p = if not (key_eq soa q) && not (same_at (shown_if p) (Some (shown_set s))) then Some s else None

pub found_changed : (soa : RrKey) (m other : Sets) (q : RrKey) → InOrder m
    → lookup (key_eq q) (filter (is_changed soa other) m) ≡ changed_at soa q (lookup (key_eq q) m) (lookup (key_eq q) other)
found_changed soa m other q s = found_filter (λ k t. is_changed soa other (k, t)) m s q ∙ by (lookup (key_eq q) m)
  where
    by : (o : Option RRset) → elim o as (λ _. Option RRset) [ None ↦ None | Some t ↦ if is_changed soa other (q, t) then Some t else None ]
        ≡ changed_at soa q o (lookup (key_eq q) other)
    by None = refl
    by (Some t) = refl

pub changed_in_order : (soa : RrKey) (m other : Sets) → InOrder m → InOrder (filter (is_changed soa other) m)
changed_in_order soa m other s = filter_in_order (λ k t. is_changed soa other (k, t)) m s

pub changed_first : (soa q : RrKey) (x y : Option RRset) (t : RRset) → changed_at soa q x y ≡ Some t → x ≡ Some t
changed_first soa q None y t h = absurd cc
changed_first soa q (Some s) y t h = by (not (key_eq soa q) && not (same_at (shown_if y) (Some (shown_set s)))) h
  where
    by : (b : Bool) → (if b then Some s else None) ≡ Some t → Some s ≡ Some t
    by true h = h
    by false h = absurd cc

-- none of a version itself
pub changed_itself : (soa q : RrKey) (o : Option RRset) → changed_at soa q o o ≡ None
changed_itself soa q None = refl
changed_itself soa q (Some s) =
    ap (λ c. if not (key_eq soa q) && not c then Some s else None) (same_set_equiv.refl (shown_set s)) ∙ by (key_eq soa q)
  where
    by : (b : Bool) → (if not b && false then Some s else None) ≡ None
    by true = refl
    by false = refl

-- they are the same of versions that agree so
pub changed_alike : (soa : RrKey) (m other n more : Sets) → InOrder m → InOrder n
    → ((q : RrKey) → changed_at soa q (lookup (key_eq q) m) (lookup (key_eq q) other) ≡ changed_at soa q (lookup (key_eq q) n) (lookup (key_eq q) more))
    → changed soa m other ≡ changed soa n more
changed_alike soa m other n more s t same =
    ap (map (λ (e : RrKey × RRset). e.1))
    (same_entries (filter (is_changed soa other) m) (filter (is_changed soa more) n) (changed_in_order soa m other s) (changed_in_order soa n more t)
    (λ q. found_changed soa m other q s ∙ same q ∙ sym (found_changed soa n more q t)))

-- ---- as they stand under their keys

abbrev pub AreStoredEach : Sets → Type 0
AreStoredEach es = AllByRecursion (λ (e : RrKey × RRset). IsStoredAt e.0.name e.0.record_type.0 e.1) es

pub stored_changed : (soa : RrKey) (m other : Sets) → IsZone m → AreStoredEach (filter (is_changed soa other) m)
stored_changed soa m other zone =
    each_found (λ q t. IsStoredAt q.name q.record_type.0 t) (filter (is_changed soa other) m) (changed_in_order soa m other zone.ordered)
    (λ q t h. zone.stored q.name q.record_type.0 t (changed_first soa q (lookup (key_eq q) m) (lookup (key_eq q) other) t (sym (found_changed soa m other q zone.ordered) ∙ h)))

pub key_stored : (k : RrKey) (s : RRset) → IsStoredAt k.name k.record_type.0 s → key_of s ≡ k
key_stored k s h = (λ i. key (h.owner i) (h.record_type i))

pub own_stored : (k : RrKey) (s : RRset) → IsStoredAt k.name k.record_type.0 s → IsStoredAt (lower s.owner) s.record_type s
own_stored k s h = record { named = subst IsName (sym h.owner) h.named; owner = refl; record_type = refl; filled = h.filled; set = h.set }

pub own_values : (es : Sets) → AreStoredEach es → AreOwn (map (λ (e : RrKey × RRset). e.1) es)
own_values [] h = tt
own_values (e ∷ es) h = (own_stored e.0 e.1 h.0, own_values es h.1)

pub under_values : (es : Sets) (q : RrKey) → InOrder es → AreStoredEach es → under q (map (λ (e : RrKey × RRset). e.1) es) ≡ lookup (key_eq q) es
under_values [] q s h = refl
under_values (e ∷ es) q s h =
    (λ i. option_or (under_values es q (sorted_tail key_cmp e.0 (keys_of es) s) h.1 i) (cond (key_eq q (key_stored e.0 e.1 h.0 i)) (Some e.1) None))
    ∙ by (key_eq q e.0) refl
  where
    by : (b : Bool) → key_eq q e.0 ≡ b → option_or (lookup (key_eq q) es) (cond b (Some e.1) None) ≡ cond b (Some e.1) (lookup (key_eq q) es)
    by true g =
        let same : q ≡ e.0 = key_same q e.0 g in
        let none : lookup (key_eq q) es ≡ None = none_found q es (subst (λ (k : RrKey). AllByRecursion (λ j. key_cmp k j ≡ Less) (keys_of es)) (sym same) (sorted_head key_cmp e.0 (keys_of es) s)) in
        ap (λ (o : Option RRset). option_or o (Some e.1)) none
    by false g = or_none (lookup (key_eq q) es)
