-- Copies of sets, put in one after the other
use Rattle.std.proofs.Common.{◌≡◌, Bool, true, false, cond, not, ◌&&◌, [], ◌∷◌, ◌++◌, refl, sym, ap, ◌∙◌, subst, inl, inr, append_assoc, Less}
use Rattle.std.proofs.lemmas.List.{append-nil}
use Rattle.std.specs.Prelude.{filter}
use Rattle.std.specs.BTreeMap.{insert_entry}
use Rattle.std.specs.Map.{keys_of}
use Rattle.std.specs.Ordering.{match_ordering, ordering_reverse}
use Rattle.zone_proto.specs.declared.rr_key.RrKey.{RrKey}
use Rattle.zone_proto.specs.Keys.{key_cmp}
use Rattle.zone_proto.specs.Sets.{RRset}
use Rattle.zone_proto.proofs.Members.{In, In-from_filter, In-from_map, In-map}
use Rattle.zone_proto.proofs.Ordering.KeyLaws.{key_cmp_total}
use Rattle.zone_map.specs.Zones.{Sets, IsZone, put}
use Rattle.zone_map.proofs.Putting.{keys_of-append}
use Rattle.zone_denial.proofs.Ascending.{Ascends, Ascends-apart, Ascends-from_sorted}
use Rattle.zone_planner.specs.Zones.{is_made_anew}
use Rattle.held_plans.specs.Copies.{copied}

-- ---- sets that are put in one after the other, in the order of their keys

pub put_each : Sets → Sets → Sets
put_each m [] = m
put_each m (e ∷ es) = put_each (insert_entry key_cmp m e.0 e.1) es

-- behind those before it a set is put last
put_last : (m : Sets) (e : RrKey × RRset) → ((k : RrKey) → In k (keys_of m) → key_cmp k e.0 ≡ Less) → insert_entry key_cmp m e.0 e.1 ≡ m ++ e ∷ []
put_last [] e h = refl
put_last (d ∷ m) e h =
    ap (λ r. match_ordering r ((e.0, e.1) ∷ d ∷ m) ((d.0, e.1) ∷ m) (d ∷ insert_entry key_cmp m e.0 e.1)) (key_cmp_total.antisymm e.0 d.0 ∙ ap ordering_reverse (h d.0 (inl refl)))
    ∙ ap (λ es. d ∷ es) (put_last m e (λ k i. h k (inr i)))

-- so sets are put behind those before them
put_behind : (m es : Sets) → Ascends key_cmp (keys_of m ++ keys_of es) → put_each m es ≡ m ++ es
unfolding put_each
put_behind m [] a = sym (append-nil m)
put_behind m (e ∷ es) a =
    ap (λ n. put_each n es) (put_last m e (λ k i. Ascends-apart key_cmp (keys_of m) (keys_of (e ∷ es)) a k e.0 i (inl refl)))
    ∙ put_behind (m ++ e ∷ []) es (subst (Ascends key_cmp) (sym (append_assoc (keys_of m) (e.0 ∷ []) (keys_of es)) ∙ ap (λ ks. ks ++ keys_of es) (sym (keys_of-append m (e ∷ [])))) a)
    ∙ append_assoc m (e ∷ []) es

pub all_put : (m : Sets) → put_each m [] ≡ m
unfolding put_each
all_put m = refl

pub put_in_order : (es : Sets) → Ascends key_cmp (keys_of es) → put_each [] es ≡ es
put_in_order es a = put_behind [] es a

-- ---- those that pass a test

module _ (p : RrKey × RRset → Bool) where
  key_kept : (m : Sets) (k : RrKey) → In k (keys_of (filter p m)) → In k (keys_of m)
  key_kept m k i =
      let r = In-from_map (λ (d : RrKey × RRset). d.0) k (filter p m) i in
      subst (λ q. In q (keys_of m)) r.2 (In-map (λ (d : RrKey × RRset). d.0) r.0 m (In-from_filter p r.0 m r.1).0)

  -- they ascend as all do
  keys_ascend : (m : Sets) → Ascends key_cmp (keys_of m) → Ascends key_cmp (keys_of (filter p m))
  keys_ascend [] a = tt
  keys_ascend (e ∷ m) a = by (p e) (keys_ascend m a.1)
    where
      by : (b : Bool) → Ascends key_cmp (keys_of (filter p m)) → Ascends key_cmp (keys_of (cond b (e ∷ filter p m) (filter p m)))
      by true later = (λ k i. a.0 k (key_kept m k i), later)
      by false later = later

-- ---- those that are copied

-- a set is copied
abbrev pub passes : Bool → RrKey × RRset → Bool
passes anew e = not (anew && is_made_anew e.0.record_type.0)

-- all are, where none is made anew
pub all_copied : (m : Sets) → copied false m ≡ m
all_copied [] = refl
all_copied (e ∷ m) = ap (λ es. e ∷ es) (all_copied m)

-- what is copied ascends as the sets do
pub copies_ascend : (anew : Bool) (m : Sets) → IsZone m → Ascends key_cmp (keys_of (copied anew m))
copies_ascend anew m zone = keys_ascend (passes anew) m (Ascends-from_sorted key_cmp (keys_of m) zone.ordered)

-- one set more, of those that are passed
module _ (anew : Bool) (m : Sets) (e : RrKey × RRset) (rest : Sets) where
  pub one_put : passes anew e ≡ true → put_each (put m e.0.name e.0.record_type.0 e.1) (copied anew rest) ≡ put_each m (copied anew (e ∷ rest))
  unfolding put_each
  one_put s = ap (λ b. put_each m (cond b (e ∷ copied anew rest) (copied anew rest))) (sym s)

  pub one_left : passes anew e ≡ false → put_each m (copied anew rest) ≡ put_each m (copied anew (e ∷ rest))
  one_left s = ap (λ b. put_each m (cond b (e ∷ copied anew rest) (copied anew rest))) (sym s)
