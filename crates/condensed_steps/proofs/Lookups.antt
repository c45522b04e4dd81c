-- What is found among sets behind a step
use Rattle.std.proofs.Common.{◌≡◌, ◌≢◌, Bool, true, false, cond, List, [], ◌∷◌, ◌++◌, length, map, refl, sym, ap, ◌∙◌, subst}
use Rattle.std.specs.Prelude.{◌||◌, ◌==◌, if◌then◌else◌, fold, Option, Some, None, is_some}
use Rattle.std.specs.BTreeMap.{insert_entry}
use Rattle.std.specs.List.{list_any, AllByRecursion}
use Rattle.std.specs.Map.{lookup}
use Rattle.std.specs.Option.{option_or}
use Rattle.std.proofs.Math.Dec.{eqb-suc-zero}
use Rattle.zone_proto.specs.declared.rr_key.RrKey.{RrKey}
use Rattle.zone_proto.specs.Keys.{key_cmp, key_eq}
use Rattle.zone_proto.specs.Names.{lower}
use Rattle.zone_proto.specs.Sets.{RRset}
use Rattle.zone_proto.proofs.Ordering.KeyOrder.{key_same}
use Rattle.zone_map.specs.Puts.{without_all}
use Rattle.zone_map.specs.Zones.{Sets, put, without, IsStoredAt, IsZone}
use Rattle.zone_map.proofs.Putting.{found_without_all}
use Rattle.zone_map.proofs.Stored.{put_apart, put_found, IsZone-put, IsZone-without}
use Rattle.shown_zones.specs.Steps.{Step, given_in, taken_in}
use Rattle.condensed_steps.specs.Condensing.{behind, key_of, with_set}

-- sets of which each may stand under its key
abbrev pub AreOwn : List RRset → Type 0
AreOwn ss = AllByRecursion (λ (s : RRset). IsStoredAt (lower s.owner) s.record_type s) ss

-- ---- among sets in a list

-- the last of some sets under a key
abbrev pub under : RrKey → List RRset → Option RRset
under q [] = None
under q (s ∷ ss) = option_or (under q ss) (cond (key_eq q (key_of s)) (Some s) None)

-- whether one stands there
abbrev pub is_among : RrKey → List RRset → Bool
is_among q ss = list_any (key_eq q) (map key_of ss)

pub or_none : {A : Type 0} (o : Option A) → option_or o None ≡ o
or_none None = refl
or_none (Some x) = refl

pub or_along : {A : Type 0} (a b c : Option A) → option_or (option_or a b) c ≡ option_or a (option_or b c)
or_along None b c = refl
or_along (Some x) b c = refl

pub is_some_under : (q : RrKey) (ss : List RRset) → is_some (under q ss) ≡ is_among q ss
is_some_under q [] = refl
is_some_under q (s ∷ ss) = by (key_eq q (key_of s)) (under q ss) (is_some_under q ss)
  where
    by : (b : Bool) (o : Option RRset) → is_some o ≡ is_among q ss → is_some (option_or o (cond b (Some s) None)) ≡ (b || is_among q ss)
    by true None i = refl
    by true (Some t) i = refl
    by false None i = i
    by false (Some t) i = i

pub under_last : (q : RrKey) (ss : List RRset) (t : RRset) → under q (ss ++ t ∷ []) ≡ option_or (cond (key_eq q (key_of t)) (Some t) None) (under q ss)
under_last q [] t = sym (or_none (cond (key_eq q (key_of t)) (Some t) None))
under_last q (s ∷ ss) t =
    ap (λ (o : Option RRset). option_or o (cond (key_eq q (key_of s)) (Some s) None)) (under_last q ss t)
    ∙ or_along (cond (key_eq q (key_of t)) (Some t) None) (under q ss) (cond (key_eq q (key_of s)) (Some s) None)

among_last : (q : RrKey) (ss : List RRset) (t : RRset) → is_among q (ss ++ t ∷ []) ≡ is_among q (t ∷ ss)
among_last q [] t = refl
among_last q (s ∷ ss) t = ap (λ b. key_eq q (key_of s) || b) (among_last q ss t) ∙ by (key_eq q (key_of s)) (key_eq q (key_of t)) (is_among q ss)
  where
    by : (a b c : Bool) → (a || (b || c)) ≡ (b || (a || c))
    by true true c = refl
    by true false c = refl
    by false true c = refl
    by false false c = refl

-- what a step adds is what the step back deletes
pub among_given : (q : RrKey) (s : Step) → is_among q (given_in s) ≡ is_among q (s.new_soa ∷ s.added)
among_given q s = among_last q s.added s.new_soa

-- ---- among sets by their keys

has_records : {A : Type 0} (rs : List A) → rs ≢ [] → (length rs == 0) ≡ false
has_records [] h = absurd (h refl)
has_records (r ∷ rs) h = eqb-suc-zero (length rs)

pub set_put : (m : Sets) (s : RRset) → IsStoredAt (lower s.owner) s.record_type s → with_set m s ≡ insert_entry key_cmp m (key_of s) s
set_put m s own = ap (λ b. if b then without m (lower s.owner) s.record_type else put m (lower s.owner) s.record_type s) (has_records s.records own.filled)

found_put : (m : Sets) (s : RRset) (q : RrKey) → lookup (key_eq q) (insert_entry key_cmp m (key_of s) s) ≡ cond (key_eq q (key_of s)) (Some s) (lookup (key_eq q) m)
found_put m s q = by (key_eq q (key_of s)) refl
  where
    by : (b : Bool) → key_eq q (key_of s) ≡ b → lookup (key_eq q) (insert_entry key_cmp m (key_of s) s) ≡ cond b (Some s) (lookup (key_eq q) m)
    by true g = ap (λ (k : RrKey). lookup (key_eq k) (insert_entry key_cmp m (key_of s) s)) (key_same q (key_of s) g) ∙ put_found m (key_of s) s
    by false g = put_apart m (key_of s) q s g

pub found_with : (m : Sets) (ss : List RRset) (q : RrKey) → AreOwn ss → lookup (key_eq q) (fold with_set m ss) ≡ option_or (under q ss) (lookup (key_eq q) m)
found_with m [] q own = refl
found_with m (s ∷ ss) q own =
    found_with (with_set m s) ss q own.1
    ∙ ap (option_or (under q ss)) (ap (lookup (key_eq q)) (set_put m s own.0) ∙ found_put m s q)
    ∙ by (under q ss) (key_eq q (key_of s)) (lookup (key_eq q) m)
  where
    by : (o : Option RRset) (b : Bool) (p : Option RRset) → option_or o (cond b (Some s) p) ≡ option_or (option_or o (cond b (Some s) None)) p
    by None true p = refl
    by None false p = refl
    by (Some t) b p = refl

zone_with : (m : Sets) (ss : List RRset) → IsZone m → AreOwn ss → IsZone (fold with_set m ss)
zone_with m [] zone own = zone
zone_with m (s ∷ ss) zone own = zone_with (with_set m s) ss (subst IsZone (sym (set_put m s own.0)) (IsZone-put m (key_of s) s zone own.0)) own.1

zone_without : (m : Sets) (ks : List RrKey) → IsZone m → IsZone (without_all m ks)
zone_without m [] zone = zone
zone_without m (k ∷ ks) zone = zone_without (without m k.name k.record_type.0) ks (IsZone-without m k zone)

-- ---- behind a step

pub zone_behind : (m : Sets) (s : Step) → IsZone m → AreOwn (given_in s) → IsZone (behind m s)
zone_behind m s zone own = zone_with (without_all m (map key_of (taken_in s))) (given_in s) (zone_without m (map key_of (taken_in s)) zone) own

-- what stands under a key behind a step, where this stood before
abbrev pub turned : RrKey → Step → Option RRset → Option RRset
turned q s o = option_or (under q (given_in s)) (cond (is_among q (taken_in s)) None o)

pub found_behind : (m : Sets) (s : Step) (q : RrKey) → IsZone m → AreOwn (given_in s) → lookup (key_eq q) (behind m s) ≡ turned q s (lookup (key_eq q) m)
found_behind m s q zone own =
    found_with (without_all m (map key_of (taken_in s))) (given_in s) q own
    ∙ ap (option_or (under q (given_in s))) (found_without_all m (map key_of (taken_in s)) q zone.ordered)
