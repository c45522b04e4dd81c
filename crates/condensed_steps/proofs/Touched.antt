-- Steps decide what stands under the keys that they have, whatever stood there, and leave the others
use Rattle.std.proofs.Common.{◌≡◌, Bool, true, false, true≢false, cond, List, [], ◌∷◌, refl, sym, ap, ◌∙◌}
use Rattle.std.specs.Prelude.{◌||◌, fold, Option, Some, None, is_some}
use Rattle.std.specs.List.{list_any, AllByRecursion}
use Rattle.std.specs.Map.{lookup}
use Rattle.std.specs.Option.{option_or}
use Rattle.zone_proto.specs.declared.rr_key.RrKey.{RrKey}
use Rattle.zone_proto.specs.Keys.{key_eq}
use Rattle.zone_proto.specs.Sets.{RRset}
use Rattle.zone_map.specs.Zones.{Sets, IsZone}
use Rattle.shown_zones.specs.Steps.{Step, given_in, taken_in}
use Rattle.condensed_steps.specs.Condensing.{back, before_all, behind, behind_all}
use Rattle.condensed_steps.proofs.Lookups.{among_given, found_behind, is_among, is_some_under, turned, under, zone_behind, AreOwn}

-- a step has a set under a key
abbrev pub has_key : RrKey → Step → Bool
has_key q s = is_among q (taken_in s) || is_among q (given_in s)

abbrev pub have_key : RrKey → List Step → Bool
have_key q ss = list_any (has_key q) ss

-- so has the step back
has_key_back : (q : RrKey) (s : Step) → has_key q (back s) ≡ has_key q s
has_key_back q s = (λ i. sym (among_given q s) i || among_given q (back s) i) ∙ by (is_among q (given_in s)) (is_among q (taken_in s))
  where
    by : (a b : Bool) → (a || b) ≡ (b || a)
    by true true = refl
    by true false = refl
    by false true = refl
    by false false = refl

-- ---- one step

decided : (q : RrKey) (s : Step) (o p : Option RRset) → has_key q s ≡ true → turned q s o ≡ turned q s p
decided q s o p h = by (is_among q (taken_in s)) (under q (given_in s)) (ap (λ b. is_among q (taken_in s) || b) (is_some_under q (given_in s)) ∙ h)
  where
    by : (a : Bool) (u : Option RRset) → (a || is_some u) ≡ true → option_or u (cond a None o) ≡ option_or u (cond a None p)
    by true u g = refl
    by false None g = absurd (true≢false (sym g))
    by false (Some t) g = refl

left : (q : RrKey) (s : Step) (o : Option RRset) → has_key q s ≡ false → turned q s o ≡ o
left q s o h = by (is_among q (taken_in s)) (under q (given_in s)) (ap (λ b. is_among q (taken_in s) || b) (is_some_under q (given_in s)) ∙ h)
  where
    by : (a : Bool) (u : Option RRset) → (a || is_some u) ≡ false → option_or u (cond a None o) ≡ o
    by true u g = absurd (true≢false g)
    by false None g = refl
    by false (Some t) g = absurd (true≢false g)

-- ---- several

neither : (a b : Bool) → (a || b) ≡ false → (a ≡ false) × (b ≡ false)
neither true b h = absurd (true≢false h)
neither false b h = (refl, h)

-- what stands under a key behind steps, and before them
abbrev pub turned_on : RrKey → List Step → Option RRset → Option RRset
turned_on q ss o = fold (λ (x : Option RRset) (s : Step). turned q s x) o ss

abbrev pub turned_back : RrKey → List Step → Option RRset → Option RRset
turned_back q [] o = o
turned_back q (s ∷ ss) o = turned q (back s) (turned_back q ss o)

pub on_decided : (q : RrKey) (ss : List Step) (o p : Option RRset) → have_key q ss ≡ true → turned_on q ss o ≡ turned_on q ss p
on_decided q [] o p h = absurd (true≢false (sym h))
on_decided q (s ∷ ss) o p h = by (has_key q s) refl h (on_decided q ss (turned q s o) (turned q s p))
  where
    by : (b : Bool) → has_key q s ≡ b → (b || have_key q ss) ≡ true → (have_key q ss ≡ true → turned_on q ss (turned q s o) ≡ turned_on q ss (turned q s p))
        → turned_on q ss (turned q s o) ≡ turned_on q ss (turned q s p)
    by true g e more = ap (turned_on q ss) (decided q s o p g)
    by false g e more = more e

pub back_decided : (q : RrKey) (ss : List Step) (o p : Option RRset) → have_key q ss ≡ true → turned_back q ss o ≡ turned_back q ss p
back_decided q [] o p h = absurd (true≢false (sym h))
back_decided q (s ∷ ss) o p h = by (has_key q s) refl h (back_decided q ss o p)
  where
    by : (b : Bool) → has_key q s ≡ b → (b || have_key q ss) ≡ true → (have_key q ss ≡ true → turned_back q ss o ≡ turned_back q ss p)
        → turned q (back s) (turned_back q ss o) ≡ turned q (back s) (turned_back q ss p)
    by true g e more = decided q (back s) (turned_back q ss o) (turned_back q ss p) (has_key_back q s ∙ g)
    by false g e more = ap (turned q (back s)) (more e)

pub on_left : (q : RrKey) (ss : List Step) (o : Option RRset) → have_key q ss ≡ false → turned_on q ss o ≡ o
on_left q [] o h = refl
on_left q (s ∷ ss) o h =
    let parts = neither (has_key q s) (have_key q ss) h in
    on_left q ss (turned q s o) parts.1 ∙ left q s o parts.0

pub back_left : (q : RrKey) (ss : List Step) (o : Option RRset) → have_key q ss ≡ false → turned_back q ss o ≡ o
back_left q [] o h = refl
back_left q (s ∷ ss) o h =
    let parts = neither (has_key q s) (have_key q ss) h in
    ap (turned q (back s)) (back_left q ss o parts.1) ∙ left q (back s) o (has_key_back q s ∙ parts.0)

-- ---- among sets by their keys

-- the sets that steps add, and those that they delete, may stand under their keys
abbrev pub AreOwnIn : List Step → Type 0
AreOwnIn ss = AllByRecursion (λ (s : Step). AreOwn (given_in s) × AreOwn (given_in (back s))) ss

pub zone_behind_all : (m : Sets) (ss : List Step) → IsZone m → AreOwnIn ss → IsZone (behind_all m ss)
zone_behind_all m [] zone own = zone
zone_behind_all m (s ∷ ss) zone own = zone_behind_all (behind m s) ss (zone_behind m s zone own.0.0) own.1

pub found_behind_all : (m : Sets) (ss : List Step) (q : RrKey) → IsZone m → AreOwnIn ss → lookup (key_eq q) (behind_all m ss) ≡ turned_on q ss (lookup (key_eq q) m)
found_behind_all m [] q zone own = refl
found_behind_all m (s ∷ ss) q zone own =
    found_behind_all (behind m s) ss q (zone_behind m s zone own.0.0) own.1
    ∙ ap (turned_on q ss) (found_behind m s q zone own.0.0)

pub zone_before_all : (m : Sets) (ss : List Step) → IsZone m → AreOwnIn ss → IsZone (before_all m ss)
zone_before_all m [] zone own = zone
zone_before_all m (s ∷ ss) zone own = zone_behind (before_all m ss) (back s) (zone_before_all m ss zone own.1) own.0.1

pub found_before_all : (m : Sets) (ss : List Step) (q : RrKey) → IsZone m → AreOwnIn ss → lookup (key_eq q) (before_all m ss) ≡ turned_back q ss (lookup (key_eq q) m)
found_before_all m [] q zone own = refl
found_before_all m (s ∷ ss) q zone own =
    found_behind (before_all m ss) (back s) q (zone_before_all m ss zone own.1) own.0.1
    ∙ ap (turned q (back s)) (found_before_all m ss q zone own.1)
