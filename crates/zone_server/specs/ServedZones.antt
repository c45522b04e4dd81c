-- Which of a server's zones answers a query
use Rattle.std.specs.Prelude.{◌≡◌, ℕ, ◌<◌, ◌≤◌, Bool, true, false, ◌&&◌, ◌==◌, if◌then◌else◌, List, ◌∷◌, ◌++◌, All, length, Option, Some, None}
use Rattle.std.specs.List.{list_any}
use Rattle.zone_proto.specs.Names.{Name, is_above, is_at_or_above}
use Rattle.zone_proto.specs.Types.{DS}
use Rattle.zone_response.specs.Queries.{Zone}

-- the zone above a name is served, so that the name may be a cut in it
abbrev pub has_parent : List Zone → Name → Bool
has_parent zs x = list_any (λ (z : Zone). is_above z.origin x) zs

-- DS is at the parent's side of a cut (RFC 4035 section 3.1.4.1): the zone at the name itself answers for it only where
-- the server has none above
abbrev pub is_parents : List Zone → Name → ℕ → Bool
is_parents zs x t = (t == DS) && has_parent zs x

-- a zone may answer for a name: its origin is the name or an ancestor (RFC 1034 section 4.3.2 step 2), and an ancestor where the parent
-- answers
abbrev pub may_answer_for : Bool → Name → Zone → Bool
may_answer_for by_parent x z = if by_parent then is_above z.origin x else is_at_or_above z.origin x

-- the same for a name and a type that is asked for
abbrev pub may_answer : List Zone → Name → ℕ → Zone → Bool
may_answer zs x t = may_answer_for (is_parents zs x t) x

-- Of the zones that may answer it is the one that is nearest to the name: none has a longer origin, and none before it one as long.
pub record IsNearest (may : Zone → Bool) (zs : List Zone) (z : Zone) : Type 0 where
  pub front : List Zone
  pub rest : List Zone
  pub stands : zs ≡ front ++ z ∷ rest
  pub answers : may z ≡ true
  pub before : All (λ (y : Zone). may y ≡ true → length y.origin < length z.origin) front
  pub behind : All (λ (y : Zone). may y ≡ true → length y.origin ≤ length z.origin) rest

-- the nearest of the zones that may answer; none if none may
abbrev pub IsNearestIfAny : (Zone → Bool) → List Zone → Option Zone → Type 0
IsNearestIfAny may zs (Some z) = IsNearest may zs z
IsNearestIfAny may zs None = All (λ (z : Zone). may z ≡ false) zs

-- the zone that answers for a name and a type, or that none does
abbrev pub IsAnswering : List Zone → Name → ℕ → Option Zone → Type 0
IsAnswering zs x t = IsNearestIfAny (may_answer zs x t) zs

-- ---- as the program finds it

-- the zone of the parent, where it answers for a name and a type; none if it doesn't
abbrev pub IsParentsZone : List Zone → Name → ℕ → Option Zone → Type 0
IsParentsZone zs x t (Some z) = (is_parents zs x t ≡ true) × IsNearest (may_answer_for true x) zs z
IsParentsZone zs x t None = is_parents zs x t ≡ false
