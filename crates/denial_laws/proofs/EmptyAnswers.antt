-- What an answer without data says of a zone
use Rattle.std.proofs.Common.{◌≡◌, ◌≢◌, ℕ, Bool, true, false, cond, ◌||◌, refl, ap, true≢false}
use Rattle.zone_proto.specs.Names.{Name, is_at_or_above}
use Rattle.zone_proto.specs.Types.{ANY}
use Rattle.zone_map.specs.AnyTypes.{any_type, searched_type}
use Rattle.zone_map.specs.Wildcards.{asked_wildcard_exists}
use Rattle.zone_map.specs.Zones.{Sets, owns_at_or_below}
use Rattle.zone_lookup.specs.Replies.{name_exists, nx_domain, refused, absent, negative_answer}
use Rattle.denial_laws.proofs.OwnTypes.{differs}

-- a type that isn't ANY is searched itself
pub searched_itself : (m : Sets) (x : Name) (t : ℕ) → t ≢ ANY → searched_type m x t ≡ t
searched_itself m x t any = ap (λ b. cond b (any_type m x) t) (differs t ANY any)

-- where neither a name nor one below it owns a set, and yet the name is there, a wildcard at the closest encloser
-- exists
pub exists_means : (origin : Name) (m : Sets) (x : Name) → owns_at_or_below m x ≡ false → negative_answer origin m x ≡ name_exists → asked_wildcard_exists m x ≡ true
exists_means origin m x none e = by (owns_at_or_below m x) (asked_wildcard_exists m x) none e
  where
    inside : (c : Bool) → cond c nx_domain refused ≡ name_exists → false ≡ true
    inside true q = absurd cc
    inside false q = absurd cc

    by : (a b : Bool) → a ≡ false → cond (a || b) name_exists (absent origin x) ≡ name_exists → b ≡ true
    by true b u q = absurd (true≢false u)
    by false true u q = refl
    by false false u q = inside (is_at_or_above origin x) q
