-- What is found in a zone, and what isn't, whatever records prove of it
use Rattle.std.proofs.Common.{◌≡◌, ℕ, Bool, true, false, cond, ◌||◌, List, [], ◌∷◌, refl, sym, ap, ◌∙◌, subst, true≢false, inl}
use Rattle.std.specs.Prelude.{None, option_map, ◌==◌}
use Rattle.std.specs.Option.{option_or}
use Rattle.zone_proto.specs.Names.{Name, is_root, is_at_or_above, IsAbove, wildcard_under, is_wildcard}
use Rattle.zone_proto.specs.Types.{ANY}
use Rattle.zone_proto.proofs.Members.{In, any_from_In, or_right}
use Rattle.zone_proto.proofs.Names.NameTree.{is_at_or_above_complete}
use Rattle.zone_map.specs.AnyTypes.{any_type, searched_type}
use Rattle.zone_map.specs.Direct.{direct}
use Rattle.zone_map.specs.Wildcards.{exists, found, wildcard, asked_wildcard, asked_wildcard_exists, closest_encloser}
use Rattle.zone_map.specs.Zones.{Sets, owns, types_at, names_of, owns_at_or_below}
use Rattle.zone_map.proofs.Owned.{name_in, type_in, type_owned}
use Rattle.zone_denial.proofs.Chain.NsecBelow.{above_at}
use Rattle.zone_lookup.specs.Replies.{name_exists, absent, negative_answer}
use Rattle.denial_laws.specs.Soundness.{IsEmptyNonTerminal}

pub neither : (a b : Bool) → a || b ≡ false → (a ≡ false) × (b ≡ false)
neither true b e = absurd (true≢false e)
neither false b e = (refl, e)

-- ---- a name that is there

pub there_from : (m : Sets) (x : Name) (t : ℕ) → owns m x t ≡ true → owns_at_or_below m x ≡ true
there_from m x t k = any_from_In (is_at_or_above x) x (names_of m) (name_in m x t k) (is_at_or_above_complete x x ([], refl))

pub present : (origin : Name) (m : Sets) (x : Name) → owns_at_or_below m x || asked_wildcard_exists m x ≡ true → negative_answer origin m x ≡ name_exists
present origin m x e = ap (λ b. cond b name_exists (absent origin x)) e

-- a type that isn't ANY, by its test
pub searched_by : (m : Sets) (x : Name) (t : ℕ) → (t == ANY) ≡ false → searched_type m x t ≡ t
searched_by m x t e = ap (λ b. cond b (any_type m x) t) e

pub unasked : (m : Sets) (x : Name) → exists m x ≡ true → asked_wildcard m x ≡ None
unasked m x e = ap (λ b. cond b None (option_map wildcard_under (closest_encloser m x))) (or_right (is_root x || is_wildcard x) (exists m x) e)

pub nothing_by : (m : Sets) (signed : Bool) (x : Name) (t : ℕ) → (t == ANY) ≡ false → direct m x t ≡ None → wildcard m signed x t ≡ None → found m signed x (searched_type m x t) ≡ None
nothing_by m signed x t one d w = ap (found m signed x) (searched_by m x t one) ∙ (λ i. option_or (d i) (w i))

-- ---- empty non-terminals

-- what owns nothing has nothing found at it
pub unowned : (m : Sets) (y : Name) (u : ℕ) → types_at m y ≡ [] → owns m y u ≡ false
unowned m y u e = by (owns m y u) refl
  where
    by : (b : Bool) → owns m y u ≡ b → b ≡ false
    by true k = absurd (subst (In u) e (type_in m y u k))
    by false k = refl

-- an empty non-terminal is there, and nothing is found for it
pub empty_there : (m : Sets) (y : Name) → IsEmptyNonTerminal m y → owns_at_or_below m y ≡ true
empty_there m y e = by e.below
  where
    by : (n : Name) × (v : ℕ) × IsAbove y n × (owns m n v ≡ true) → owns_at_or_below m y ≡ true
    by (n, v, w, o) = any_from_In (is_at_or_above y) n (names_of m) (name_in m n v o) (is_at_or_above_complete y n (above_at y n w))

-- where neither a name nor one below it owns a set, it owns none
pub unowned_types : (m : Sets) (y : Name) → owns_at_or_below m y ≡ false → types_at m y ≡ []
unowned_types m y q = by (types_at m y) refl
  where
    by : (ts : List ℕ) → types_at m y ≡ ts → ts ≡ []
    by [] e = refl
    by (v ∷ ts) e = absurd (true≢false (sym (there_from m y v (type_owned m y v (subst (In v) (sym e) (inl refl)))) ∙ q))
