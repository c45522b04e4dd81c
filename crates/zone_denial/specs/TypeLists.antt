-- The types that a denial lists
use Rattle.std.specs.Prelude.{ℕ, List, [], ◌∷◌}
use Rattle.std.specs.declared.cmp.Ordering.{Ordering}
use Rattle.std.specs.Ordering.{nat_cmp, match_ordering}
use Rattle.zone_proto.specs.Names.{Name}
use Rattle.zone_proto.specs.Types.{RRSIG, NSEC}
use Rattle.zone_map.specs.Zones.{Sets, types_at}

-- an ascending list with one more element, unless that is there
abbrev pub joined : {K : Type 0} → (K → K → Ordering) → K → List K → List K
joined cmp x [] = x ∷ []
joined cmp x (y ∷ ys) = match_ordering (cmp x y) (x ∷ y ∷ ys) (y ∷ ys) (y ∷ joined cmp x ys)

-- the elements of a list ascending, each once
abbrev pub in_order : {K : Type 0} → (K → K → Ordering) → List K → List K
in_order cmp [] = []
in_order cmp (x ∷ xs) = joined cmp x (in_order cmp xs)

-- what the NSEC set of n lists: the types that n owns, glue at a zone cut too, and NSEC and RRSIG, ascending, each once (RFC 4034 section 4.1.2)
abbrev pub nsec_types : Sets → Name → List ℕ
nsec_types m n = in_order nat_cmp (NSEC ∷ RRSIG ∷ types_at m n)
