-- The NSEC3 sets that answer a query for a denial, in any zone, whether its NSEC3 sets are a circle or not
use Rattle.std.specs.Prelude.{suc, Bool, ◌&&◌, not, cond, List, [], ◌∷◌, ◌++◌, length, ◌==◌, Option, Some, None, filter, filter_map, find, option_to_list, Result, Ok, Err}
use Rattle.std.specs.List.{list_any}
use Rattle.std.specs.Option.{option_map_or, option_or}
use Rattle.zone_proto.specs.Names.{Name, name_cmp, name_eq, is_root, suffixes, proper_ancestors, wildcard_under}
use Rattle.zone_proto.specs.Order.{is_before, greatest}
use Rattle.zone_proto.specs.Sets.{RRset}
use Rattle.zone_proto.specs.Types.{NSEC3}
use Rattle.zone_map.specs.Zones.{Sets, set_at, owns, owners}
use Rattle.zone_denial.specs.Nsec3Names.{nsec3_names}
use Rattle.zone_denial.specs.TypeLists.{in_order}

-- ---- the names that a denial proves something of (RFC 5155 section 1.3)

-- of q, the longest proper ancestor among names that have NSEC3 sets: the closest provable encloser
abbrev pub encloser_on : List Name → Name → Option Name
encloser_on names q = find (λ a. list_any (name_eq a) names) (proper_ancestors q)

-- so by those of the circle
abbrev pub closest_encloser : Name → Sets → Bool → Name → Option Name
closest_encloser origin m opt_out q = encloser_on (nsec3_names origin m opt_out) q

-- the name one label longer than an ancestor of q, which is q or an ancestor of it
abbrev pub next_closer : Name → Name → Option Name
next_closer q a = find (λ s. length s == suc (length a)) (suffixes q)

-- ---- match and cover (RFC 5155 section 1.3)

-- the owner of the set that matches: the hashed owner itself
abbrev pub match_owner : Sets → Name → Option Name
match_owner m h = cond (owns m h NSEC3) (Some h) None

-- the owner of the set that covers: the greatest one before the hashed owner, and before the first one the greatest of all
abbrev pub cover_owner : Sets → Name → Option Name
cover_owner m h = option_or (greatest name_cmp (filter (λ o. is_before name_cmp o h) (owners m NSEC3))) (greatest name_cmp (owners m NSEC3))

-- ---- results that may be refusals

-- what comes of a value, or its refusal
abbrev pub result_and_then : {E X Y : Type 0} → (X → Result Y E) → Result X E → Result Y E
result_and_then f (Ok x) = f x
result_and_then f (Err e) = Err e

-- the first element that passes a test; a refusal of the test before that is the answer
abbrev pub find_tested : {E X : Type 0} → (X → Result Bool E) → List X → Result (Option X) E
find_tested test [] = Ok None
find_tested test (x ∷ xs) = result_and_then (λ passes. cond passes (Ok (Some x)) (find_tested test xs)) (test x)

-- ---- the sets that deny, and the order in which names are hashed: it tells which refusal is answered where several names
-- have none but a refusal

module _ {E : Type 0} (m : Sets) (hashed : Name → Result Name E) where
  -- the hashed owner of a name owns NSEC3
  abbrev pub has_match : Name → Result Bool E
  has_match n = result_and_then (λ h. Ok (owns m h NSEC3)) (hashed n)

  -- the owners of what matches and of what covers a name
  abbrev pub match_of : Name → Result (List Name) E
  match_of n = result_and_then (λ h. Ok (option_to_list (match_owner m h))) (hashed n)

  abbrev pub cover_of : Name → Result (List Name) E
  cover_of n = result_and_then (λ h. Ok (option_to_list (cover_owner m h))) (hashed n)

  -- the nearest ancestor of q that has a match, the root aside
  abbrev pub encloser_of : Name → Result (Option Name) E
  encloser_of q = find_tested has_match (filter (λ a. not (is_root a)) (proper_ancestors q))

  -- the owner of what matches the wildcard at a, or else of what covers it
  abbrev pub wildcard_part : Name → Result (List Name) E
  wildcard_part a = result_and_then (λ h. Ok (option_to_list (option_or (match_owner m h) (cover_owner m h)))) (hashed (wildcard_under a))

  -- with an encloser: where a wildcard answered, what covers the next closer name (RFC 5155 section 7.2.6); else what
  -- matches the encloser, what covers the next closer name, and the wildcard's part (sections 7.2.2 to 7.2.5)
  abbrev pub enclosed : Bool → Name → Option Name → Result (List Name) E
  enclosed wildcard q None = Ok []
  enclosed wildcard q (Some a) =
      result_and_then (λ closer. cond wildcard (Ok closer) (result_and_then (λ encloser. result_and_then (λ at_wildcard. Ok (encloser ++ closer ++ at_wildcard)) (wildcard_part a)) (match_of a)))
      (option_map_or cover_of (next_closer q a) (Ok []))

  -- the owners of the sets that deny, ascending, each once: the name's own, unless a wildcard answered; else those with an encloser
  abbrev pub nsec3_denying_owners : Bool → Name → Result (List Name) E
  nsec3_denying_owners wildcard q =
      result_and_then (λ own. cond (owns m own NSEC3 && not wildcard) (Ok (own ∷ []))
      (result_and_then (λ encloser. result_and_then (λ owners. Ok (in_order name_cmp owners)) (enclosed wildcard q encloser)) (encloser_of q))) (hashed q)

  -- these sets
  abbrev pub nsec3_denial : Bool → Name → Result (List RRset) E
  nsec3_denial wildcard q = result_and_then (λ owners. Ok (filter_map (λ o. set_at m o NSEC3) owners)) (nsec3_denying_owners wildcard q)
