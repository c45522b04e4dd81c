-- What NSEC3 sets prove of a name (RFC 5155 section 7.2)
use Rattle.std.specs.Prelude.{◌≡◌, ℕ, suc, Bool, true, false, cond, List, [], ◌∷◌, ◌++◌, ◌==◌, length, filter, find, is_some, option_and_then, option_to_list, Option, Some, None, IsSomeAnd, Result, Ok, Err}
use Rattle.std.specs.List.{list_all}
use Rattle.std.specs.Option.{option_map_or, option_or}
use Rattle.zone_proto.specs.declared.error.ProtoError.{ProtoError}
use Rattle.zone_proto.specs.declared.nx_proof_kind.NxProofKind.{NxProofKind}
use Rattle.zone_proto.specs.declared.nx_proof_kind.NxProofKind.TheVariants as kind
use Rattle.zone_proto.specs.Names.{Name, is_at_or_above, proper_ancestors, wildcard_under, suffixes}
use Rattle.zone_proto.specs.Sets.{RRset}
use Rattle.zone_proto.specs.Types.{NSEC3}
use Rattle.lookup_types.specs.declared.nsec3_query_info.Nsec3QueryInfo.{Nsec3QueryInfo}
use Rattle.zone_map.specs.Zones.{Sets, set_at}
use Rattle.zone_denial.specs.Nsec3Denial.{cover_owner}
use Rattle.zone_denial.specs.Nsec3Lent.{hashed_for, owner_cmp}
use Rattle.zone_denial.specs.TypeLists.{in_order}
use Rattle.zone_response.specs.declared.question.ServedZone.{ServedZone}

-- a name and its ancestors that are names of the zone, from the name down to the origin, which has the fewest labels
abbrev pub in_zone : Name → List Name → List Name
in_zone origin names = filter (is_at_or_above origin) names

-- of names, those up to the first that passes a test, and that one
abbrev pub upto_first : (Name → Bool) → List Name → List Name
upto_first passes [] = []
upto_first passes (x ∷ xs) = x ∷ cond (passes x) [] (upto_first passes xs)

-- of a name and its ancestors, the one of so many labels
abbrev pub of_labels : ℕ → Name → Option Name
of_labels count x = find (λ s. length s == count) (suffixes x)

-- the next closer name of x below its ancestor e, one label longer than e (section 1.3)
abbrev pub next_closer : Name → Name → Option Name
next_closer x e = of_labels (suc (length e)) x

-- of x with a closest encloser e, the next closer name; and that and the wildcard at e
abbrev pub wildcard_hashed : Name → Name → List Name
wildcard_hashed x e = option_to_list (next_closer x e)

abbrev pub below_hashed : Name → Name → List Name
below_hashed x e = option_to_list (next_closer x e) ++ wildcard_under e ∷ []

-- ---- given a hash that answers: of a zone's origin, the sets of its chain, and each name's hashed owner

module _ (origin : Name) (m : Sets) (hashed : Name → Name) where
  -- the set that matches a name, and the one that covers it (section 1.3)
  abbrev pub matching : Name → Option RRset
  matching x = set_at m (hashed x) NSEC3

  abbrev pub covering : Name → Option RRset
  covering x = option_and_then (λ o. set_at m o NSEC3) (cover_owner m (hashed x))

  abbrev pub has_set : Name → Bool
  has_set x = is_some (matching x)

  -- of a name and its ancestors, which all exist, the closest provable encloser (section 1.3): the nearest that has a set. With opt-out delegations, and names that exist by these alone, may have none (section 7.1)
  abbrev pub provable : List Name → Option Name
  provable names = find has_set (in_zone origin names)

  -- the set that covers the next closer name
  abbrev pub closer_set : Name → Name → Option RRset
  closer_set x e = option_and_then covering (next_closer x e)

  -- the set that matches the wildcard at e, or covers it
  abbrev pub wildcard_set : Name → Option RRset
  wildcard_set e = option_or (matching (wildcard_under e)) (covering (wildcard_under e))

  -- a wildcard answers for x, whose closest encloser is e (section 7.2.6)
  abbrev pub wildcard_sets : Name → Name → List RRset
  wildcard_sets x e = option_to_list (closer_set x e)

  -- x doesn't exist, and what was asked for the wildcard hasn't what is asked for either, for a name error (section
  -- 7.2.2) and for absent data of a wildcard (section 7.2.5), with a provable encloser: in the order of owners
  abbrev pub absent_below : Name → Name → List RRset
  absent_below x e = in_order owner_cmp (option_to_list (matching e) ++ option_to_list (closer_set x e) ++ option_to_list (wildcard_set e))

  -- the same with the closest encloser. The wildcard is that of the search, `*.e`, unless opt-out leaves e out of the
  -- chain: then it is the one under the provable encloser, below which nothing is shown to exist
  abbrev pub absent_sets : Name → Name → List RRset
  absent_sets x e = option_map_or (absent_below x) (provable (suffixes e)) []

  -- x exists and hasn't what is asked for: the set that matches it (sections 7.2.3, 7.2.4 and 7.2.7); or where opt-out leaves x out, the closest encloser proof (section 7.2.1)
  abbrev pub left_out_sets : Name → Name → List RRset
  left_out_sets x e = option_to_list (closer_set x e) ++ option_to_list (matching e)

  abbrev pub present_sets : Name → List RRset
  present_sets x = option_map_or (λ s. s ∷ []) (matching x) (option_map_or (left_out_sets x) (provable (proper_ancestors x)) [])

  -- ---- the names that are hashed for these

  -- of a name and its ancestors, those up to the closest provable encloser
  abbrev pub tried : List Name → List Name
  tried names = upto_first has_set (in_zone origin names)

  abbrev pub absent_hashed : Name → Name → List Name
  absent_hashed x e = tried (suffixes e) ++ option_map_or (below_hashed x) (provable (suffixes e)) []

  abbrev pub left_out_hashed : Name → List Name
  left_out_hashed x = tried (proper_ancestors x) ++ option_map_or (wildcard_hashed x) (provable (proper_ancestors x)) []

  abbrev pub present_hashed : Name → List Name
  present_hashed x = x ∷ cond (has_set x) [] (left_out_hashed x)

-- ---- a hash that may refuse a name

-- the hashed owner of a name; if there is none nothing is asked of it, and any name will do
abbrev pub owner_given : Result Name ProtoError → Name
owner_given (Ok h) = h
owner_given (Err e) = []

abbrev pub has_owner : Result Name ProtoError → Bool
has_owner (Ok h) = true
has_owner (Err e) = false

module _ (hash : Name → Result Name ProtoError) where
  abbrev pub hashed_by : Name → Name
  hashed_by x = owner_given (hash x)

  -- each of these names has a hashed owner
  abbrev pub have_owners : List Name → Bool
  have_owners names = list_all (λ x. has_owner (hash x)) names

-- ---- as the program keeps it

-- a name that isn't the root
abbrev pub unless_root : Name → Option Name
unless_root [] = None
unless_root (l ∷ ls) = Some (l ∷ ls)

-- a query with the parameters of a zone: the number of the algorithm, the octets of the salt and the count of iterations
pub record AsksFor (number : ℕ) (octets : List ℕ) (count : ℕ) (x : Name) (q : Nsec3QueryInfo) : Type 0 where
  pub name : q.qname.now ≡ x
  pub algorithm : q.algorithm ≡ number
  pub salt : q.salt.now ≡ octets
  pub iterations : q.iterations ≡ count

-- such a query, if the zone denies by hashed names
abbrev pub AsksByHash : Option NxProofKind → Name → Option Nsec3QueryInfo → Type 0
AsksByHash (Some (kind.Nsec3 algorithm salt iterations opt_out)) x query = IsSomeAnd query (AsksFor algorithm salt iterations x)
AsksByHash _ x query = query ≡ None

-- the hashed owner of a name in a zone, with the parameters of a query, or why it has none
abbrev pub hash_of : {S H : Type 0} → (H → ℕ → List ℕ → Name → ℕ → Option (List ℕ)) → ServedZone S H → Nsec3QueryInfo → Name → Result Name ProtoError
hash_of digest_of z query = hashed_for z.origin.now (digest_of z.hash.now) query
