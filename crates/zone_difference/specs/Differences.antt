-- The difference of two zones, as the sets that are taken out and those that are given, and what it makes of a zone (RFC 1995 section 4)
use Rattle.std.specs.Prelude.{◌≡◌, Bool, true, false, not, ◌==◌, if◌then◌else◌, List, [], ◌∷◌, length, map, filter, Option, Some, None, is_some, Result, Ok, Err}
use Rattle.std.specs.Map.{lookup}
use Rattle.zone_proto.specs.declared.rr_key.RrKey.{RrKey}
use Rattle.zone_proto.specs.Keys.{key, key_eq}
use Rattle.zone_proto.specs.Names.{lower}
use Rattle.zone_proto.specs.Sets.{RRset, same_set}
use Rattle.zone_map.specs.Zones.{Sets, put, without}
use Rattle.zone_difference.specs.declared.difference.Difference.{Difference}
use Rattle.zone_difference.specs.declared.error.DifferenceError.{DifferenceError}
use Rattle.zone_difference.specs.declared.error.DifferenceError.TheVariants.{NotThere, AlreadyThere, Empty, Memory}

-- equal sets stand in two places, names ignoring case, or in neither a set
abbrev pub same_at : Option RRset → Option RRset → Bool
same_at None None = true
same_at None (Some t) = false
same_at (Some s) None = false
same_at (Some s) (Some t) = same_set s t

-- a zone has an equal set under the same key
abbrev pub has : Sets → (RrKey × RRset) → Bool
has m e = same_at (lookup (key_eq e.0) m) (Some e.1)

-- the sets of a zone, by their keys, that another zone hasn't
abbrev pub lacking : Sets → Sets → Sets
lacking m other = filter (λ e. not (has other e)) m

-- the sets of a zone that another hasn't, in the order of their keys: from a zone to another those of the first are taken out, and
-- those of the other are given
abbrev pub sets_lacking : Sets → Sets → List RRset
sets_lacking m other = map (λ e. e.1) (lacking m other)

-- one step after the other: the first fault is that of all
infixl 10 ◌>>=◌
abbrev pub ◌>>=◌ : Result Sets DifferenceError → (Sets → Result Sets DifferenceError) → Result Sets DifferenceError
(Ok m) >>= f = f m
(Err e) >>= f = Err e

-- a set is taken out from under a key, where an equal one stands
abbrev pub taken_at : Sets → RrKey → RRset → Result Sets DifferenceError
taken_at m k s = if same_at (lookup (key_eq k) m) (Some s) then Ok (without m k.name k.record_type.0) else Err NotThere

abbrev pub with_taken : Sets → RRset → Result Sets DifferenceError
with_taken m s = taken_at m (key (lower s.owner) s.record_type) s

-- a set that has records is given under a key, where none stands
abbrev pub given_at : Sets → RrKey → RRset → Result Sets DifferenceError
given_at m k s =
    if is_some (lookup (key_eq k) m) then Err AlreadyThere
    else (if length s.records == 0 then Err Empty else Ok (put m k.name k.record_type.0 s))

abbrev pub with_given : Sets → RRset → Result Sets DifferenceError
with_given m s = given_at m (key (lower s.owner) s.record_type) s

-- sets, one after the other
unfoldable pub with_each : (Sets → RRset → Result Sets DifferenceError) → Sets → List RRset → Result Sets DifferenceError
with_each step m [] = Ok m
with_each step m (s ∷ ss) = step m s >>= λ n. with_each step n ss

-- a zone once some sets are taken out and then others are given, or the first fault
abbrev pub applied : Sets → List RRset → List RRset → Result Sets DifferenceError
applied m taken given = with_each with_taken m taken >>= λ n. with_each with_given n given

-- the same for differences one after the other
unfoldable pub replayed : Sets → List Difference → Result Sets DifferenceError
replayed m [] = Ok m
replayed m (d ∷ ds) = applied m d.taken.items d.given.items >>= λ n. replayed n ds

-- a call gives the zone that is defined, or refuses it for the fault that is; memory may run out in place of either
abbrev pub IsFault : DifferenceError → Result Sets DifferenceError → Type 0
IsFault Memory made = Unit {0}
IsFault e made = made ≡ Err e

abbrev pub Gives : Result Sets DifferenceError → Result Sets DifferenceError → Type 0
Gives (Ok m) made = made ≡ Ok m
Gives (Err e) made = IsFault e made

-- the same of a call that changes a zone in place
abbrev pub Changes : {A : Type 0} → Result A DifferenceError → Sets → Result Sets DifferenceError → Type 0
Changes (Ok x) after made = made ≡ Ok after
Changes (Err e) after made = IsFault e made
