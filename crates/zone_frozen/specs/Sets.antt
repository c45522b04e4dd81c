-- Record sets by their keys: those on either side of a key, and what a change makes of them
use Rattle.std.specs.Prelude.{◌≡◌, ◌<◌, ◌≤◌, ◌-◌, ℕ, true, List, [], ◌∷◌, ◌++◌, length, map, if◌then◌else◌, Option, MatchOption, IfSome, option_map, option_and_then}
use Rattle.std.specs.BTreeMap.Range.{entries_between}
use Rattle.std.specs.List.{HoldsAt}
use Rattle.std.specs.List.Sorted.{IsStrictlySortedBy}
use Rattle.std.specs.Map.{keys_of, lookup, set_value, update_all}
use Rattle.std.specs.declared.cmp.Ordering.TheVariants.{Less}
use Rattle.std.specs.declared.ops.Bound.TheVariants.{Excluded, Included, Unbounded}
use Rattle.zone_proto.specs.declared.record.Record.{Record}
use Rattle.zone_proto.specs.declared.rr_key.RrKey.{RrKey}
use Rattle.zone_proto.specs.Data.{type_of}
use Rattle.zone_proto.specs.Keys.{key_cmp, key_eq}
use Rattle.zone_proto.specs.Names.{same_name}
use Rattle.zone_proto.specs.Order.{is_upto}
use Rattle.zone_proto.specs.Sets.{RRset, inserted}
use Rattle.zone_proto.specs.Stepping.{stepped}

-- sets by their keys
abbrev pub Sets : Type 0
Sets = List (RrKey × RRset)

-- the sets from a key on: what `range(k..)` of a `BTreeMap` gives
abbrev pub sets_from : Sets → RrKey → Sets
sets_from m k = entries_between key_cmp (Included k) Unbounded m

-- the sets up to a key: what `range(..=k)` of a `BTreeMap` gives
abbrev pub sets_upto : Sets → RrKey → Sets
sets_upto m k = entries_between key_cmp Unbounded (Included k) m

-- the sets before a key: what `range(..k)` of a `BTreeMap` gives
abbrev pub sets_before : Sets → RrKey → Sets
sets_before m k = entries_between key_cmp Unbounded (Excluded k) m

-- the last of some sets, if there are any
abbrev pub EndsWith : Sets → Option (RrKey × RRset) → Type 0
EndsWith es last = MatchOption last (es ≡ []) (λ e. (front : Sets) × (es ≡ front ++ e ∷ []))

-- the sets from a key on start at a place: the set before it is before the key, and the one there isn't
pub record StartsAt (m : Sets) (k : RrKey) (i : ℕ) : Type 0 where
  pub within : i ≤ length m
  pub before : 0 < i → HoldsAt (λ (e : RrKey × RRset). key_cmp e.0 k ≡ Less) m (i - 1)
  pub here : i < length m → HoldsAt (λ (e : RrKey × RRset). is_upto key_cmp k e.0 ≡ true) m i

-- the set under a key is at a place
pub record IsPlaceOf (m : Sets) (k : RrKey) (i : ℕ) : Type 0 where
  pub within : i < length m
  pub here : HoldsAt (λ (e : RrKey × RRset). e.0 ≡ k) m i

-- sets of which the one under a key, if there is one, has the next serial
abbrev pub with_step : RrKey → Sets → Sets
with_step k m = map (λ (e : RrKey × RRset). (e.0, if key_eq k e.0 then stepped e.1 else e.1)) m

-- a record may be inserted into the set under a key, if there is one: it is of its owner and type
abbrev pub BelongsUnder : Record → RrKey → Sets → Type 0
BelongsUnder r k m = IfSome (lookup (key_eq k) m) (λ set. (same_name r.name set.owner ≡ true) × (type_of r.rdata ≡ set.record_type))

-- the sets with a record in the one under a key, if there is one and it takes the record
abbrev pub inserted_under : Record → ℕ → RrKey → Sets → Option Sets
inserted_under r serial k m = option_map (set_value (key_eq k) m) (option_and_then (λ set. inserted set r serial) (lookup (key_eq k) m))

-- sets that others were put into one after the other: under each key is the last one that came, else the one that was there
abbrev pub InsertsSets : Sets → Sets → Sets → Type 0
InsertsSets old more new =
    ((k : RrKey) → lookup (key_eq k) new ≡ update_all key_eq (λ q. lookup (key_eq q) old) more k) × IsStrictlySortedBy key_cmp (keys_of new)

-- the first of some sets were put among others, and these are the rest of them
abbrev pub MovesSets : Sets → Sets → Sets → Sets → Type 0
MovesSets old more new rest = (moved : Sets) × (more ≡ moved ++ rest) × InsertsSets old moved new
