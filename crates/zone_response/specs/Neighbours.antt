-- What the keys next to a name in the order of a zone tell of the names above it: the names below a name stand together
use Rattle.std.specs.Prelude.{◌≡◌, ℕ, ◌<◌, ◌≤◌, Bool, length, None, IsTrue, IsFalse}
use Rattle.zone_proto.specs.declared.rr_key.RrKey.{RrKey}
use Rattle.zone_proto.specs.Names.{Name, IsAbove, IsAtOrAbove}
use Rattle.zone_map.specs.Wildcards.{exists}
use Rattle.zone_map.specs.Zones.{Sets, owns, owns_at_or_below, set_at}

module _ (m : Sets) (x : Name) (count : ℕ) where
  -- of the keys of the zone that pass a test, none is of an ancestor of x with more than so many labels, or of a name below that
  abbrev pub NoneBelowLonger : (RrKey → Bool) → Type 0
  NoneBelowLonger p = (a : Name) (k : RrKey) → IsAbove a x → IsAtOrAbove a k.name → IsTrue (owns m k.name k.record_type.0) → IsTrue (p k) → length a ≤ count

  -- the ancestor of x with so many labels, unless it is the root, is in the zone's tree: it, or a name below it, owns a set
  abbrev pub IsInTree : Type 0
  IsInTree = (a : Name) → IsAbove a x → length a ≡ count → 0 < count → IsTrue (owns_at_or_below m a)

  -- no ancestor of x with more labels owns a set
  abbrev pub NoLongerOwns : Type 0
  NoLongerOwns = (a : Name) (t : ℕ) → IsAbove a x → count < length a → set_at m a t ≡ None

  -- no ancestor of x with more labels exists
  abbrev pub NoLongerExists : Type 0
  NoLongerExists = (a : Name) → IsAbove a x → count < length a → IsFalse (exists m a)
