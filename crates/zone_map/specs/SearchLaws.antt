-- Laws of the definitions of a search
use Rattle.std.specs.Prelude.{◌≡◌, ℕ, ◌≤◌, ◌<◌, Bool, length, Some, None, IsTrue, IsFalse}
use Rattle.zone_proto.specs.Names.{Name, IsAbove, wildcard_under, is_wildcard}
use Rattle.zone_proto.specs.Sets.{RRset}
use Rattle.zone_map.specs.Zones.{Sets}
use Rattle.zone_map.specs.Wildcards.{exists, asked_wildcard}
use Rattle.zone_map.specs.Fronts.{IsLongestFront}
use Rattle.zone_map.specs.Chains.{links, may_be_chain, chain_links}

-- a is a proper ancestor of n that exists, and no longer one does
pub record IsClosestEncloser (m : Sets) (n a : Name) : Type 0 where
  pub above : IsAbove a n
  pub there : IsTrue (exists m a)
  pub longest : (b : Name) → IsAbove b n → length a < length b → IsFalse (exists m b)

-- a wildcard is asked for names that are no wildcards and don't exist alone, and it is that of their closest encloser;
-- where none is asked for such a name, none of its ancestors exists
pub record WildcardIsOfClosestEncloser : Type 0 where
  pub plain : (m : Sets) (n s : Name) → asked_wildcard m n ≡ Some s → IsFalse (is_wildcard n)
  pub absent : (m : Sets) (n s : Name) → asked_wildcard m n ≡ Some s → IsFalse (exists m n)
  pub encloser : (m : Sets) (n s : Name) → asked_wildcard m n ≡ Some s → (a : Name) × (s ≡ wildcard_under a) × IsClosestEncloser m n a
  pub none : (m : Sets) (n : Name) → asked_wildcard m n ≡ None → IsFalse (is_wildcard n) → IsFalse (exists m n) → (b : Name) → IsAbove b n → IsFalse (exists m b)

-- however far the found sets are followed, the chain is their longest front that has at most 8 sets and no name twice
abbrev pub ChainIsLongestFront : Type 0
ChainIsLongestFront = (m : Sets) (signed : Bool) (n : Name) (s : RRset) (t k : ℕ) → 7 ≤ k → IsLongestFront may_be_chain (links m signed n s t k) (chain_links m signed n s t)

abbrev pub ChainHasAtMost8 : Type 0
ChainHasAtMost8 = (m : Sets) (signed : Bool) (n : Name) (s : RRset) (t : ℕ) → length (chain_links m signed n s t) ≤ 8
