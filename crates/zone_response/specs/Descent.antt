-- What turns a search on its way from the origin down to a name: the first zone cut or DNAME (RFC 1034 section 4.3.2 step 3, RFC 6672 section 3.2)
use Rattle.std.specs.Prelude.{ℕ, ◌&&◌, ◌||◌, cond, [], ◌∷◌, ◌==◌, Option, None, option_map}
use Rattle.std.specs.Option.{option_or}
use Rattle.zone_proto.specs.Names.{Name, name_eq, is_at_or_above}
use Rattle.zone_proto.specs.Sets.{RRset}
use Rattle.zone_proto.specs.Types.{NS, DS, DNAME}
use Rattle.zone_map.specs.Zones.{Sets, set_at}
use Rattle.zone_response.specs.declared.descent.Diverting.{Diverting}
use Rattle.zone_response.specs.declared.descent.Diverting.TheVariants as turning

pub data Diversion : Type 0 where
  -- a zone cut, of which this is the NS set
  cut : RRset → Diversion
  -- the names below the owner of this DNAME set have other names
  renaming : RRset → Diversion

-- a DNAME renames the names below its owner, and not the owner (RFC 6672 section 2.3): on the way to x
abbrev pub dname_at : Sets → Name → Name → Option RRset
dname_at m x a = cond (name_eq a x) None (set_at m a DNAME)

module _ (origin : Name) (m : Sets) (x : Name) (t : ℕ) where
  -- for a query of x and t, a name below the origin that owns NS is a zone cut; but not for DS of the name itself, which is the parent's (RFC 4035 section 3.1.4.1)
  abbrev pub cut_at : Name → Option RRset
  cut_at a = cond (name_eq a origin || (name_eq a x && (t == DS))) None (set_at m a NS)

  -- what a name of the zone turns
  abbrev pub diversion_at : Name → Option Diversion
  diversion_at a = cond (is_at_or_above origin a) (option_or (option_map cut (cut_at a)) (option_map renaming (dname_at m x a))) None

  -- the first turn on the way down to a name: that of its ancestors, and else its own
  abbrev pub diversion_down_to : Name → Option Diversion
  diversion_down_to [] = diversion_at []
  diversion_down_to (l ∷ a) = option_or (diversion_down_to a) (diversion_at (l ∷ a))

  -- that of its ancestors
  abbrev pub diversion_above : Name → Option Diversion
  diversion_above [] = None
  diversion_above (l ∷ a) = diversion_down_to a

  -- on the way down to x
  abbrev pub diversion : Option Diversion
  diversion = diversion_down_to x

-- by the NS set of a zone cut, and by a DNAME set
abbrev pub diversion_by : Option RRset → Option RRset → Option Diversion
diversion_by ns dname = option_or (option_map cut ns) (option_map renaming dname)

-- ---- as the program keeps it

abbrev pub diversion_of : Diverting → Diversion
diversion_of (turning.Cut s) = cut s.now
diversion_of (turning.Renaming s) = renaming s.now
