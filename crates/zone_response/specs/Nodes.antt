-- What a name, or the wildcard at the closest encloser of one, has for a query of a type
use Rattle.std.specs.Prelude.{ℕ, ◌||◌, cond, ◌==◌, Option, Some, None, option_and_then}
use Rattle.zone_proto.specs.Names.{Name}
use Rattle.zone_proto.specs.Sets.{RRset}
use Rattle.zone_proto.specs.Types.{CNAME, RRSIG, NSEC3, ANY, ANAME}
use Rattle.zone_map.specs.AnyTypes.{any_type}
use Rattle.zone_map.specs.Direct.{is_address}
use Rattle.zone_map.specs.Zones.{Sets, set_at}
use Rattle.zone_response.specs.declared.nodes.Node.{Node}
use Rattle.zone_response.specs.declared.nodes.Node.TheVariants as node
use Rattle.zone_response.specs.Sections.{is_signed}

pub data AtNode : Type 0 where
  -- the set that is asked for
  own : RRset → AtNode
  -- an alias to be followed
  alias : RRset → AtNode
  -- an ANAME set, whose target's addresses are asked for
  stand_in : RRset → AtNode
  nothing : AtNode

-- the type that is searched at a name: for ANY one that the name owns (RFC 8482 section 4.1), and so for RRSIG, which signs each
abbrev pub chosen_type : Sets → Name → ℕ → ℕ
chosen_type m x t = cond ((t == ANY) || (t == RRSIG)) (any_type m x) t

-- of a set, what is sent for a query of RRSIG are its signatures, if it has any
abbrev pub if_signed : ℕ → RRset → Option RRset
if_signed t s = cond ((t == RRSIG)) (cond (is_signed s) (Some s) None) (Some s)

-- the set that is asked for; a name has none for NSEC3, whose owners are no names of the zone (RFC 5155 section 7.2.8)
abbrev pub asked_set : Sets → Name → ℕ → Option RRset
asked_set m x t = cond (t == NSEC3) None (option_and_then (if_signed t) (set_at m x (chosen_type m x t)))

-- the ANAME set that stands in for addresses
abbrev pub stand_in_set : Sets → Name → ℕ → Option RRset
stand_in_set m x t = cond (is_address t) (set_at m x ANAME) None

-- the first that is there of the set that is asked for, an alias (RFC 1034 section 4.3.2 step 3a) and an ANAME set
abbrev pub first_of : Option RRset → Option RRset → Option RRset → AtNode
first_of (Some s) c a = own s
first_of None (Some c) a = alias c
first_of None None (Some a) = stand_in a
first_of None None None = nothing

abbrev pub at_node : Sets → Name → ℕ → AtNode
at_node m x t = first_of (asked_set m x t) (set_at m x CNAME) (stand_in_set m x t)

-- as the program keeps it
abbrev pub node_of : Node → AtNode
node_of (node.Own s) = own s.now
node_of (node.Alias s) = alias s.now
node_of (node.StandIn s) = stand_in s.now
node_of node.Nothing = nothing
