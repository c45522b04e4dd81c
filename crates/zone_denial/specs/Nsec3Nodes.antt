-- The names that get an NSEC3 set, as the program lists them
use Rattle.std.specs.Prelude.{ℕ, not, List, map, reverse, filter}
use Rattle.zone_proto.specs.Names.{Name, is_at_or_above, proper_ancestors}
use Rattle.zone_denial.specs.declared.nsec3_names.Nsec3Name.{Nsec3Name}
use Rattle.zone_denial.specs.declared.nsec3_names.NodeName.{NodeName}
use Rattle.zone_denial.specs.declared.nsec3_names.NodeName.TheVariants.{Lent, Own}

-- a name that is lent or owned
abbrev pub node_name : NodeName → Name
node_name (Lent n) = n.now
node_name (Own n) = n

-- a listed name, and the numbers of its types
abbrev pub name_of : Nsec3Name → Name
name_of n = node_name n.name

abbrev pub types_of : Nsec3Name → List ℕ
types_of n = map (λ t. t.0) n.types

abbrev pub node_of : Nsec3Name → Name × List ℕ
node_of n = (name_of n, types_of n)

-- the ancestors of n that aren't at or above another name, the highest first
abbrev pub new_ancestors : Name → Name → List Name
new_ancestors last n = reverse (filter (λ a. not (is_at_or_above a last)) (proper_ancestors n))
