-- Updates by those who may make them (RFC 2136 section 3.3)
use Rattle.std.specs.Prelude.{ℕ, Bool, false, not, ◌==◌, ◌&&◌, ◌||◌, if◌then◌else◌, List, [], Option, Some, None, Result, Ok, Err}
use Rattle.std.specs.List.{list_all}
use Rattle.zone_proto.specs.Data.{type_of}
use Rattle.zone_proto.specs.Names.{Name, lower}
use Rattle.zone_proto.specs.Types.{ANY}
use Rattle.zone_map.specs.Zones.{Sets, types_at}
use Rattle.update_policy.specs.Policies.{permits}
use Rattle.update_policy.specs.declared.rule.Rule.{Rule}
use Rattle.zone_update.specs.Demands.{are_met}
use Rattle.zone_update.specs.Entries.{◌>>=◌, class_any}
use Rattle.zone_update.specs.Processing.{goes}
use Rattle.zone_update.specs.Updates.{course_of, finished, Course}
use Rattle.zone_update.specs.declared.entry.Content.{Content}
use Rattle.zone_update.specs.declared.entry.Content.TheVariants.{Data}
use Rattle.zone_update.specs.declared.entry.Entry.{Entry}
use Rattle.zone_update.specs.declared.refusal.Refusal.{Refusal}
use Rattle.zone_update.specs.declared.refusal.Refusal.TheVariants.{Refused}

-- a record of the update section deletes all sets of its name (section 2.5.3)
abbrev pub deletes_name : Entry → Bool
deletes_name r = (r.dns_class.0 == class_any) && (r.record_type.0 == ANY)

-- the type of the set that a record of the update section is about: that of its data, where it has some
abbrev pub type_by : ℕ → Content → ℕ
type_by t (Data d) = type_of d
type_by t _ = t

abbrev pub type_about : Entry → ℕ
type_about r = type_by r.record_type.0 r.content

module _ (rules : List Rule) (key origin : Name) where
  -- the owner of the key may change the set of a name and a type, or that set doesn't go with its name
  abbrev pub may_go : Name → ℕ → Bool
  may_go n t = not (goes origin n t) || permits rules key n t

  -- The owner of the key may make a change: of the set of its name and type; where all sets of the name are deleted, of each that goes
  abbrev pub is_permitted : Sets → Entry → Bool
  is_permitted m r =
      if deletes_name r then list_all (may_go (lower r.name)) (types_at m (lower r.name))
      else permits rules key (lower r.name) (type_about r)

  abbrev pub is_each_permitted : Sets → List Entry → Bool
  is_each_permitted m changes = list_all (is_permitted m) changes

-- who has a key may make each of these changes; who has none may make none
abbrev pub are_permitted : List Rule → Option Name → Name → Sets → List Entry → Bool
are_permitted rules None origin m changes = false
are_permitted rules (Some key) origin m changes = is_each_permitted rules key origin m changes

-- the sets after changes that are made, with the serial that goes on; none where nothing changed
abbrev pub if_changed : Name → Sets → Course → Option Sets
if_changed origin before c = if c.changed then Some (finished origin before c) else None

abbrev pub changed_alone : Name → Sets → List Entry → Result (Option Sets) Refusal
changed_alone origin m changes = course_of origin m [] changes >>= λ c. Ok (if_changed origin m c)

-- In the standard's order the prerequisites are looked at (section 3.2), then whether each change is permitted (section 3.3), and then the
-- changes are made (section 3.4). Who has no key is refused before, as who has a wrong one is (RFC 8945 section 5.2).
abbrev pub updated_if_permitted : List Rule → Option Name → Name → Sets → List Entry → List Entry → Result (Option Sets) Refusal
updated_if_permitted rules None origin m prerequisites changes = Err Refused
updated_if_permitted rules (Some key) origin m prerequisites changes =
    are_met origin m prerequisites >>= λ _.
    if is_each_permitted rules key origin m changes then changed_alone origin m changes else Err Refused
