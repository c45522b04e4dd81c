-- What is wrong with the sets of a zone, as the program holds their records
use Rattle.std.specs.Prelude.{Bool, ◌==◌, not, length, [], ◌∷◌, Option, None}
use Rattle.std.specs.Option.{option_or}
use Rattle.zone_proto.specs.declared.rr_key.RrKey.{RrKey}
use Rattle.zone_proto.specs.Keys.{key}
use Rattle.zone_proto.specs.Names.{Name}
use Rattle.zone_proto.specs.Types.{CNAME}
use Rattle.zone_builder.specs.declared.fault.LoadFault.{LoadFault}
use Rattle.zone_builder.specs.declared.groups.Group.{Group}
use Rattle.zone_builder.specs.Faults.{apex_fault, first_of, set_fault}
use Rattle.zone_builder.specs.Groups.{Groups, records_in}

-- a name owns a CNAME
abbrev pub has_cname : Groups → Name → Bool
has_cname groups n = not (length (records_in groups (key n CNAME)) == 0)

module _ (origin : Name) (groups : Groups) where
  -- what is wrong with the set of a group under a key
  abbrev pub group_fault : RrKey → Group → Option LoadFault
  group_fault k g = set_fault origin k.name k.record_type.0 (has_cname groups k.name) g.records.items

  -- what is wrong with what the origin owns, where names are denied or not
  abbrev pub group_apex_fault : Bool → Option LoadFault
  group_apex_fault denied = apex_fault origin denied (λ t. first_of (records_in groups (key origin t)))

  -- the first that is wrong with the sets of groups
  abbrev pub first_fault : Groups → Option LoadFault
  first_fault [] = None
  first_fault (e ∷ es) = option_or (group_fault e.0 e.1) (first_fault es)
