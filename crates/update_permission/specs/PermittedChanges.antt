-- What an update changes that is carried out where it is permitted
use Rattle.std.specs.Prelude.{◌≡◌, ◌≢◌, ◌⊎◌, ℕ, List, [], Option, Some, None, Ok, IsTrue, unwrap_or}
use Rattle.zone_proto.specs.Keys.{key}
use Rattle.zone_proto.specs.Names.{Name}
use Rattle.zone_proto.specs.Sets.{RRset}
use Rattle.zone_proto.specs.Stepping.{stepped}
use Rattle.zone_proto.specs.Types.{SOA}
use Rattle.zone_map.specs.Zones.{Sets, set_at}
use Rattle.update_policy.specs.Policies.{permits}
use Rattle.update_policy.specs.declared.rule.Rule.{Rule}
use Rattle.zone_update.specs.Updates.{updated, zone_serial}
use Rattle.zone_update.specs.declared.entry.Entry.{Entry}
use Rattle.update_permission.specs.Permissions.{updated_if_permitted}

-- the set of a name and a type is the zone's SOA, with the next serial (RFC 2136 section 3.6)
pub record HasNextSerial (origin : Name) (m after : Sets) (n : Name) (t : ℕ) : Type 0 where
  pub apex : key n t ≡ key origin SOA
  pub soa : RRset
  pub stood : set_at m n t ≡ Some soa
  pub stands : set_at after n t ≡ Some (record (stepped soa) { signatures = [] })

-- each set stands as it did, or the owner of the key may change it, or it is the SOA with the next serial
abbrev pub PermittedSetsAloneChange : Type 0
PermittedSetsAloneChange = (rules : List Rule) (requestor origin : Name) (m after : Sets) (prerequisites changes : List Entry)
    → updated_if_permitted rules (Some requestor) origin m prerequisites changes ≡ Ok (Some after)
    → (n : Name) (t : ℕ) → (set_at after n t ≡ set_at m n t) ⊎ (IsTrue (permits rules requestor n t) ⊎ HasNextSerial origin m after n t)

-- without a key no update is carried out
abbrev pub NothingChangesWithoutKey : Type 0
NothingChangesWithoutKey = (rules : List Rule) (origin : Name) (m : Sets) (after : Option Sets) (prerequisites changes : List Entry)
    → updated_if_permitted rules None origin m prerequisites changes ≢ Ok after

-- What is given is the zone that the changes make by themselves: another zone, or none where that is the zone as it was.
abbrev pub WhatIsGivenIsTheUpdate : Type 0
WhatIsGivenIsTheUpdate = (rules : List Rule) (requestor origin : Name) (m : Sets) (after : Option Sets) (prerequisites changes : List Entry)
    → updated_if_permitted rules (Some requestor) origin m prerequisites changes ≡ Ok after → updated origin m [] changes ≡ Ok (unwrap_or after m)

-- a zone that is given has another serial than the one before, if that has one
abbrev pub SerialsGoOn : Type 0
SerialsGoOn = (rules : List Rule) (key : Option Name) (origin : Name) (m after : Sets) (prerequisites changes : List Entry) (serial : ℕ)
    → updated_if_permitted rules key origin m prerequisites changes ≡ Ok (Some after) → zone_serial origin m ≡ Some serial → zone_serial origin after ≢ Some serial
