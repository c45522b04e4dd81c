-- A zone into which NSEC sets that a change makes others are put
use Rattle.std.specs.Prelude.{◌==◌, ◌&&◌, if◌then◌else◌, List, ◌++◌, None}
use Rattle.std.specs.Option.{option_or}
use Rattle.zone_proto.specs.declared.rr_key.RrKey.{RrKey}
use Rattle.zone_proto.specs.Names.{Name}
use Rattle.zone_proto.specs.Types.{NSEC}
use Rattle.zone_map.specs.Zones.{Sets}
use Rattle.zone_signing.specs.Secured.{SetsBy}
use Rattle.update_in_place.specs.Parts.{is_among, keys_lacking}

-- the keys of the sets that go and of those that come, where sets are exchanged for others
abbrev pub changed_keys : Sets → Sets → List RrKey
changed_keys before after = keys_lacking before after ++ keys_lacking after before

-- sets in which those that are made anew stand in place of the NSEC sets of some names
abbrev pub with_renewed : List Name → SetsBy → SetsBy → SetsBy
with_renewed names made sets n t = option_or (made n t) (if (t == NSEC) && is_among names n then None else sets n t)
