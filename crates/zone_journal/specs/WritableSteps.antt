-- Of which versions the steps can be written
use Rattle.std.specs.Prelude.{◌≡◌, true, false}
use Rattle.zone_proto.specs.Names.{Name}
use Rattle.zone_proto.specs.Types.{RRSIG, SOA}
use Rattle.zone_map.specs.Zones.{Sets, owns, IsZone}
use Rattle.shown_zones.specs.Steps.{Step, IsStep}
use Rattle.zone_journal.specs.Writing.{is_writable}

-- The origin alone owns an SOA (RFC 1034 section 4.2.1), and no name a set of type RRSIG: signatures are in the sets that they sign.
pub record IsPlain (origin : Name) (m : Sets) : Type 0 where
  pub soa : (n : Name) → owns m n SOA ≡ true → n ≡ origin
  pub no_signatures : (n : Name) → owns m n RRSIG ≡ false

-- The sets of a step between two such versions can be read back one behind the other, so that no set keeps its entry from being written.
abbrev pub StepsAreWritable : Type 0
StepsAreWritable = (origin : Name) (a b : Sets) (s : Step) → IsStep origin a b s → IsZone a → IsZone b → IsPlain origin a → IsPlain origin b
    → is_writable s ≡ true
