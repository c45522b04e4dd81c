-- The sets of a section, of which each is there once (RFC 2181 section 5.5)
use Rattle.std.specs.Prelude.{◌≡◌, Bool, false, true, ◌&&◌, ◌||◌, List, [], ◌∷◌, ◌++◌, IsFalse}
use Rattle.std.specs.List.{list_any}
use Rattle.zone_proto.specs.declared.record.Record.{Record}
use Rattle.zone_proto.specs.Names.{lower}
use Rattle.zone_proto.specs.Sets.{RRset}
use Rattle.zone_map.specs.Zones.{IsZone}
use Rattle.zone_response.specs.Queries.{Zone, Query, HasOwnDenials}
use Rattle.zone_response.specs.Sections.{Sections, is_signed, is_alike}
use Rattle.response_laws.specs.Servers.{Server}

-- both have records
abbrev pub have_both : List Record → List Record → Bool
have_both [] rs = false
have_both (k ∷ ks) [] = false
have_both (k ∷ ks) (r ∷ rs) = true

-- a set repeats another of its owner and type: both have records, or both have signatures
abbrev pub repeats : RRset → RRset → Bool
repeats s r = is_alike s r && (have_both s.records r.records || is_signed s && is_signed r)

-- none repeats one that comes before it
abbrev pub StandOnce : List RRset → Type 0
StandOnce sets = (before back : List RRset) (s : RRset) → sets ≡ before ++ s ∷ back → IsFalse (list_any (repeats s) before)

-- so it is in each section of a response; glue and what goes besides are the additional section
pub record IsEachOnce (r : Sections) : Type 0 where
  pub answers : StandOnce r.answers
  pub authorities : StandOnce r.authorities
  pub additionals : StandOnce (r.glue ++ r.additionals)

-- of each response; a query's name is in lower case
abbrev pub SetsStandOnce : Server → Type 0
SetsStandOnce server = (z : Zone) (q : Query) (r : Sections) → IsZone z.sets → HasOwnDenials z → lower q.name ≡ q.name → server z q r → IsEachOnce r
