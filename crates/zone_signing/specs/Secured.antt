-- The record sets of a zone once it is secured
use Rattle.std.specs.Prelude.{◌≡◌, ℕ, Bool, true, false, not, ◌&&◌, if◌then◌else◌, List, [], filter, Option, None, Some, option_map, ◌==◌}
use Rattle.std.specs.Map.{keys_of}
use Rattle.std.specs.Option.{option_or}
use Rattle.zone_proto.specs.declared.rdata.signing.RRSIG.{RRSIG}
use Rattle.zone_proto.specs.declared.rr_key.RrKey.{RrKey}
use Rattle.zone_proto.specs.Keys.{key, key_eq}
use Rattle.zone_proto.specs.Names.{Name}
use Rattle.zone_proto.specs.Sets.{RRset}
use Rattle.zone_proto.specs.Signing.{SignedPart}
use Rattle.zone_proto.specs.Stepping.{stepped}
use Rattle.zone_proto.specs.Types.{SOA}
use Rattle.zone_map.specs.Standing.{standing_at}
use Rattle.zone_map.specs.Zones.{Sets, set_at, owns}
use Rattle.zone_signing.specs.Signatures.{signatures}

-- record sets by name and type, where they are said and not stored
abbrev pub SetsBy : Type 0
SetsBy = Name → ℕ → Option RRset

-- whether the sets of a type stay, where those of the old denials go: all do if no type is named
abbrev pub stays : Option ℕ → ℕ → Bool
stays None t = true
stays (Some denials) t = not (t == denials)

-- whether the set under a key goes: it is of that type, and no new denial comes in its place
abbrev pub goes : Option ℕ → Sets → RrKey → Bool
goes denials new_denials k = not (stays denials k.record_type.0) && not (owns new_denials k.name k.record_type.0)

-- the keys of the sets that go
abbrev pub gone : Option ℕ → Sets → Sets → List RrKey
gone denials new_denials zone = filter (goes denials new_denials) (keys_of zone)

-- a set without its signatures
abbrev pub bare : RRset → RRset
bare s = record s { signatures = [] }

-- what is to be signed: the new denials, and beside them what stays of the zone
abbrev pub unsigned_at : Option ℕ → Sets → Sets → SetsBy
unsigned_at denials zone new_denials n t = option_or (set_at new_denials n t) (if stays denials t then set_at zone n t else None)

-- the same where the denials of a type stay, with another serial
abbrev pub kept_at : ℕ → ℕ → Sets → SetsBy
kept_at denials serial zone n t = option_or (standing_at zone denials serial n t) (if stays (Some denials) t then set_at zone n t else None)

module _ {S : Type 0} (signature_of : S → SignedPart → ℕ → ℕ → Option RRSIG) (now : ℕ) where
  -- a set with the signatures of those signers that sign, in their order, in place of the ones that it has
  abbrev pub signed : List S → RRset → RRset
  signed signers s = record s { signatures = signatures signature_of now signers s }

  -- a set under its key: the zone's SOA, which is under `apex`, first gets the next serial; then the set is signed
  abbrev pub secured_set : RrKey → List S → RrKey → RRset → RRset
  secured_set apex signers k s = signed signers (if key_eq apex k then stepped s else s)

  -- what is at a name and a type of the zone of this origin once it is secured, of what is to be signed there
  abbrev pub secured_at : Name → List S → SetsBy → SetsBy
  secured_at origin signers sets n t = option_map (secured_set (key origin SOA) signers (key n t)) (sets n t)

  -- a map has this at each name and type, and nothing else
  pub record IsSecured (origin : Name) (signers : List S) (sets : SetsBy) (after : Sets) : Type 0 where
    pub each : (n : Name) (t : ℕ) → set_at after n t ≡ secured_at origin signers sets n t

-- signatures aside, a map has what was there, and the zone's SOA has the next serial
pub record KeepsRecords (origin : Name) (sets : SetsBy) (after : Sets) : Type 0 where
  pub soa : option_map bare (set_at after origin SOA) ≡ option_map (λ s. bare (stepped s)) (sets origin SOA)
  pub rest : (n : Name) (t : ℕ) → key_eq (key origin SOA) (key n t) ≡ false → option_map bare (set_at after n t) ≡ option_map bare (sets n t)
