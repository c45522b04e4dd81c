-- The record sets of a zone with new signatures
use Rattle.std.specs.Prelude.{◌≡◌, if◌then◌else◌, List, [], ◌∷◌, ◌++◌, length, map, Option, Some, None}
use Rattle.zone_proto.specs.declared.record.Record.{Record}
use Rattle.zone_proto.specs.declared.rr_key.RrKey.{RrKey}
use Rattle.zone_proto.specs.Keys.{key_eq}
use Rattle.zone_proto.specs.Sets.{RRset}
use Rattle.zone_proto.specs.Stepping.{stepped}
use Rattle.zone_map.specs.Zones.{Sets}

-- sets in the order of their keys, each with the signatures of its place in the list
abbrev pub with_signatures : Sets → List (List Record) → Sets
with_signatures [] made = []
with_signatures (e ∷ es) [] = e ∷ es
with_signatures (e ∷ es) (signatures ∷ made) = (e.0, record e.1 { signatures = signatures }) ∷ with_signatures es made

-- sets by their keys, of which the one under `apex` has the next serial
abbrev pub stepped_under : RrKey → Sets → Sets
stepped_under apex es = map (λ (e : RrKey × RRset). (e.0, if key_eq apex e.0 then stepped e.1 else e.1)) es

-- how the signatures that a set gets are handed over: as a list of its own; or, where they are as many as the set has, as a part of those that are exchanged
abbrev pub IsHanded : RRset → List Record → Option (List Record) → List Record → Type 0
IsHanded s signatures (Some list) part = (list ≡ signatures) × (part ≡ [])
IsHanded s signatures None part = (part ≡ signatures) × (length signatures ≡ length s.signatures)

-- so those of all sets, in the order of their keys: the lists and what is exchanged, part after part, are together all signatures and no more
abbrev pub AreHanded : Sets → List (List Record) → List (Option (List Record)) → List Record → Type 0
AreHanded [] [] [] exchanged = exchanged ≡ []
AreHanded (e ∷ es) (signatures ∷ made) (list ∷ lists) exchanged =
    (part : List Record) × (rest : List Record) × (exchanged ≡ part ++ rest) × IsHanded e.1 signatures list part × AreHanded es made lists rest
AreHanded es made lists exchanged = ⊥
