-- Differences applied to the records of a zone (RFC 1995 section 4)
use Rattle.std.specs.Prelude.{◌≡◌, ℕ, not, Bool, if◌then◌else◌, List, [], ◌∷◌, ◌++◌, filter, fold, is_some, unwrap_or, Result, Ok, Err}
use Rattle.std.specs.BTreeMap.{insert_entry}
use Rattle.std.specs.List.{flat_map, list_any}
use Rattle.std.specs.Map.{lookup, remove_entry, values_of}
use Rattle.zone_proto.specs.Data.{type_of}
use Rattle.zone_proto.specs.Keys.{key, key_cmp, key_eq}
use Rattle.zone_proto.specs.Names.{Name, lower}
use Rattle.zone_proto.specs.Records.{same_record}
use Rattle.zone_proto.specs.declared.rdata.RData.{RData}
use Rattle.zone_proto.specs.declared.rdata.RData.TheVariants as V
use Rattle.zone_proto.specs.declared.record.Record.{Record}
use Rattle.zone_proto.specs.declared.rr_key.RrKey.{RrKey}
use Rattle.transfer_reading.specs.Stages.{serial_at}
use Rattle.transfer_reading.specs.declared.fault.OutcomeFault.{OutcomeFault}
use Rattle.transfer_reading.specs.declared.fault.OutcomeFault.TheVariants.{NotThere, AlreadyThere, Memory}

-- the records of a zone, with the signatures, by the keys of the sets that they are of or sign
abbrev pub Held : Type 0
Held = List (RrKey × List Record)

-- the type of the set that data are of; of a signature the type that it covers (RFC 4034 section 3.1.1)
abbrev pub set_type : RData → ℕ
set_type (V.RRSIG a) = a.type_covered.0
set_type d = type_of d

-- the key of the set that a record is of, or signs
abbrev pub set_key : Record → RrKey
set_key r = key (lower r.name) (set_type r.rdata)

-- the records under a key
abbrev pub records_at : Held → RrKey → List Record
records_at h k = unwrap_or (lookup (key_eq k) h) []

-- one of some records is the same as a record, TTLs aside
abbrev pub has_record : List Record → Record → Bool
has_record rs r = list_any (λ (x : Record). same_record x r) rs

-- a zone with some records under a key, in place of those that were there
abbrev pub put_at : Held → RrKey → List Record → Held
put_at h k rs = insert_entry key_cmp (remove_entry (key_eq k) h) k rs

-- a record that is there is taken out
abbrev pub taken_at : Held → RrKey → Record → Result Held OutcomeFault
taken_at h k r =
    if has_record (records_at h k) r then Ok (put_at h k (filter (λ (x : Record). not (same_record x r)) (records_at h k)))
    else Err NotThere

-- a zone with one more record, of its set the last one
abbrev pub with_last : Held → Record → Held
with_last h r = put_at h (set_key r) (records_at h (set_key r) ++ r ∷ [])

-- the records of a zone by their keys, each set's in their order
abbrev pub held_of : List Record → Held
held_of rs = fold with_last [] rs

-- a record that isn't there is given
abbrev pub given_at : Held → Record → Result Held OutcomeFault
given_at h r =
    if has_record (records_at h (set_key r)) r then Err AlreadyThere
    else Ok (with_last h r)

abbrev pub with_record : Bool → Held → Record → Result Held OutcomeFault
with_record is_given h r = if is_given then given_at h r else taken_at h (set_key r) r

-- one step after the other: the first fault is that of all
infixl 10 ◌>>=◌
abbrev pub ◌>>=◌ : {A B : Type 0} → Result A OutcomeFault → (A → Result B OutcomeFault) → Result B OutcomeFault
(Ok x) >>= f = f x
(Err e) >>= f = Err e

-- an SOA record of the zone ends what a difference gives and begins what the next one takes out, or the other way round
abbrev pub is_given_from : Name → Bool → Record → Bool
is_given_from origin is_given r = if is_some (serial_at origin r) then not is_given else is_given

-- the records of a zone once the records of differences are taken out and given, in their order
unfoldable pub changed : Name → Bool → Held → List Record → Result Held OutcomeFault
changed origin is_given h [] = Ok h
changed origin is_given h (r ∷ rs) =
    with_record (is_given_from origin is_given r) h r >>= λ next.
    changed origin (is_given_from origin is_given r) next rs

-- all records, in the order of their keys
abbrev pub all_records : Held → List Record
all_records h = flat_map (λ rs. rs) (values_of h)

-- a call gives what is defined, unless memory ran out
abbrev pub IsOutcomeFault : {A : Type 0} → OutcomeFault → Result A OutcomeFault → Type 0
IsOutcomeFault Memory made = Unit {0}
IsOutcomeFault e made = made ≡ Err e

-- a call makes of a zone what is defined, unless memory ran out
abbrev pub Changes : Result (Unit {0}) OutcomeFault → Held → Result Held OutcomeFault → Type 0
Changes (Ok done) h made = made ≡ Ok h
Changes (Err e) h made = IsOutcomeFault e made
