-- What an update of a signed zone changes that is prepared where it is permitted
use Rattle.std.specs.Prelude.{◌≡◌, ◌⊎◌, ℕ, ◌==◌, ◌||◌, Bool, false, List, Option, Some, Ok, IsTrue, option_map}
use Rattle.zone_map.specs.Renewals.{with_signatures}
use Rattle.zone_map.specs.Zones.{Sets, set_at}
use Rattle.zone_planning.specs.Filling.{filled}
use Rattle.zone_proto.specs.declared.record.Record.{Record}
use Rattle.zone_proto.specs.Keys.{key}
use Rattle.zone_proto.specs.Names.{Name}
use Rattle.zone_proto.specs.Sets.{RRset}
use Rattle.zone_proto.specs.Stepping.{stepped_records}
use Rattle.zone_proto.specs.Types.{DNSKEY, SOA, is_derived}
use Rattle.zone_update.specs.Entries.{◌>>=◌}
use Rattle.zone_update.specs.declared.entry.Entry.{Entry}
use Rattle.update_policy.specs.Policies.{permits}
use Rattle.update_policy.specs.declared.rule.Rule.{Rule}
use Rattle.update_permission.specs.Permissions.{if_changed, updated_if_permitted}
use Rattle.update_denials.specs.Prepared.{IsPrepared}
use Rattle.update_denials.specs.declared.preparing.Prepared.{Prepared}
use Rattle.update_denials.specs.declared.preparing.Signing.{Signing}
use Rattle.update_signing.specs.Outcomes.{course_if_permitted, IsChangedTo, IsOutcome}

-- what is prepared where it is permitted is what the same update prepares
abbrev pub PermittedIsPrepared : Type 0
PermittedIsPrepared = (rules : List Rule) (key : Option Name) (origin : Name) (m : Sets) (prerequisites changes : List Entry) (signing : Signing) (p : Prepared)
    → IsOutcome origin m signing (course_if_permitted rules key origin m prerequisites changes) (Ok (Some p))
    → IsPrepared origin m prerequisites changes signing p.plan

-- each set stands as it did, or the owner of the key may change it
abbrev pub PermittedSetsAloneAreChanged : Type 0
PermittedSetsAloneAreChanged = (rules : List Rule) (requestor origin : Name) (m after : Sets) (prerequisites changes : List Entry)
    → IsChangedTo after (course_if_permitted rules (Some requestor) origin m prerequisites changes)
    → (n : Name) (t : ℕ) → (set_at after n t ≡ set_at m n t) ⊎ IsTrue (permits rules requestor n t)

-- ---- once it is signed

-- a type of sets that are made where a zone is signed: signatures, denials and their parameters; and keys, with what they ask of the parent zone (RFC
-- 7344), as CDS and CDNSKEY
abbrev pub is_of_signing : ℕ → Bool
is_of_signing t = is_derived t || (t == DNSKEY || (t == 59 || t == 60))

-- the records of a set that may be there
abbrev pub records_of : Option RRset → Option (List Record)
records_of o = option_map (λ (s : RRset). s.records) o

-- the set of a name and a type is the SOA of the zone, with the next serial
abbrev pub HasNextSerial : Name → Sets → Sets → Name → ℕ → Type 0
HasNextSerial origin m after n t = (key n t ≡ key origin SOA) × (records_of (set_at after n t) ≡ option_map (λ (s : RRset). stepped_records s.records) (set_at m n t))

-- each set of another type has the records that it had, or the owner of the key may change it, or it is the SOA with the next serial
abbrev pub PermittedRecordsAloneChange : Type 0
PermittedRecordsAloneChange = (rules : List Rule) (requestor origin : Name) (m : Sets) (prerequisites changes : List Entry) (signing : Signing) (p : Prepared) (signatures : List (List ℕ))
    → IsOutcome origin m signing (course_if_permitted rules (Some requestor) origin m prerequisites changes) (Ok (Some p))
    → (n : Name) (t : ℕ) → is_of_signing t ≡ false
    → (records_of (set_at (with_signatures p.plan.records (filled p.plan.records signatures)) n t) ≡ records_of (set_at m n t))
    ⊎ (IsTrue (permits rules requestor n t) ⊎ HasNextSerial origin m (with_signatures p.plan.records (filled p.plan.records signatures)) n t)

-- ---- refusals

-- a zone that isn't signed would be updated by the same course, with the serial that goes on by itself
abbrev pub RefusedAlike : Type 0
RefusedAlike = (rules : List Rule) (key : Option Name) (origin : Name) (m : Sets) (prerequisites changes : List Entry)
    → updated_if_permitted rules key origin m prerequisites changes ≡ (course_if_permitted rules key origin m prerequisites changes >>= λ c. Ok (if_changed origin m c))
