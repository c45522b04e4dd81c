-- Which steps can be written as entries, and what is written of them
use Rattle.std.specs.Prelude.{◌≡◌, ◌==◌, ◌&&◌, not, Bool, true, false, List, [], ◌∷◌, length}
use Rattle.zone_proto.specs.Names.{Name, same_name}
use Rattle.zone_proto.specs.Sets.{RRset, AreSignatures, IsSet}
use Rattle.zone_proto.specs.Types.{RRSIG, SOA}
use Rattle.message_series.specs.Faults.{query_about, HaveNoSeries}
use Rattle.shown_zones.specs.Sending.{sent_step}
use Rattle.shown_zones.specs.Shown.{spelled}
use Rattle.shown_zones.specs.Steps.{Step}
use Rattle.zone_journal.specs.declared.fault.EntryFault.{EntryFault}
use Rattle.zone_journal.specs.declared.fault.EntryFault.TheVariants.{Unreadable, Unwritable, Memory}

-- A set that can be read back behind another: it has records, they are no signatures and no SOA, and its owner or its type is another one.
abbrev pub follows : RRset → RRset → Bool
follows before s =
    not (length s.records == 0) && (not (s.record_type == RRSIG) && (not (s.record_type == SOA)
    && not (same_name (spelled s.owner s.records) (spelled before.owner before.records) && s.record_type == before.record_type)))

abbrev pub all_follow : RRset → List RRset → Bool
all_follow before [] = true
all_follow before (s ∷ ss) = follows before s && all_follow s ss

abbrev pub is_soa_set : RRset → Bool
is_soa_set s = s.record_type == SOA && not (length s.records == 0)

-- a step between two SOAs whose other sets can be read back one behind the other
abbrev pub is_writable : Step → Bool
is_writable s = is_soa_set s.old_soa && (is_soa_set s.new_soa && (all_follow s.old_soa s.deleted && all_follow s.new_soa s.added))

-- A step is refused as one that can't be read back where it isn't such a one; and as one that can't be written where it is, but one of its
-- records has data that no octets are, or is too long for a message, or there are too many.
abbrev pub IsEntryFault : Name → Step → EntryFault → Type 0
IsEntryFault origin s Unreadable = is_writable s ≡ false
IsEntryFault origin s Unwritable = (is_writable s ≡ true) × HaveNoSeries (query_about origin) (sent_step s)
IsEntryFault origin s Memory = Unit {0}

-- what holds of each set: its records are those of one set, and its signatures are signatures
pub record IsSound (s : RRset) : Type 0 where
  pub set : IsSet s.owner s.record_type s.records
  pub signed : AreSignatures s.signatures
