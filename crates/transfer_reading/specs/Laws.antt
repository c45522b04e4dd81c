-- What the answers of a primary say that are of the form of the standards (RFC 5936 section 2.2, RFC 1995 section 4)
use Rattle.std.specs.Prelude.{◌≡◌, ℕ, ◌==◌, ◌&&◌, not, Bool, true, false, List, [], ◌∷◌, ◌++◌, Option, Some, None, Ok}
use Rattle.std.specs.List.{flat_map, AllByRecursion}
use Rattle.zone_proto.specs.Names.{Name, lower, is_at_or_above}
use Rattle.zone_proto.specs.Types.{IN}
use Rattle.zone_proto.specs.declared.record.Record.{Record}
use Rattle.zone_proto.specs.Serials.{is_newer}
use Rattle.message_reading.specs.Messages.{message_of, Parts}
use Rattle.zone_secondary.specs.declared.secondary.Question.{Question}
use Rattle.zone_secondary.specs.declared.secondary.Question.TheVariants.{Soa, Changes, Zone}
use Rattle.transfer_reading.specs.Answers.{asks, asks_authority, is_answer}
use Rattle.transfer_reading.specs.Outcomes.{said_by, zone_of}
use Rattle.transfer_reading.specs.Stages.{behind_all, serial_at}
use Rattle.transfer_reading.specs.Transfers.{begun, took_all}
use Rattle.transfer_reading.specs.declared.asked.Asked.{Asked}
use Rattle.transfer_reading.specs.declared.stage.Stage.{Stage}
use Rattle.transfer_reading.specs.declared.stage.Stage.TheVariants.{Before, WholeZone, AllDifferences}

-- a record of class IN, at or below an origin, which is the SOA record of the zone with this serial; or another one, with none
pub record IsRecord (origin : Name) (r : Record) (serial : Option ℕ) : Type 0 where
  pub class : (r.dns_class.0 == IN) ≡ true
  pub inside : is_at_or_above (lower origin) (lower r.name) ≡ true
  pub serial_is : serial_at origin r ≡ serial

abbrev pub AreOthers : Name → List Record → Type 0
AreOthers origin rs = AllByRecursion (λ (r : Record). IsRecord origin r None) rs

-- a version of a serial answers a question: the zone was asked for, or what changed since an older version (RFC 1995 section 4)
abbrev pub AsksFor : Question → ℕ → Type 0
AsksFor Soa serial = ⊥
AsksFor (Changes held) serial = is_newer serial held ≡ true
AsksFor Zone serial = Unit {0}

-- The zone between an SOA record and another one of the same serial is taken whole, and is the first and what is between.
pub record TakesWholeZones : Type 0 where
  pub taken : (a : Asked) (serial : ℕ) (first last : Record) (between : List Record) → AsksFor a.question serial
      → IsRecord a.origin first (Some serial) → AreOthers a.origin between → IsRecord a.origin last (Some serial)
      → behind_all a Before (first ∷ between ++ last ∷ []) ≡ Ok WholeZone
  pub said : (origin : Name) (first last : Record) (between held : List Record)
      → said_by WholeZone origin (first ∷ between ++ last ∷ []) held ≡ Ok (zone_of (first ∷ between))

-- a difference between two versions: an SOA record and what is taken out, an SOA record and what is given
pub record Step : Type 0 where
  pub from : Record
  pub taken : List Record
  pub to : Record
  pub given : List Record

abbrev pub records_of : Step → List Record
records_of s = s.from ∷ s.taken ++ s.to ∷ s.given

-- a difference is of the zone of an origin, from the version of one serial to that of another
pub record IsStep (origin : Name) (before after : ℕ) (s : Step) : Type 0 where
  pub from : IsRecord origin s.from (Some before)
  pub taken : AreOthers origin s.taken
  pub to : IsRecord origin s.to (Some after)
  pub given : AreOthers origin s.given

-- differences lead from a version to the newest, which the last one alone makes
abbrev pub Lead : Name → ℕ → ℕ → List Step → Type 0
Lead origin newest before [] = ⊥
Lead origin newest before (s ∷ []) = IsStep origin before newest s
Lead origin newest before (s ∷ t ∷ steps) = (after : ℕ) × IsStep origin before after s × ((after == newest) ≡ false) × Lead origin newest after (t ∷ steps)

-- Differences that lead from the version that is held to a newer one are taken, between two SOA records of that one.
abbrev pub TakesDifferences : Type 0
TakesDifferences = (a : Asked) (held newest : ℕ) (first last : Record) (steps : List Step) → a.question ≡ Changes held → is_newer newest held ≡ true
    → IsRecord a.origin first (Some newest) → Lead a.origin newest held steps → IsRecord a.origin last (Some newest)
    → behind_all a Before (first ∷ flat_map records_of steps ++ last ∷ []) ≡ Ok AllDifferences

-- ---- messages

abbrev pub has_none : List Record → Bool
has_none [] = true
has_none (r ∷ rs) = false

-- A message of an answer: a response that is whole and refuses nothing, by an authority where one is asked. The question is there where no record
-- came before (RFC 5936 section 2.2.2).
pub record IsMessage (a : Asked) (is_first : Bool) (m : Parts) : Type 0 where
  pub answer : is_answer a m.header ≡ true
  pub code : (m.header.response_code == 0) ≡ true
  pub question : asks a is_first m.questions ≡ true
  pub authority : (not m.header.authoritative && asks_authority a.question) ≡ false
  pub whole : m.header.truncated ≡ false

-- octets are messages of an answer, one after the other, with these records
abbrev pub AreMessages : Asked → Bool → List (List ℕ) → List Record → Type 0
AreMessages a is_first [] rs = rs ≡ []
AreMessages a is_first (text ∷ texts) rs =
    (m : Parts) × (others : List Record) × (message_of text ≡ Some m) × IsMessage a is_first m × (rs ≡ m.answers ++ others)
    × AreMessages a (is_first && has_none m.answers) texts others

-- Messages are taken whose records are, wherever one ends and the next begins: the secondary has these records then.
abbrev pub TakesMessages : Type 0
TakesMessages = (a : Asked) (texts : List (List ℕ)) (rs : List Record) (end : Stage) → AreMessages a true texts rs → behind_all a Before rs ≡ Ok end
    → took_all (begun a) texts ≡ Ok (record { asked = a; stage = end; records = rs })
