-- How far an answer has come, record by record: the whole zone between two equal SOA records (RFC 5936 section 2.2); the differences from the
-- version that is held to the newest, each as an SOA record and what is taken out, an SOA record and what is given, between two SOA records of
-- the newest; or an SOA record alone (RFC 1995 sections 2 and 4)
use Rattle.std.specs.Prelude.{ℕ, ◌==◌, not, if◌then◌else◌, List, [], ◌∷◌, Option, Some, None, Result, Ok, Err}
use Rattle.zone_proto.specs.Names.{Name, lower, is_at_or_above, same_name}
use Rattle.zone_proto.specs.Sets.{soa_serial}
use Rattle.zone_proto.specs.Types.{IN}
use Rattle.zone_proto.specs.declared.record.Record.{Record}
use Rattle.zone_proto.specs.Serials.{is_newer}
use Rattle.zone_secondary.specs.declared.secondary.Question.{Question}
use Rattle.zone_secondary.specs.declared.secondary.Question.TheVariants.{Soa, Changes, Zone}
use Rattle.transfer_reading.specs.Answers.{◌>>=◌}
use Rattle.transfer_reading.specs.declared.asked.Asked.{Asked}
use Rattle.transfer_reading.specs.declared.fault.AnswerFault.{AnswerFault}
use Rattle.transfer_reading.specs.declared.fault.AnswerFault.TheVariants.{OtherClass, Outside, NoSoa, OtherSerial, BehindEnd}
use Rattle.transfer_reading.specs.declared.stage.Stage.{Stage}
use Rattle.transfer_reading.specs.declared.stage.Stage.TheVariants.{Before, Begun, InZone, TakingOut, Giving, WholeZone, AllDifferences, SerialAlone}

-- the serial of a record, if it is the SOA record of the zone of an origin
abbrev pub serial_at : Name → Record → Option ℕ
serial_at origin r = if not (same_name r.name origin) then None else soa_serial r.rdata

-- the first SOA record has the serial of the primary's version; where that is asked for, or is no newer than the one held, it is all
abbrev pub behind_first : Question → ℕ → Stage
behind_first Soa serial = SerialAlone serial
behind_first (Changes held) serial = if is_newer serial held then Begun serial else SerialAlone serial
behind_first Zone serial = Begun serial

-- the zone ends with the SOA record with which it began
abbrev pub behind_zone : ℕ → ℕ → Result Stage AnswerFault
behind_zone newest serial = if serial == newest then Ok WholeZone else Err OtherSerial

-- the first difference begins with the SOA record of the version that is held
abbrev pub behind_second : Question → ℕ → ℕ → Result Stage AnswerFault
behind_second (Changes held) newest serial = if serial == held then Ok (TakingOut newest) else behind_zone newest serial
behind_second Soa newest serial = behind_zone newest serial
behind_second Zone newest serial = behind_zone newest serial

-- a difference that makes the newest version is the last one; the next one begins with the SOA record of the version that this one makes
abbrev pub behind_difference : ℕ → ℕ → ℕ → Result Stage AnswerFault
behind_difference newest reached serial =
    if not (serial == reached) then Err OtherSerial
    else (if serial == newest then Ok AllDifferences else Ok (TakingOut newest))

-- behind an SOA record of the zone
abbrev pub behind_soa : Question → Stage → ℕ → Result Stage AnswerFault
behind_soa question Before serial = Ok (behind_first question serial)
behind_soa question (Begun newest) serial = behind_second question newest serial
behind_soa question (InZone newest) serial = behind_zone newest serial
behind_soa question (TakingOut newest) serial = Ok (Giving newest serial)
behind_soa question (Giving newest reached) serial = behind_difference newest reached serial
behind_soa question WholeZone serial = Err BehindEnd
behind_soa question AllDifferences serial = Err BehindEnd
behind_soa question (SerialAlone alone) serial = Ok (SerialAlone alone)

-- behind another record
abbrev pub behind_other : Stage → Result Stage AnswerFault
behind_other Before = Err NoSoa
behind_other (Begun newest) = Ok (InZone newest)
behind_other (InZone newest) = Ok (InZone newest)
behind_other (TakingOut newest) = Ok (TakingOut newest)
behind_other (Giving newest reached) = Ok (Giving newest reached)
behind_other WholeZone = Err BehindEnd
behind_other AllDifferences = Err BehindEnd
behind_other (SerialAlone alone) = Ok (SerialAlone alone)

abbrev pub by_serial : Question → Stage → Option ℕ → Result Stage AnswerFault
by_serial question stage None = behind_other stage
by_serial question stage (Some serial) = behind_soa question stage serial

-- behind a record, which is of class IN, at or below the origin
abbrev pub behind_record : Asked → Stage → Record → Result Stage AnswerFault
behind_record a stage r =
    if not (r.dns_class.0 == IN) then Err OtherClass
    else (if not (is_at_or_above (lower a.origin) (lower r.name)) then Err Outside
    else by_serial a.question stage (serial_at a.origin r))

-- behind some records
unfoldable pub behind_all : Asked → Stage → List Record → Result Stage AnswerFault
behind_all a stage [] = Ok stage
behind_all a stage (r ∷ rs) = behind_record a stage r >>= λ next. behind_all a next rs
