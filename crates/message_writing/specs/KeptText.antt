-- Records that are kept as octets, with pointers to an origin among them, whose place a message tells (RFC 1035 section 4.1.4)
use Rattle.std.specs.Prelude.{◌≡◌, ℕ, ◌+◌, ◌≤◌, Bool, if◌then◌else◌, List, [], ◌++◌, length, drop, Option, Some, None}
use Rattle.std.specs.List.{flat_map}
use Rattle.std.specs.declared.alloc.Global.{Global}
use Rattle.std.specs.declared.vec.Vec.{Vec}
use Rattle.zone_proto.specs.Names.{Name, IsName}
use Rattle.zone_proto.specs.declared.rdata.RData.{RData}
use Rattle.zone_proto.specs.declared.rdata.RData.TheVariants as V
use Rattle.zone_proto.specs.declared.record.Record.{Record}
use Rattle.message_writing.specs.declared.fingerprints.Fingerprint.{Fingerprint}
use Rattle.message_writing.specs.declared.kept_records.KeptRecords.{KeptRecords}
use Rattle.message_writing.specs.declared.kept_records.PointedText.{PointedText}
use Rattle.message_writing.specs.declared.name_writer.Cut.{Cut}
use Rattle.message_writing.specs.Continuing.{Appends, AppendsAll}
use Rattle.message_writing.specs.DataText.{data_text}
use Rattle.message_writing.specs.KnownNames.{cut_text, ending, IsKnown}
use Rattle.message_writing.specs.StrictReading.{strict_record_of}

-- octets, and a pointer to an offset behind them
abbrev pub front_at : ℕ → Vec ℕ Global → List ℕ
front_at p front = front.items ++ ending (Some p)

-- the octets with pointers to an offset
abbrev pub text_at : ℕ → PointedText → List ℕ
text_at p t = flat_map (front_at p) t.fronts.items ++ t.tail.items

-- Written behind octets in which the origin stands at an offset to which a pointer may lead, with pointers there they are read as these records,
-- whatever follows.
pub record AreKept (origin : Name) (rs : List Record) (k : KeptRecords) : Type 0 where
  pub read : (octets : List ℕ) (p : ℕ) → IsKnown octets p origin → AppendsAll strict_record_of octets (octets ++ text_at p k.text) rs
  pub counted : k.count ≡ length rs

-- They are kept below an origin that stands there.
pub record IsPlaced (octets : List ℕ) (place : ℕ) (rs : List Record) (k : KeptRecords) : Type 0 where
  pub origin : Name
  pub known : IsKnown octets place origin
  pub kept : AreKept origin rs k

-- ---- on the way

-- a name ends with the origin behind so many labels, and a pointer stands for that; or it has so many
pub record IsFront (origin : Name) (labels : ℕ) (pointed : Bool) (n : Name) : Type 0 where
  pub valid : IsName n
  pub within : labels ≤ length n
  pub rest : drop labels n ≡ (if pointed then origin else [])

abbrev pub pointer_if : Bool → ℕ → Option ℕ
pointer_if b p = if b then Some p else None

abbrev pub cut_at : Fingerprint → ℕ → Bool → ℕ → Cut
cut_at f labels pointed p = record { labels = labels; pointer = pointer_if pointed p; fingerprint = f }

-- the names in data that may have pointers (RFC 3597 section 4)
abbrev pub AreFronts : Name → ℕ → Bool → ℕ → Bool → RData → Type 0
AreFronts origin first b second c (V.NS n) = IsFront origin first b n
AreFronts origin first b second c (V.CNAME n) = IsFront origin first b n
AreFronts origin first b second c (V.MX d) = IsFront origin first b d.exchange
AreFronts origin first b second c (V.SOA s) = IsFront origin first b s.mname × IsFront origin second c s.rname
AreFronts origin first b second c _ = Unit {0}

-- a name was put behind a text
pub record IsNameBehind (origin : Name) (before : PointedText) (n : Name) (after : PointedText) : Type 0 where
  pub labels : ℕ
  pub pointed : Bool
  pub front : IsFront origin labels pointed n
  pub text : (p : ℕ) → text_at p after ≡ text_at p before ++ cut_text labels (pointer_if pointed p) n

-- data are kept: the names in them that may have pointers are
pub record IsDataText (origin : Name) (rdata : RData) (t : PointedText) : Type 0 where
  pub first : ℕ
  pub first_pointed : Bool
  pub second : ℕ
  pub second_pointed : Bool
  pub fronts : AreFronts origin first first_pointed second second_pointed rdata
  pub text : (p : ℕ) (f : Fingerprint) → text_at p t ≡ data_text (cut_at f first first_pointed p) (cut_at f second second_pointed p) rdata

-- a record was put behind a text
abbrev pub IsBehind : Name → PointedText → Record → PointedText → Type 0
IsBehind origin before r after =
    (octets : List ℕ) (p : ℕ) → IsKnown (octets ++ text_at p before) p origin
    → Appends strict_record_of (octets ++ text_at p before) (octets ++ text_at p after) r

-- records were, one behind the other
abbrev pub AreBehind : Name → PointedText → List Record → PointedText → Type 0
AreBehind origin before rs after =
    (octets : List ℕ) (p : ℕ) → IsKnown (octets ++ text_at p before) p origin
    → AppendsAll strict_record_of (octets ++ text_at p before) (octets ++ text_at p after) rs
