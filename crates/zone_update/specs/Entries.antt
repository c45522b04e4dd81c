-- The records of an update as they stand in its message, and refusals of it (RFC 2136 section 2)
use Rattle.std.specs.Prelude.{◌≡◌, ℕ, Bool, ◌==◌, ◌||◌, ◌&&◌, nat_le, List, Vec, Result, Ok, Err}
use Rattle.zone_proto.specs.Names.{Name, lower, is_at_or_above}
use Rattle.zone_proto.specs.declared.rdata.RData.{RData}
use Rattle.zone_proto.specs.declared.record.Record.{Record}
use Rattle.zone_update.specs.declared.entry.Content.{Content}
use Rattle.zone_update.specs.declared.entry.Content.TheVariants.{Empty, Data}
use Rattle.zone_update.specs.declared.refusal.Refusal.{Refusal}
use Rattle.zone_update.specs.declared.refusal.Refusal.TheVariants.{FormErr, NXDomain, Refused, YXDomain, YXRRSet, NXRRSet, NotAuth, NotZone, Memory}

-- the classes NONE and ANY (section 1.3, RFC 1035 section 3.2.5)
abbrev pub class_none : ℕ
class_none = 254

abbrev pub class_any : ℕ
class_any = 255

-- the response code of a refusal (section 2.2)
abbrev pub code_of : Refusal → ℕ
code_of FormErr = 1
code_of Memory = 2
code_of NXDomain = 3
code_of Refused = 5
code_of YXDomain = 6
code_of YXRRSet = 7
code_of NXRRSet = 8
code_of NotAuth = 9
code_of NotZone = 10

-- one step after the other: the first refusal is that of all
infixl 10 ◌>>=◌
abbrev pub ◌>>=◌ : {A B : Type 0} → Result A Refusal → (A → Result B Refusal) → Result B Refusal
(Ok x) >>= f = f x
(Err e) >>= f = Err e

-- a call gives what is defined, unless memory ran out
abbrev pub IsRefusal : {A : Type 0} → Refusal → Result A Refusal → Type 0
IsRefusal Memory made = Unit {0}
IsRefusal e made = made ≡ Err e

abbrev pub Gives : {A : Type 0} → Result A Refusal → Result A Refusal → Type 0
Gives (Ok x) made = made ≡ Ok x
Gives (Err e) made = IsRefusal e made

-- the list that a call gives
abbrev pub listed : {A B : Type 0} → Result (Vec A B) Refusal → Result (List A) Refusal
listed (Ok v) = Ok v.items
listed (Err e) = Err e

-- a name of the zone: its origin, or a name below it, the case of letters aside
abbrev pub is_in_zone : Name → Name → Bool
is_in_zone origin n = is_at_or_above origin (lower n)

-- types of which no zone has records: those of queries, and those that go along with a message (RFC 6895 section 3.1)
abbrev pub is_meta : ℕ → Bool
is_meta t = t == 0 || (t == 41 || (nat_le 128 t && nat_le t 255))

-- where there are to be no data
abbrev pub if_empty : {A : Type 0} → Content → A → Result A Refusal
if_empty Empty x = Ok x
if_empty _ x = Err FormErr

-- where there are to be data
abbrev pub if_data : {A : Type 0} → Content → (RData → A) → Result A Refusal
if_data (Data d) f = Ok (f d)
if_data _ f = Err FormErr

-- a record of the zone's class
abbrev pub record_of : Name → ℕ → RData → Record
record_of n ttl d = record { name = n; dns_class = record { 0 = 1 }; ttl = ttl; rdata = d }
