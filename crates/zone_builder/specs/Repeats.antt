-- Which records have the data of a record before them
use Rattle.std.specs.Prelude.{◌≡◌, ⊤, ℕ, Bool, true, false, not, ◌&&◌, cond, List, [], ◌∷◌, ◌++◌}
use Rattle.std.specs.List.{AllByRecursion, list_any}
use Rattle.zone_proto.specs.declared.rdata.RData.{RData}
use Rattle.zone_proto.specs.declared.record.Record.{Record}
use Rattle.zone_proto.specs.Data.{same_data}
use Rattle.zone_proto.specs.Sets.{RRset, appended, stores}
use Rattle.zone_builder.specs.declared.given.GivenRecord.{GivenRecord}
use Rattle.zone_builder.specs.Sets.{with_ttl}

-- a record has these data
abbrev pub holds : List GivenRecord → RData → Bool
holds gs d = list_any (λ (g : GivenRecord). same_data g.record.rdata d) gs

-- of records that come after others, those whose data none before them has, in order
abbrev pub new_behind : List GivenRecord → List GivenRecord → List GivenRecord
new_behind before [] = []
new_behind before (g ∷ gs) = cond (holds before g.record.rdata) (new_behind (before ++ g ∷ []) gs) (g ∷ new_behind (before ++ g ∷ []) gs)

-- of records that come after others, those whose data one before them has, in order
abbrev pub repeated_behind : List GivenRecord → List GivenRecord → List GivenRecord
repeated_behind before [] = []
repeated_behind before (g ∷ gs) = cond (holds before g.record.rdata) (g ∷ repeated_behind (before ++ g ∷ []) gs) (repeated_behind (before ++ g ∷ []) gs)

-- of records of equal data, the first, in order; and the others
abbrev pub first_ones : List GivenRecord → List GivenRecord
first_ones gs = new_behind [] gs

abbrev pub repeated : List GivenRecord → List GivenRecord
repeated gs = repeated_behind [] gs

-- all have the data of the first
abbrev pub HaveOneData : List GivenRecord → Type 0
HaveOneData [] = ⊤
HaveOneData (g ∷ gs) = AllByRecursion (λ (h : GivenRecord). same_data h.record.rdata g.record.rdata ≡ true) gs

-- ---- as the program finds them

-- no two have equal data
abbrev pub are_distinct : List GivenRecord → Bool
are_distinct [] = true
are_distinct (g ∷ gs) = not (holds gs g.record.rdata) && are_distinct gs

-- for each of the values that come after others, whether an equal one is before it
abbrev pub repeats_behind : {A : Type 0} → (A → A → Bool) → List A → List A → List Bool
repeats_behind same before [] = []
repeats_behind same before (x ∷ xs) = list_any (λ y. same y x) before ∷ repeats_behind same (before ++ x ∷ []) xs

-- the records for which something is said, and the others
abbrev pub flagged : List GivenRecord → List Bool → List GivenRecord
flagged [] said = []
flagged (g ∷ gs) [] = []
flagged (g ∷ gs) (b ∷ said) = cond b (g ∷ flagged gs said) (flagged gs said)

abbrev pub unflagged : List GivenRecord → List Bool → List GivenRecord
unflagged [] said = []
unflagged (g ∷ gs) [] = g ∷ unflagged gs []
unflagged (g ∷ gs) (b ∷ said) = cond b (unflagged gs said) (g ∷ unflagged gs said)

-- a set with a record after the others
abbrev pub appending : ℕ → RRset → Record → RRset
appending serial s r = appended s r serial

-- no record has the data of a stored record or of one before it; they get this TTL
abbrev pub AreNew : ℕ → List Record → List GivenRecord → Type 0
AreNew ttl rs [] = ⊤
AreNew ttl rs (g ∷ gs) = (stores rs g.record.rdata ≡ false) × AreNew ttl (rs ++ with_ttl ttl g.record ∷ []) gs
