-- Which of the records that a zone is made of aren't taken as they are
use Rattle.std.specs.Prelude.{◌≡◌, ℕ, Bool, false, not, ◌&&◌, ◌==◌, cond, List, [], ◌∷◌, ◌++◌, map, filter}
use Rattle.std.specs.List.{flat_map, list_all, list_any}
use Rattle.std.specs.List.Sorted.{IsStrictlySortedBy}
use Rattle.zone_proto.specs.declared.rr_key.RrKey.{RrKey}
use Rattle.zone_proto.specs.Keys.{key_cmp, key_eq}
use Rattle.zone_proto.specs.Names.{Name, lower, is_at_or_above}
use Rattle.zone_builder.specs.declared.given.GivenRecord.{GivenRecord}
use Rattle.zone_builder.specs.declared.warning.LoadWarning.{LoadWarning}
use Rattle.zone_builder.specs.declared.warning.LoadWarning.TheVariants as warning
use Rattle.zone_builder.specs.Faults.{told_of}
use Rattle.zone_builder.specs.Records.{given_at, signing_at}
use Rattle.zone_builder.specs.Repeats.{repeated}
use Rattle.zone_builder.specs.Sets.{least_ttl}

-- a record is neither at the origin nor below it
abbrev pub is_outside : Name → GivenRecord → Bool
is_outside origin g = not (is_at_or_above origin (lower g.record.name))

-- that it does, and all such records
abbrev pub outside_warning : GivenRecord → LoadWarning
outside_warning g = warning.Outside (told_of g)

abbrev pub outside_warnings : Name → List GivenRecord → List LoadWarning
outside_warnings origin gs = map outside_warning (filter (is_outside origin) gs)

-- records all have a TTL
abbrev pub have_ttl : ℕ → List GivenRecord → Bool
have_ttl ttl gs = list_all (λ (g : GivenRecord). g.record.ttl == ttl) gs

-- that the records of a set, of which this is the first, or its signatures don't all have the TTL that they get
abbrev pub ttl_warnings : GivenRecord → ℕ → List GivenRecord → List GivenRecord → List LoadWarning
ttl_warnings first ttl gs signatures =
    cond (have_ttl ttl gs && have_ttl ttl signatures) [] (warning.TtlsDiffer (told_of first) ttl ∷ [])

-- that a record has the data of one before it, and all such records
abbrev pub repeated_warning : GivenRecord → LoadWarning
repeated_warning g = warning.Repeated (told_of g)

abbrev pub repeat_warnings : List GivenRecord → List LoadWarning
repeat_warnings gs = map repeated_warning (repeated gs)

-- that a signature signs no set
abbrev pub nothing_warning : GivenRecord → LoadWarning
nothing_warning g = warning.SignsNothing (told_of g)

-- for a set: that TTLs differ, the records that repeat others, and such signatures; if there is no record, all signatures
abbrev pub set_warnings : List GivenRecord → List GivenRecord → List LoadWarning
set_warnings [] signatures = map nothing_warning signatures
set_warnings (g ∷ gs) signatures =
    ttl_warnings g (least_ttl (g ∷ gs)) (g ∷ gs) signatures ++ (repeat_warnings (g ∷ gs) ++ repeat_warnings signatures)

-- The warnings of a zone's records: of those outside the zone first, in their order, and then of each set, by owner in canonical
-- order and by type
pub record AreWarnings (origin : Name) (gs : List GivenRecord) (warnings : List LoadWarning) : Type 0 where
  pub keys : List RrKey
  pub ascend : IsStrictlySortedBy key_cmp keys
  pub all : (k : RrKey) → list_any (key_eq k) keys ≡ false
      → (given_at origin gs k.name k.record_type.0 ≡ []) × (signing_at origin gs k.name k.record_type.0 ≡ [])
  pub are :
      warnings
      ≡ outside_warnings origin gs
      ++ flat_map (λ (k : RrKey). set_warnings (given_at origin gs k.name k.record_type.0) (signing_at origin gs k.name k.record_type.0)) keys
