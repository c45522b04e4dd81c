-- The records of a zone by the keys of their sets, as the program holds them
use Rattle.std.specs.Prelude.{◌≡◌, ⊤, Bool, true, false, List, [], ◌∷◌, filter, Option}
use Rattle.std.specs.List.{AllByRecursion, flat_map}
use Rattle.std.specs.List.Sorted.{IsStrictlySortedBy}
use Rattle.std.specs.Map.{keys_of, lookup}
use Rattle.std.specs.Option.{option_map_or}
use Rattle.std.specs.declared.cmp.Ordering.TheVariants.{Less}
use Rattle.zone_proto.specs.declared.rr_key.RrKey.{RrKey}
use Rattle.zone_proto.specs.Data.{type_of}
use Rattle.zone_proto.specs.Keys.{key_cmp, key_eq}
use Rattle.zone_proto.specs.Names.{IsName, lower}
use Rattle.zone_proto.specs.Order.{is_upto}
use Rattle.zone_proto.specs.Sets.{is_single}
use Rattle.zone_builder.specs.declared.given.GivenRecord.{GivenRecord}
use Rattle.zone_builder.specs.declared.groups.Group.{Group}
use Rattle.zone_builder.specs.declared.warning.LoadWarning.{LoadWarning}
use Rattle.zone_builder.specs.Records.{is_signature}
use Rattle.zone_builder.specs.Repeats.{HaveOneData}
use Rattle.zone_builder.specs.Warnings.{set_warnings}

-- groups by their keys
abbrev pub Groups : Type 0
Groups = List (RrKey × Group)

-- what all groups under a key have, of which there may be several, in order
abbrev pub all_under : (Group → List GivenRecord) → Groups → RrKey → List GivenRecord
all_under part groups k = flat_map (λ e. part e.1) (filter (λ e. key_eq e.0 k) groups)

module _ (groups : Groups) (k : RrKey) where
  -- the records under a key, and the signatures
  abbrev pub records_in : List GivenRecord
  records_in = option_map_or (λ (g : Group). g.records.items) (lookup (key_eq k) groups) []

  abbrev pub signatures_in : List GivenRecord
  signatures_in = option_map_or (λ (g : Group). g.signatures.items) (lookup (key_eq k) groups) []

  -- the same of all groups under it
  abbrev pub all_records_in : List GivenRecord
  all_records_in = all_under (λ (g : Group). g.records.items) groups k

  abbrev pub all_signatures_in : List GivenRecord
  all_signatures_in = all_under (λ (g : Group). g.signatures.items) groups k

  -- no group comes after a key, and each before it
  abbrev pub AreUpTo : Type 0
  AreUpTo = AllByRecursion (λ (q : RrKey). is_upto key_cmp q k ≡ true) (keys_of groups)

  abbrev pub AreBelow : Type 0
  AreBelow = AllByRecursion (λ (q : RrKey). key_cmp q k ≡ Less) (keys_of groups)

  -- each group is at a key or after it
  abbrev pub AreFrom : Type 0
  AreFrom = AllByRecursion (λ (q : RrKey). is_upto key_cmp k q ≡ true) (keys_of groups)

-- the keys of groups don't descend
abbrev pub AreSorted : Groups → Type 0
AreSorted [] = ⊤
AreSorted (e ∷ es) = AreFrom es e.0 × AreSorted es

-- they ascend, so that there is one group under a key at most
abbrev pub AreOrdered : Groups → Type 0
AreOrdered groups = IsStrictlySortedBy key_cmp (keys_of groups)

-- the last of groups is under a key
abbrev pub ends_under : Groups → RrKey → Bool
ends_under [] k = false
ends_under (e ∷ []) k = key_eq e.0 k
ends_under (e ∷ f ∷ es) k = ends_under (f ∷ es) k

-- a group that may be there under a key, as groups
abbrev pub keyed : RrKey → Option Group → Groups
keyed k o = option_map_or (λ (g : Group). (k, g) ∷ []) o []

-- the keys of groups have names
abbrev pub AreNamed : Groups → Type 0
AreNamed groups = AllByRecursion (λ (k : RrKey). IsName k.name) (keys_of groups)

-- the records of a group have the owner and the type of a key, and its signatures are signatures
pub record IsGroupOf (k : RrKey) (g : Group) : Type 0 where
  pub named : IsName k.name
  pub owners : AllByRecursion (λ (r : GivenRecord). lower r.record.name ≡ k.name) g.records.items
  pub types : AllByRecursion (λ (r : GivenRecord). type_of r.record.rdata ≡ k.record_type.0) g.records.items
  pub signatures : AllByRecursion (λ (r : GivenRecord). is_signature r.record.rdata ≡ true) g.signatures.items

-- so it is under each key
abbrev pub AreGroups : Groups → Type 0
AreGroups groups = AllByRecursion (λ e. IsGroupOf e.0 e.1) groups

-- if a set of the type has at most one record, all records of a group have equal data
abbrev pub IsAlone : RrKey → Group → Type 0
IsAlone k g = is_single k.record_type.0 ≡ true → HaveOneData g.records.items

-- so it is under each key
abbrev pub AreAlone : Groups → Type 0
AreAlone groups = AllByRecursion (λ e. IsAlone e.0 e.1) groups

-- the warnings of the set of a group
abbrev pub group_warnings : RrKey × Group → List LoadWarning
group_warnings e = set_warnings e.1.records.items e.1.signatures.items
