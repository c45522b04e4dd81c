-- Whether a zone at rest has a whole chain of trust, as it is tested
use Rattle.std.specs.Prelude.{ℕ, ◌==◌, ◌&&◌, ◌||◌, not, Bool, List}
use Rattle.std.specs.List.{list_any, list_all}
use Rattle.zone_rollover.specs.declared.key_use.Key.{Key}
use Rattle.zone_rollover.specs.declared.key_use.KeyUse.{KeyUse}
use Rattle.zone_rollover.specs.declared.key_use.UsedKey.{UsedKey}
use Rattle.zone_rollover.specs.declared.wholeness.Part.{Part}
use Rattle.zone_rollover.specs.declared.wholeness.Part.TheVariants.{Published, SignsKeys, SignsOthers, WantsDs}

-- a part of what is done with a key
abbrev pub has : KeyUse → Part → Bool
has u Published = u.is_published
has u SignsKeys = u.signs_keys
has u SignsOthers = u.signs_others
has u WantsDs = u.wants_ds

abbrev pub is_same : Key → Key → Bool
is_same a b = (a.number == b.number) && (a.algorithm == b.algorithm)

-- one of the keys is this one, and this is done with it
abbrev pub stands : List UsedKey → Key → Part → Bool
stands keys key part = list_any (λ (k : UsedKey). is_same k.key key && has k.usage part) keys

-- a DS record of the key leads to the DNSKEY set
abbrev pub enters : List UsedKey → Key → Bool
enters keys key = stands keys key WantsDs && (stands keys key Published && stands keys key SignsKeys)

-- the key is in the DNSKEY set and signs
abbrev pub signs : List UsedKey → Key → Part → Bool
signs keys key part = stands keys key Published && stands keys key part

-- one of the keys is of the algorithm and passes the test
abbrev pub some_alike : (Key → Bool) → List UsedKey → ℕ → Bool
some_alike test keys a = list_any (λ (k : UsedKey). (k.key.algorithm == a) && test k.key) keys

abbrev pub enters_by : List UsedKey → ℕ → Bool
enters_by keys a = some_alike (enters keys) keys a

abbrev pub signs_by : List UsedKey → Part → ℕ → Bool
signs_by keys part a = some_alike (λ (k : Key). signs keys k part) keys a

-- the algorithm of the key passes the test, if this is done with it
abbrev pub is_alike : Part → (ℕ → Bool) → UsedKey → Bool
is_alike part test k = not (has k.usage part) || test k.key.algorithm

-- this is done with a key, and the algorithm of each with which it is done passes the test
abbrev pub is_each : Part → (ℕ → Bool) → List UsedKey → Bool
is_each part test keys = list_any (λ (k : UsedKey). has k.usage part) keys && list_all (is_alike part test) keys

abbrev pub is_entered : List UsedKey → Bool
is_entered keys = is_each WantsDs (enters_by keys) keys

abbrev pub is_signed : List UsedKey → Part → Bool
is_signed keys part = is_each Published (signs_by keys part) keys

abbrev pub is_chained : List UsedKey → Bool
is_chained keys = is_entered keys && (is_signed keys SignsKeys && is_signed keys SignsOthers)
