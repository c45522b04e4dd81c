-- What the calls do that keep keys, and who may have zones
use Rattle.std.specs.Prelude.{◌≡◌, ◌≢◌, ◌⊎◌, ℕ, true, false, List, [], ◌∷◌, ◌++◌, Option, Some, None, Ok, Err, IsErr}
use Rattle.zone_proto.specs.Names.{Name, lower}
use Rattle.key_files.specs.declared.fault.KeyFileError.TheVariants as errors
use Rattle.key_files.specs.declared.fault.KeyFileFault.{KeyFileFault}
use Rattle.key_files.specs.Entries.{keys_of}
use Rattle.message_tsig.specs.declared.key.Key.{Key}
use Rattle.zone_database.specs.declared.outcome.Outcome.{Outcome}
use Rattle.zone_database.specs.declared.outcome.Outcome.TheVariants.{Done, BadName, BadText, NoMemory}
use Rattle.zone_database.specs.Calls.{origin_of}
use Rattle.held_transfers.specs.declared.access.Grant.{Grant}
use Rattle.held_transfers.specs.declared.access.TransferAccess.{TransferAccess}
use Rattle.held_transfers.specs.Accesses.{has_key, ReadsKeys}
use Rattle.transfer_calls.specs.declared.outcome.TransferOutcome.{TransferOutcome}
use Rattle.transfer_calls.specs.declared.outcome.TransferOutcome.TheVariants.{Usual, NoKeys, NoKey}

-- ---- keys

-- the keys of a text are held, and nobody may have a zone; or the text or want of memory refuses it, and what was held stays
abbrev pub ReadsAccess : List ℕ → Option TransferAccess → Outcome → Option TransferAccess → Type 0
ReadsAccess text old Done new = (a : TransferAccess) × ReadsKeys text a.keys.items × (a.grants.items ≡ []) × (new ≡ Some a)
ReadsAccess text old BadText new = (f : KeyFileFault) × (keys_of text ≡ Err (errors.Fault f)) × (new ≡ old)
ReadsAccess text old NoMemory new = new ≡ old
ReadsAccess text old outcome new = ⊥

-- ---- who may have a zone

-- octets are this name in its text form (RFC 1035 section 5.1), of which a final dot may be left out, in lower case
abbrev pub IsName : List ℕ → Name → Type 0
IsName octets name = (n : Name) × (origin_of octets ≡ Ok n) × (name ≡ lower n)

-- octets are the name of a key; where there are none, they mean anybody
abbrev pub IsKeyName : List ℕ → Option Name → Type 0
IsKeyName octets None = octets ≡ []
IsKeyName octets (Some name) = (octets ≢ []) × IsName octets name

-- octets are the origin of a zone, and the name of a key, of this grant
pub record IsGrant (zone name : List ℕ) (g : Grant) : Type 0 where
  pub origin : IsName zone g.origin
  pub key : IsKeyName name g.key

-- one of them is no name
abbrev pub IsNoGrant : List ℕ → List ℕ → Type 0
IsNoGrant origin key = IsErr (origin_of origin) ⊎ ((key ≢ []) × IsErr (origin_of key))

-- there is a key of this name, where one is named
abbrev pub IsThere : Option Name → List Key → Type 0
IsThere None keys = Unit {0}
IsThere (Some name) keys = has_key name keys ≡ true

abbrev pub IsMissing : Option Name → List Key → Type 0
IsMissing None keys = ⊥
IsMissing (Some name) keys = has_key name keys ≡ false

-- nothing changed
abbrev pub IsSameAccess : TransferAccess → TransferAccess → Type 0
IsSameAccess old new = (new.keys ≡ old.keys) × (new.grants.items ≡ old.grants.items)

-- a grant is there beside the others
abbrev pub HasGrant : Grant → TransferAccess → TransferAccess → Type 0
HasGrant g old new = (new.keys ≡ old.keys) × (new.grants.items ≡ old.grants.items ++ g ∷ [])

-- those may have the zone of an origin who have the key of a name, or anybody; or this is refused, and nothing changed
abbrev pub IsAllowed : List ℕ → List ℕ → TransferAccess → TransferOutcome → TransferAccess → Type 0
IsAllowed origin key old (Usual Done) new = (g : Grant) × IsGrant origin key g × IsThere g.key old.keys.items × HasGrant g old new
IsAllowed origin key old (Usual BadName) new = IsNoGrant origin key × IsSameAccess old new
IsAllowed origin key old (Usual NoMemory) new = IsSameAccess old new
IsAllowed origin key old NoKey new = (g : Grant) × IsGrant origin key g × IsMissing g.key old.keys.items × IsSameAccess old new
IsAllowed origin key old outcome new = ⊥

-- the same of a handle, which may hold no keys
abbrev pub AllowsHeld : List ℕ → List ℕ → Option TransferAccess → TransferOutcome → Option TransferAccess → Type 0
AllowsHeld origin key None outcome new = (outcome ≡ NoKeys) × (new ≡ None)
AllowsHeld origin key (Some a) outcome new = (after : TransferAccess) × IsAllowed origin key a outcome after × (new ≡ Some after)

-- ---- on the way

-- no memory was found, or one of the two is no name
abbrev pub IsUnreadGrant : List ℕ → List ℕ → TransferOutcome → Type 0
IsUnreadGrant origin key outcome = (outcome ≡ Usual NoMemory) ⊎ ((outcome ≡ Usual BadName) × IsNoGrant origin key)

-- no memory was found, or octets are no name
abbrev pub IsUnread : List ℕ → TransferOutcome → Type 0
IsUnread octets outcome = (outcome ≡ Usual NoMemory) ⊎ ((outcome ≡ Usual BadName) × IsErr (origin_of octets))

abbrev pub IsUnreadKey : List ℕ → TransferOutcome → Type 0
IsUnreadKey octets outcome = (outcome ≡ Usual NoMemory) ⊎ ((outcome ≡ Usual BadName) × (octets ≢ []) × IsErr (origin_of octets))
