-- The keys of a server, and who may have its zones
use Rattle.std.specs.Prelude.{◌≡◌, ℕ, ◌&&◌, Bool, true, false, List, map, Option, Some, None, Ok, if◌then◌else◌}
use Rattle.std.specs.List.{list_any}
use Rattle.zone_proto.specs.Names.{Name}
use Rattle.key_files.specs.declared.entry.KeyEntry.{KeyEntry}
use Rattle.key_files.specs.Entries.{keys_of}
use Rattle.message_tsig.specs.declared.key.Key.{Key}
use Rattle.message_tsig.specs.declared.key.KeyZones.TheVariants.{All}
use Rattle.message_tsig.specs.Keys.{are_same}
use Rattle.zone_server.specs.declared.transfer_policy.TransferPolicy.{TransferPolicy}
use Rattle.zone_server.specs.declared.transfer_policy.TransferPolicy.TheVariants.{AllowAll, Deny}
use Rattle.held_transfers.specs.declared.access.Grant.{Grant}

-- ---- keys

-- the key of an entry of a file; which zones those may have who share it isn't said by the key
abbrev pub key_of : KeyEntry → Key
key_of e = record { name = e.name; algorithm = e.algorithm; secret = e.secret; zones = All }

-- the keys of a text, in their order
abbrev pub ReadsKeys : List ℕ → List Key → Type 0
ReadsKeys text keys = (entries : List KeyEntry) × (keys_of text ≡ Ok entries) × (keys ≡ map key_of entries)

-- there is a key of this name
abbrev pub has_key : Name → List Key → Bool
has_key name keys = list_any (λ (k : Key). are_same k.name name) keys

-- ---- grants

-- those who have a key, or none, have the one that is named; where none is named, anybody is meant
abbrev pub is_to : Option Key → Option Name → Bool
is_to key None = true
is_to None (Some name) = false
is_to (Some k) (Some name) = are_same k.name name

-- a grant lets those who have a key, or none, have the zone of this origin
abbrev pub lets : Option Key → Name → Grant → Bool
lets key origin g = are_same g.origin origin && is_to key g.key

-- one of these grants does
abbrev pub is_let : List Grant → Option Key → Name → Bool
is_let grants key origin = list_any (lets key origin) grants

-- the policy of the zone of an origin for those who have a key, or none
abbrev pub policy_for : List Grant → Option Key → Name → TransferPolicy
policy_for grants key origin = if is_let grants key origin then AllowAll else Deny
