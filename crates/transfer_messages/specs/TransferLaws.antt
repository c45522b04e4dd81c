-- Laws of zones that are sent
use Rattle.std.specs.Prelude.{◌≡◌, ◌⊎◌, ℕ, true, List, [], ◌∷◌, Option, Some, option_copied}
use Rattle.zone_proto.specs.Names.{Name, lower}
use Rattle.message_tsig.specs.declared.key.Key.{Key}
use Rattle.message_tsig.specs.Keys.{may_have}
use Rattle.zone_response.specs.Queries.{Zone}
use Rattle.zone_server.specs.declared.transfer_policy.TransferPolicy.{TransferPolicy}
use Rattle.zone_server.specs.declared.transfer_policy.TransferPolicy.TheVariants.{AllowAll, AllowSigned}
use Rattle.zone_server.specs.declared.transport.Transport.{Transport}
use Rattle.zone_server.specs.Transfers.{reply_to}
use Rattle.transfer_messages.specs.declared.beginning.Begun.TheVariants as begun
use Rattle.transfer_messages.specs.declared.open_transfer.OpenTransfer.{OpenTransfer}
use Rattle.transfer_messages.specs.declared.opening.Request.{Request}
use Rattle.transfer_messages.specs.Beginning.{BeginsBy, granted_to}

-- Anybody may have the zone of this origin; or the request was found signed under a key that may have it.
abbrev pub MayBeSent : TransferPolicy → Option Key → Name → Type 0
MayBeSent policy key origin = (policy ≡ AllowAll) ⊎ ((policy ≡ AllowSigned) × (k : Key) × (key ≡ Some k) × (may_have k origin ≡ true))

-- the messages of a zone begin only where they may be sent
abbrev pub ZonesGoToTheirKeys : Type 0
ZonesGoToTheirKeys = (t : Transport) (now : ℕ) (r : Request) (zs : List Zone) (policy : TransferPolicy) (x : OpenTransfer) (octets : List ℕ)
    → BeginsBy t now r (reply_to zs (granted_to policy (option_copied r.key) (lower r.query.question.name) ∷ []) t r.message.items r.query) (begun.Transfer x) octets
    → MayBeSent policy (option_copied r.key) (lower r.query.question.name)
