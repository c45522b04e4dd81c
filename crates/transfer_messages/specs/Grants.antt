-- Who may have a zone
use Rattle.std.specs.Prelude.{Bool, true, false, Option, Some, None}
use Rattle.zone_proto.specs.Names.{Name}
use Rattle.message_tsig.specs.declared.key.Key.{Key}
use Rattle.message_tsig.specs.Keys.{may_have}
use Rattle.zone_server.specs.declared.transfer_policy.TransferPolicy.{TransferPolicy}
use Rattle.zone_server.specs.declared.transfer_policy.TransferPolicy.TheVariants.{AllowAll, AllowSigned, Deny}

-- those who have the key, if there is one, may have the zone of this origin
abbrev pub is_given : Option Key → Name → Bool
is_given None origin = false
is_given (Some k) origin = may_have k origin

-- The zone of this origin goes to one whose request is under a key, or isn't signed: to anybody, to those with a key that may have it, or to
-- nobody.
abbrev pub is_granted : TransferPolicy → Option Key → Name → Bool
is_granted AllowAll key origin = true
is_granted AllowSigned key origin = is_given key origin
is_granted Deny key origin = false
