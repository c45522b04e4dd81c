-- What is asked of a plan, and why none is made of it
use Rattle.std.specs.Prelude.{ℕ, ◌≤◌, ◌-◌, ◌/◌, ◌%◌, ◌^◌, ◌==◌, ◌&&◌, ◌||◌, not, Bool, true, false, nat_le, nat_lt, cond, if◌then◌else◌, List, length, Option, Some, None, option_map}
use Rattle.std.specs.List.{find, list_any, position, All}
use Rattle.zone_proto.specs.declared.rdata.signing.DNSKEY.{DNSKEY}
use Rattle.zone_signing.specs.Signatures.{last_moment}
use Rattle.zone_planning.specs.declared.fault.PlanFault.{PlanFault}
use Rattle.zone_planning.specs.declared.fault.PlanFault.TheVariants as fault
use Rattle.zone_planner.specs.declared.keys.PlannedKey.{PlannedKey}
use Rattle.zone_planner.specs.declared.request.Request.{Request}

-- ---- keys

-- a zone can have a key: it is of protocol 3 and has the flag of zone keys, 256 (RFC 4034 sections 2.1.1 and 2.1.2), is of another algorithm than 1 (RFC 8624 section 3.1), and no longer than the data of a record
abbrev pub can_stand : DNSKEY → Bool
can_stand k = (k.protocol == 3) && ((k.flags / 256 % 2 == 1) && (not (k.algorithm == 1) && nat_le (length k.public_key) 65531))

-- it is revoked, by the flag 128, and signs no more than the keys (RFC 5011 section 2.1)
abbrev pub is_revoked : DNSKEY → Bool
is_revoked k = k.flags / 128 % 2 == 1

abbrev pub is_bad : PlannedKey → Bool
is_bad k = not (can_stand k.key) || (is_revoked k.key && k.signs_others)

-- one of the published keys has this algorithm, and signs keys or the other sets
abbrev pub serves : List PlannedKey → ℕ → Bool → Bool
serves keys algorithm of_keys =
    list_any (λ (k : PlannedKey). k.is_published && ((k.key.algorithm == algorithm) && (if of_keys then k.signs_keys else k.signs_others))) keys

-- a key is published, and not each set is signed by a published key of its algorithm (RFC 4035 section 2.2)
abbrev pub is_unsigned : List PlannedKey → PlannedKey → Bool
is_unsigned keys k = k.is_published && not (serves keys k.key.algorithm true && serves keys k.key.algorithm false)

-- why a zone can't have these keys: none is published, or one by whose algorithm not each set is signed
abbrev pub published_fault : List PlannedKey → Option PlanFault
published_fault keys =
    cond (not (list_any (λ (k : PlannedKey). k.is_published) keys)) (Some fault.NoKey)
    (option_map (λ (k : PlannedKey). fault.UnsignedAlgorithm k.key.algorithm) (find (is_unsigned keys) keys))

-- the same where this is the place of the first bad one, if there is one
abbrev pub bad_or_published : Option ℕ → List PlannedKey → Option PlanFault
bad_or_published (Some place) keys = Some (fault.BadKey place)
bad_or_published None keys = published_fault keys

-- why a zone can't have these keys: there are too many for one octet to number them, or a bad one
abbrev pub keys_fault : List PlannedKey → Option PlanFault
keys_fault keys = cond (nat_lt 256 (length keys)) (Some fault.ManyKeys) (bad_or_published (position is_bad keys) keys)

-- ---- moments

-- signatures can hold from one moment to the other, and to one that is earlier by so many seconds: the first isn't past the year 9999, and the others come later, by less than 2^31 seconds (RFC 4034 section 3.1.5)
abbrev pub are_moments : ℕ → ℕ → ℕ → Bool
are_moments inception expiration jitter =
    nat_le inception last_moment && (nat_lt inception expiration && (nat_lt jitter (expiration - inception) && nat_lt (expiration - inception) (2 ^ 31)))

-- why signatures can't hold as long as is asked for
abbrev pub moments_fault : Request → Option PlanFault
moments_fault request = cond (are_moments request.inception request.expiration request.jitter) None (Some fault.Moments)

-- ---- what is known of keys with which nothing is wrong

-- a key is no longer than the data of a record
abbrev pub IsShort : PlannedKey → Type 0
IsShort k = length k.key.public_key ≤ 65531

-- keys with which nothing is wrong: few enough for one octet to number them, and each short
pub record AreFit (keys : List PlannedKey) : Type 0 where
  pub few : length keys ≤ 256
  pub short : All IsShort keys
