-- A walk up a name: what the queried name says of the referral itself, and else what the names above it say; and what it finds
use Rattle.std.specs.Prelude.{◌≡◌, ℕ, cond, ◌∷◌, drop, Option, Some, None, find, option_map}
use Rattle.std.specs.Map.{keys_of}
use Rattle.zone_proto.specs.declared.rr_key.RrKey.{RrKey}
use Rattle.zone_proto.specs.Keys.{first_key, key_cmp}
use Rattle.zone_proto.specs.Names.{Label, Name, suffixes, wildcard_of}
use Rattle.zone_proto.specs.Order.{is_upto}
use Rattle.zone_proto.specs.Sets.{RRset}
use Rattle.zone_map.specs.declared.direct.Delegation.{Delegation}
use Rattle.zone_map.specs.declared.direct.Delegation.TheVariants as delegation
use Rattle.zone_map.specs.declared.direct.Direct.{Direct}
use Rattle.zone_map.specs.declared.direct.Direct.TheVariants as found
use Rattle.zone_map.specs.declared.direct.Missing.{Missing}
use Rattle.zone_map.specs.Zones.{Sets}
use Rattle.zone_map.specs.Direct.{is_delegated, is_delegated_for, referral_at, direct}
use Rattle.zone_map.specs.Wildcards.{exists, asked_wildcard}

-- the referral that the names from a up give
abbrev pub referral_above : Sets → Name → Option RRset
referral_above m a = referral_at m (find (is_delegated m) (suffixes a))

-- what the queried name itself says of the referral: nothing where it isn't delegated for the query, so that the names above it tell
abbrev pub own_referral : Sets → Name → ℕ → Option (Option RRset)
own_referral m n t = cond (is_delegated_for m n t n) (Some (referral_at m (Some n))) None

-- the first key that is at or after the first one that a name may have: it says whether the name, or a name below it,
-- owns a set
abbrev pub first_key_from : Sets → Name → Option RrKey
first_key_from m n = find (is_upto key_cmp (first_key n)) (keys_of m)

-- c is one label longer than a name
abbrev pub IsChild : Name → Name → Type 0
IsChild c n = (l : Label) × (c ≡ l ∷ n)

-- what a name tells, as a walk has it: nothing, the NS set at a cut, or that there is no referral
abbrev pub referral_seen : Delegation → Option (Option RRset)
referral_seen delegation.Nothing = None
referral_seen (delegation.Cut s) = Some (Some s.now)
referral_seen delegation.Apex = Some None

-- what a walk has seen of n where it finds nothing: whether n exists, and the next closer name in which the wildcard at
-- the closest encloser has `*` in place of the first label
pub record IsMissing (m : Sets) (n : Name) (missing : Missing) : Type 0 where
  pub known : missing.exists ≡ exists m n
  pub wildcard_name : option_map wildcard_of missing.next_closer ≡ asked_wildcard m n

-- a walk finds the direct set for n and t; or none, and what it has seen
abbrev pub FindsDirect : Sets → Name → ℕ → Direct → Type 0
FindsDirect m n t (found.Found s) = direct m n t ≡ Some s.now
FindsDirect m n t (found.Missing missing) = (direct m n t ≡ None) × IsMissing m n missing

-- above n it finds the referral; or none, and what it has seen
abbrev pub FindsAbove : Sets → Name → Direct → Type 0
FindsAbove m n (found.Found s) = referral_above m (drop 1 n) ≡ Some s.now
FindsAbove m n (found.Missing missing) = (referral_above m (drop 1 n) ≡ None) × IsMissing m n missing
