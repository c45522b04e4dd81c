-- What caches may hold at a moment, and when whatever they hold is a chain of trust
use Rattle.std.specs.Prelude.{ℕ, ◌+◌, ◌≤◌, List, Contains}
use Rattle.zone_rollover.specs.declared.key_use.Key.{Key}
use Rattle.zone_rollover.specs.declared.key_use.UsedKey.{UsedKey}
use Rattle.zone_rollover.specs.declared.timing.Timing.{Timing}
use Rattle.zone_rollover.specs.Chains.{IsChain}

-- what was current at a moment may be held by a cache at a later one: all servers serve what is newer after `delay` seconds, and what was served until then is kept for `ttl` seconds
abbrev pub MayHold : (delay ttl current held : ℕ) → Type 0
MayHold delay ttl current held = (current ≤ held) × (held ≤ current + delay + ttl)

-- at a moment, with each DS set, each DNSKEY set and each other set of its own TTL that caches may hold, the chain of trust is whole: `parent` says which DS sets the parent may have at a moment, and `zone` what is done with the keys. CDS and CDNSKEY, which are signed when DNSKEY is, have no greater TTL than that
abbrev pub IsTrusted : Timing → (parent : ℕ → List (List Key)) → (zone : ℕ → List UsedKey) → ℕ → Type 0
IsTrusted timing parent zone moment =
    (p k c s request_ttl ttl : ℕ) (ds : List Key)
    → MayHold timing.parent_propagation timing.ds_ttl p moment → Contains (parent p) ds
    → MayHold timing.propagation timing.key_ttl k moment
    → request_ttl ≤ timing.key_ttl → request_ttl ≤ timing.greatest_ttl → MayHold timing.propagation request_ttl c moment
    → ttl ≤ timing.greatest_ttl → MayHold (timing.signing + timing.propagation) ttl s moment
    → IsChain ds (zone k) (zone c) (zone s)
