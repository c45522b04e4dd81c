-- How many seconds what is served no more may be held by caches (RFC 7583)
use Rattle.std.specs.Prelude.{ℕ, ◌+◌}
use Rattle.zone_rollover.specs.declared.timing.Timing.{Timing}

-- a DNSKEY set: Dprp + TTLkey (section 3.2.1)
abbrev pub keys_wait : Timing → ℕ
keys_wait timing = timing.propagation + timing.key_ttl

-- a set by the keys that signed: Dsgn + Dprp + TTLsig (section 3.2.1)
abbrev pub sets_wait : Timing → ℕ
sets_wait timing = timing.signing + timing.propagation + timing.greatest_ttl

-- a DS set: DprpP + TTLds (section 3.3.1)
abbrev pub ds_wait : Timing → ℕ
ds_wait timing = timing.parent_propagation + timing.ds_ttl
