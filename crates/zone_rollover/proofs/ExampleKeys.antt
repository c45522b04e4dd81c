-- The keys and times of the examples
use Rattle.std.proofs.Common.{List, [], ◌∷◌}
use Rattle.zone_rollover.specs.declared.key_use.Key.{Key}
use Rattle.zone_rollover.specs.declared.key_use.UsedKey.{UsedKey}
use Rattle.zone_rollover.specs.declared.key_use.Role.{Role}
use Rattle.zone_rollover.specs.declared.key_use.Role.TheVariants.{Ksk, Zsk}
use Rattle.zone_rollover.specs.declared.key_use.TheConstants.KeyUse.{KSK, ZSK}
use Rattle.zone_rollover.specs.declared.timing.Timing.{Timing}

-- keys of ECDSAP256SHA256
abbrev pub ksk : Key
ksk = record { number = 1; algorithm = 13 }

abbrev pub zsk : Key
zsk = record { number = 2; algorithm = 13 }

abbrev pub new_ksk : Key
new_ksk = record { number = 3; algorithm = 13 }

abbrev pub new_zsk : Key
new_zsk = record { number = 4; algorithm = 13 }

-- keys of ED25519
abbrev pub other_ksk : Key
other_ksk = record { number = 5; algorithm = 15 }

abbrev pub other_zsk : Key
other_zsk = record { number = 6; algorithm = 15 }

-- the keys that stay while the other is rolled
abbrev pub with_ksk : List UsedKey
with_ksk = record { key = ksk; usage = KSK } ∷ []

abbrev pub with_zsk : List UsedKey
with_zsk = record { key = zsk; usage = ZSK } ∷ []

abbrev pub old_pair : List (Key × Role)
old_pair = (ksk, Ksk) ∷ (zsk, Zsk) ∷ []

abbrev pub new_pair : List (Key × Role)
new_pair = (other_ksk, Ksk) ∷ (other_zsk, Zsk) ∷ []

-- one hour for the keys, a day for the rest and two hours for DS; changes take a minute to all servers, five at the parent; the zone is signed anew in twenty minutes
abbrev pub timing : Timing
timing = record { key_ttl = 3600; greatest_ttl = 86400; ds_ttl = 7200; propagation = 60; parent_propagation = 300; signing = 1200 }
