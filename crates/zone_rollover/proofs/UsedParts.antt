-- The keys of which a part of their use is done: they are in the DNSKEY set, sign all other sets, or the parent is to
-- tell of them
use Rattle.std.proofs.Common.{◌≡◌, Bool, true, false, cond, List, [], ◌∷◌, refl}
use Rattle.std.specs.Prelude.{map, filter}
use Rattle.zone_rollover.specs.declared.key_use.Key.{Key}
use Rattle.zone_rollover.specs.declared.key_use.KeyUse.{KeyUse}
use Rattle.zone_rollover.specs.declared.key_use.Role.{Role}
use Rattle.zone_rollover.specs.declared.key_use.UsedKey.{UsedKey}
use Rattle.zone_rollover.specs.KeyUses.{keys_where}
use Rattle.zone_rollover.proofs.KeyLists.{IsWithin, within_self, within_step, nil_within, within_right, within_parts}

abbrev key_of : UsedKey → Key
key_of k = k.key

-- the keys with a use by their role
abbrev pub used : (Role → KeyUse) → List (Key × Role) → List UsedKey
used f ks = map (λ (k : Key × Role). record { key = k.0; usage = f k.1 }) ks

-- one key more, if it is used so
one_more : (b c : Bool) (k : Key) (u v : KeyUse) (us vs : List UsedKey) → (b ≡ true → c ≡ true) → IsWithin (map key_of us) (map key_of vs)
    → IsWithin (map key_of (cond b (record { key = k; usage = u } ∷ us) us)) (map key_of (cond c (record { key = k; usage = v } ∷ vs) vs))
one_more true true k u v us vs p h = within_parts (k ∷ []) (map key_of us) (k ∷ []) (map key_of vs) (within_self (k ∷ [])) h
one_more true false k u v us vs p h = absurd (let wrong : false ≡ true = p refl in cc)
one_more false true k u v us vs p h = within_step (map key_of us) (map key_of vs) (k ∷ map key_of vs) h (within_right (k ∷ []) (map key_of vs))
one_more false false k u v us vs p h = h

pub within_used : (test : KeyUse → Bool) (f g : Role → KeyUse) → ((role : Role) → test (f role) ≡ true → test (g role) ≡ true)
    → (ks : List (Key × Role)) → IsWithin (keys_where test (used f ks)) (keys_where test (used g ks))
within_used test f g p [] = nil_within []
within_used test f g p (k ∷ ks) =
    one_more (test (f k.1)) (test (g k.1)) k.0 (f k.1) (g k.1)
    (filter (λ (u : UsedKey). test u.usage) (used f ks)) (filter (λ (u : UsedKey). test u.usage) (used g ks)) (p k.1) (within_used test f g p ks)
