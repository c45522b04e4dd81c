-- Parts of chains of trust when the lists of keys grow
use Rattle.std.proofs.Common.{◌≡◌, List, [], ◌∷◌, ◌++◌, refl, ap, ◌∙◌, inl, inr}
use Rattle.std.specs.Prelude.{Contains}
use Rattle.std.proofs.lemmas.List.Elements.{Contains-append_left, Contains-append_right, Contains-append_cases, Contains-push, Contains-push_cases}
use Rattle.zone_rollover.specs.declared.key_use.Key.{Key}
use Rattle.zone_rollover.specs.Chains.{IsAuthenticated, IsSigned}
use Rattle.zone_rollover.proofs.KeyLists.{IsWithin, IsCovered}

-- a DNSKEY set that has more keys and signatures is still authenticated
pub authenticated_wider : (ds keys signers keys' signers' : List Key) → IsAuthenticated ds keys signers → IsWithin keys keys' → IsWithin signers signers'
    → IsAuthenticated ds keys' signers'
authenticated_wider ds keys signers keys' signers' h k s = record {
  found = (h.found.0, h.found.1, k.each h.found.0 h.found.2, s.each h.found.0 h.found.3);
  each_algorithm = λ d c. let e = h.each_algorithm d c in (e.0, e.1, e.2, k.each e.0 e.3, s.each e.0 e.4);
}

-- and by a DS set of the same keys
pub authenticated_same : (ds ds' keys signers : List Key) → IsAuthenticated ds keys signers → IsWithin ds ds' → IsWithin ds' ds → IsAuthenticated ds' keys signers
authenticated_same ds ds' keys signers h a b = record {
  found = (h.found.0, a.each h.found.0 h.found.1, h.found.2, h.found.3);
  each_algorithm = λ d c. let e = h.each_algorithm d (b.each d c) in (e.0, e.1, a.each e.0 e.2, e.3, e.4);
}

-- and by two DS sets together that authenticate it each
pub authenticated_both : (ds ds' keys signers : List Key) → IsAuthenticated ds keys signers → IsAuthenticated ds' keys signers → IsAuthenticated (ds ++ ds') keys signers
authenticated_both ds ds' keys signers h g = record {
  found = (h.found.0, Contains-append_left ds ds' h.found.0 h.found.1, h.found.2, h.found.3);
  each_algorithm = λ d c. elim (Contains-append_cases ds ds' d c) [
    | inl l ↦ let e = h.each_algorithm d l in (e.0, e.1, Contains-append_left ds ds' e.0 e.2, e.3, e.4)
    | inr r ↦ let e = g.each_algorithm d r in (e.0, e.1, Contains-append_right ds ds' e.0 e.2, e.3, e.4)
  ];
}

-- each key of a list has the algorithm of one of another
pub record AreAlike (keys others : List Key) : Type 0 where
  pub each : (key : Key) → Contains keys key → (other : Key) × (other.algorithm ≡ key.algorithm) × Contains others other

pub within_alike : (keys others : List Key) → IsWithin keys others → AreAlike keys others
within_alike keys others h = record { each = λ key c. (key, refl, h.each key c) }

-- two lists whose last keys have the same algorithm
pub last_alike : (keys : List Key) (x y : Key) → y.algorithm ≡ x.algorithm → AreAlike (keys ++ x ∷ []) (keys ++ y ∷ [])
last_alike keys x y h = record {
  each = λ key c. elim (Contains-push_cases keys x key c) [
    | inl l ↦ (key, refl, Contains-append_left keys (y ∷ []) key l)
    | inr e ↦ (y, h ∙ ap (λ (k : Key). k.algorithm) e, Contains-push keys y)
  ];
}

-- what is in one of two lists is like one of the first, if the second is
pub covered_alike : (all keys others : List Key) → IsCovered all keys others → AreAlike others keys → AreAlike all keys
covered_alike all keys others c a = record {
  each = λ key held. elim (c.each key held) [ inl l ↦ (key, refl, l) | inr r ↦ a.each key r ];
}

-- a set is still signed where the DNSKEY set gets more keys, of the same algorithms, and the set more signatures
pub signed_wider : (keys signers keys' signers' : List Key) → IsSigned keys signers → IsWithin keys keys' → AreAlike keys' keys → IsWithin signers signers'
    → IsSigned keys' signers'
signed_wider keys signers keys' signers' h k a s = record {
  found = (h.found.0, k.each h.found.0 h.found.1, s.each h.found.0 h.found.2);
  each_algorithm = λ key c.
      let o = a.each key c in
      let e = h.each_algorithm o.0 o.2 in
      (e.0, e.1 ∙ o.1, k.each e.0 e.2, s.each e.0 e.3);
}

-- and where the keys are those of two DNSKEY sets, by each of which it is signed
pub signed_both : (keys signers keys' signers' all by : List Key) → IsSigned keys signers → IsSigned keys' signers'
    → IsCovered all keys keys' → IsWithin keys all → IsWithin keys' all → IsWithin signers by → IsWithin signers' by
    → IsSigned all by
signed_both keys signers keys' signers' all by h g c k k' s s' = record {
  found = (h.found.0, k.each h.found.0 h.found.1, s.each h.found.0 h.found.2);
  each_algorithm = λ key held. elim (c.each key held) [
    | inl l ↦ let e = h.each_algorithm key l in (e.0, e.1, k.each e.0 e.2, s.each e.0 e.3)
    | inr r ↦ let e = g.each_algorithm key r in (e.0, e.1, k'.each e.0 e.2, s'.each e.0 e.3)
  ];
}
