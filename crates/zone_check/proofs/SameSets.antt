-- Zones with the same sets by name and type have the same entries
use Rattle.std.proofs.Common.{◌≡◌, ℕ, [], ◌∷◌, refl, sym, ap, ◌∙◌, subst, ◌⊎◌, inl, inr, Less}
use Rattle.std.specs.Map.{keys_of}
use Rattle.zone_proto.specs.declared.rr_key.RrKey.{RrKey}
use Rattle.zone_proto.specs.Keys.{key_cmp}
use Rattle.zone_proto.specs.Names.{Name}
use Rattle.zone_proto.specs.Sets.{RRset}
use Rattle.zone_proto.proofs.Members.{In, In-map}
use Rattle.zone_proto.proofs.Ordering.KeyLaws.{key_cmp_total, exact_keys}
use Rattle.zone_proto.proofs.Ordering.Orders.{IsOrder, asym, irrefl}
use Rattle.zone_map.specs.Zones.{Sets, IsZone, set_at}
use Rattle.zone_denial.proofs.Ascending.{Ascends, Ascends-from_sorted}
use Rattle.zone_denial.proofs.Chains.ChainSets.{entry_of, found_entry}

key_order : IsOrder key_cmp
key_order = record { total = key_cmp_total; exact = exact_keys }

abbrev Entry : Type 0
Entry = RrKey × RRset

abbrev AreAmong : Sets → Sets → Type 0
AreAmong a b = (e : Entry) → In e a → In e b

in_keys : (e : Entry) (m : Sets) → In e m → In e.0 (keys_of m)
in_keys e m i = In-map (λ (x : Entry). x.0) e m i

-- the first entries are one
same_first : (d e : Entry) (a b : Sets) → Ascends key_cmp (keys_of (d ∷ a)) → Ascends key_cmp (keys_of (e ∷ b)) → AreAmong (d ∷ a) (e ∷ b) → AreAmong (e ∷ b) (d ∷ a) → d ≡ e
same_first d e a b up down to from = by (to d (inl refl)) (from e (inl refl))
  where
    by : (e ≡ d) ⊎ In d b → (d ≡ e) ⊎ In e a → d ≡ e
    by (inl q) _ = sym q
    by (inr i) (inl q) = q
    by (inr i) (inr j) = absurd (asym key_order d.0 e.0 (up.0 e.0 (in_keys e a j)) (down.0 d.0 (in_keys d b i)))

-- and so each later one is among the later ones
later : (d e : Entry) (a b : Sets) → Ascends key_cmp (keys_of (d ∷ a)) → d ≡ e → AreAmong (d ∷ a) (e ∷ b) → AreAmong a b
later d e a b up same to x i = by (to x (inr i))
  where
    by : (e ≡ x) ⊎ In x b → In x b
    by (inl q) = absurd (irrefl key_order d.0 (subst (λ (k : RrKey). key_cmp d.0 k ≡ Less) (ap (λ (y : Entry). y.0) (sym (same ∙ q))) (up.0 x.0 (in_keys x a i))))
    by (inr j) = j

same_entries : (a b : Sets) → Ascends key_cmp (keys_of a) → Ascends key_cmp (keys_of b) → AreAmong a b → AreAmong b a → a ≡ b
same_entries [] [] up down to from = refl
same_entries [] (e ∷ b) up down to from = absurd (from e (inl refl))
same_entries (d ∷ a) [] up down to from = absurd (to d (inl refl))
same_entries (d ∷ a) (e ∷ b) up down to from =
    let first = same_first d e a b up down to from in
    let rest = same_entries a b up.1 down.1 (later d e a b up first to) (later e d b a down (sym first) from) in
    λ i. first i ∷ rest i

pub same_sets : (a b : Sets) → IsZone a → IsZone b → ((n : Name) (t : ℕ) → set_at a n t ≡ set_at b n t) → a ≡ b
same_sets a b first second same = same_entries a b (up a first) (up b second) (to a b first same) (to b a second (λ n t. sym (same n t)))
  where
    up : (m : Sets) → IsZone m → Ascends key_cmp (keys_of m)
    up m zone = Ascends-from_sorted key_cmp (keys_of m) zone.ordered

    to : (c d : Sets) → IsZone c → ((n : Name) (t : ℕ) → set_at c n t ≡ set_at d n t) → AreAmong c d
    to c d zone h e i = entry_of d e.0 e.1 (sym (h e.0.name e.0.record_type.0) ∙ found_entry c (up c zone) e.0 e.1 i)
