-- A zone with the records of its keys has what it had, but for the types of these at the origin
use Rattle.std.proofs.Common.{◌≡◌, ℕ, ◌==◌, ◌&&◌, ◌||◌, not, Bool, true, false, cond, List, [], ◌∷◌, ◌++◌, refl, sym, ap, ◌∙◌, subst, true≢false, arith}
use Rattle.std.specs.Prelude.{Option, Some, None, flat_map, is_some, unwrap_or, option_map}
use Rattle.std.specs.List.{AllByRecursion}
use Rattle.std.proofs.lemmas.Bool.Decides.{nat_tests}
use Rattle.zone_proto.specs.declared.rdata.RData.{RData}
use Rattle.zone_proto.specs.declared.rdata.RData.TheVariants as V
use Rattle.zone_proto.specs.declared.rr_key.RrKey.{RrKey}
use Rattle.zone_proto.specs.Data.{type_of}
use Rattle.zone_proto.specs.Keys.{key, key_eq}
use Rattle.zone_proto.specs.Names.{Name, IsName, lower}
use Rattle.zone_proto.specs.Sets.{RRset, inserted}
use Rattle.zone_proto.specs.Types.{IN}
use Rattle.zone_proto.proofs.Ordering.KeyOrder.{key_same}
use Rattle.zone_map.specs.Upserts.{clashes, set_for, upserted, with_record}
use Rattle.zone_map.specs.Zones.{Sets, IsZone, owns, put, set_at}
use Rattle.zone_map.proofs.Stored.{put_apart}
use Rattle.zone_map.proofs.Upserting.{IsZone-or_upserted}
use Rattle.zone_planner.specs.declared.keys.PlannedKey.{PlannedKey}
use Rattle.zone_planner.specs.declared.request.Request.{Request}
use Rattle.zone_planner.specs.Keys.{apex_record, cdnskey_data, cds_data, key_data, keyed, with_data}

module _ (origin : Name) (ttl serial : ℕ) where
  -- keys of other types are others
  other_key : (n : Name) (t u : ℕ) → (t == u) ≡ false → key_eq (key n t) (key (lower origin) u) ≡ false
  other_key n t u differ = by (key_eq (key n t) (key (lower origin) u)) refl
    where
      same : (a b : ℕ) → a ≡ b → (a == b) ≡ true
      same a b e = grind (arith, nat_tests, e)

      by : (b : Bool) → key_eq (key n t) (key (lower origin) u) ≡ b → b ≡ false
      by true e = absurd (true≢false (sym (same t u (ap (λ (k : RrKey). k.record_type.0) (key_same (key n t) (key (lower origin) u) e))) ∙ differ))
      by false e = refl

  -- a set of another type stays where the record of data comes in
  one_apart : (m : Sets) (d : RData) (n : Name) (t : ℕ) → (t == type_of d) ≡ false → set_at (unwrap_or (upserted m IN (apex_record origin ttl d) serial) m) n t ≡ set_at m n t
  one_apart m d n t differ = by ((IN == IN) && not (clashes m (lower origin) (type_of d)))
    where
      made : (o : Option RRset) → set_at (unwrap_or (option_map (put m (lower origin) (type_of d)) o) m) n t ≡ set_at m n t
      made None = refl
      made (Some v) = put_apart m (key (lower origin) (type_of d)) (key n t) v (other_key n t (type_of d) differ)

      by : (b : Bool) → set_at (unwrap_or (cond b (with_record m (apex_record origin ttl d) serial) None) m) n t ≡ set_at m n t
      by true = made (inserted (set_for m (apex_record origin ttl d) serial) (apex_record origin ttl d) serial)
      by false = refl

  pub data_apart : (m : Sets) (ds : List RData) (n : Name) (t : ℕ) → AllByRecursion (λ d. (t == type_of d) ≡ false) ds → set_at (with_data origin ttl serial m ds) n t ≡ set_at m n t
  data_apart m [] n t h = refl
  data_apart m (d ∷ ds) n t h = data_apart (unwrap_or (upserted m IN (apex_record origin ttl d) serial) m) ds n t h.1 ∙ one_apart m d n t h.0

  pub data_zone : (m : Sets) (ds : List RData) → IsName (lower origin) → IsZone m → IsZone (with_data origin ttl serial m ds)
  data_zone m [] named zone = zone
  data_zone m (d ∷ ds) named zone = data_zone (unwrap_or (upserted m IN (apex_record origin ttl d) serial) m) ds named (IsZone-or_upserted m IN (apex_record origin ttl d) serial zone named)

-- the types of the data of keys
abbrev pub is_key_data : ℕ → Bool
is_key_data t = (t == 48) || ((t == 59) || (t == 60))

or_parts : (a b : Bool) → a || b ≡ false → (a ≡ false) × (b ≡ false)
or_parts false false e = (refl, refl)
or_parts false true e = absurd (true≢false e)
or_parts true b e = absurd (true≢false e)

append_all : {A : Type 0} (P : A → Type 0) (xs ys : List A) → AllByRecursion P xs → AllByRecursion P ys → AllByRecursion P (xs ++ ys)
append_all P [] ys a b = b
append_all P (x ∷ xs) ys a b = (a.0, append_all P xs ys a.1 b)

data_types : (origin : Name) (keys : List PlannedKey) (t : ℕ) → is_key_data t ≡ false → AllByRecursion (λ d. (t == type_of d) ≡ false) (flat_map (key_data origin) keys)
data_types origin [] t e = tt
data_types origin (k ∷ ks) t e =
    let P : RData → Type 0 = λ d. (t == type_of d) ≡ false in
    let first = or_parts (t == 48) ((t == 59) || (t == 60)) e in
    let others = or_parts (t == 59) (t == 60) first.1 in
    append_all P (key_data origin k) (flat_map (key_data origin) ks)
    (append_all P (cond k.is_published (V.DNSKEY k.key ∷ []) []) (cond k.is_for_parent (cds_data origin k.key ∷ cdnskey_data k.key ∷ []) []) (one first.0 k.is_published) (two others.0 others.1 k.is_for_parent))
    (data_types origin ks t e)
  where
    one : (t == 48) ≡ false → (b : Bool) → AllByRecursion (λ d. (t == type_of d) ≡ false) (cond b (V.DNSKEY k.key ∷ []) [])
    one h true = (h, tt)
    one h false = tt

    two : (t == 59) ≡ false → (t == 60) ≡ false → (b : Bool) → AllByRecursion (λ d. (t == type_of d) ≡ false) (cond b (cds_data origin k.key ∷ cdnskey_data k.key ∷ []) [])
    two h i true = (h, (i, tt))
    two h i false = tt

module _ (origin : Name) (keys : List PlannedKey) (request : Request) (m : Sets) where
  -- what it has of other types is what it had
  pub keyed_apart : (n : Name) (t : ℕ) → is_key_data t ≡ false → set_at (keyed origin keys request m) n t ≡ set_at m n t
  keyed_apart n t e = data_apart origin request.key_ttl _ m (flat_map (key_data origin) keys) n t (data_types origin keys t e)

  pub keyed_owns : (n : Name) (t : ℕ) → is_key_data t ≡ false → owns (keyed origin keys request m) n t ≡ owns m n t
  keyed_owns n t e = ap is_some (keyed_apart n t e)

  pub keyed_zone : IsName (lower origin) → IsZone m → IsZone (keyed origin keys request m)
  keyed_zone named zone = data_zone origin request.key_ttl _ m (flat_map (key_data origin) keys) named zone
