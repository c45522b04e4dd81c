-- What a change makes of the sets under other keys: nothing
use Rattle.std.proofs.Common.{◌≡◌, ℕ, Bool, true, false, cond, [], ◌∷◌, refl, sym, ap, ◌∙◌, Ordering, Less, Equal, Greater}
use Rattle.std.specs.Prelude.{Option, Some, None, if◌then◌else◌, unwrap_or, option_map, not, ◌||◌, ◌==◌, length, map}
use Rattle.std.specs.BTreeMap.{insert_entry}
use Rattle.std.specs.Map.{lookup, remove_entry}
use Rattle.std.specs.Ordering.{is_eq, match_ordering}
use Rattle.zone_proto.specs.declared.rdata.RData.{RData}
use Rattle.zone_proto.specs.declared.record.Record.{Record}
use Rattle.zone_proto.specs.declared.rr_key.RrKey.{RrKey}
use Rattle.zone_proto.specs.Data.{type_of}
use Rattle.zone_proto.specs.Keys.{key, key_cmp, key_eq}
use Rattle.zone_proto.specs.Names.{Name, lower}
use Rattle.zone_proto.specs.Sets.{RRset, stores}
use Rattle.zone_proto.proofs.Ordering.KeyOrder.{key_itself, key_same}
use Rattle.zone_map.specs.Upserts.{clashes}
use Rattle.zone_map.specs.Zones.{Sets, owns, put, set_at, without}
use Rattle.zone_map.proofs.Stored.{put_apart}
use Rattle.zone_update.specs.Processing.{added, deleted_from, deleted_record, deleted_set, is_kept, is_of_apex, made, others, put_or_without, set_of, with_ttl}

-- what is put under a key is found there
pub put_found : (m : Sets) (k : RrKey) (v : RRset) → lookup (key_eq k) (insert_entry key_cmp m k v) ≡ Some v
put_found [] k v = ap (λ b. cond b (Some v) None) (key_itself k)
put_found (e ∷ m) k v = by (key_cmp k e.0) refl (put_found m k v)
  where
    by : (o : Ordering) → key_cmp k e.0 ≡ o → lookup (key_eq k) (insert_entry key_cmp m k v) ≡ Some v
        → lookup (key_eq k) (match_ordering o ((k, v) ∷ e ∷ m) ((e.0, v) ∷ m) (e ∷ insert_entry key_cmp m k v)) ≡ Some v
    by Less g i = ap (λ b. cond b (Some v) (lookup (key_eq k) (e ∷ m))) (key_itself k)
    by Equal g i = ap (λ b. cond b (Some v) (lookup (key_eq k) m)) (ap is_eq g)
    by Greater g i = ap (λ b. cond b (Some e.1) (lookup (key_eq k) (insert_entry key_cmp m k v))) (ap is_eq g) ∙ i

-- under any other key than one that is taken out it is as it was
pub without_apart : (m : Sets) (k q : RrKey) → key_eq q k ≡ false → lookup (key_eq q) (remove_entry (key_eq k) m) ≡ lookup (key_eq q) m
without_apart [] k q h = refl
without_apart (e ∷ m) k q h = by (key_eq k e.0) refl (without_apart m k q h)
  where
    by : (b : Bool) → key_eq k e.0 ≡ b → lookup (key_eq q) (remove_entry (key_eq k) m) ≡ lookup (key_eq q) m
        → lookup (key_eq q) (cond b m (e ∷ remove_entry (key_eq k) m)) ≡ lookup (key_eq q) (e ∷ m)
    by true g i = sym (ap (λ b. cond b (Some e.1) (lookup (key_eq q) m)) (sym (ap (key_eq q) (key_same k e.0 g)) ∙ h))
    by false g i = ap (cond (key_eq q e.0) (Some e.1)) i

-- sets differ at most in the one of a name and a type
abbrev pub DiffersAt : Name → ℕ → Sets → Sets → Type 0
DiffersAt a u c d = (n : Name) (t : ℕ) → key_eq (key n t) (key a u) ≡ false → set_at d n t ≡ set_at c n t

pub taken_out : (c : Sets) (a : Name) (u : ℕ) → DiffersAt a u c (without c a u)
taken_out c a u n t e = without_apart c (key a u) (key n t) e

replaced : (c : Sets) (a : Name) (u : ℕ) (s : RRset) → DiffersAt a u c (put_or_without c a u s)
replaced c a u s n t e = by (length s.records == 0)
  where
    by : (b : Bool) → set_at (if b then without c a u else put c a u s) n t ≡ set_at c n t
    by true = without_apart c (key a u) (key n t) e
    by false = put_apart c (key a u) (key n t) s e

-- ---- so do the changes of one set

pub by_addition : (serial : ℕ) (c : Sets) (r : Record) → DiffersAt (lower r.name) (type_of r.rdata) c (unwrap_or (added serial c r) c)
by_addition serial c r n t e = by (clashes c (lower r.name) (type_of r.rdata)) (made serial r (set_at c (lower r.name) (type_of r.rdata)))
  where
    by : (b : Bool) (o : Option RRset) → set_at (unwrap_or (if b then None else option_map (put_or_without c (lower r.name) (type_of r.rdata)) o) c) n t ≡ set_at c n t
    by true o = refl
    by false None = refl
    by false (Some s) = replaced c (lower r.name) (type_of r.rdata) s n t e

pub by_deletion : (c : Sets) (origin : Name) (k : RrKey) → DiffersAt k.name k.record_type.0 c (unwrap_or (deleted_set c origin k) c)
by_deletion c origin k n t e = by (is_of_apex origin k.name k.record_type.0 || not (owns c k.name k.record_type.0))
  where
    by : (b : Bool) → set_at (unwrap_or (if b then None else Some (without c k.name k.record_type.0)) c) n t ≡ set_at c n t
    by true = refl
    by false = taken_out c k.name k.record_type.0 n t e

pub by_record_deletion : (serial : ℕ) (c : Sets) (origin a : Name) (d : RData) → DiffersAt a (type_of d) c (unwrap_or (deleted_record serial c origin a d) c)
by_record_deletion serial c origin a d n t e = of (set_at c a (type_of d))
  where
    by : (b : Bool) (s : RRset) → set_at (unwrap_or (if b then None else Some (put_or_without c a (type_of d) s)) c) n t ≡ set_at c n t
    by true s = refl
    by false s = replaced c a (type_of d) s n t e

    of : (o : Option RRset) → set_at (unwrap_or (deleted_from serial c origin a d o) c) n t ≡ set_at c n t
    of None = refl
    of (Some s) = by (is_kept origin a (type_of d) s || not (stores s.records d)) (set_of s.owner (type_of d) serial (map (with_ttl s.ttl) (others s.records d)))
