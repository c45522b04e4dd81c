-- What is held of the records of sets, one after the other
use Rattle.std.proofs.Common.{◌≡◌, Bool, true, false, cond, List, [], ◌∷◌, ◌++◌, refl, sym, ap, ◌∙◌, subst, append_assoc, Less}
use Rattle.std.specs.Prelude.{Option, Some, None, fold, map}
use Rattle.std.specs.List.{flat_map, AllByRecursion}
use Rattle.std.specs.Map.{lookup, keys_of}
use Rattle.std.proofs.lemmas.List.{append-nil}
use Rattle.std.proofs.lemmas.Map.Keys.{sorted_head, sorted_tail}
use Rattle.zone_proto.specs.Keys.{key_cmp, key_eq}
use Rattle.zone_proto.specs.Sets.{RRset}
use Rattle.zone_proto.specs.declared.record.Record.{Record}
use Rattle.zone_proto.specs.declared.rr_key.RrKey.{RrKey}
use Rattle.zone_proto.proofs.Ordering.KeyOrder.{key_same}
use Rattle.zone_map.specs.Zones.{Sets}
use Rattle.zone_difference.proofs.Found.{none_found, InOrder}
use Rattle.transfer_reading.specs.Differences.{Held, put_at, records_at, set_key, with_last}
use Rattle.incremental_laws.proofs.Found.{put_apart, put_here}
use Rattle.incremental_laws.proofs.OneSet.{StayApart}

-- records of one key come behind those that are there
pub hold_all : (h : Held) (k : RrKey) (rs more : List Record) → AllByRecursion (λ (r : Record). set_key r ≡ k) rs
    → (n : Held) × (fold with_last h (rs ++ more) ≡ fold with_last n more) × (records_at n k ≡ records_at h k ++ rs) × StayApart h n k
hold_all h k [] more keyed = (h, refl, sym (append-nil (records_at h k)), λ q f. refl)
hold_all h k (r ∷ rs) more keyed =
    let front : List Record = records_at h k ++ r ∷ [] in
    let one : Held = put_at h k front in
    let first : with_last h r ≡ one = ap (λ (j : RrKey). put_at h j (records_at h j ++ r ∷ [])) keyed.0 in
    let rest = hold_all one k rs more keyed.1 in (
      rest.0,
      ap (λ (x : Held). fold with_last x (rs ++ more)) first ∙ rest.1,
      rest.2 ∙ ap (λ (xs : List Record). xs ++ rs) (put_here h k front) ∙ append_assoc (records_at h k) (r ∷ []) rs,
      λ q f. rest.3 q f ∙ put_apart h k q front f,
    )

-- the records of a set that is there
abbrev pub records_if : (RRset → List Record) → Option RRset → List Record
records_if records None = []
records_if records (Some s) = records s

held_then : (records : RRset → List Record) (n h : Held) (e : RrKey × RRset) (es : Sets) (q : RrKey) → AllByRecursion (λ j. key_cmp e.0 j ≡ Less) (keys_of es)
    → records_at n e.0 ≡ records_at h e.0 ++ records e.1 → StayApart h n e.0
    → records_at n q ++ records_if records (lookup (key_eq q) es) ≡ records_at h q ++ records_if records (lookup (key_eq q) (e ∷ es))
held_then records n h e es q above here stay = by (key_eq q e.0) refl
  where
    by : (b : Bool) → key_eq q e.0 ≡ b
        → records_at n q ++ records_if records (lookup (key_eq q) es) ≡ records_at h q ++ records_if records (cond b (Some e.1) (lookup (key_eq q) es))
    by true g =
        let same : q ≡ e.0 = key_same q e.0 g in
        let none : lookup (key_eq q) es ≡ None = none_found q es (subst (λ (k : RrKey). AllByRecursion (λ j. key_cmp k j ≡ Less) (keys_of es)) (sym same) above) in
        ap (λ x. records_at n q ++ records_if records x) none
        ∙ append-nil (records_at n q)
        ∙ ap (records_at n) same
        ∙ here
        ∙ ap (λ (k : RrKey). records_at h k ++ records e.1) (sym same)
    by false g = ap (λ xs. xs ++ records_if records (lookup (key_eq q) es)) (stay q g)

-- under each key come the records of its set
pub hold_each : (records : RRset → List Record) (h : Held) (es : Sets) → InOrder es
    → AllByRecursion (λ (e : RrKey × RRset). AllByRecursion (λ (r : Record). set_key r ≡ e.0) (records e.1)) es
    → (q : RrKey) → records_at (fold with_last h (flat_map records (map (λ e. e.1) es))) q ≡ records_at h q ++ records_if records (lookup (key_eq q) es)
hold_each records h [] ordered keyed q = sym (append-nil (records_at h q))
hold_each records h (e ∷ es) ordered keyed q =
    let one = hold_all h e.0 (records e.1) (flat_map records (map (λ x. x.1) es)) keyed.0 in
    ap (λ (x : Held). records_at x q) one.1
    ∙ hold_each records one.0 es (sorted_tail key_cmp e.0 (keys_of es) ordered) keyed.1 q
    ∙ held_then records one.0 h e es q (sorted_head key_cmp e.0 (keys_of es) ordered) one.2 one.3
