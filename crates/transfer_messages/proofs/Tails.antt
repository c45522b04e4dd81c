-- The sets from a key on stand at the end of those of a zone
use Rattle.std.proofs.Common.{◌≡◌, ℕ, ◌+◌, ◌&&◌, Bool, true, false, cond, List, [], ◌∷◌, ◌++◌, length, drop, refl, sym, ap, subst, ◌∙◌, append_assoc, Ordering, Less, Equal, Greater}
use Rattle.std.specs.Prelude.{Option, Some, None}
use Rattle.std.specs.Ordering.{is_eq, is_le, ordering_reverse}
use Rattle.std.specs.BTreeMap.Range.{entries_between}
use Rattle.std.specs.List.{AllByRecursion}
use Rattle.std.specs.List.Sorted.{IsStrictlySortedBy}
use Rattle.std.specs.Map.{keys_of}
use Rattle.std.specs.declared.ops.Bound.TheVariants.{Included, Unbounded}
use Rattle.std.proofs.lemmas.Map.Keys.{sorted_head, sorted_tail}
use Rattle.zone_proto.specs.declared.record.Record.{Record}
use Rattle.zone_proto.specs.declared.rr_key.RrKey.{RrKey}
use Rattle.zone_proto.specs.Keys.{key_cmp}
use Rattle.zone_proto.specs.Sets.{RRset}
use Rattle.zone_proto.proofs.Ordering.KeyLaws.{key_cmp_total}
use Rattle.zone_proto.proofs.Ordering.KeyOrder.{key_same, key_itself}
use Rattle.zone_map.specs.Zones.{Sets}
use Rattle.transfer_messages.specs.Transfers.{ahead_of, sets_records}
use Rattle.message_writing.specs.Responses.{records_together}
use Rattle.zone_server.specs.Transfers.{between}
use Rattle.transfer_messages.proofs.Lists.{dropped_over, dropped_twice}

-- sets stand at the end of others
abbrev pub IsTailOf : Sets → Sets → Type 0
IsTailOf rest m = (front : Sets) × (m ≡ front ++ rest)

-- the sets from a key on
abbrev from : RrKey → Sets → Sets
from k m = entries_between key_cmp (Included k) Unbounded m

upto_later : (k e f : RrKey) → is_le (key_cmp k e) ≡ true → key_cmp e f ≡ Less → is_le (key_cmp k f) ≡ true
upto_later k e f h l = by (key_cmp k e) refl h
  where
    by : (o : Ordering) → key_cmp k e ≡ o → is_le o ≡ true → is_le (key_cmp k f) ≡ true
    by Less g u = ap is_le (key_cmp_total.trans k e f g l)
    by Equal g u = ap (λ (j : RrKey). is_le (key_cmp j f)) (key_same k e (ap is_eq g)) ∙ ap is_le l
    by Greater g u = absurd cc

all_kept : (k e : RrKey) (m : Sets) → is_le (key_cmp k e) ≡ true → AllByRecursion (λ j. key_cmp e j ≡ Less) (keys_of m) → from k m ≡ m
all_kept k e [] h a = refl
all_kept k e (f ∷ m) h a =
    ap (λ (b : Bool). cond (b && true) (f ∷ from k m) (from k m)) (upto_later k e f.0 h a.0) ∙ ap (λ (x : Sets). f ∷ x) (all_kept k e m h a.1)

front_kept : (k : RrKey) (e : RrKey × RRset) (m : Sets) → is_le (key_cmp k e.0) ≡ true → IsStrictlySortedBy key_cmp (keys_of (e ∷ m)) → from k (e ∷ m) ≡ e ∷ m
front_kept k e m h sorted =
    ap (λ (b : Bool). cond (b && true) (e ∷ from k m) (from k m)) h ∙ ap (λ (x : Sets). e ∷ x) (all_kept k e.0 m h (sorted_head key_cmp e.0 (keys_of m) sorted))

front_passed : (k : RrKey) (e : RrKey × RRset) (m : Sets) → is_le (key_cmp k e.0) ≡ false → from k (e ∷ m) ≡ from k m
front_passed k e m h = ap (λ (b : Bool). cond (b && true) (e ∷ from k m) (from k m)) h

itself : (k : RrKey) → is_le (key_cmp k k) ≡ true
itself k = by (key_cmp k k) (key_itself k)
  where
    by : (o : Ordering) → is_eq o ≡ true → is_le o ≡ true
    by Less h = refl
    by Equal h = refl
    by Greater h = absurd cc

among : (P : RrKey → Type 0) (front : Sets) (e : RrKey × RRset) (m : Sets) → AllByRecursion P (keys_of (front ++ e ∷ m)) → P e.0
among P [] e m a = a.0
among P (f ∷ front) e m a = among P front e m a.1

-- from the key of one of the sets on are that set and all behind it
pub from_its_key : (front : Sets) (e : RrKey × RRset) (m : Sets) → IsStrictlySortedBy key_cmp (keys_of (front ++ e ∷ m)) → from e.0 (front ++ e ∷ m) ≡ e ∷ m
from_its_key [] e m sorted = front_kept e.0 e m (itself e.0) sorted
from_its_key (f ∷ front) e m sorted =
    let less : key_cmp f.0 e.0 ≡ Less =
    among (λ j. key_cmp f.0 j ≡ Less) front e m (sorted_head key_cmp f.0 (keys_of (front ++ e ∷ m)) sorted) in
    front_passed e.0 f (front ++ e ∷ m) (ap is_le (key_cmp_total.antisymm e.0 f.0 ∙ ap ordering_reverse less))
    ∙ from_its_key front e m (sorted_tail key_cmp f.0 (keys_of (front ++ e ∷ m)) sorted)

from_is_tail : (k : RrKey) (m : Sets) → IsStrictlySortedBy key_cmp (keys_of m) → IsTailOf (from k m) m
from_is_tail k [] sorted = ([], refl)
from_is_tail k (e ∷ m) sorted = by (is_le (key_cmp k e.0)) refl (from_is_tail k m (sorted_tail key_cmp e.0 (keys_of m) sorted))
  where
    by : (b : Bool) → is_le (key_cmp k e.0) ≡ b → IsTailOf (from k m) m → IsTailOf (from k (e ∷ m)) (e ∷ m)
    by true h t = ([], sym (front_kept k e m h sorted))
    by false h t = (e ∷ t.0, ap (λ (x : Sets). e ∷ x) t.1 ∙ ap (λ (x : Sets). e ∷ (t.0 ++ x)) (sym (front_passed k e m h)))

pub ahead_is_tail : (m : Sets) (k : Option RrKey) → IsStrictlySortedBy key_cmp (keys_of m) → IsTailOf (ahead_of m k) m
ahead_is_tail m None sorted = ([], refl)
ahead_is_tail m (Some k) sorted = from_is_tail k m sorted

-- ---- set after set

module _ (m sets rest : Sets) (e : RrKey × RRset) (is : sets ≡ e ∷ rest) where
  pub tail_behind : IsTailOf sets m → IsTailOf rest m
  tail_behind t = (t.0 ++ e ∷ [], t.1 ∙ ap (λ (x : Sets). t.0 ++ x) is ∙ sym (append_assoc t.0 (e ∷ []) rest))

  -- all sets from its key on
  pub from_front : IsStrictlySortedBy key_cmp (keys_of m) → IsTailOf sets m → (k : RrKey) → k ≡ e.0 → from k m ≡ sets
  from_front sorted t k same =
      let stands : m ≡ t.0 ++ e ∷ rest = t.1 ∙ ap (λ (x : Sets). t.0 ++ x) is in
      ap (λ (j : RrKey). from j m) same ∙ ap (from e.0) stands ∙ from_its_key t.0 e rest (subst (λ (x : Sets). IsStrictlySortedBy key_cmp (keys_of x)) stands sorted) ∙ sym is

  module _ (soa set whole : List Record) (sent count : ℕ) where
    -- a place among its records
    pub place_here : IsStrictlySortedBy key_cmp (keys_of m) → IsTailOf sets m → (k : RrKey) → k ≡ e.0 → (n : ℕ) → n ≡ sent + count → drop count (drop sent (sets_records sets ++ soa)) ≡ whole
        → drop n (sets_records (from k m) ++ soa) ≡ whole
    place_here sorted t k same n n_is left =
        ap (λ (x : Sets). drop n (sets_records x ++ soa)) (from_front sorted t k same) ∙ dropped_twice n sent count (sets_records sets ++ soa) n_is ∙ left

    -- a place behind them
    pub place_behind : set ≡ records_together (between e.1) → (s c : ℕ) → (s + c) + length set ≡ sent + count → drop count (drop sent (sets_records sets ++ soa)) ≡ whole
        → drop c (drop s (sets_records rest ++ soa)) ≡ whole
    place_behind set_is s c over left =
        let path : set ++ (sets_records rest ++ soa) ≡ sets_records sets ++ soa =
        ap (λ (x : List Record). x ++ (sets_records rest ++ soa)) set_is ∙ sym (append_assoc (records_together (between e.1)) (sets_records rest) soa)
        ∙ ap (λ (x : Sets). sets_records x ++ soa) (sym is) in
        dropped_over set (sets_records rest ++ soa) s c sent count over ∙ ap (λ (x : List Record). drop count (drop sent x)) path ∙ left
