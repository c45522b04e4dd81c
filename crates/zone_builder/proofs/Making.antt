-- Sets made of their records, and put under their keys
use Rattle.std.proofs.Common.{◌≡◌, ℕ, Bool, true, false, cond, List, [], ◌∷◌, ◌++◌, refl, sym, ap, ◌∙◌, subst, Less}
use Rattle.std.specs.Prelude.{Option, Some, None, map, fold, option_and_then, unwrap_or, IfSome}
use Rattle.std.specs.Cmp.{eq_by_cmp_equiv}
use Rattle.std.specs.List.{AllByRecursion}
use Rattle.std.specs.List.Sorted.{IsStrictlySortedBy}
use Rattle.std.specs.Map.{lookup, keys_of}
use Rattle.std.specs.Option.{option_or}
use Rattle.std.proofs.lemmas.List.Elements.{All-push}
use Rattle.std.proofs.lemmas.Map.{update_all_push}
use Rattle.std.proofs.lemmas.Map.Keys.{IsDistinct-from_sorted}
use Rattle.std.proofs.lemmas.Map.Made.{update_all_none}
use Rattle.zone_proto.specs.declared.rdata.RData.{RData}
use Rattle.zone_proto.specs.declared.rdata.RData.TheVariants as V
use Rattle.zone_proto.specs.declared.record.Record.{Record}
use Rattle.zone_proto.specs.declared.rr_key.RrKey.{RrKey}
use Rattle.zone_proto.specs.Data.{type_of}
use Rattle.zone_proto.specs.Keys.{key_cmp, key_eq}
use Rattle.zone_proto.specs.Names.{IsName, lower}
use Rattle.zone_proto.specs.Types.{RRSIG}
use Rattle.zone_proto.specs.Sets.{RRset, empty_set}
use Rattle.zone_proto.proofs.Ordering.KeyLaws.{key_cmp_total}
use Rattle.zone_proto.proofs.Ordering.KeyOrder.{key_same, key_itself}
use Rattle.zone_map.specs.Zones.{Sets, last_at, IsStoredAt, AreStored}
use Rattle.zone_denial.specs.Nsec3Sets.{with_taken}
use Rattle.zone_denial.proofs.Sets.TakenRecords.{taken_stored}
use Rattle.zone_builder.specs.declared.given.GivenRecord.{GivenRecord}
use Rattle.zone_builder.specs.declared.groups.Group.{Group}
use Rattle.zone_builder.specs.Groups.{IsGroupOf}
use Rattle.zone_builder.specs.Records.{is_signature, records_of}
use Rattle.zone_builder.specs.Sets.{with_ttl, least_ttl, signed_set_of, set_in, with_set}
use Rattle.zone_builder.proofs.KeysFound.{absent}

-- records that are taken one after the other
module _ (k : RrKey) (serial ttl : ℕ) (named : IsName k.name) where
  -- a set that is empty, or is under the key, is there once it takes a record of the key
  pub one_stored : (r : Record) → lower r.name ≡ k.name → type_of r.rdata ≡ k.record_type.0 → (s : Option RRset) → IfSome s (IsStoredAt k.name k.record_type.0)
      → IsStoredAt k.name k.record_type.0 (with_taken serial (unwrap_or s (empty_set r.name (type_of r.rdata) serial)) r)
  one_stored r o t s h =
      subst (λ n. IsStoredAt n k.record_type.0 (with_taken serial (unwrap_or s (empty_set r.name (type_of r.rdata) serial)) r)) o
      (subst (λ u. IsStoredAt (lower r.name) u (with_taken serial (unwrap_or s (empty_set r.name (type_of r.rdata) serial)) r)) t
      (taken_stored r serial (subst IsName (sym o) named) s
      (subst (λ u. IfSome s (IsStoredAt (lower r.name) u)) (sym t) (subst (λ n. IfSome s (IsStoredAt n k.record_type.0)) (sym o) h))))

  pub fold_stored : (gs : List GivenRecord) (s : RRset) → IsStoredAt k.name k.record_type.0 s
      → AllByRecursion (λ (g : GivenRecord). lower g.record.name ≡ k.name) gs → AllByRecursion (λ (g : GivenRecord). type_of g.record.rdata ≡ k.record_type.0) gs
      → IsStoredAt k.name k.record_type.0 (fold (with_taken serial) s (map (with_ttl ttl) (records_of gs)))
  fold_stored [] s h o t = h
  fold_stored (g ∷ gs) s h o t = fold_stored gs (with_taken serial s (with_ttl ttl g.record)) (one_stored (with_ttl ttl g.record) o.0 t.0 (Some s) h) o.1 t.1

-- ---- the set of a group

-- it may be under the group's key
pub made_stored : (k : RrKey) (serial : ℕ) (g : Group) → IsName k.name → IsGroupOf k g → (s : RRset) → Some s ≡ set_in serial g → IsStoredAt k.name k.record_type.0 s
made_stored k serial g named of s e = by g.records.items refl
  where
    signed : (x w : RRset) → IsStoredAt k.name k.record_type.0 x → (more : List Record) → Some w ≡ Some (record x { signatures = more }) → IsStoredAt k.name k.record_type.0 w
    signed x w h more q =
        let same : record x { signatures = more } ≡ w = ap (λ o. unwrap_or o x) (sym q) in
        subst (IsStoredAt k.name k.record_type.0) same (record { named = h.named; owner = h.owner; record_type = h.record_type; filled = h.filled; set = h.set })

    by : (gs : List GivenRecord) → gs ≡ g.records.items → IsStoredAt k.name k.record_type.0 s
    by [] q =
        let none : Some s ≡ None = e ∙ ap (λ gs. signed_set_of serial gs g.signatures.items) (sym q) in
        absurd cc
    by (x ∷ xs) q =
        let ttl = least_ttl (x ∷ xs) in
        let o : AllByRecursion (λ (r : GivenRecord). lower r.record.name ≡ k.name) (x ∷ xs) = subst (AllByRecursion (λ (r : GivenRecord). lower r.record.name ≡ k.name)) (sym q) of.owners in
        let t : AllByRecursion (λ (r : GivenRecord). type_of r.record.rdata ≡ k.record_type.0) (x ∷ xs) = subst (AllByRecursion (λ (r : GivenRecord). type_of r.record.rdata ≡ k.record_type.0)) (sym q) of.types in
        let first = with_taken serial (empty_set x.record.name (type_of x.record.rdata) serial) (with_ttl ttl x.record) in
        signed _ s (fold_stored k serial ttl named xs first (one_stored k serial ttl named (with_ttl ttl x.record) o.0 t.0 None tt) o.1 t.1) _
        (e ∙ ap (λ gs. signed_set_of serial gs g.signatures.items) (sym q))

-- behind sets that are under their keys it is under its own
pub stored_with : (k : RrKey) (serial : ℕ) (g : Group) → IsName k.name → IsGroupOf k g → (m n : Sets) → n ≡ with_set m k (set_in serial g) → AreStored m → AreStored n
stored_with k serial g named of m n e stored = subst AreStored (sym e) (by (set_in serial g) refl)
  where
    by : (o : Option RRset) → o ≡ set_in serial g → AreStored (with_set m k o)
    by None q = stored
    by (Some s) q = All-push (λ x. IsStoredAt x.0.name x.0.record_type.0 x.1) m (k, s) stored (made_stored k serial g named of s q)

-- ---- the sets of groups whose keys ascend

-- the set that comes last under a key
abbrev pub last_under : Sets → RrKey → Option RRset
last_under m k = last_at m k.name k.record_type.0

last_with : (m : Sets) (k : RrKey) (s : RRset) (q : RrKey) → last_under (m ++ (k, s) ∷ []) q ≡ cond (key_eq k q) (Some s) (last_under m q)
last_with m k s q = sym (update_all_push key_eq (λ _. None) (λ x. last_under m x) m (k, s) q refl)

-- what is under a key behind whose sets that of its group was put, if there is one
with_own : (m : Sets) (k : RrKey) (o : Option RRset) → last_under (with_set m k o) k ≡ option_or o (last_under m k)
with_own m k None = refl
with_own m k (Some s) = last_with m k s k ∙ ap (λ b. cond b (Some s) (last_under m k)) (key_itself k)

with_apart : (m : Sets) (k q : RrKey) (o : Option RRset) → key_eq q k ≡ false → last_under (with_set m k o) q ≡ last_under m q
with_apart m k q None h = refl
with_apart m k q (Some s) h = last_with m k s q ∙ ap (λ b. cond b (Some s) (last_under m q)) ((eq_by_cmp_equiv key_cmp_total).symm k q ∙ h)

-- the sets of the groups that are left, and those that stand so far
abbrev pub sets_with : ℕ → List (RrKey × Group) → Sets → RrKey → Option RRset
sets_with serial es m k = option_or (option_and_then (set_in serial) (lookup (key_eq k) es)) (last_under m k)

pub set_more : (serial : ℕ) (m n : Sets) (key : RrKey) (g : Group) (left all : List (RrKey × Group)) → n ≡ with_set m key (set_in serial g) → all ≡ (key, g) ∷ left
    → IsStrictlySortedBy key_cmp (keys_of all) → (k : RrKey) → sets_with serial left n k ≡ sets_with serial all m k
unfolding IsStrictlySortedBy
set_more serial m n key g left all made steps sorted k =
    ap (λ x. sets_with serial left x k) made ∙ by (key_eq k key) refl ∙ ap (λ es. sets_with serial es m k) (sym steps)
  where
    above : AllByRecursion (λ q. key_cmp key q ≡ Less) (keys_of left)
    above = (subst (λ es. IsStrictlySortedBy key_cmp (keys_of es)) steps sorted).0

    by : (b : Bool) → key_eq k key ≡ b → sets_with serial left (with_set m key (set_in serial g)) k
        ≡ option_or (option_and_then (set_in serial) (cond b (Some g) (lookup (key_eq k) left))) (last_under m k)
    by true h =
        let same : k ≡ key = key_same k key h in
        ap (λ q. sets_with serial left (with_set m key (set_in serial g)) q) same
        ∙ ap (λ o. option_or (option_and_then (set_in serial) o) (last_under (with_set m key (set_in serial g)) key)) (absent key left above)
        ∙ with_own m key (set_in serial g)
        ∙ ap (λ q. option_or (set_in serial g) (last_under m q)) (sym same)
    by false h = ap (option_or (option_and_then (set_in serial) (lookup (key_eq k) left))) (with_apart m key k (set_in serial g) h)

keys_behind : (m : Sets) (e : RrKey × RRset) (ks : List RrKey) → keys_of (m ++ e ∷ []) ++ ks ≡ keys_of m ++ e.0 ∷ ks
keys_behind [] e ks = refl
keys_behind (f ∷ m) e ks = ap (λ js. f.0 ∷ js) (keys_behind m e ks)

-- keys in order stay so without one of them
skipped : (P : RrKey → Type 0) (js : List RrKey) (k : RrKey) (ks : List RrKey) → AllByRecursion P (js ++ k ∷ ks) → AllByRecursion P (js ++ ks)
skipped P [] k ks a = a.1
skipped P (j ∷ js) k ks a = (a.0, skipped P js k ks a.1)

sorted_skipped : (js : List RrKey) (k : RrKey) (ks : List RrKey) → IsStrictlySortedBy key_cmp (js ++ k ∷ ks) → IsStrictlySortedBy key_cmp (js ++ ks)
unfolding IsStrictlySortedBy
sorted_skipped [] k ks s = s.1
sorted_skipped (j ∷ js) k ks s = (skipped (λ y. key_cmp j y ≡ Less) js k ks s.0, sorted_skipped js k ks s.1)

-- the keys of the sets so far and those of the groups that are left ascend
pub sorted_more : (serial : ℕ) (m n : Sets) (key : RrKey) (g : Group) (left all : List (RrKey × Group)) → n ≡ with_set m key (set_in serial g) → all ≡ (key, g) ∷ left
    → IsStrictlySortedBy key_cmp (keys_of m ++ keys_of all) → IsStrictlySortedBy key_cmp (keys_of n ++ keys_of left)
sorted_more serial m n key g left all made steps sorted =
    subst (λ (es : Sets). IsStrictlySortedBy key_cmp (keys_of es ++ keys_of left)) (sym made)
    (by (set_in serial g) (subst (λ (es : List (RrKey × Group)). IsStrictlySortedBy key_cmp (keys_of m ++ keys_of es)) steps sorted))
  where
    by : (o : Option RRset) → IsStrictlySortedBy key_cmp (keys_of m ++ key ∷ keys_of left) → IsStrictlySortedBy key_cmp (keys_of (with_set m key o) ++ keys_of left)
    by None s = sorted_skipped (keys_of m) key (keys_of left) s
    by (Some v) s = subst (IsStrictlySortedBy key_cmp) (sym (keys_behind m (key, v) (keys_of left))) s

-- of sets in order, the last one under a key is the one there
pub last_alone : (m : Sets) (k : RrKey) → IsStrictlySortedBy key_cmp (keys_of m) → lookup (key_eq k) m ≡ last_under m k
last_alone m k sorted = sym (update_all_none (eq_by_cmp_equiv key_cmp_total) key_eq (λ x y. refl) m k (IsDistinct-from_sorted key_cmp (keys_of m) sorted))

pub sorted_left : (key : RrKey) (g : Group) (left all : List (RrKey × Group)) → all ≡ (key, g) ∷ left → IsStrictlySortedBy key_cmp (keys_of all) → IsStrictlySortedBy key_cmp (keys_of left)
unfolding IsStrictlySortedBy
sorted_left key g left all steps sorted = (subst (λ es. IsStrictlySortedBy key_cmp (keys_of es)) steps sorted).1

-- ---- signatures one after the other

pub signature_type : (d : RData) → is_signature d ≡ true → type_of d ≡ RRSIG
signature_type (V.RRSIG a) h = refl
signature_type d h = absurd cc
