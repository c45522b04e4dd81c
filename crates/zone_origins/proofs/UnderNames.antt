-- Entries whose values are under names that they have: what is found, put and taken out by name among the entries is so
-- among the values
use Rattle.std.proofs.Common.{◌≡◌, Bool, true, false, cond, List, [], ◌∷◌, ◌++◌, map, refl, sym, ap, subst, ◌∙◌, Ordering, Less, Equal, Greater}
use Rattle.std.specs.Prelude.{Option, Some, None, option_map, is_some}
use Rattle.std.specs.BTreeMap.{insert_entry, is_at}
use Rattle.std.specs.List.{find, AllByRecursion}
use Rattle.std.specs.Map.{lookup, remove_entry}
use Rattle.std.specs.List.Sorted.{IsStrictlySortedBy}
use Rattle.std.specs.Set.{remove_key}
use Rattle.std.proofs.lemmas.List.{append-nil, append_assoc, map-append}
use Rattle.std.proofs.lemmas.Map.Keys.{sorted_head, sorted_tail}
use Rattle.std.specs.Ordering.{is_eq, eq_by_cmp, match_ordering, ordering_reverse}
use Rattle.zone_proto.specs.Names.{Name, name_cmp}
use Rattle.zone_proto.specs.NameLaws.{exact_names}
use Rattle.zone_proto.proofs.Names.Tree.{name_order}
use Rattle.zone_origins.specs.InOrder.{put_in_order, AreUnderNames}

same_test : (k a : Name) → eq_by_cmp name_cmp a k ≡ is_at (name_cmp k) a
same_test k a = ap is_eq (name_order.total.antisymm a k) ∙ by (name_cmp k a)
  where
    by : (c : Ordering) → is_eq (ordering_reverse c) ≡ is_eq c
    by Less = refl
    by Equal = refl
    by Greater = refl

module _ {V Z : Type 0} (value : V → Z) (origin : Z → Name) where
  abbrev pub values : List (Name × V) → List Z
  values es = map (λ e. value e.1) es

  abbrev pub Under : List (Name × V) → Type 0
  Under es = AreUnderNames (λ v. origin (value v)) es

  under_head : (e : Name × V) (es : List (Name × V)) → Under (e ∷ es) → origin (value e.1) ≡ e.0
  under_head e es h = cc

  under_tail : (e : Name × V) (es : List (Name × V)) → Under (e ∷ es) → Under es
  under_tail e es h = cc

  under_cons : (e : Name × V) (es : List (Name × V)) → origin (value e.1) ≡ e.0 → Under es → Under (e ∷ es)
  under_cons e es h k = λ i. h i ∷ k i

  -- a value is that of a name
  abbrev Begins : Name → Z → Bool
  Begins k z = eq_by_cmp name_cmp (origin z) k

  tested : (k : Name) (e : Name × V) (es : List (Name × V)) → Under (e ∷ es) → Begins k (value e.1) ≡ is_at (name_cmp k) e.0
  tested k e es h = ap (λ n. eq_by_cmp name_cmp n k) (under_head e es h) ∙ same_test k e.0

  -- ---- what is found

  pub found : (k : Name) (es : List (Name × V)) → Under es → option_map value (lookup (is_at (name_cmp k)) es) ≡ find (Begins k) (values es)
  found k [] h = refl
  found k (e ∷ es) h = by (is_at (name_cmp k) e.0) (found k es (under_tail e es h)) ∙ ap (λ b. cond b (Some (value e.1)) (find (Begins k) (values es))) (sym (tested k e es h))
    where
      by : (b : Bool) → option_map value (lookup (is_at (name_cmp k)) es) ≡ find (Begins k) (values es)
          → option_map value (cond b (Some e.1) (lookup (is_at (name_cmp k)) es)) ≡ cond b (Some (value e.1)) (find (Begins k) (values es))
      by true ih = refl
      by false ih = ih

  -- ---- what is put

  pub put : (es : List (Name × V)) (k : Name) (v : V) → Under es → origin (value v) ≡ k → values (insert_entry name_cmp es k v) ≡ put_in_order origin (value v) (values es)
  put [] k v h is = refl
  put (e ∷ es) k v h is =
      by (name_cmp k e.0) (put es k v (under_tail e es h) is)
      ∙ (λ i. match_ordering (name_cmp (sym is i) (sym (under_head e es h) i)) (value v ∷ value e.1 ∷ values es) (value v ∷ values es) (value e.1 ∷ put_in_order origin (value v) (values es)))
    where
      by : (c : Ordering) → values (insert_entry name_cmp es k v) ≡ put_in_order origin (value v) (values es)
          → values (match_ordering c ((k, v) ∷ e ∷ es) ((e.0, v) ∷ es) (e ∷ insert_entry name_cmp es k v))
          ≡ match_ordering c (value v ∷ value e.1 ∷ values es) (value v ∷ values es) (value e.1 ∷ put_in_order origin (value v) (values es))
      by Less ih = refl
      by Equal ih = refl
      by Greater ih = ap (λ zs. value e.1 ∷ zs) ih

  pub put_under : (es : List (Name × V)) (k : Name) (v : V) → Under es → origin (value v) ≡ k → Under (insert_entry name_cmp es k v)
  put_under [] k v h is = λ i. is i ∷ []
  put_under (e ∷ es) k v h is = by (name_cmp k e.0) refl (put_under es k v (under_tail e es h) is)
    where
      by : (c : Ordering) → name_cmp k e.0 ≡ c → Under (insert_entry name_cmp es k v) → Under (match_ordering c ((k, v) ∷ e ∷ es) ((e.0, v) ∷ es) (e ∷ insert_entry name_cmp es k v))
      by Less g ih = under_cons (k, v) (e ∷ es) is h
      by Equal g ih = under_cons (e.0, v) es (is ∙ exact_names k e.0 g) (under_tail e es h)
      by Greater g ih = under_cons e (insert_entry name_cmp es k v) (under_head e es h) ih

  -- ---- what is taken out

  pub remove_under : (k : Name) (es : List (Name × V)) → Under es → Under (remove_entry (is_at (name_cmp k)) es)
  remove_under k [] h = h
  remove_under k (e ∷ es) h = by (is_at (name_cmp k) e.0) (remove_under k es (under_tail e es h))
    where
      by : (b : Bool) → Under (remove_entry (is_at (name_cmp k)) es) → Under (cond b es (e ∷ remove_entry (is_at (name_cmp k)) es))
      by true ih = under_tail e es h
      by false ih = under_cons e (remove_entry (is_at (name_cmp k)) es) (under_head e es h) ih

  pub removed : (k : Name) (es : List (Name × V)) → Under es → values (remove_entry (is_at (name_cmp k)) es) ≡ remove_key (Begins k) (values es)
  removed k [] h = refl
  removed k (e ∷ es) h = by (is_at (name_cmp k) e.0) (removed k es (under_tail e es h)) ∙ ap (λ b. cond b (values es) (value e.1 ∷ remove_key (Begins k) (values es))) (sym (tested k e es h))
    where
      by : (b : Bool) → values (remove_entry (is_at (name_cmp k)) es) ≡ remove_key (Begins k) (values es)
          → values (cond b es (e ∷ remove_entry (is_at (name_cmp k)) es)) ≡ cond b (values es) (value e.1 ∷ remove_key (Begins k) (values es))
      by true ih = refl
      by false ih = ap (λ zs. value e.1 ∷ zs) ih

  -- whether there is one of a name
  some_mapped : (o : Option V) → is_some o ≡ is_some (option_map value o)
  some_mapped None = refl
  some_mapped (Some v) = refl

  pub is_found : (k : Name) (es : List (Name × V)) → Under es → is_some (lookup (is_at (name_cmp k)) es) ≡ is_some (find (Begins k) (values es))
  is_found k es h = some_mapped (lookup (is_at (name_cmp k)) es) ∙ ap is_some (found k es h)

-- behind entries that all come before it an entry is put last
pub put_last : {V : Type 0} (es : List (Name × V)) (k : Name) (v : V) → AllByRecursion (λ e. name_cmp e.0 k ≡ Less) es → insert_entry name_cmp es k v ≡ es ++ (k, v) ∷ []
put_last [] k v h = refl
put_last (e ∷ es) k v h =
    ap (λ c. match_ordering c ((k, v) ∷ e ∷ es) ((e.0, v) ∷ es) (e ∷ insert_entry name_cmp es k v)) (name_order.total.antisymm k e.0 ∙ ap ordering_reverse h.0)
    ∙ ap (λ zs. e ∷ zs) (put_last es k v h.1)

-- ---- entries that are copied one after the other

module _ {V Z : Type 0} (value : V → Z) where
  -- those of a copy, and behind them those that are left, are all: their names, and what their values stand for
  pub record HasCopied (all copied left : List (Name × V)) : Type 0 where
    pub names : map (λ e. e.0) copied ++ map (λ e. e.0) left ≡ map (λ e. e.0) all
    pub values : map (λ e. value e.1) copied ++ map (λ e. value e.1) left ≡ map (λ e. value e.1) all

  before_all : (es : List (Name × V)) (k : Name) (ks : List Name) → IsStrictlySortedBy name_cmp (map (λ e. e.0) es ++ k ∷ ks) → AllByRecursion (λ e. name_cmp e.0 k ≡ Less) es
  before_all [] k ks s = tt
  before_all (e ∷ es) k ks s = (picked es (sorted_head name_cmp e.0 (map (λ d. d.0) es ++ k ∷ ks) s), before_all es k ks (sorted_tail name_cmp e.0 (map (λ d. d.0) es ++ k ∷ ks) s))
    where
      picked : (ds : List (Name × V)) → AllByRecursion (λ q. name_cmp e.0 q ≡ Less) (map (λ d. d.0) ds ++ k ∷ ks) → name_cmp e.0 k ≡ Less
      picked [] h = h.0
      picked (d ∷ ds) h = picked ds h.1

  pub none_copied : (all : List (Name × V)) → HasCopied all [] all
  none_copied all = record { names = refl; values = refl }

  pub one_copied : (all copied left rest new : List (Name × V)) (e : Name × V) (k : Name) (v : V) → IsStrictlySortedBy name_cmp (map (λ d. d.0) all) → left ≡ e ∷ rest → k ≡ e.0 → value v ≡ value e.1
      → new ≡ insert_entry name_cmp copied k v → HasCopied all copied left → HasCopied all new rest
  one_copied all copied left rest new e k v s parts same_name same_value is h =
      let names : map (λ d. d.0) copied ++ k ∷ map (λ d. d.0) rest ≡ map (λ d. d.0) all =
      (λ i. map (λ d. d.0) copied ++ same_name i ∷ map (λ d. d.0) rest) ∙ ap (λ es. map (λ d. d.0) copied ++ map (λ d. d.0) es) (sym parts) ∙ h.names in
      let values : map (λ d. value d.1) copied ++ value v ∷ map (λ d. value d.1) rest ≡ map (λ d. value d.1) all =
      (λ i. map (λ d. value d.1) copied ++ same_value i ∷ map (λ d. value d.1) rest) ∙ ap (λ es. map (λ d. value d.1) copied ++ map (λ d. value d.1) es) (sym parts) ∙ h.values in
      let last : new ≡ copied ++ (k, v) ∷ [] = is ∙ put_last copied k v (before_all copied k (map (λ d. d.0) rest) (subst (IsStrictlySortedBy name_cmp) (sym names) s)) in
      record {
        names = ap (λ es. map (λ d. d.0) es ++ map (λ d. d.0) rest) last
            ∙ ap (λ ns. ns ++ map (λ d. d.0) rest) (map-append (λ (d : Name × V). d.0) copied ((k, v) ∷ [])) ∙ append_assoc (map (λ d. d.0) copied) (k ∷ []) (map (λ d. d.0) rest) ∙ names;
        values = ap (λ es. map (λ d. value d.1) es ++ map (λ d. value d.1) rest) last
            ∙ ap (λ ns. ns ++ map (λ d. value d.1) rest) (map-append (λ (d : Name × V). value d.1) copied ((k, v) ∷ [])) ∙ append_assoc (map (λ d. value d.1) copied) (value v ∷ []) (map (λ d. value d.1) rest) ∙ values;
      }

  pub all_copied : (all copied left : List (Name × V)) → left ≡ [] → HasCopied all copied left → map (λ e. value e.1) copied ≡ map (λ e. value e.1) all
  all_copied all copied left none h = sym (append-nil (map (λ e. value e.1) copied)) ∙ ap (λ es. map (λ e. value e.1) copied ++ map (λ e. value e.1) es) (sym none) ∙ h.values

  all_named : (all copied left : List (Name × V)) → left ≡ [] → HasCopied all copied left → map (λ e. e.0) copied ≡ map (λ e. e.0) all
  all_named all copied left none h = sym (append-nil (map (λ e. e.0) copied)) ∙ ap (λ es. map (λ e. e.0) copied ++ map (λ e. e.0) es) (sym none) ∙ h.names

  -- where each is under its name, so is each of the copy
  pub copied_under : (origin : Z → Name) (all copied left : List (Name × V)) → left ≡ [] → HasCopied all copied left → AreUnderNames (λ v. origin (value v)) all → AreUnderNames (λ v. origin (value v)) copied
  copied_under origin all copied left none h under =
      map-map origin (λ (e : Name × V). value e.1) copied ∙ ap (map origin) (all_copied all copied left none h) ∙ sym (map-map origin (λ (e : Name × V). value e.1) all) ∙ under ∙ sym (all_named all copied left none h)
    where
      map-map : {X Y W : Type 0} (g : Y → W) (f : X → Y) (xs : List X) → map (λ x. g (f x)) xs ≡ map g (map f xs)
      map-map g f [] = refl
      map-map g f (x ∷ xs) = ap (λ ws. g (f x) ∷ ws) (map-map g f xs)
