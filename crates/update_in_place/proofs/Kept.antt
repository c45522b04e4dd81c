-- The sets of some names, while sets are put into a zone and taken out
use Rattle.std.proofs.Common.{◌≡◌, Bool, true, false, cond, [], ◌∷◌, refl, sym, ap, ◌∙◌, Ordering, Less, Equal, Greater}
use Rattle.std.specs.Prelude.{Option, Some, None, filter}
use Rattle.std.specs.BTreeMap.{insert_entry}
use Rattle.std.specs.Cmp.{eq_by_cmp_equiv}
use Rattle.std.specs.List.{cons_option}
use Rattle.std.specs.Map.{lookup, keys_of, remove_entry}
use Rattle.std.specs.Ordering.{is_eq, match_ordering}
use Rattle.std.proofs.lemmas.Map.{lookup-remove_entry}
use Rattle.std.proofs.lemmas.Map.Entries.{lookup-filter-keys}
use Rattle.std.proofs.lemmas.Map.Keys.{IsDistinct-from_sorted}
use Rattle.zone_proto.specs.declared.rr_key.RrKey.{RrKey}
use Rattle.zone_proto.specs.Keys.{key_cmp, key_eq}
use Rattle.zone_proto.specs.Names.{Name, name_eq}
use Rattle.zone_proto.specs.Sets.{RRset}
use Rattle.zone_proto.proofs.Names.NameTree.{name_eq-Decides}
use Rattle.zone_proto.proofs.Ordering.KeyLaws.{key_cmp_total}
use Rattle.zone_proto.proofs.Ordering.KeyOrder.{key_itself, key_same}
use Rattle.zone_map.specs.Zones.{Sets, types_at}
use Rattle.zone_map.proofs.Putting.{same_entries, sorted_filter}
use Rattle.zone_map.proofs.Stored.{put_apart, sorted_put, sorted_without}
use Rattle.zone_difference.proofs.Found.{InOrder}

-- ---- what is found where a set was put, and where one was taken out

pub put_found : (m : Sets) (k : RrKey) (v : RRset) → lookup (key_eq k) (insert_entry key_cmp m k v) ≡ Some v
put_found [] k v = ap (λ b. cond b (Some v) None) (key_itself k)
put_found (e ∷ m) k v = by (key_cmp k e.0) refl (put_found m k v)
  where
    by : (o : Ordering) → key_cmp k e.0 ≡ o → lookup (key_eq k) (insert_entry key_cmp m k v) ≡ Some v
        → lookup (key_eq k) (match_ordering o ((k, v) ∷ e ∷ m) ((e.0, v) ∷ m) (e ∷ insert_entry key_cmp m k v)) ≡ Some v
    by Less g i = ap (λ b. cond b (Some v) (lookup (key_eq k) (e ∷ m))) (key_itself k)
    by Equal g i = ap (λ b. cond b (Some v) (lookup (key_eq k) m)) (ap is_eq g)
    by Greater g i = ap (λ b. cond b (Some e.1) (lookup (key_eq k) (insert_entry key_cmp m k v))) (ap is_eq g) ∙ i

pub without_found : (m : Sets) (k q : RrKey) → InOrder m → lookup (key_eq q) (remove_entry (key_eq k) m) ≡ cond (key_eq k q) None (lookup (key_eq q) m)
without_found m k q s =
    lookup-remove_entry (eq_by_cmp_equiv key_cmp_total) (key_eq k) (λ x y e. ap (λ j. key_eq j y) (key_same k x e)) q m (IsDistinct-from_sorted key_cmp (keys_of m) s)

module _ (p : Name → Bool) where
  -- the sets of the names that pass
  abbrev pub kept : Sets → Sets
  kept m = filter (λ e. p e.0.name) m

  pub kept_in_order : (m : Sets) → InOrder m → InOrder (kept m)
  kept_in_order m s = sorted_filter (λ k. p k.name) m s

  pub found_kept : (m : Sets) (q : RrKey) → p q.name ≡ true → lookup (key_eq q) (kept m) ≡ lookup (key_eq q) m
  found_kept m q h = lookup-filter-keys (key_eq q) (λ (k : RrKey). p k.name) true (λ k same. ap (λ (j : RrKey). p j.name) (sym (key_same q k same)) ∙ h) m

  pub none_kept : (m : Sets) (q : RrKey) → p q.name ≡ false → lookup (key_eq q) (kept m) ≡ None
  none_kept m q h = lookup-filter-keys (key_eq q) (λ (k : RrKey). p k.name) false (λ k same. ap (λ (j : RrKey). p j.name) (sym (key_same q k same)) ∙ h) m

  pub types_kept : (m : Sets) (n : Name) → p n ≡ true → types_at (kept m) n ≡ types_at m n
  types_kept [] n h = refl
  types_kept (e ∷ m) n h = by (p e.0.name) refl (name_eq n e.0.name) refl (types_kept m n h)
    where
      by : (b : Bool) → p e.0.name ≡ b → (c : Bool) → name_eq n e.0.name ≡ c → types_at (kept m) n ≡ types_at m n
          → types_at (cond b (e ∷ kept m) (kept m)) n ≡ cons_option (cond c (Some e.0.record_type.0) None) (types_at m n)
      by true g c k i = ap (λ b. cons_option (cond b (Some e.0.record_type.0) None) (types_at (kept m) n)) k ∙ ap (cons_option (cond c (Some e.0.record_type.0) None)) i
      by false g true k i = let no : true ≡ false = sym h ∙ ap p ((name_eq-Decides n e.0.name).0 k) ∙ g in absurd cc
      by false g false k i = i

  -- a key of such a name, and one of another
  pub apart : (a b : RrKey) → p a.name ≡ true → p b.name ≡ false → key_eq a b ≡ false
  apart a b h g = by (key_eq a b) refl
    where
      by : (c : Bool) → key_eq a b ≡ c → c ≡ false
      by true e = let no : true ≡ false = sym h ∙ ap (λ (k : RrKey). p k.name) (key_same a b e) ∙ g in absurd cc
      by false e = refl

  pub apart_from : (a b : RrKey) → p a.name ≡ false → p b.name ≡ true → key_eq a b ≡ false
  apart_from a b h g = by (key_eq a b) refl
    where
      by : (c : Bool) → key_eq a b ≡ c → c ≡ false
      by true e = let no : true ≡ false = sym g ∙ ap (λ (k : RrKey). p k.name) (sym (key_same a b e)) ∙ h in absurd cc
      by false e = refl

  -- ---- a set is put

  pub put_kept : (m : Sets) (k : RrKey) (v : RRset) → InOrder m → p k.name ≡ true → kept (insert_entry key_cmp m k v) ≡ insert_entry key_cmp (kept m) k v
  put_kept m k v s h =
      same_entries (kept (insert_entry key_cmp m k v)) (insert_entry key_cmp (kept m) k v) (kept_in_order (insert_entry key_cmp m k v) (sorted_put m k v s))
      (sorted_put (kept m) k v (kept_in_order m s)) (λ q. at q (p q.name) refl)
    where
      of : (q : RrKey) → p q.name ≡ true → (b : Bool) → key_eq q k ≡ b → lookup (key_eq q) (insert_entry key_cmp m k v) ≡ lookup (key_eq q) (insert_entry key_cmp (kept m) k v)
      of q g true e =
          let same : q ≡ k = key_same q k e in
          ap (λ (j : RrKey). lookup (key_eq j) (insert_entry key_cmp m k v)) same
          ∙ put_found m k v
          ∙ sym (put_found (kept m) k v)
          ∙ sym (ap (λ (j : RrKey). lookup (key_eq j) (insert_entry key_cmp (kept m) k v)) same)
      of q g false e = put_apart m k q v e ∙ sym (put_apart (kept m) k q v e ∙ found_kept m q g)

      at : (q : RrKey) (b : Bool) → p q.name ≡ b → lookup (key_eq q) (kept (insert_entry key_cmp m k v)) ≡ lookup (key_eq q) (insert_entry key_cmp (kept m) k v)
      at q true g = found_kept (insert_entry key_cmp m k v) q g ∙ of q g (key_eq q k) refl
      at q false g = none_kept (insert_entry key_cmp m k v) q g ∙ sym (put_apart (kept m) k q v (apart_from q k g h) ∙ none_kept m q g)

  pub put_passed : (m : Sets) (k q : RrKey) (v : RRset) → p k.name ≡ true → p q.name ≡ false → lookup (key_eq q) (insert_entry key_cmp m k v) ≡ lookup (key_eq q) m
  put_passed m k q v h g = put_apart m k q v (apart_from q k g h)

  -- ---- a set is taken out

  pub without_kept : (m : Sets) (k : RrKey) → InOrder m → kept (remove_entry (key_eq k) m) ≡ remove_entry (key_eq k) (kept m)
  without_kept m k s =
      same_entries (kept (remove_entry (key_eq k) m)) (remove_entry (key_eq k) (kept m)) (kept_in_order (remove_entry (key_eq k) m) (sorted_without k m s))
      (sorted_without k (kept m) (kept_in_order m s)) (λ q. at q (p q.name) refl)
    where
      none : (b : Bool) → ◌≡◌ {A = Option RRset} (cond b None None) None
      none true = refl
      none false = refl

      at : (q : RrKey) (b : Bool) → p q.name ≡ b → lookup (key_eq q) (kept (remove_entry (key_eq k) m)) ≡ lookup (key_eq q) (remove_entry (key_eq k) (kept m))
      at q true g =
          found_kept (remove_entry (key_eq k) m) q g
          ∙ without_found m k q s
          ∙ ap (cond (key_eq k q) None) (sym (found_kept m q g))
          ∙ sym (without_found (kept m) k q (kept_in_order m s))
      at q false g =
          none_kept (remove_entry (key_eq k) m) q g
          ∙ sym (none (key_eq k q))
          ∙ ap (cond (key_eq k q) None) (sym (none_kept m q g))
          ∙ sym (without_found (kept m) k q (kept_in_order m s))

  pub without_passed : (m : Sets) (k q : RrKey) → InOrder m → p k.name ≡ true → p q.name ≡ false → lookup (key_eq q) (remove_entry (key_eq k) m) ≡ lookup (key_eq q) m
  without_passed m k q s h g = without_found m k q s ∙ ap (λ b. cond b None (lookup (key_eq q) m)) (apart k q h g)
