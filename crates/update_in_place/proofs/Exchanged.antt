-- Sets of a part of a zone are exchanged: the zone is then the one whose part they are, or as it was
use Rattle.std.proofs.Common.{◌≡◌, ℕ, Bool, true, false, not, cond, List, [], ◌∷◌, map, refl, sym, ap, ◌∙◌, subst, Result, Ok, Err}
use Rattle.std.specs.Prelude.{Option, Some, None, if◌then◌else◌, is_some, filter, ◌&&◌, ◌||◌, IfOk}
use Rattle.std.specs.Cmp.{eq_by_cmp_equiv}
use Rattle.std.specs.List.{flat_map, list_any}
use Rattle.std.specs.Map.{lookup, keys_of, update_all}
use Rattle.std.specs.Option.{option_or}
use Rattle.std.proofs.lemmas.List.Folds.{list_any-append}
use Rattle.std.proofs.lemmas.Map.Entries.{lookup-filter-keys}
use Rattle.std.proofs.lemmas.Map.Keys.{IsDistinct-from_sorted}
use Rattle.std.proofs.lemmas.Map.Made.{is_some-lookup, update_all_none, IsDistinct-keys_filter}
use Rattle.std.proofs.lemmas.Map.Views.{any-filter_same}
use Rattle.zone_proto.specs.declared.record_type.RecordType.{RecordType}
use Rattle.zone_proto.specs.declared.rr_key.RrKey.{RrKey}
use Rattle.zone_proto.specs.Keys.{key, key_cmp, key_eq}
use Rattle.zone_proto.specs.Names.{Name, name_eq}
use Rattle.zone_proto.specs.Sets.{RRset}
use Rattle.zone_proto.proofs.Members.{and_left, and_right, any_from_In, In-map, not_true, or_left, or_right}
use Rattle.zone_proto.proofs.Names.NameTree.{name_eq-Decides}
use Rattle.zone_proto.proofs.Ordering.KeyLaws.{key_cmp_total}
use Rattle.zone_proto.proofs.Ordering.KeyOrder.{key_itself, key_same}
use Rattle.zone_map.specs.Puts.{without_all}
use Rattle.zone_map.specs.Zones.{Sets, owns, set_at, types_at}
use Rattle.zone_map.proofs.Owned.{type_in}
use Rattle.zone_map.proofs.Putting.{found_without_all, keys_of-filter, none_of, same_entries, sorted_without_all}
use Rattle.zone_difference.proofs.Found.{InOrder}
use Rattle.update_in_place.specs.Parts.{is_among, keys_lacking, keys_of_name, sets_of}
use Rattle.update_in_place.proofs.Replaced.{found_by}
use Rattle.update_in_place.proofs.Kept.{found_kept, kept, kept_in_order, none_kept}

-- ---- copies of a part

pub keys_by : (n : Name) (ts : List RecordType) → map (λ (t : RecordType). key n t.0) ts ≡ map (key n) (map (λ (t : RecordType). t.0) ts)
keys_by n [] = refl
keys_by n (t ∷ ts) = ap (λ (ks : List RrKey). key n t.0 ∷ ks) (keys_by n ts)

module _ (m : Sets) (q : RrKey) where
  abbrev any_key : List RrKey → Bool
  any_key ks = list_any (key_eq q) ks

  named_by : (n : Name) (ts : List ℕ) → any_key (map (key n) ts) ≡ true → name_eq q.name n ≡ true
  named_by n [] h = absurd cc
  named_by n (t ∷ ts) h = by (key_eq q (key n t)) refl h (named_by n ts)
    where
      by : (b : Bool) → key_eq q (key n t) ≡ b → (b || any_key (map (key n) ts)) ≡ true → (any_key (map (key n) ts) ≡ true → name_eq q.name n ≡ true) → name_eq q.name n ≡ true
      by true e g more = (name_eq-Decides q.name n).1 (ap (λ (k : RrKey). k.name) (key_same q (key n t) e))
      by false e g more = more g

  pub among_by : (names : List Name) → any_key (flat_map (keys_of_name m) names) ≡ true → is_among names q.name ≡ true
  among_by [] h = absurd cc
  among_by (n ∷ names) h =
      by (any_key (keys_of_name m n)) refl (sym (list_any-append (key_eq q) (keys_of_name m n) (flat_map (keys_of_name m) names)) ∙ h) (among_by names)
    where
      by : (b : Bool) → any_key (keys_of_name m n) ≡ b → (b || any_key (flat_map (keys_of_name m) names)) ≡ true
          → (any_key (flat_map (keys_of_name m) names) ≡ true → is_among names q.name ≡ true) → (name_eq q.name n || is_among names q.name) ≡ true
      by true e g more = or_left (name_eq q.name n) (is_among names q.name) (named_by n (types_at m n) e)
      by false e g more = or_right (name_eq q.name n) (is_among names q.name) (more g)

  own_key : owns m q.name q.record_type.0 ≡ true → any_key (keys_of_name m q.name) ≡ true
  own_key h =
      any_from_In (key_eq q) q (keys_of_name m q.name) (In-map (key q.name) q.record_type.0 (types_at m q.name) (type_in m q.name q.record_type.0 h)) (key_itself q)

  pub any_by : (names : List Name) → is_among names q.name ≡ true → owns m q.name q.record_type.0 ≡ true → any_key (flat_map (keys_of_name m) names) ≡ true
  any_by [] h g = absurd cc
  any_by (n ∷ names) h g = list_any-append (key_eq q) (keys_of_name m n) (flat_map (keys_of_name m) names) ∙ by (name_eq q.name n) refl h (λ i. any_by names i g)
    where
      by : (b : Bool) → name_eq q.name n ≡ b → (b || is_among names q.name) ≡ true → (is_among names q.name ≡ true → any_key (flat_map (keys_of_name m) names) ≡ true)
          → (any_key (keys_of_name m n) || any_key (flat_map (keys_of_name m) names)) ≡ true
      by true e i more =
          or_left (any_key (keys_of_name m n)) (any_key (flat_map (keys_of_name m) names))
          (subst (λ (x : Name). any_key (keys_of_name m x) ≡ true) ((name_eq-Decides q.name n).0 e) (own_key g))
      by false e i more = or_right (any_key (keys_of_name m n)) (any_key (flat_map (keys_of_name m) names)) (more i)

  found_part : (names : List Name) → (if any_key (flat_map (keys_of_name m) names) then lookup (key_eq q) m else None) ≡ lookup (key_eq q) (sets_of names m)
  found_part names = by (is_among names q.name) refl (any_key (flat_map (keys_of_name m) names)) refl
    where
      absent : (o : Option RRset) → lookup (key_eq q) m ≡ o → is_among names q.name ≡ true → any_key (flat_map (keys_of_name m) names) ≡ false → None ≡ o
      absent None e h g = refl
      absent (Some s) e h g = let no : true ≡ false = sym (any_by names h (ap is_some e)) ∙ g in absurd cc

      by : (b : Bool) → is_among names q.name ≡ b → (c : Bool) → any_key (flat_map (keys_of_name m) names) ≡ c
          → (if c then lookup (key_eq q) m else None) ≡ lookup (key_eq q) (sets_of names m)
      by true h true g = sym (found_kept (is_among names) m q h)
      by true h false g = absent (lookup (key_eq q) m) refl h g ∙ sym (found_kept (is_among names) m q h)
      by false h true g = let no : true ≡ false = sym (among_by names g) ∙ h in absurd cc
      by false h false g = sym (none_kept (is_among names) m q h)

pub copied_part : (m made : Sets) (names : List Name) → InOrder m → InOrder made
    → ((q : RrKey) → lookup (key_eq q) made ≡ (if list_any (key_eq q) (flat_map (keys_of_name m) names) then lookup (key_eq q) m else None)) → made ≡ sets_of names m
copied_part m made names o made_in_order h =
    same_entries made (sets_of names m) made_in_order (kept_in_order (is_among names) m o) (λ q. h q ∙ found_part m q names)

-- ---- keys under which another map has none

pub any_lacking : (m other : Sets) (q : RrKey) → list_any (key_eq q) (keys_lacking m other) ≡ (not (is_some (lookup (key_eq q) other)) && is_some (lookup (key_eq q) m))
any_lacking m other q =
    ap (list_any (key_eq q)) (keys_of-filter (λ k. not (is_some (lookup (key_eq k) other))) m)
    ∙ any-filter_same (key_eq q) (λ k. not (is_some (lookup (key_eq k) other))) (not (is_some (lookup (key_eq q) other)))
    (λ k same. ap (λ (x : RrKey). not (is_some (lookup (key_eq x) other))) (sym (key_same q k same))) (keys_of m)
    ∙ ap (λ b. not (is_some (lookup (key_eq q) other)) && b) (sym (is_some-lookup (key_eq q) m))

-- under these keys a zone has none either, where it has of the others what they have
pub lacking_absent : (zone before after : Sets) → ((n : Name) (t : ℕ) → owns after n t ≡ true → set_at before n t ≡ set_at zone n t)
    → (q : RrKey) → list_any (key_eq q) (keys_lacking after before) ≡ true → lookup (key_eq q) zone ≡ None
lacking_absent zone before after part q h =
    let both = sym (any_lacking after before q) ∙ h in
    sym (part q.name q.record_type.0 (and_right (not (is_some (lookup (key_eq q) before))) (is_some (lookup (key_eq q) after)) both))
    ∙ none_of (lookup (key_eq q) before) (not_true (is_some (lookup (key_eq q) before)) (and_left (not (is_some (lookup (key_eq q) before))) (is_some (lookup (key_eq q) after)) both))

-- ---- what is undone

pub undone : (old mid new : Sets) (ks : List RrKey) → InOrder old → InOrder mid → new ≡ without_all mid ks
    → ((q : RrKey) → list_any (key_eq q) ks ≡ true → lookup (key_eq q) old ≡ None) → ((q : RrKey) → list_any (key_eq q) ks ≡ false → lookup (key_eq q) mid ≡ lookup (key_eq q) old)
    → new ≡ old
undone old mid new ks o s is absent others =
    is ∙ same_entries (without_all mid ks) old (sorted_without_all mid ks s) o (λ q. found_without_all mid ks q s ∙ by q (list_any (key_eq q) ks) refl)
  where
    by : (q : RrKey) (b : Bool) → list_any (key_eq q) ks ≡ b → cond b None (lookup (key_eq q) mid) ≡ lookup (key_eq q) old
    by q true h = sym (absent q h)
    by q false h = others q h

-- ---- what is exchanged

-- under a key: what came where none stood, then in the place of others, and nothing where it went
exchanged_by : (a b o : Option RRset) → (is_some a ≡ true → b ≡ o)
    → cond (not (is_some a) && is_some b) None (found_by (if is_some b then a else None) (option_or o (if not (is_some b) && is_some a then a else None)))
    ≡ option_or a (if is_some b then None else o)
exchanged_by (Some a) (Some b) None h = let no : Some b ≡ None = h refl in absurd cc
exchanged_by (Some a) (Some b) (Some s) h = refl
exchanged_by (Some a) None None h = refl
exchanged_by (Some a) None (Some s) h = let no : None ≡ Some s = h refl in absurd cc
exchanged_by None (Some b) o h = refl
exchanged_by None None None h = refl
exchanged_by None None (Some s) h = refl

module _ (old mid whole new before after common : Sets) (ordered : InOrder whole) (part : (n : Name) (t : ℕ) → owns after n t ≡ true → set_at before n t ≡ set_at old n t)
    (is_common : common ≡ filter (λ (e : RrKey × RRset). owns before e.0.name e.0.record_type.0) after)
    (put : (q : RrKey) → lookup (key_eq q) mid ≡ option_or (lookup (key_eq q) old) (if list_any (key_eq q) (keys_lacking after before) then lookup (key_eq q) after else None))
    (replaced : (q : RrKey) → lookup (key_eq q) whole ≡ found_by (lookup (key_eq q) common) (lookup (key_eq q) mid))
    (is : new ≡ without_all whole (keys_lacking before after)) where
  found_common : (q : RrKey) → lookup (key_eq q) common ≡ (if is_some (lookup (key_eq q) before) then lookup (key_eq q) after else None)
  found_common q =
      ap (λ (m : Sets). lookup (key_eq q) m) is_common
      ∙ lookup-filter-keys (key_eq q) (λ k. is_some (lookup (key_eq k) before)) (is_some (lookup (key_eq q) before))
      (λ k same. ap (λ (x : RrKey). is_some (lookup (key_eq x) before)) (sym (key_same q k same))) after

  pub exchanged_all : (n : Name) (t : ℕ) → set_at new n t ≡ option_or (set_at after n t) (if owns before n t then None else set_at old n t)
  exchanged_all n t =
      let q : RrKey = key n t in
      ap (λ (m : Sets). set_at m n t) is
      ∙ found_without_all whole (keys_lacking before after) q ordered
      ∙ ap (λ b. cond b None (lookup (key_eq q) whole)) (any_lacking before after q)
      ∙ ap (cond (not (is_some (lookup (key_eq q) after)) && is_some (lookup (key_eq q) before)) None)
      (replaced q
      ∙ ap (λ (o : Option RRset). found_by o (lookup (key_eq q) mid)) (found_common q)
      ∙ ap (found_by (if owns before n t then set_at after n t else None))
      (put q ∙ ap (λ b. option_or (lookup (key_eq q) old) (if b then lookup (key_eq q) after else None)) (any_lacking after before q)))
      ∙ exchanged_by (lookup (key_eq q) after) (lookup (key_eq q) before) (lookup (key_eq q) old) (part n t)

-- ---- what is put

-- under a key: sets that stand there are known where one comes
pub stands_under : (a : Option RRset) (gone : Bool) (o : Option RRset) → is_some a ≡ true → (if is_some a || gone then o else None) ≡ o
stands_under (Some a) gone o h = refl
stands_under None gone o h = absurd cc

-- and what came takes the place of what stood, or nothing does where it goes
pub put_by : (a : Option RRset) (gone : Bool) (o : Option RRset)
    → option_or a (if is_some (if is_some a || gone then o else None) then None else o) ≡ option_or a (if gone then None else o)
put_by (Some a) gone o = refl
put_by None true None = refl
put_by None true (Some s) = refl
put_by None false o = refl

-- ---- the whole zone

module _ (p : Name → Bool) (old whole : Sets) where
  pub part_stands : (n : Name) (t : ℕ) → owns (kept p whole) n t ≡ true → set_at (kept p old) n t ≡ set_at old n t
  part_stands n t h = by (p n) refl
    where
      by : (b : Bool) → p n ≡ b → set_at (kept p old) n t ≡ set_at old n t
      by true g = found_kept p old (key n t) g
      by false g = let no : true ≡ false = sym h ∙ ap is_some (none_kept p whole (key n t) g) in absurd cc

  abbrev at : Option RRset → Option RRset → RrKey → Option RRset
  at w b q = option_or w (if is_some b then None else lookup (key_eq q) old)

  taken : (w o : Option RRset) → option_or w (if is_some o then None else o) ≡ w
  taken (Some s) o = refl
  taken None None = refl
  taken None (Some s) = refl

  pub is_whole : (new : Sets) → InOrder new → InOrder whole → ((q : RrKey) → p q.name ≡ false → lookup (key_eq q) whole ≡ lookup (key_eq q) old)
      → ((n : Name) (t : ℕ) → set_at new n t ≡ option_or (set_at (kept p whole) n t) (if owns (kept p old) n t then None else set_at old n t)) → new ≡ whole
  is_whole new s o others exchanged = same_entries new whole s o (λ q. exchanged q.name q.record_type.0 ∙ by q (p q.name) refl)
    where
      by : (q : RrKey) (b : Bool) → p q.name ≡ b → at (lookup (key_eq q) (kept p whole)) (lookup (key_eq q) (kept p old)) q ≡ lookup (key_eq q) whole
      by q true g =
          ap (λ (w : Option RRset). at w (lookup (key_eq q) (kept p old)) q) (found_kept p whole q g)
          ∙ ap (λ (b : Option RRset). at (lookup (key_eq q) whole) b q) (found_kept p old q g)
          ∙ taken (lookup (key_eq q) whole) (lookup (key_eq q) old)
      by q false g =
          ap (λ (w : Option RRset). at w (lookup (key_eq q) (kept p old)) q) (none_kept p whole q g)
          ∙ ap (λ (b : Option RRset). at None b q) (none_kept p old q g)
          ∙ sym (others q g)

-- ---- what a call gives

pub given : {A E : Type 0} (r : Result A E) (P Q : A → Type 0) → IfOk r P → ((x : A) → P x → Q x) → IfOk r Q
given (Ok x) P Q h f = f x h
given (Err e) P Q h f = tt
