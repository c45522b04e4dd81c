-- Copies of sets, under the keys where none stand
use Rattle.std.proofs.Common.{◌≡◌, ℕ, ◌<◌, Bool, true, false, List, [], ◌∷◌, length, get_or, refl, sym, ap, ◌∙◌}
use Rattle.std.specs.Prelude.{Option, Some, None, if◌then◌else◌, is_some, fold, ◌||◌}
use Rattle.std.specs.List.{list_any}
use Rattle.std.specs.Map.{lookup}
use Rattle.std.specs.Option.{option_or}
use Rattle.zone_proto.specs.declared.rr_key.RrKey.{RrKey}
use Rattle.zone_proto.specs.Keys.{key_eq}
use Rattle.zone_proto.specs.Sets.{RRset}
use Rattle.zone_proto.proofs.Members.{any_from_In, Contains-In}
use Rattle.zone_proto.proofs.Ordering.KeyOrder.{key_same}
use Rattle.zone_map.specs.Zones.{Sets, put}
use Rattle.zone_map.proofs.Stored.{put_apart}
use Rattle.update_in_place.specs.Parts.{put_if, with_copy}
use Rattle.update_in_place.proofs.Kept.{put_found}

module _ (from : Sets) (q : RrKey) where
  -- what is to be found where some keys were gone through
  abbrev found_by : Bool → Option RRset → Option RRset
  found_by b o = option_or o (if b then lookup (key_eq q) from else None)

  not_any : (b : Bool) (o : Option RRset) → b ≡ false → o ≡ found_by b o
  not_any b None h = sym (ap (λ c. if c then lookup (key_eq q) from else None) h)
  not_any b (Some s) h = refl

  found_one : (m : Sets) (k : RrKey) → lookup (key_eq q) (with_copy from m k) ≡ found_by (key_eq q k) (lookup (key_eq q) m)
  found_one m k = by (key_eq q k) refl (lookup (key_eq k) m) refl (lookup (key_eq k) from) refl
    where
      by : (b : Bool) → key_eq q k ≡ b → (o : Option RRset) → lookup (key_eq k) m ≡ o → (f : Option RRset) → lookup (key_eq k) from ≡ f
          → lookup (key_eq q) (if is_some o then m else put_if m k f) ≡ found_by b (lookup (key_eq q) m)
      by true e (Some s) g f j =
          let stands : lookup (key_eq q) m ≡ Some s = ap (λ (x : RrKey). lookup (key_eq x) m) (key_same q k e) ∙ g in
          stands ∙ sym (ap (found_by true) stands)
      by true e None g None j =
          let absent : lookup (key_eq q) m ≡ None = ap (λ (x : RrKey). lookup (key_eq x) m) (key_same q k e) ∙ g in
          let lacks : lookup (key_eq q) from ≡ None = ap (λ (x : RrKey). lookup (key_eq x) from) (key_same q k e) ∙ j in
          absent ∙ sym (ap (found_by true) absent ∙ lacks)
      by true e None g (Some s) j =
          let absent : lookup (key_eq q) m ≡ None = ap (λ (x : RrKey). lookup (key_eq x) m) (key_same q k e) ∙ g in
          let has : lookup (key_eq q) from ≡ Some s = ap (λ (x : RrKey). lookup (key_eq x) from) (key_same q k e) ∙ j in
          ap (λ (x : RrKey). lookup (key_eq x) (put m k.name k.record_type.0 s)) (key_same q k e)
          ∙ put_found m k s
          ∙ sym (ap (found_by true) absent ∙ has)
      by false e (Some s) g f j = not_any false (lookup (key_eq q) m) refl
      by false e None g None j = not_any false (lookup (key_eq q) m) refl
      by false e None g (Some s) j = put_apart m k q s e ∙ not_any false (lookup (key_eq q) m) refl

  pub copy_apart : (m : Sets) (k : RrKey) → key_eq q k ≡ false → lookup (key_eq q) (with_copy from m k) ≡ lookup (key_eq q) m
  copy_apart m k h = found_one m k ∙ sym (not_any (key_eq q k) (lookup (key_eq q) m) h)

  pub both : (b c : Bool) (o : Option RRset) → found_by c (found_by b o) ≡ found_by (b || c) o
  both true true o = by o (lookup (key_eq q) from)
    where
      by : (o f : Option RRset) → option_or (option_or o f) f ≡ option_or o f
      by (Some s) f = refl
      by None None = refl
      by None (Some s) = refl
  both true false o = sym (not_any false (found_by true o) refl)
  both false true None = refl
  both false true (Some s) = refl
  both false false None = refl
  both false false (Some s) = refl

  pub found_copies : (m : Sets) (ks : List RrKey) → lookup (key_eq q) (fold (with_copy from) m ks) ≡ found_by (list_any (key_eq q) ks) (lookup (key_eq q) m)
  found_copies m [] = not_any false (lookup (key_eq q) m) refl
  found_copies m (k ∷ ks) =
      found_copies (with_copy from m k) ks
      ∙ ap (found_by (list_any (key_eq q) ks)) (found_one m k)
      ∙ both (key_eq q k) (list_any (key_eq q) ks) (lookup (key_eq q) m)

-- a key that isn't among some is none of these
pub not_here : (q : RrKey) (ks : List RrKey) (i : ℕ) (k : RrKey) → i < length ks → k ≡ get_or ks i k → list_any (key_eq q) ks ≡ false → key_eq q k ≡ false
not_here q ks i k lt is none = by (key_eq q k) refl
  where
    by : (b : Bool) → key_eq q k ≡ b → b ≡ false
    by true e = sym (any_from_In (key_eq q) k ks (Contains-In k ks (i, lt, sym is)) e) ∙ none
    by false e = refl
