-- Where no warning is of a record that is left out, none is
use Rattle.std.proofs.Common.{◌≡◌, Bool, true, false, cond, not, ◌||◌, List, [], ◌∷◌, refl, sym, ap, ◌∙◌, subst, true≢false, inl, inr}
use Rattle.std.specs.Prelude.{map, filter, Some, None}
use Rattle.std.specs.List.{find, flat_map, list_any, AllByRecursion}
use Rattle.std.proofs.lemmas.List.Concat.{flat_map-cons}
use Rattle.std.proofs.lemmas.List.Folds.{list_any-append}
use Rattle.zone_proto.specs.declared.record.Record.{Record}
use Rattle.zone_proto.specs.declared.rr_key.RrKey.{RrKey}
use Rattle.zone_proto.specs.Keys.{key, key_eq}
use Rattle.zone_proto.specs.Names.{Name, is_at_or_above, lower}
use Rattle.zone_proto.proofs.Members.{In, In-from_any}
use Rattle.zone_proto.proofs.Ordering.KeyOrder.{key_same}
use Rattle.zone_builder.specs.declared.given.GivenRecord.{GivenRecord}
use Rattle.zone_builder.specs.declared.warning.LoadWarning.{LoadWarning}
use Rattle.zone_builder.specs.Records.{given_at, signing_at}
use Rattle.zone_builder.specs.Warnings.{is_outside, nothing_warning, outside_warning, outside_warnings, set_warnings, AreWarnings}
use Rattle.transferred_zones.specs.TransferredZones.{given, given_of, is_left_out, AreAllOfZone}

-- ---- tests of lists

left_none : (a b : Bool) → a || b ≡ false → a ≡ false
left_none true b e = absurd (true≢false e)
left_none false b e = refl

right_none : (a b : Bool) → a || b ≡ false → b ≡ false
right_none true b e = absurd (true≢false e)
right_none false b e = e

module _ {X : Type 0} (p : X → Bool) where
  pub none_found : (xs : List X) → find p xs ≡ None → list_any p xs ≡ false
  none_found [] h = refl
  none_found (x ∷ xs) h = by (p x) h (none_found xs)
    where
      some_none : (y : X) → Some y ≡ None → ⊥
      some_none y e = cc

      by : (b : Bool) → cond b (Some x) (find p xs) ≡ None → (find p xs ≡ None → list_any p xs ≡ false) → b || list_any p xs ≡ false
      by true e more = absurd (some_none x e)
      by false e more = more e

  -- none among the elements of lists one behind the other is none among those of one of them
  none_in : {K : Type 0} (f : K → List X) (k : K) (ks : List K) → In k ks → list_any p (flat_map f ks) ≡ false → list_any p (f k) ≡ false
  none_in f k [] i h = absurd i
  none_in f k (q ∷ ks) i h = by i (λ j rest. none_in f k ks j rest)
    where
      parts : list_any p (f q) || list_any p (flat_map f ks) ≡ false
      parts = sym (list_any-append p (f q) (flat_map f ks)) ∙ ap (list_any p) (sym (flat_map-cons f q ks)) ∙ h

      by : In k (q ∷ ks) → (In k ks → list_any p (flat_map f ks) ≡ false → list_any p (f k) ≡ false) → list_any p (f k) ≡ false
      by (inl e) more = ap (λ x. list_any p (f x)) (sym e) ∙ left_none (list_any p (f q)) (list_any p (flat_map f ks)) parts
      by (inr j) more = more j (right_none (list_any p (f q)) (list_any p (flat_map f ks)) parts)

-- ---- warnings

inside_from : (origin : Name) (rs : List Record) → list_any is_left_out (outside_warnings origin (given rs)) ≡ false
    → AllByRecursion (λ (r : Record). is_at_or_above origin (lower r.name) ≡ true) rs
inside_from origin [] h = tt
inside_from origin (r ∷ rs) h = by (is_at_or_above origin (lower r.name)) refl h (inside_from origin rs)
  where
    rest : List GivenRecord
    rest = filter (is_outside origin) (given rs)

    by : (b : Bool) → is_at_or_above origin (lower r.name) ≡ b → list_any is_left_out (map outside_warning (cond (not b) (given_of r ∷ rest) rest)) ≡ false
        → (list_any is_left_out (map outside_warning rest) ≡ false → AllByRecursion (λ (x : Record). is_at_or_above origin (lower x.name) ≡ true) rs)
        → AllByRecursion (λ (x : Record). is_at_or_above origin (lower x.name) ≡ true) (r ∷ rs)
    by true e none more = (e, more none)
    by false e none more = absurd (true≢false none)

none_signing : (gs : List GivenRecord) → list_any is_left_out (map nothing_warning gs) ≡ false → gs ≡ []
none_signing [] h = refl
none_signing (g ∷ gs) h = absurd (true≢false h)

module _ (origin : Name) (rs : List Record) (ws : List LoadWarning) (are : AreWarnings origin (given rs) ws) (none : find is_left_out ws ≡ None) where
  warnings_at : RrKey → List LoadWarning
  warnings_at k = set_warnings (given_at origin (given rs) k.name k.record_type.0) (signing_at origin (given rs) k.name k.record_type.0)

  parts : list_any is_left_out (outside_warnings origin (given rs)) || list_any is_left_out (flat_map warnings_at are.keys) ≡ false
  unfolding warnings_at
  parts =
      sym (list_any-append is_left_out (outside_warnings origin (given rs)) (flat_map warnings_at are.keys)) ∙ ap (list_any is_left_out) (sym are.are)
      ∙ none_found is_left_out ws none

  signed : (k : RrKey) → given_at origin (given rs) k.name k.record_type.0 ≡ [] → signing_at origin (given rs) k.name k.record_type.0 ≡ []
  unfolding warnings_at
  signed k h = by (list_any (key_eq k) are.keys) refl
    where
      by : (b : Bool) → list_any (key_eq k) are.keys ≡ b → signing_at origin (given rs) k.name k.record_type.0 ≡ []
      by false e = (are.all k e).1
      by true e =
          let found = In-from_any (key_eq k) are.keys e in
          let same : found.0 ≡ k = sym (key_same k found.0 found.2) in
          let here : In k are.keys = subst (λ q. In q are.keys) same found.1 in
          let quiet : list_any is_left_out (warnings_at k) ≡ false =
          none_in is_left_out warnings_at k are.keys here (right_none _ (list_any is_left_out (flat_map warnings_at are.keys)) parts) in
          none_signing _ (sym (ap (λ gs. list_any is_left_out (set_warnings gs (signing_at origin (given rs) k.name k.record_type.0))) h) ∙ quiet)

  pub none_left_out : AreAllOfZone origin rs
  none_left_out = record {
    inside = inside_from origin rs (left_none _ (list_any is_left_out (flat_map warnings_at are.keys)) parts);
    signed = λ n t h. signed (key n t) h;
  }
