-- Names that a change affects, put behind others
use Rattle.std.proofs.Common.{◌≡◌, ◌≢◌, ℕ, suc, ◌+◌, ◌<◌, Bool, true, false, cond, List, [], ◌∷◌, ◌++◌, length, get_or, drop, drop-cons, add-one, refl, sym, ap, ◌∙◌, append_assoc}
use Rattle.std.specs.Prelude.{filter, flat_map}
use Rattle.std.proofs.lemmas.List.{append-nil}
use Rattle.zone_proto.specs.declared.rr_key.RrKey.{RrKey}
use Rattle.zone_proto.specs.Names.{Name, is_above, is_at_or_above, proper_ancestors, suffixes}
use Rattle.zone_map.specs.Zones.{Sets, names_of}
use Rattle.hashed_changes.specs.Affected.{makes_cut}
use Rattle.hashed_changes.specs.AffectedNames.{with_ancestors, affected_by}

module _ (origin : Name) (m : Sets) (k : RrKey) (old : List Name) where
  abbrev found_below : List Name
  found_below = flat_map (with_ancestors origin) (filter (is_at_or_above k.name) (names_of m))

  pub affected_alone : (new : List Name) → makes_cut origin k ≡ false → new ≡ old ++ with_ancestors origin k.name → new ≡ old ++ affected_by origin m k
  affected_alone new h e =
      e
      ∙ ap (λ (ns : List Name). old ++ ns) (sym (append-nil (with_ancestors origin k.name)))
      ∙ sym (ap (λ b. old ++ (with_ancestors origin k.name ++ cond b found_below [])) h)

  pub affected_with : (mid new : List Name) → makes_cut origin k ≡ true → mid ≡ old ++ with_ancestors origin k.name → new ≡ mid ++ flat_map (with_ancestors origin) (filter (is_at_or_above k.name) (names_of m)) → new ≡ old ++ affected_by origin m k
  affected_with mid new h e f =
      f
      ∙ ap (λ (ns : List Name). ns ++ found_below) e
      ∙ append_assoc old (with_ancestors origin k.name) found_below
      ∙ sym (ap (λ b. old ++ (with_ancestors origin k.name ++ cond b found_below [])) h)

module _ (origin n : Name) (old : List Name) where
  pub pushed_below : (new : List Name) → is_above origin n ≡ true → new ≡ old ++ n ∷ [] → new ≡ old ++ filter (is_above origin) (n ∷ [])
  pushed_below new h e = e ∙ sym (ap (λ b. old ++ cond b (n ∷ []) []) h)

  pub not_pushed : (new : List Name) → is_above origin n ≡ false → new ≡ old → new ≡ old ++ filter (is_above origin) (n ∷ [])
  not_pushed new h e = e ∙ sym (append-nil old) ∙ sym (ap (λ b. old ++ cond b (n ∷ []) []) h)

-- ---- the walk up to the root

itself_first : (n : Name) → suffixes n ≡ n ∷ proper_ancestors n
itself_first [] = refl
itself_first (l ∷ ls) = refl

filter_cons : {A : Type 0} (p : A → Bool) (x : A) (xs : List A) → filter p (x ∷ xs) ≡ filter p (x ∷ []) ++ filter p xs
filter_cons p x xs = by (p x)
  where
    by : (b : Bool) → cond b (x ∷ filter p xs) (filter p xs) ≡ cond b (x ∷ []) [] ++ filter p xs
    by true = refl
    by false = refl

pub one_more : (origin n rest : Name) (so_far new whole : List Name) → n ≢ [] → rest ≡ drop 1 n → new ≡ so_far ++ filter (is_above origin) (rest ∷ [])
    → so_far ++ filter (is_above origin) (proper_ancestors n) ≡ whole → new ++ filter (is_above origin) (proper_ancestors rest) ≡ whole
one_more origin [] rest so_far new whole some e made h = absurd (some refl)
one_more origin (l ∷ ls) rest so_far new whole some e made h =
    let is : rest ≡ ls = e in
    ap (λ (ns : List Name). ns ++ filter (is_above origin) (proper_ancestors rest)) made
    ∙ append_assoc so_far (filter (is_above origin) (rest ∷ [])) (filter (is_above origin) (proper_ancestors rest))
    ∙ ap (λ (ns : List Name). so_far ++ ns) (sym (filter_cons (is_above origin) rest (proper_ancestors rest)))
    ∙ ap (λ (ns : List Name). so_far ++ filter (is_above origin) ns) (sym (itself_first rest) ∙ ap suffixes is)
    ∙ h

pub at_root : (origin n : Name) (so_far whole : List Name) → n ≡ [] → so_far ++ filter (is_above origin) (proper_ancestors n) ≡ whole → so_far ≡ whole
at_root origin n so_far whole e h = sym (append-nil so_far) ∙ ap (λ (a : Name). so_far ++ filter (is_above origin) (proper_ancestors a)) (sym e) ∙ h

-- ---- one more of a list

pub one_more_made : {A B : Type 0} (f : A → List B) (xs : List A) (i : ℕ) (x : A) (so_far new whole : List B) → i < length xs → x ≡ get_or xs i x → new ≡ so_far ++ f x
    → so_far ++ flat_map f (drop i xs) ≡ whole → new ++ flat_map f (drop (i + 1) xs) ≡ whole
one_more_made {A} {B} f xs i x so_far new whole lt is made h = rw add-one (
    ap (λ (ys : List B). ys ++ flat_map f (drop (suc i) xs)) made
    ∙ append_assoc so_far (f x) (flat_map f (drop (suc i) xs))
    ∙ ap (λ (ys : List A). so_far ++ flat_map f ys) (ap (λ (y : A). y ∷ drop (suc i) xs) is ∙ sym (drop-cons xs i x lt))
    ∙ h)
