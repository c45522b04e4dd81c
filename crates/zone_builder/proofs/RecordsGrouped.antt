-- Records that are put behind others of their set
use Rattle.std.proofs.Common.{◌≡◌, Bool, true, false, cond, not, ◌&&◌, List, [], ◌∷◌, ◌++◌, refl, sym, ap, ◌∙◌}
use Rattle.std.specs.Prelude.{filter}
use Rattle.zone_proto.specs.declared.rr_key.RrKey.{RrKey}
use Rattle.zone_proto.specs.Keys.{key_eq}
use Rattle.zone_proto.specs.Names.{Name, lower, is_at_or_above}
use Rattle.zone_builder.specs.declared.given.GivenRecord.{GivenRecord}
use Rattle.zone_builder.specs.Records.{set_key, is_signature, is_of_set, is_data_of, is_signature_of}

pub append_nil : (xs : List GivenRecord) → xs ++ [] ≡ xs
append_nil [] = refl
append_nil (x ∷ xs) = ap (◌∷◌ x) (append_nil xs)

append_assoc : (xs ys zs : List GivenRecord) → (xs ++ ys) ++ zs ≡ xs ++ (ys ++ zs)
append_assoc [] ys zs = refl
append_assoc (x ∷ xs) ys zs = ap (◌∷◌ x) (append_assoc xs ys zs)

-- a record that passes a test, under a key
pub passing_under : (p c : Bool) (given : GivenRecord) → cond c (cond p (given ∷ []) []) [] ≡ cond (p && c) (given ∷ []) []
passing_under true true given = refl
passing_under true false given = refl
passing_under false true given = refl
passing_under false false given = refl

-- a record at or below the origin is of the set under its key, and one elsewhere of none
module _ (s : Bool) (origin : Name) (k key : RrKey) (g : GivenRecord) (own : key ≡ set_key g.record) where
  within : (b : Bool) → is_at_or_above origin key.name ≡ b → is_at_or_above origin (lower g.record.name) ≡ b
  within b h = ap (λ (x : RrKey). is_at_or_above origin x.name) (sym own) ∙ h

  here : is_at_or_above origin key.name ≡ true → (s && key_eq key k) ≡ (s && is_of_set origin k g)
  unfolding is_of_set
  here h = ap (λ (x : RrKey). s && key_eq x k) own ∙ sym (ap (λ b. s && (b && key_eq (set_key g.record) k)) (within true h))

  and_false : (b : Bool) → (b && false) ≡ false
  and_false true = refl
  and_false false = refl

  elsewhere : is_at_or_above origin key.name ≡ false → false ≡ (s && is_of_set origin k g)
  unfolding is_of_set
  elsewhere h = sym (and_false s) ∙ sym (ap (λ b. s && (b && key_eq (set_key g.record) k)) (within false h))

module _ (origin : Name) (k key : RrKey) (g : GivenRecord) (own : key ≡ set_key g.record) where
  pub data_here : is_at_or_above origin key.name ≡ true → filter (λ (r : GivenRecord). not (is_signature r.record.rdata) && key_eq key k) (g ∷ []) ≡ filter (is_data_of origin k) (g ∷ [])
  unfolding is_data_of
  data_here h = ap (λ b. cond b (g ∷ []) []) (here (not (is_signature g.record.rdata)) origin k key g own h)

  pub signature_here : is_at_or_above origin key.name ≡ true → filter (λ (r : GivenRecord). is_signature r.record.rdata && key_eq key k) (g ∷ []) ≡ filter (is_signature_of origin k) (g ∷ [])
  unfolding is_signature_of
  signature_here h = ap (λ b. cond b (g ∷ []) []) (here (is_signature g.record.rdata) origin k key g own h)

  pub no_data : is_at_or_above origin key.name ≡ false → [] ≡ filter (is_data_of origin k) (g ∷ [])
  unfolding is_data_of
  no_data h = ap (λ b. cond b (g ∷ []) []) (elsewhere (not (is_signature g.record.rdata)) origin k key g own h)

  pub no_signature : is_at_or_above origin key.name ≡ false → [] ≡ filter (is_signature_of origin k) (g ∷ [])
  unfolding is_signature_of
  no_signature h = ap (λ b. cond b (g ∷ []) []) (elsewhere (is_signature g.record.rdata) origin k key g own h)

-- ---- records one after the other

module _ (p : GivenRecord → Bool) where
  first_passes : (g : GivenRecord) (rest : List GivenRecord) → filter p (g ∷ []) ++ filter p rest ≡ filter p (g ∷ rest)
  first_passes g rest = by (p g)
    where
      by : (b : Bool) → cond b (g ∷ []) [] ++ filter p rest ≡ cond b (g ∷ filter p rest) (filter p rest)
      by true = refl
      by false = refl

  -- what passed so far, with one more of those that are left
  pub one_more : (before after left rest : List GivenRecord) (g : GivenRecord) → after ≡ before ++ filter p (g ∷ []) → left ≡ g ∷ rest
      → after ++ filter p rest ≡ before ++ filter p left
  one_more before after left rest g made steps =
      ap (λ xs. xs ++ filter p rest) made ∙ append_assoc before (filter p (g ∷ [])) (filter p rest) ∙ ap (λ xs. before ++ xs) (first_passes g rest)
      ∙ ap (λ xs. before ++ filter p xs) (sym steps)

  pub none_left : (passed left : List GivenRecord) → left ≡ [] → passed ≡ passed ++ filter p left
  none_left passed left e = sym (append_nil passed) ∙ ap (λ xs. passed ++ filter p xs) (sym e)
