-- Warnings one after the other
use Rattle.std.proofs.Common.{◌≡◌, ℕ, ◌+◌, ◌<◌, Bool, true, false, cond, List, [], ◌∷◌, ◌++◌, length, refl, sym, ap, subst, ◌∙◌, ◌||◌, append_assoc, arith, true≢false}
use Rattle.std.specs.Prelude.{map, filter, Option, Some, None, IsSome, option_to_list, unwrap_or, Result, Ok, Err, OnOk}
use Rattle.std.specs.List.{AllByRecursion, flat_map, list_any}
use Rattle.std.specs.List.Sorted.{IsStrictlySortedBy}
use Rattle.std.specs.Map.{keys_of, lookup}
use Rattle.std.specs.Option.{option_map_or}
use Rattle.zone_proto.specs.declared.rr_key.RrKey.{RrKey}
use Rattle.zone_proto.specs.Keys.{key_cmp, key_eq}
use Rattle.zone_proto.specs.Names.{Name}
use Rattle.zone_builder.specs.declared.given.GivenRecord.{GivenRecord}
use Rattle.zone_builder.specs.declared.warning.LoadWarning.{LoadWarning}
use Rattle.zone_builder.specs.declared.groups.Group.{Group}
use Rattle.zone_builder.specs.Groups.{Groups, group_warnings, records_in, signatures_in}
use Rattle.zone_builder.specs.Records.{is_data_of, is_signature_of, given_at, signing_at}
use Rattle.zone_builder.specs.Repeats.{flagged, unflagged}
use Rattle.zone_builder.specs.Warnings.{is_outside, outside_warning, outside_warnings, set_warnings, AreWarnings}
use Rattle.zone_builder.proofs.KeysFound.{entries_found}

-- ---- records of which it is said whether they repeat others

none_flagged : (gs : List GivenRecord) → flagged gs [] ≡ []
none_flagged [] = refl
none_flagged (g ∷ gs) = refl

module _ (g : GivenRecord) (rest : List GivenRecord) (flags more : List Bool) where
  -- what is said of one more, and then of the rest
  pub record IsParted (b : Bool) : Type 0 where
    pub kept : unflagged (g ∷ rest) flags ≡ cond b (unflagged rest more) (g ∷ unflagged rest more)
    pub told : flagged (g ∷ rest) flags ≡ cond b (g ∷ flagged rest more) (flagged rest more)

  pub one_parted : (o : Option Bool) → flags ≡ option_to_list o ++ more → (o ≡ None → more ≡ []) → IsParted (unwrap_or o false)
  one_parted (Some b) e none = record { kept = ap (unflagged (g ∷ rest)) e; told = ap (flagged (g ∷ rest)) e }
  one_parted None e none =
      let out : flags ≡ [] = e ∙ none refl in
      record {
        kept = ap (unflagged (g ∷ rest)) out ∙ ap (λ fs. g ∷ unflagged rest fs) (sym (none refl));
        told = ap (flagged (g ∷ rest)) out ∙ sym (none_flagged rest) ∙ ap (flagged rest) (sym (none refl));
      }

-- a list that gave nothing has nothing left
pub run_out : (o : Option Bool) (before after : ℕ) → (0 < before → IsSome o) → after + length (option_to_list o) ≡ before → o ≡ None → after ≡ 0
run_out o before after some count none =
    let not_some : 0 < before → ⊥ = λ more. no_value (subst IsSome none (some more)) in
    let none_given : length (option_to_list o) ≡ 0 = ap (λ x. length (option_to_list x)) none in
    omega (arith, not_some, none_given, count)
  where
    no_value : IsSome {T = Bool} None → ⊥
    no_value h = true≢false (sym h)

-- ---- records outside of the zone

module _ (origin : Name) where
  first_outside : (g : GivenRecord) (rest : List GivenRecord) → outside_warnings origin (g ∷ []) ++ outside_warnings origin rest ≡ outside_warnings origin (g ∷ rest)
  first_outside g rest = by (is_outside origin g)
    where
      by : (b : Bool) → map outside_warning (cond b (g ∷ []) []) ++ outside_warnings origin rest ≡ map outside_warning (cond b (g ∷ filter (is_outside origin) rest) (filter (is_outside origin) rest))
      by true = refl
      by false = refl

  -- the warnings so far, with that of one more of the records that are left
  pub outside_more : (before after : List LoadWarning) (left rest : List GivenRecord) (g : GivenRecord) → after ≡ before ++ outside_warnings origin (g ∷ []) → left ≡ g ∷ rest
      → after ++ outside_warnings origin rest ≡ before ++ outside_warnings origin left
  outside_more before after left rest g made steps =
      ap (λ ws. ws ++ outside_warnings origin rest) made ∙ append_assoc before (outside_warnings origin (g ∷ [])) (outside_warnings origin rest)
      ∙ ap (λ ws. before ++ ws) (first_outside g rest) ∙ ap (λ gs. before ++ outside_warnings origin gs) (sym steps)

-- ---- the sets of groups

-- the warnings so far, with those of one more of the groups that are left
pub groups_warned : (before after : List LoadWarning) (e : RrKey × Group) (rest left : List (RrKey × Group)) → after ≡ before ++ set_warnings e.1.records.items e.1.signatures.items → left ≡ e ∷ rest
    → after ++ flat_map group_warnings rest ≡ before ++ flat_map group_warnings left
groups_warned before after e rest left made steps =
    ap (λ ws. ws ++ flat_map group_warnings rest) made ∙ append_assoc before (group_warnings e) (flat_map group_warnings rest) ∙ ap (λ es. before ++ flat_map group_warnings es) (sym steps)

-- what holds in any case
pub on_ok_always : {T E : Type 0} {P : Type 0} (r : Result T E) → P → OnOk r P
on_ok_always (Ok x) h = h
on_ok_always (Err e) h = tt

-- ---- what is told of all sets, by the records that are given

module _ (origin : Name) (gs : List GivenRecord) (groups : Groups)
    (own : (k : RrKey) → records_in groups k ≡ filter (is_data_of origin k) gs) (signing : (k : RrKey) → signatures_in groups k ≡ filter (is_signature_of origin k) gs) where
  -- of the set under a key
  abbrev pub told_at : RrKey → List LoadWarning
  told_at k = set_warnings (given_at origin gs k.name k.record_type.0) (signing_at origin gs k.name k.record_type.0)

  told_here : (e : RrKey × Group) → lookup (key_eq e.0) groups ≡ Some e.1 → group_warnings e ≡ told_at e.0
  told_here e found =
      let records : e.1.records.items ≡ filter (is_data_of origin e.0) gs = sym (ap (λ o. option_map_or (λ (g : Group). g.records.items) o []) found) ∙ own e.0 in
      let signatures : e.1.signatures.items ≡ filter (is_signature_of origin e.0) gs = sym (ap (λ o. option_map_or (λ (g : Group). g.signatures.items) o []) found) ∙ signing e.0 in
      ap (λ xs. set_warnings xs e.1.signatures.items) records ∙ ap (set_warnings (given_at origin gs e.0.name e.0.record_type.0)) signatures

  told_of_all : (es : List (RrKey × Group)) → AllByRecursion (λ (e : RrKey × Group). lookup (key_eq e.0) groups ≡ Some e.1) es → flat_map group_warnings es ≡ flat_map told_at (keys_of es)
  told_of_all [] found = refl
  told_of_all (e ∷ es) found = ap (λ ws. ws ++ flat_map group_warnings es) (told_here e found.0) ∙ ap (λ ws. told_at e.0 ++ ws) (told_of_all es found.1)

  not_there : (k : RrKey) (es : List (RrKey × Group)) → list_any (key_eq k) (keys_of es) ≡ false → lookup (key_eq k) es ≡ None
  not_there k [] h = refl
  not_there k (e ∷ es) h = by (key_eq k e.0) h (not_there k es)
    where
      by : (b : Bool) → (b || list_any (key_eq k) (keys_of es)) ≡ false → (list_any (key_eq k) (keys_of es) ≡ false → lookup (key_eq k) es ≡ None) → cond b (Some e.1) (lookup (key_eq k) es) ≡ None
      by true h rest = absurd (true≢false h)
      by false h rest = rest h

  pub all_told : IsStrictlySortedBy key_cmp (keys_of groups) → (first all : List LoadWarning) → first ≡ outside_warnings origin gs → all ≡ first ++ flat_map group_warnings groups → AreWarnings origin gs all
  all_told sorted first all outside told = record {
    keys = keys_of groups;
    ascend = sorted;
    all = λ k h.
        let none : lookup (key_eq k) groups ≡ None = not_there k groups h in (
          sym (own k) ∙ ap (λ o. option_map_or (λ (g : Group). g.records.items) o []) none,
          sym (signing k) ∙ ap (λ o. option_map_or (λ (g : Group). g.signatures.items) o []) none,
        );
    are = told ∙ ap (λ ws. ws ++ flat_map group_warnings groups) outside ∙ ap (λ ws. outside_warnings origin gs ++ ws) (told_of_all groups (entries_found groups sorted));
  }
