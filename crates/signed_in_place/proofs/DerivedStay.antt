-- While the changes of an update are made, each set stays whose type is made where a zone is signed
use Rattle.std.proofs.Common.{◌≡◌, ℕ, Bool, true, false, not, ◌&&◌, ◌||◌, ◌==◌, List, [], ◌∷◌, length, refl, sym, ap, ◌∙◌, subst, inl, inr, true≢false, eqb-true, Result, Ok, Err}
use Rattle.std.specs.Prelude.{Option, Some, None, if◌then◌else◌, is_some, option_map, unwrap_or}
use Rattle.std.specs.List.{list_all, AllByRecursion}
use Rattle.zone_proto.specs.declared.rr_key.RrKey.{RrKey}
use Rattle.zone_proto.specs.Data.{type_of}
use Rattle.zone_proto.specs.Keys.{key, key_eq}
use Rattle.zone_proto.specs.Names.{Name, lower}
use Rattle.zone_proto.specs.Sets.{RRset}
use Rattle.zone_proto.specs.Stepping.{stepped}
use Rattle.zone_proto.specs.Types.{SOA, is_derived}
use Rattle.zone_proto.proofs.Members.{In, In-from_filter, and_left, and_right, not_true}
use Rattle.zone_proto.proofs.Ordering.KeyOrder.{key_same}
use Rattle.zone_map.specs.Zones.{Sets, put, set_at, types_at, without}
use Rattle.zone_map.proofs.Stored.{put_apart}
use Rattle.zone_update.specs.Changes.{change_by_class, change_of, changes_of}
use Rattle.zone_update.specs.Demands.{met}
use Rattle.zone_update.specs.Entries.{◌>>=◌, is_in_zone}
use Rattle.zone_update.specs.Processing.{added, deleted_name, deleted_record, deleted_set, goes, going, is_of_apex, processed, without_types}
use Rattle.zone_update.specs.Updates.{finished, run, same_serial, serial_before, with_next_serial, zone_serial, Course}
use Rattle.zone_update.specs.declared.change.Change.{Change}
use Rattle.zone_update.specs.declared.change.Change.TheVariants.{Add, DeleteSet, DeleteName, DeleteRecord}
use Rattle.zone_update.specs.declared.entry.Entry.{Entry}
use Rattle.zone_update.specs.declared.refusal.Refusal.{Refusal}
use Rattle.zone_update.specs.declared.refusal.Refusal.TheVariants.{NotZone, Refused}
use Rattle.update_permission.specs.Permissions.{type_about}
use Rattle.update_permission.proofs.About.{about, IsAbout}
use Rattle.update_permission.proofs.Apart.{by_addition, by_deletion, by_record_deletion, taken_out, DiffersAt}
use Rattle.signed_in_place.specs.ChainLaws.{DerivedSetsStay, IsOfItsType}
use Rattle.signed_in_place.specs.Updates.{is_of_its_type}

-- the test whether records have data of their types
pub each_of_its_type : (rs : List Entry) → list_all is_of_its_type rs ≡ true → AllByRecursion IsOfItsType rs
each_of_its_type [] h = tt
each_of_its_type (r ∷ rs) h = (
  eqb-true (type_about r) r.record_type.0 (and_left (is_of_its_type r) (list_all is_of_its_type rs) h),
  each_of_its_type rs (and_right (is_of_its_type r) (list_all is_of_its_type rs) h),
)

-- what there is only one of
taken : (xs ys : List Change) (r : Result (List Change) Refusal) → r ≡ Ok xs → r ≡ Ok ys → xs ≡ ys
taken xs ys r e f = cc

-- what is made of a record isn't about a type that is made where a zone is signed
asked : (origin : Name) (r : Entry) (d : Change) → change_of origin r ≡ Ok d → is_derived r.record_type.0 ≡ false
asked origin r d p = by (not (is_in_zone origin r.name)) (change_by_class (lower r.name) r) (is_derived r.record_type.0) p
  where
    by : (b : Bool) (o : Result Change Refusal) (e : Bool) → (if b then Err NotZone else (o >>= λ c. if e then Err Refused else Ok c)) ≡ Ok d → e ≡ false
    by true o e h = absurd cc
    by false (Err f) e h = absurd cc
    by false (Ok c) true h = absurd cc
    by false (Ok c) false h = refl

module _ (origin : Name) (n : Name) (u : ℕ) (derived : is_derived u ≡ true) where
  apart : (a : Name) (t : ℕ) → is_derived t ≡ false → key_eq (key n u) (key a t) ≡ false
  apart a t h = by (key_eq (key n u) (key a t)) refl
    where
      by : (b : Bool) → key_eq (key n u) (key a t) ≡ b → b ≡ false
      by true e = absurd (true≢false (sym derived ∙ ap (λ (k : RrKey). is_derived k.record_type.0) (key_same (key n u) (key a t) e) ∙ h))
      by false e = refl

  one : (a : Name) (t : ℕ) (c d : Sets) → is_derived t ≡ false → DiffersAt a t c d → set_at d n u ≡ set_at c n u
  one a t c d h differs = differs n u (apart a t h)

  -- ---- all sets of a name

  gone : (a : Name) (c : Sets) (ts : List ℕ) → ((t : ℕ) → In t ts → is_derived t ≡ false) → set_at (without_types a c ts) n u ≡ set_at c n u
  gone a c [] h = refl
  gone a c (t ∷ ts) h = gone a (without c a t) ts (λ v i. h v (inr i)) ∙ one a t c (without c a t) (h t (inl refl)) (taken_out c a t)

  none_goes : (a : Name) (c : Sets) (t : ℕ) → In t (going origin a (types_at c a)) → is_derived t ≡ false
  none_goes a c t i =
      let r = In-from_filter (goes origin a) t (types_at c a) i in
      not_true (is_derived t) (and_right (not (is_of_apex origin a t)) (not (is_derived t)) r.1)

  name_gone : (a : Name) (c : Sets) → set_at (unwrap_or (deleted_name c origin a) c) n u ≡ set_at c n u
  name_gone a c = by (length (going origin a (types_at c a)) == 0)
    where
      by : (b : Bool) → set_at (unwrap_or (if b then None else Some (without_types a c (going origin a (types_at c a)))) c) n u ≡ set_at c n u
      by true = refl
      by false = gone a c (going origin a (types_at c a)) (none_goes a c)

  -- ---- each change

  step : (serial : ℕ) (c : Sets) (r : Entry) (d : Change) → IsAbout r d → is_derived r.record_type.0 ≡ false → IsOfItsType r → set_at (unwrap_or (processed serial c origin d) c) n u ≡ set_at c n u
  step serial c r d is free own = by d is
    where
      plain : is_derived (type_about r) ≡ false
      plain = ap is_derived own ∙ free

      by : (d : Change) → IsAbout r d → set_at (unwrap_or (processed serial c origin d) c) n u ≡ set_at c n u
      by (Add x) (single, named, typed) = one (lower x.name) (type_of x.rdata) c (unwrap_or (added serial c x) c) (ap is_derived typed ∙ plain) (by_addition serial c x)
      by (DeleteSet k) (single, same) =
          one k.name k.record_type.0 c (unwrap_or (deleted_set c origin k) c) (ap (λ (j : RrKey). is_derived j.record_type.0) same ∙ plain) (by_deletion c origin k)
      by (DeleteName a) (all, name) = name_gone a c
      by (DeleteRecord a e) (single, named, typed) =
          one a (type_of e) c (unwrap_or (deleted_record serial c origin a e) c) (ap is_derived typed ∙ plain) (by_record_deletion serial c origin a e)

  -- and all of them
  run_keeps : (serial : ℕ) (rs : List Entry) (cs : List Change) (c : Course) → changes_of origin rs ≡ Ok cs → AllByRecursion IsOfItsType rs → set_at (run origin serial c cs).sets n u ≡ set_at c.sets n u
  unfolding changes_of run
  run_keeps serial [] cs c h own = subst (λ (xs : List Change). set_at (run origin serial c xs).sets n u ≡ set_at c.sets n u) (taken [] cs (changes_of origin []) refl h) refl
  run_keeps serial (r ∷ rs) cs c h own = by (change_of origin r) refl (changes_of origin rs) refl h (run_keeps serial rs)
    where
      by : (o : Result Change Refusal) → change_of origin r ≡ o → (os : Result (List Change) Refusal) → changes_of origin rs ≡ os
          → (o >>= λ d. os >>= λ ds. Ok (d ∷ ds)) ≡ Ok cs
          → ((ds : List Change) (d : Course) → changes_of origin rs ≡ Ok ds → AllByRecursion IsOfItsType rs → set_at (run origin serial d ds).sets n u ≡ set_at d.sets n u)
          → set_at (run origin serial c cs).sets n u ≡ set_at c.sets n u
      by (Err e) p os q g rest = absurd cc
      by (Ok d) p (Err e) q g rest = absurd cc
      by (Ok d) p (Ok ds) q g rest =
          subst (λ (xs : List Change). set_at (run origin serial c xs).sets n u ≡ set_at c.sets n u) (taken (d ∷ ds) cs (Ok (d ∷ ds)) refl g)
          (rest ds (record { sets = unwrap_or (processed serial c.sets origin d) c.sets; changed = c.changed || is_some (processed serial c.sets origin d) }) q own.1
          ∙ step serial c.sets r d (about r origin d p) (asked origin r d p) own.0)

  -- ---- the next serial

  serial_keeps : (m : Sets) → set_at (with_next_serial origin m) n u ≡ set_at m n u
  serial_keeps m = by (set_at m origin SOA)
    where
      by : (o : Option RRset) → set_at (unwrap_or (option_map (λ (s : RRset). put m origin SOA (record (stepped s) { signatures = [] })) o) m) n u ≡ set_at m n u
      by None = refl
      by (Some s) = put_apart m (key origin SOA) (key n u) (record (stepped s) { signatures = [] }) (apart origin SOA refl)

  end_keeps : (before : Sets) (c : Course) → set_at (finished origin before c) n u ≡ set_at c.sets n u
  end_keeps before c = by (c.changed && same_serial (zone_serial origin before) (zone_serial origin c.sets))
    where
      by : (b : Bool) → set_at (if b then with_next_serial origin c.sets else c.sets) n u ≡ set_at c.sets n u
      by true = serial_keeps c.sets
      by false = refl

pub derived_sets_stay : DerivedSetsStay
derived_sets_stay origin m after prerequisites changes own e n u derived = by (met origin m prerequisites) (changes_of origin changes) refl e
  where
    by : {A : Type 0} (o : Result A Refusal) (os : Result (List Change) Refusal) → changes_of origin changes ≡ os
        → (o >>= λ _. os >>= λ cs. Ok (finished origin m (run origin (serial_before origin m) (record { sets = m; changed = false }) cs))) ≡ Ok after → set_at after n u ≡ set_at m n u
    by (Err f) os q h = absurd cc
    by (Ok a) (Err f) q h = absurd cc
    by (Ok a) (Ok cs) q h =
        let same : finished origin m (run origin (serial_before origin m) (record { sets = m; changed = false }) cs) ≡ after = cc in
        sym (ap (λ (x : Sets). set_at x n u) same)
        ∙ end_keeps origin n u derived m (run origin (serial_before origin m) (record { sets = m; changed = false }) cs)
        ∙ run_keeps origin n u derived (serial_before origin m) changes cs (record { sets = m; changed = false }) q own
