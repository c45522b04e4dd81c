-- An update makes of the sets of its names what it makes of them alone, and leaves the others
use Rattle.std.proofs.Common.{◌≡◌, ℕ, Bool, true, false, not, ◌||◌, ◌&&◌, ◌==◌, List, [], ◌∷◌, length, map, refl, sym, ap, ◌∙◌, subst, Result, Ok, Err}
use Rattle.std.specs.Prelude.{Option, Some, None, if◌then◌else◌, is_some, unwrap_or, option_and_then, option_map}
use Rattle.std.specs.List.{list_any, AllByRecursion}
use Rattle.std.specs.Map.{lookup}
use Rattle.zone_proto.specs.declared.rdata.RData.{RData}
use Rattle.zone_proto.specs.declared.record.Record.{Record}
use Rattle.zone_proto.specs.declared.rr_key.RrKey.{RrKey}
use Rattle.zone_proto.specs.Data.{type_of}
use Rattle.zone_proto.specs.Keys.{key, key_eq}
use Rattle.zone_proto.specs.Names.{Name, lower}
use Rattle.zone_proto.specs.Sets.{RRset, first_serial, stores}
use Rattle.zone_proto.specs.Stepping.{stepped}
use Rattle.zone_proto.specs.Types.{SOA}
use Rattle.zone_map.specs.Upserts.{clash, clashes}
use Rattle.zone_map.specs.Zones.{Sets, owns, put, set_at, types_at, without}
use Rattle.zone_map.proofs.Stored.{sorted_put, sorted_without}
use Rattle.zone_difference.proofs.Found.{InOrder}
use Rattle.zone_update.specs.Changes.{changes_of}
use Rattle.zone_update.specs.Demands.{demands_of}
use Rattle.zone_update.specs.Entries.{◌>>=◌}
use Rattle.zone_update.specs.Processing.{added, deleted_from, deleted_name, deleted_record, deleted_set, going, is_kept, is_of_apex, made, others, processed, put_or_without, set_of, with_ttl, without_any, without_types}
use Rattle.zone_update.specs.Updates.{finished, run, same_serial, serial_before, updated, with_next_serial, zone_serial, Course}
use Rattle.zone_update.specs.declared.change.Change.{Change}
use Rattle.zone_update.specs.declared.change.Change.TheVariants.{Add, DeleteSet, DeleteName, DeleteRecord}
use Rattle.zone_update.specs.declared.entry.Entry.{Entry}
use Rattle.zone_update.specs.declared.refusal.Refusal.{Refusal}
use Rattle.update_in_place.proofs.Kept.{kept, put_kept, put_passed, found_kept, types_kept, without_kept, without_passed}
use Rattle.update_in_place.proofs.Named.{each_passes, name_of, EachPasses}

-- of a whole, and of the part with the names that pass, a change makes the same there; other sets of the whole stay
pub record IsLocal (p : Name → Bool) (m : Sets) (whole part : Option Sets) : Type 0 where
  pub same : part ≡ option_map (kept p) whole
  pub ordered : InOrder (unwrap_or whole m)
  pub others : (q : RrKey) → p q.name ≡ false → lookup (key_eq q) (unwrap_or whole m) ≡ lookup (key_eq q) m

-- the same of changes one after the other
pub record AreLocal (p : Name → Bool) (m : Sets) (whole part : Course) : Type 0 where
  pub same : part ≡ record { sets = kept p whole.sets; changed = whole.changed }
  pub ordered : InOrder whole.sets
  pub others : (q : RrKey) → p q.name ≡ false → lookup (key_eq q) whole.sets ≡ lookup (key_eq q) m

-- and of an update
pub record IsPartAfter (p : Name → Bool) (m whole part : Sets) : Type 0 where
  pub same : part ≡ kept p whole
  pub ordered : InOrder whole
  pub others : (q : RrKey) → p q.name ≡ false → lookup (key_eq q) whole ≡ lookup (key_eq q) m

-- the names of records pass
abbrev pub Pass : (Name → Bool) → List Entry → Type 0
Pass p rs = AllByRecursion (λ (r : Entry). p (lower r.name) ≡ true) rs

-- the changes of an update, one after the other
abbrev pub begun : Name → Sets → List Change → Course
begun origin m cs = run origin (serial_before origin m) (record { sets = m; changed = false }) cs

module _ (p : Name → Bool) (m : Sets) (ordered : InOrder m) where
  nothing : IsLocal p m None None
  nothing = record { same = refl; ordered = ordered; others = λ q g. refl }

  of_put : (n : Name) (t : ℕ) (s : RRset) → p n ≡ true → IsLocal p m (Some (put m n t s)) (Some (put (kept p m) n t s))
  of_put n t s h = record {
    same = ap Some (sym (put_kept p m (key n t) s ordered h));
    ordered = sorted_put m (key n t) s ordered;
    others = λ q g. put_passed p m (key n t) q s h g;
  }

  of_without : (n : Name) (t : ℕ) → p n ≡ true → IsLocal p m (Some (without m n t)) (Some (without (kept p m) n t))
  of_without n t h = record {
    same = ap Some (sym (without_kept p m (key n t) ordered));
    ordered = sorted_without (key n t) m ordered;
    others = λ q g. without_passed p m (key n t) q ordered h g;
  }

  of_either : (b : Bool) (x y : Option Sets) → IsLocal p m x y → IsLocal p m (if b then None else x) (if b then None else y)
  of_either true x y h = nothing
  of_either false x y h = h

  of_set : (n : Name) (t : ℕ) (s : RRset) → p n ≡ true → IsLocal p m (Some (put_or_without m n t s)) (Some (put_or_without (kept p m) n t s))
  of_set n t s h = by (length s.records == 0)
    where
      by : (b : Bool) → IsLocal p m (Some (if b then without m n t else put m n t s)) (Some (if b then without (kept p m) n t else put (kept p m) n t s))
      by true = of_without n t h
      by false = of_put n t s h

  of_added : (serial : ℕ) (r : Record) → p (lower r.name) ≡ true → IsLocal p m (added serial m r) (added serial (kept p m) r)
  of_added serial r h =
      subst (λ (ts : List ℕ). IsLocal p m (added serial m r)
      (if list_any (clash (type_of r.rdata)) ts then None else option_map (put_or_without (kept p m) (lower r.name) (type_of r.rdata)) (made serial r (set_at (kept p m) (lower r.name) (type_of r.rdata)))))
      (sym (types_kept p m (lower r.name) h))
      (subst (λ (o : Option RRset). IsLocal p m (added serial m r)
      (if clashes m (lower r.name) (type_of r.rdata) then None else option_map (put_or_without (kept p m) (lower r.name) (type_of r.rdata)) (made serial r o)))
      (sym (found_kept p m (key (lower r.name) (type_of r.rdata)) h))
      (of_either (clashes m (lower r.name) (type_of r.rdata)) (option_map (put_or_without m (lower r.name) (type_of r.rdata)) (made serial r (set_at m (lower r.name) (type_of r.rdata))))
      (option_map (put_or_without (kept p m) (lower r.name) (type_of r.rdata)) (made serial r (set_at m (lower r.name) (type_of r.rdata))))
      (by (made serial r (set_at m (lower r.name) (type_of r.rdata))))))
    where
      by : (o : Option RRset) → IsLocal p m (option_map (put_or_without m (lower r.name) (type_of r.rdata)) o) (option_map (put_or_without (kept p m) (lower r.name) (type_of r.rdata)) o)
      by None = nothing
      by (Some s) = of_set (lower r.name) (type_of r.rdata) s h

  of_deleted_set : (origin : Name) (k : RrKey) → p k.name ≡ true → IsLocal p m (deleted_set m origin k) (deleted_set (kept p m) origin k)
  of_deleted_set origin k h =
      subst (λ (o : Option RRset). IsLocal p m (deleted_set m origin k)
      (if is_of_apex origin k.name k.record_type.0 || not (is_some o) then None else Some (without (kept p m) k.name k.record_type.0)))
      (sym (found_kept p m k h))
      (of_either (is_of_apex origin k.name k.record_type.0 || not (owns m k.name k.record_type.0)) (Some (without m k.name k.record_type.0)) (Some (without (kept p m) k.name k.record_type.0))
      (of_without k.name k.record_type.0 h))

  of_deleted_record : (serial : ℕ) (origin n : Name) (d : RData) → p n ≡ true → IsLocal p m (deleted_record serial m origin n d) (deleted_record serial (kept p m) origin n d)
  of_deleted_record serial origin n d h =
      subst (λ (o : Option RRset). IsLocal p m (deleted_record serial m origin n d) (deleted_from serial (kept p m) origin n d o)) (sym (found_kept p m (key n (type_of d)) h))
      (of (set_at m n (type_of d)))
    where
      of : (o : Option RRset) → IsLocal p m (deleted_from serial m origin n d o) (deleted_from serial (kept p m) origin n d o)
      of None = nothing
      of (Some s) =
          of_either (is_kept origin n (type_of d) s || not (stores s.records d))
          (Some (put_or_without m n (type_of d) (set_of s.owner (type_of d) serial (map (with_ttl s.ttl) (others s.records d)))))
          (Some (put_or_without (kept p m) n (type_of d) (set_of s.owner (type_of d) serial (map (with_ttl s.ttl) (others s.records d)))))
          (of_set n (type_of d) (set_of s.owner (type_of d) serial (map (with_ttl s.ttl) (others s.records d))) h)

module _ (p : Name → Bool) where
  of_types : (n : Name) (ts : List ℕ) (m : Sets) → InOrder m → p n ≡ true → IsLocal p m (Some (without_types n m ts)) (Some (without_types n (kept p m) ts))
  of_types n [] m o h = record { same = refl; ordered = o; others = λ q g. refl }
  of_types n (t ∷ ts) m o h =
      let more = of_types n ts (without m n t) (sorted_without (key n t) m o) h in
      record {
        same = ap (λ (x : Sets). Some (without_types n x ts)) (sym (without_kept p m (key n t) o)) ∙ more.same;
        ordered = more.ordered;
        others = λ q g. more.others q g ∙ without_passed p m (key n t) q o h g;
      }

  of_deleted_name : (origin n : Name) (m : Sets) → InOrder m → p n ≡ true → IsLocal p m (deleted_name m origin n) (deleted_name (kept p m) origin n)
  of_deleted_name origin n m o h =
      subst (λ (ts : List ℕ). IsLocal p m (deleted_name m origin n) (without_any n (kept p m) (going origin n ts))) (sym (types_kept p m n h))
      (of_either p m o (length (going origin n (types_at m n)) == 0) (Some (without_types n m (going origin n (types_at m n)))) (Some (without_types n (kept p m) (going origin n (types_at m n))))
      (of_types n (going origin n (types_at m n)) m o h))

  of_change : (serial : ℕ) (origin : Name) (c : Change) (m : Sets) → InOrder m → p (name_of c) ≡ true → IsLocal p m (processed serial m origin c) (processed serial (kept p m) origin c)
  of_change serial origin (Add r) m o h = of_added p m o serial r h
  of_change serial origin (DeleteSet k) m o h = of_deleted_set p m o origin k h
  of_change serial origin (DeleteName n) m o h = of_deleted_name origin n m o h
  of_change serial origin (DeleteRecord n d) m o h = of_deleted_record p m o serial origin n d h

  -- ---- changes one after the other

  abbrev course_after : Bool → Sets → Option Sets → Course
  course_after b m o = record { sets = unwrap_or o m; changed = b || is_some o }

  kept_after : (b : Bool) (m : Sets) (o : Option Sets)
      → course_after b (kept p m) (option_map (kept p) o) ≡ record { sets = kept p (unwrap_or o m); changed = b || is_some o }
  kept_after b m None = refl
  kept_after b m (Some x) = refl

  of_changes : (serial : ℕ) (origin : Name) (cs : List Change) (b : Bool) (m : Sets) → InOrder m → EachPasses p cs
      → AreLocal p m (run origin serial (record { sets = m; changed = b }) cs) (run origin serial (record { sets = kept p m; changed = b }) cs)
  unfolding run
  of_changes serial origin [] b m o h = record { same = refl; ordered = o; others = λ q g. refl }
  of_changes serial origin (c ∷ cs) b m o h =
      let whole : Option Sets = processed serial m origin c in
      let step : IsLocal p m whole (processed serial (kept p m) origin c) = of_change serial origin c m o h.0 in
      let more = of_changes serial origin cs (b || is_some whole) (unwrap_or whole m) step.ordered h.1 in
      record {
        same =
            ap (λ (x : Option Sets). run origin serial (course_after b (kept p m) x) cs) step.same
            ∙ ap (λ (x : Course). run origin serial x cs) (kept_after b m whole)
            ∙ more.same;
        ordered = more.ordered;
        others = λ q g. more.others q g ∙ step.others q g;
      }

  -- ---- the serial

  module _ (origin : Name) (at_origin : p origin ≡ true) where
    abbrev next : RRset → RRset
    next s = record (stepped s) { signatures = [] }

    abbrev put_next : Sets → Option RRset → Sets
    put_next m o = unwrap_or (option_map (λ (s : RRset). put m origin SOA (next s)) o) m

    serial_kept : (m : Sets) → zone_serial origin (kept p m) ≡ zone_serial origin m
    serial_kept m = ap (option_and_then (λ (s : RRset). first_serial s.records)) (found_kept p m (key origin SOA) at_origin)

    of_next : (x m : Sets) → InOrder x → ((q : RrKey) → p q.name ≡ false → lookup (key_eq q) x ≡ lookup (key_eq q) m)
        → IsPartAfter p m (with_next_serial origin x) (with_next_serial origin (kept p x))
    of_next x m o others =
        subst (λ (s : Option RRset). IsPartAfter p m (with_next_serial origin x) (put_next (kept p x) s)) (sym (found_kept p x (key origin SOA) at_origin)) (of (set_at x origin SOA))
      where
        of : (s : Option RRset) → IsPartAfter p m (put_next x s) (put_next (kept p x) s)
        of None = record { same = refl; ordered = o; others = others }
        of (Some s) = record {
          same = sym (put_kept p x (key origin SOA) (next s) o at_origin);
          ordered = sorted_put x (key origin SOA) (next s) o;
          others = λ q g. put_passed p x (key origin SOA) q (next s) at_origin g ∙ others q g;
        }

    pub of_finished : (m : Sets) (whole : Course) → InOrder whole.sets → ((q : RrKey) → p q.name ≡ false → lookup (key_eq q) whole.sets ≡ lookup (key_eq q) m)
        → IsPartAfter p m (finished origin m whole) (finished origin (kept p m) (record { sets = kept p whole.sets; changed = whole.changed }))
    of_finished m whole o others =
        subst (λ (n : Option ℕ). IsPartAfter p m (finished origin m whole)
        (if whole.changed && same_serial n (zone_serial origin (kept p whole.sets)) then with_next_serial origin (kept p whole.sets) else kept p whole.sets))
        (sym (serial_kept m))
        (subst (λ (n : Option ℕ). IsPartAfter p m (finished origin m whole)
        (if whole.changed && same_serial (zone_serial origin m) n then with_next_serial origin (kept p whole.sets) else kept p whole.sets))
        (sym (serial_kept whole.sets))
        (by (whole.changed && same_serial (zone_serial origin m) (zone_serial origin whole.sets))))
      where
        by : (b : Bool) → IsPartAfter p m (if b then with_next_serial origin whole.sets else whole.sets) (if b then with_next_serial origin (kept p whole.sets) else kept p whole.sets)
        by true = of_next whole.sets m o others
        by false = record { same = refl; ordered = o; others = others }

    pub begun_kept : (m : Sets) (cs : List Change) → InOrder m → EachPasses p cs → AreLocal p m (begun origin m cs) (begun origin (kept p m) cs)
    begun_kept m cs o h =
        subst (λ (n : Option ℕ). AreLocal p m (begun origin m cs) (run origin (unwrap_or n 0) (record { sets = kept p m; changed = false }) cs)) (sym (serial_kept m))
        (of_changes (serial_before origin m) origin cs false m o h)

    abbrev made_of : Sets → List Change → Sets
    made_of m cs = finished origin m (begun origin m cs)

    of_all : (m : Sets) (cs : List Change) → InOrder m → EachPasses p cs → IsPartAfter p m (made_of m cs) (made_of (kept p m) cs)
    of_all m cs o h =
        let local = begun_kept m cs o h in
        subst (λ (c : Course). IsPartAfter p m (made_of m cs) (finished origin (kept p m) c)) (sym local.same) (of_finished m (begun origin m cs) local.ordered local.others)

    -- ---- an update without prerequisites

    -- what an update of the part gives is a part of what that of the whole gives
    pub updated_whole : (m part : Sets) (rs : List Entry) → InOrder m → Pass p rs → updated origin (kept p m) [] rs ≡ Ok part
        → (whole : Sets) × (updated origin m [] rs ≡ Ok whole) × IsPartAfter p m whole part
    unfolding demands_of
    updated_whole m part rs o h e = by (changes_of origin rs) refl e
      where
        by : (x : Result (List Change) Refusal) → changes_of origin rs ≡ x → (x >>= λ cs. Ok (made_of (kept p m) cs)) ≡ Ok part
            → (whole : Sets) × ((x >>= λ cs. Ok (made_of m cs)) ≡ Ok whole) × IsPartAfter p m whole part
        by (Err f) k g = absurd cc
        by (Ok cs) k g =
            let same : made_of (kept p m) cs ≡ part = cc in
            (made_of m cs, refl, subst (IsPartAfter p m (made_of m cs)) same (of_all m cs o (each_passes p origin rs cs h k)))

    pub updated_part : (m whole : Sets) (rs : List Entry) → InOrder m → Pass p rs → updated origin m [] rs ≡ Ok whole
        → (part : Sets) × (updated origin (kept p m) [] rs ≡ Ok part) × IsPartAfter p m whole part
    unfolding demands_of
    updated_part m whole rs o h e = by (changes_of origin rs) refl e
      where
        by : (x : Result (List Change) Refusal) → changes_of origin rs ≡ x → (x >>= λ cs. Ok (made_of m cs)) ≡ Ok whole
            → (part : Sets) × ((x >>= λ cs. Ok (made_of (kept p m) cs)) ≡ Ok part) × IsPartAfter p m whole part
        by (Err f) k g = absurd cc
        by (Ok cs) k g =
            let same : made_of m cs ≡ whole = cc in
            (made_of (kept p m) cs, refl, subst (λ (x : Sets). IsPartAfter p m x (made_of (kept p m) cs)) same (of_all m cs o (each_passes p origin rs cs h k)))

    -- and what is refused of the part is refused of the whole
    pub refused_whole : (m : Sets) (rs : List Entry) (f : Refusal) → updated origin (kept p m) [] rs ≡ Err f → updated origin m [] rs ≡ Err f
    unfolding demands_of
    refused_whole m rs f e = by (changes_of origin rs) e
      where
        by : (x : Result (List Change) Refusal) → (x >>= λ cs. Ok (made_of (kept p m) cs)) ≡ Err f → (x >>= λ cs. Ok (made_of m cs)) ≡ Err f
        by (Err e) g = g
        by (Ok cs) g = absurd cc
