-- What an update gives is what its changes make: another serial, or the zone as it was
use Rattle.std.proofs.Common.{◌≡◌, ◌≢◌, ◌⊎◌, ◌∙◌, ℕ, ◌+◌, ◌%◌, ◌^◌, Bool, true, false, ◌||◌, ◌&&◌, List, [], ◌∷◌, inl, inr, refl, sym, ap, subst, arith, Result, Ok, Err}
use Rattle.std.specs.Prelude.{Option, Some, None, if◌then◌else◌, ◌==◌, is_some, option_and_then, option_map, unwrap_or}
use Rattle.std.proofs.lemmas.Bool.Decides.{eqb_tells}
use Rattle.zone_proto.specs.Keys.{key}
use Rattle.zone_proto.specs.Names.{Name}
use Rattle.zone_proto.specs.Sets.{RRset, first_serial, soa_serial}
use Rattle.zone_proto.specs.Stepping.{stepped, stepped_data, stepped_records}
use Rattle.zone_proto.specs.Types.{SOA}
use Rattle.zone_proto.specs.declared.rdata.RData.{RData}
use Rattle.zone_proto.specs.declared.rdata.RData.TheVariants as V
use Rattle.zone_proto.specs.declared.record.Record.{Record}
use Rattle.zone_map.specs.Zones.{Sets, put, set_at}
use Rattle.update_policy.specs.declared.rule.Rule.{Rule}
use Rattle.zone_update.specs.Changes.{changes_of}
use Rattle.zone_update.specs.Demands.{are_met, demands_of}
use Rattle.zone_update.specs.Entries.{◌>>=◌}
use Rattle.zone_update.specs.Processing.{processed}
use Rattle.zone_update.specs.Updates.{finished, run, same_serial, serial_before, with_next_serial, zone_serial, Course}
use Rattle.zone_update.specs.declared.change.Change.{Change}
use Rattle.zone_update.specs.declared.entry.Entry.{Entry}
use Rattle.zone_update.specs.declared.refusal.Refusal.{Refusal}
use Rattle.zone_update.specs.declared.refusal.Refusal.TheVariants.{Refused}
use Rattle.update_permission.specs.Permissions.{changed_alone, if_changed, is_each_permitted, updated_if_permitted}
use Rattle.update_permission.specs.PermittedChanges.{SerialsGoOn, WhatIsGivenIsTheUpdate}
use Rattle.update_permission.proofs.Apart.{put_found}

-- ---- serials

its : {a b : ℕ} → ◌≡◌ {A = Option ℕ} (Some a) (Some b) → a ≡ b
its e = cc

none_is : (n : ℕ) (o : Option ℕ) → o ≡ None → o ≢ Some n
none_is n o none g = cc

-- the next serial is another
next_apart : (n : ℕ) → (n + 1) % 2 ^ 32 ≢ n
next_apart n e = omega (arith, e)

next_data : (d : RData) (n : ℕ) → soa_serial d ≡ Some n → soa_serial (stepped_data d) ≡ Some ((n + 1) % 2 ^ 32)
next_data (V.SOA a) n h = ap (λ (k : ℕ). Some ((k + 1) % 2 ^ 32)) (its h)
next_data d n h = absurd cc

next_serial : (rs : List Record) (n : ℕ) → first_serial rs ≡ Some n → first_serial (stepped_records rs) ≡ Some ((n + 1) % 2 ^ 32)
next_serial [] n h = absurd cc
next_serial (r ∷ rs) n h = next_data r.rdata n h

module _ (origin : Name) (serial : ℕ) where
  abbrev next : RRset → RRset
  next s = record (stepped s) { signatures = [] }

  -- the serial of a set
  abbrev of_set : RRset → Option ℕ
  of_set s = first_serial s.records

  -- changed sets, with the serial that goes on from one
  abbrev ends : Option ℕ → Sets → Sets
  ends o c = if same_serial o (zone_serial origin c) then with_next_serial origin c else c

  goes_on : (c : Sets) → zone_serial origin (ends (Some serial) c) ≢ Some serial
  goes_on c = of (set_at c origin SOA) refl
    where
      of : (o : Option RRset) → set_at c origin SOA ≡ o
          → zone_serial origin (if same_serial (Some serial) (option_and_then of_set o) then unwrap_or (option_map (λ (s : RRset). put c origin SOA (next s)) o) c else c) ≢ Some serial
      of None e = none_is serial (zone_serial origin c) (ap (option_and_then of_set) e)
      of (Some s) e = by (first_serial s.records) refl
        where
          stands : zone_serial origin c ≡ first_serial s.records
          stands = ap (option_and_then of_set) e

          by : (o : Option ℕ) → first_serial s.records ≡ o → zone_serial origin (if same_serial (Some serial) o then put c origin SOA (next s) else c) ≢ Some serial
          by None k = none_is serial (zone_serial origin c) (stands ∙ k)
          by (Some n) k = told (eqb_tells serial n)
            where
              told : ((serial == n) ≡ true) × (serial ≡ n) ⊎ ((serial == n) ≡ false) × (serial ≢ n)
                  → zone_serial origin (if serial == n then put c origin SOA (next s) else c) ≢ Some serial
              told (inl (is, same)) =
                  let put_serial : zone_serial origin (put c origin SOA (next s)) ≡ Some ((n + 1) % 2 ^ 32) =
                  ap (option_and_then of_set) (put_found c (key origin SOA) (next s)) ∙ next_serial s.records n k in
                  subst (λ (b : Bool). zone_serial origin (if b then put c origin SOA (next s) else c) ≢ Some serial) (sym is)
                  (λ g. next_apart n (its (sym put_serial ∙ g) ∙ same))
              told (inr (is, apart)) =
                  subst (λ (b : Bool). zone_serial origin (if b then put c origin SOA (next s) else c) ≢ Some serial) (sym is)
                  (λ g. apart (its (sym g ∙ stands ∙ k)))

  -- so do those that an update changed
  finished_goes_on : (m : Sets) (c : Course) → c.changed ≡ true → zone_serial origin m ≡ Some serial → zone_serial origin (finished origin m c) ≢ Some serial
  finished_goes_on m c did stood =
      subst (λ (b : Bool). zone_serial origin (if b && same_serial (zone_serial origin m) (zone_serial origin c.sets) then with_next_serial origin c.sets else c.sets) ≢ Some serial) (sym did)
      (subst (λ (o : Option ℕ). zone_serial origin (ends o c.sets) ≢ Some serial) (sym stood) (goes_on c.sets))

-- ---- what changes nothing

module _ (origin : Name) (serial : ℕ) where
  both_false : (a b : Bool) → (a || b) ≡ false → (a ≡ false) × (b ≡ false)
  both_false false false h = (refl, refl)
  both_false false true h = absurd cc
  both_false true b h = absurd cc

  no_change : (o : Option Sets) (m : Sets) → is_some o ≡ false → unwrap_or o m ≡ m
  no_change None m h = refl
  no_change (Some x) m h = absurd cc

  run_stays : (cs : List Change) (c : Course) → (run origin serial c cs).changed ≡ false → (c.changed ≡ false) × ((run origin serial c cs).sets ≡ c.sets)
  unfolding run
  run_stays [] c h = (h, refl)
  run_stays (x ∷ cs) c h =
      let made : Option Sets = processed serial c.sets origin x in
      let later = run_stays cs (record { sets = unwrap_or made c.sets; changed = c.changed || is_some made }) h in
      let none = both_false c.changed (is_some made) later.0 in
      (none.0, later.1 ∙ no_change made c.sets none.1)

-- ---- an update

module _ (rules : List Rule) (requestor origin : Name) (m : Sets) (after : Option Sets) (changes : List Entry) where
  -- what is given is what the changes make
  given : (prerequisites : List Entry) → updated_if_permitted rules (Some requestor) origin m prerequisites changes ≡ Ok after → changed_alone origin m changes ≡ Ok after
  given prerequisites h = of (are_met origin m prerequisites) h
    where
      by : (b : Bool) → (if b then changed_alone origin m changes else Err Refused) ≡ Ok after → changed_alone origin m changes ≡ Ok after
      by true g = g
      by false g = absurd cc

      of : (o : Result (Unit {0}) Refusal) → (o >>= λ _. if is_each_permitted rules requestor origin m changes then changed_alone origin m changes else Err Refused) ≡ Ok after
          → changed_alone origin m changes ≡ Ok after
      of (Err e) g = absurd cc
      of (Ok x) g = by (is_each_permitted rules requestor origin m changes) g

abbrev begun : Name → Sets → List Change → Course
begun origin m cs = run origin (serial_before origin m) (record { sets = m; changed = false }) cs

pub what_is_given_is_the_update : WhatIsGivenIsTheUpdate
unfolding demands_of
what_is_given_is_the_update rules requestor origin m after prerequisites changes h =
    of (changes_of origin changes) (given rules requestor origin m after changes prerequisites h)
  where
    of : (o : Result (List Change) Refusal) → ((o >>= λ cs. Ok (begun origin m cs)) >>= λ c. Ok (if_changed origin m c)) ≡ Ok after
        → (o >>= λ cs. Ok (finished origin m (begun origin m cs))) ≡ Ok (unwrap_or after m)
    of (Err e) g = absurd cc
    of (Ok cs) g = by (begun origin m cs).changed refl g
      where
        by : (b : Bool) → (begun origin m cs).changed ≡ b → ◌≡◌ {A = Result (Option Sets) Refusal} (Ok (if b then Some (finished origin m (begun origin m cs)) else None)) (Ok after)
            → ◌≡◌ {A = Result Sets Refusal} (Ok (finished origin m (begun origin m cs))) (Ok (unwrap_or after m))
        by true e g =
            let is : Some (finished origin m (begun origin m cs)) ≡ after = cc in
            ap (λ (o : Option Sets). Ok (unwrap_or o m)) is
        by false e g =
            let is : None ≡ after = cc in
            ap (λ (b : Bool). Ok (if b && same_serial (zone_serial origin m) (zone_serial origin (begun origin m cs).sets) then with_next_serial origin (begun origin m cs).sets else (begun origin m cs).sets)) e
            ∙ ap (λ (s : Sets). Ok s) (run_stays origin (serial_before origin m) cs (record { sets = m; changed = false }) e).1
            ∙ ap (λ (o : Option Sets). Ok (unwrap_or o m)) is

pub serials_go_on : SerialsGoOn
unfolding demands_of
serials_go_on rules None origin m after prerequisites changes serial h stood = absurd cc
serials_go_on rules (Some requestor) origin m after prerequisites changes serial h stood =
    of (changes_of origin changes) (given rules requestor origin m (Some after) changes prerequisites h)
  where
    of : (o : Result (List Change) Refusal) → ((o >>= λ cs. Ok (begun origin m cs)) >>= λ c. Ok (if_changed origin m c)) ≡ Ok (Some after) → zone_serial origin after ≢ Some serial
    of (Err e) g = absurd cc
    of (Ok cs) g = by (begun origin m cs).changed refl g
      where
        by : (b : Bool) → (begun origin m cs).changed ≡ b → ◌≡◌ {A = Result (Option Sets) Refusal} (Ok (if b then Some (finished origin m (begun origin m cs)) else None)) (Ok (Some after))
            → zone_serial origin after ≢ Some serial
        by false e g = absurd cc
        by true e g =
            let is : finished origin m (begun origin m cs) ≡ after = cc in
            subst (λ (x : Sets). zone_serial origin x ≢ Some serial) is (finished_goes_on origin serial m (begun origin m cs) e stood)
