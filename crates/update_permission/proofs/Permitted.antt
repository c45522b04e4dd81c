-- After an update each set stands as it did that the owner of the key may not change, but for the SOA with the next serial
use Rattle.std.proofs.Common.{◌≡◌, ◌⊎◌, ℕ, Bool, true, false, ◌&&◌, List, [], refl, sym, ap, ◌∙◌, subst, inl, inr, Result, Ok, Err}
use Rattle.std.specs.Prelude.{Option, Some, None, if◌then◌else◌, option_map, unwrap_or, IsTrue}
use Rattle.std.specs.Map.{lookup}
use Rattle.zone_proto.specs.declared.rr_key.RrKey.{RrKey}
use Rattle.zone_proto.specs.Keys.{key, key_eq}
use Rattle.zone_proto.specs.Names.{Name}
use Rattle.zone_proto.specs.Sets.{RRset}
use Rattle.zone_proto.specs.Stepping.{stepped}
use Rattle.zone_proto.specs.Types.{SOA}
use Rattle.zone_proto.proofs.Ordering.KeyOrder.{key_same}
use Rattle.zone_map.specs.Zones.{Sets, put, set_at}
use Rattle.zone_map.proofs.Stored.{put_apart}
use Rattle.update_policy.specs.Policies.{permits}
use Rattle.update_policy.specs.declared.rule.Rule.{Rule}
use Rattle.zone_update.specs.Changes.{changes_of}
use Rattle.zone_update.specs.Demands.{are_met, demands_of}
use Rattle.zone_update.specs.Entries.{◌>>=◌}
use Rattle.zone_update.specs.Updates.{finished, run, same_serial, serial_before, with_next_serial, zone_serial, Course}
use Rattle.zone_update.specs.declared.change.Change.{Change}
use Rattle.zone_update.specs.declared.entry.Entry.{Entry}
use Rattle.zone_update.specs.declared.refusal.Refusal.{Refusal}
use Rattle.zone_update.specs.declared.refusal.Refusal.TheVariants.{Refused}
use Rattle.update_permission.specs.Permissions.{changed_alone, if_changed, is_each_permitted}
use Rattle.update_permission.specs.PermittedChanges.{HasNextSerial, NothingChangesWithoutKey, PermittedSetsAloneChange}
use Rattle.update_permission.proofs.Apart.{put_found}
use Rattle.update_permission.proofs.Stays.{run_stays, Stays}

module _ (rules : List Rule) (requestor origin : Name) (m : Sets) where
  abbrev next : RRset → RRset
  next s = record (stepped s) { signatures = [] }

  abbrev after_step : Sets → Option RRset → Sets
  after_step c o = unwrap_or (option_map (λ (s : RRset). put c origin SOA (next s)) o) c

  -- where the serial goes on by itself, it does so in the SOA that the zone had, or in one that may be changed
  stepped_stays : (c : Sets) → Stays rules requestor origin m c → (n : Name) (t : ℕ)
      → (set_at (with_next_serial origin c) n t ≡ set_at m n t) ⊎ (IsTrue (permits rules requestor n t) ⊎ HasNextSerial origin m (with_next_serial origin c) n t)
  stepped_stays c stays n t = of (set_at c origin SOA) refl
    where
      of : (o : Option RRset) → set_at c origin SOA ≡ o → (set_at (after_step c o) n t ≡ set_at m n t) ⊎ (IsTrue (permits rules requestor n t) ⊎ HasNextSerial origin m (after_step c o) n t)
      of None e = by (stays n t)
        where
          by : (set_at c n t ≡ set_at m n t) ⊎ IsTrue (permits rules requestor n t) → (set_at c n t ≡ set_at m n t) ⊎ (IsTrue (permits rules requestor n t) ⊎ HasNextSerial origin m c n t)
          by (inl same) = inl same
          by (inr may) = inr (inl may)
      of (Some s) e = by (key_eq (key n t) (key origin SOA)) refl (stays n t)
        where
          by : (b : Bool) → key_eq (key n t) (key origin SOA) ≡ b → (set_at c n t ≡ set_at m n t) ⊎ IsTrue (permits rules requestor n t)
              → (set_at (put c origin SOA (next s)) n t ≡ set_at m n t) ⊎ (IsTrue (permits rules requestor n t) ⊎ HasNextSerial origin m (put c origin SOA (next s)) n t)
          by b g (inr may) = inr (inl may)
          by false g (inl same) = inl (put_apart c (key origin SOA) (key n t) (next s) g ∙ same)
          by true g (inl same) =
              let apex : key n t ≡ key origin SOA = key_same (key n t) (key origin SOA) g in
              inr (inr (record {
                apex = apex;
                soa = s;
                stood = sym same ∙ ap (λ (k : RrKey). lookup (key_eq k) c) apex ∙ e;
                stands = ap (λ (k : RrKey). lookup (key_eq k) (put c origin SOA (next s))) apex ∙ put_found c (key origin SOA) (next s);
              }))

  finished_stays : (c : Course) → Stays rules requestor origin m c.sets → (n : Name) (t : ℕ)
      → (set_at (finished origin m c) n t ≡ set_at m n t) ⊎ (IsTrue (permits rules requestor n t) ⊎ HasNextSerial origin m (finished origin m c) n t)
  finished_stays c stays n t = by (c.changed && same_serial (zone_serial origin m) (zone_serial origin c.sets)) (stays n t)
    where
      by : (b : Bool) → (set_at c.sets n t ≡ set_at m n t) ⊎ IsTrue (permits rules requestor n t)
          → (set_at (if b then with_next_serial origin c.sets else c.sets) n t ≡ set_at m n t)
          ⊎ (IsTrue (permits rules requestor n t) ⊎ HasNextSerial origin m (if b then with_next_serial origin c.sets else c.sets) n t)
      by true h = stepped_stays c.sets stays n t
      by false (inl same) = inl same
      by false (inr may) = inr (inl may)

  start : Stays rules requestor origin m m
  start n t = inl refl

  -- sets that are changed, with the serial that goes on
  ended : (c : Course) (after : Sets) → Stays rules requestor origin m c.sets → (b : Bool)
      → ◌≡◌ {A = Result (Option Sets) Refusal} (Ok (if b then Some (finished origin m c) else None)) (Ok (Some after))
      → (n : Name) (t : ℕ) → (set_at after n t ≡ set_at m n t) ⊎ (IsTrue (permits rules requestor n t) ⊎ HasNextSerial origin m after n t)
  ended c after stays false g n t = absurd cc
  ended c after stays true g n t =
      let same : finished origin m c ≡ after = cc in
      subst (λ (x : Sets). (set_at x n t ≡ set_at m n t) ⊎ (IsTrue (permits rules requestor n t) ⊎ HasNextSerial origin m x n t)) same (finished_stays c stays n t)

  -- changes without prerequisites
  changed : (after : Sets) (changes : List Entry) → is_each_permitted rules requestor origin m changes ≡ true → changed_alone origin m changes ≡ Ok (Some after) → (n : Name) (t : ℕ)
      → (set_at after n t ≡ set_at m n t) ⊎ (IsTrue (permits rules requestor n t) ⊎ HasNextSerial origin m after n t)
  unfolding demands_of
  changed after changes may h n t = by (changes_of origin changes) refl h
    where
      by : (o : Result (List Change) Refusal) → changes_of origin changes ≡ o
          → ((o >>= λ cs. Ok (run origin (serial_before origin m) (record { sets = m; changed = false }) cs)) >>= λ c. Ok (if_changed origin m c)) ≡ Ok (Some after)
          → (set_at after n t ≡ set_at m n t) ⊎ (IsTrue (permits rules requestor n t) ⊎ HasNextSerial origin m after n t)
      by (Err e) p g = absurd cc
      by (Ok cs) p g =
          let made : Course = run origin (serial_before origin m) (record { sets = m; changed = false }) cs in
          ended made after (run_stays rules requestor origin m (serial_before origin m) changes cs (record { sets = m; changed = false }) p may start) made.changed g n t

pub permitted_sets_alone_change : PermittedSetsAloneChange
permitted_sets_alone_change rules requestor origin m after prerequisites changes h n t =
    of (are_met origin m prerequisites) h
  where
    by : (b : Bool) → is_each_permitted rules requestor origin m changes ≡ b → (if b then changed_alone origin m changes else Err Refused) ≡ Ok (Some after)
        → (set_at after n t ≡ set_at m n t) ⊎ (IsTrue (permits rules requestor n t) ⊎ HasNextSerial origin m after n t)
    by true e g = changed rules requestor origin m after changes e g n t
    by false e g = absurd cc

    of : (o : Result (Unit {0}) Refusal) → (o >>= λ _. if is_each_permitted rules requestor origin m changes then changed_alone origin m changes else Err Refused) ≡ Ok (Some after)
        → (set_at after n t ≡ set_at m n t) ⊎ (IsTrue (permits rules requestor n t) ⊎ HasNextSerial origin m after n t)
    of (Err e) g = absurd cc
    of (Ok x) g = by (is_each_permitted rules requestor origin m changes) refl g

pub nothing_changes_without_key : NothingChangesWithoutKey
nothing_changes_without_key rules origin m after prerequisites changes h = cc
