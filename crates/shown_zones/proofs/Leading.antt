-- The steps of a zone lead from version to version
use Rattle.std.proofs.Common.{◌≡◌, ◌≢◌, ◌&&◌, Bool, true, false, cond, List, [], ◌∷◌, ◌++◌, length, refl, sym, ap, ◌∙◌, Ordering, Less, Equal, Greater, Result, Ok, Err}
use Rattle.std.specs.Prelude.{Option, Some, None, is_some, map, filter, not, ◌==◌, if◌then◌else◌}
use Rattle.std.specs.BTreeMap.{insert_entry}
use Rattle.std.specs.Cmp.{eq_by_cmp_equiv}
use Rattle.std.specs.Map.{lookup, keys_of}
use Rattle.std.specs.Ordering.{is_eq, match_ordering}
use Rattle.std.proofs.Math.Dec.{eqb-suc-zero}
use Rattle.std.proofs.lemmas.Map.{lookup-remove_entry}
use Rattle.std.proofs.lemmas.Map.Keys.{IsDistinct-from_sorted}
use Rattle.zone_proto.specs.declared.rr_key.RrKey.{RrKey}
use Rattle.zone_proto.specs.Keys.{key, key_cmp, key_eq}
use Rattle.zone_proto.specs.Names.{Name, lower}
use Rattle.zone_proto.specs.Sets.{RRset}
use Rattle.zone_proto.specs.SetEquality.{same_set_equiv}
use Rattle.zone_proto.specs.Types.{SOA}
use Rattle.zone_proto.proofs.Ordering.KeyLaws.{key_cmp_total}
use Rattle.zone_proto.proofs.Ordering.KeyOrder.{key_same, key_itself}
use Rattle.zone_map.specs.Zones.{Sets, put, set_at, without, IsStoredAt, IsZone}
use Rattle.zone_map.proofs.Stored.{IsZone-put, IsZone-without, put_apart}
use Rattle.zone_difference.specs.Differences.{◌>>=◌, applied, given_at, has, same_at, sets_lacking, taken_at, with_each, with_given, with_taken}
use Rattle.zone_difference.specs.Laws.{MakesSame, SameZone}
use Rattle.zone_difference.specs.declared.error.DifferenceError.{DifferenceError}
use Rattle.zone_difference.specs.declared.error.DifferenceError.TheVariants.{NotThere, AlreadyThere, Empty}
use Rattle.zone_difference.proofs.Found.{InOrder, filter_in_order, found_filter}
use Rattle.zone_difference.proofs.Leading.{differences_lead}
use Rattle.shown_zones.specs.Shown.{shown, shown_if, shown_set}
use Rattle.shown_zones.specs.Steps.{Step, all_stepped, changed, is_changed, shown_step, shows, stepped, IsStep}
use Rattle.shown_zones.specs.StepLaws.{StepsLead}
use Rattle.shown_zones.proofs.Shows.{found_shown, shown_zone}

-- ---- a zone without its SOA

abbrev is_soa_of : Name → RrKey → Bool
is_soa_of origin k = key_eq (key origin SOA) k

abbrev is_other : Name → RrKey → RRset → Bool
is_other origin k s = not (is_soa_of origin k)

abbrev others : Name → Sets → Sets
others origin m = filter (λ e. is_other origin e.0 e.1) m

found_other : (origin : Name) (m : Sets) → InOrder m → (q : RrKey) → lookup (key_eq q) (others origin m) ≡ cond (is_soa_of origin q) None (lookup (key_eq q) m)
found_other origin m s q = found_filter (is_other origin) m s q ∙ by (lookup (key_eq q) m) (is_soa_of origin q)
  where
    by : (o : Option RRset) (b : Bool) → elim o as (λ _. Option RRset) [ None ↦ None | Some s ↦ if not b then Some s else None ] ≡ cond b None o
    by None true = refl
    by None false = refl
    by (Some s) true = refl
    by (Some s) false = refl

other_zone : (origin : Name) (m : Sets) → IsZone m → IsZone (others origin m)
other_zone origin m zone = record {
  ordered = filter_in_order (is_other origin) m zone.ordered;
  stored = λ n t s e. zone.stored n t s (by (is_soa_of origin (key n t)) (set_at m n t) s (sym (found_other origin m zone.ordered (key n t)) ∙ e));
}
  where
    by : (b : Bool) (o : Option RRset) (s : RRset) → cond b None o ≡ Some s → o ≡ Some s
    by true o s e = absurd cc
    by false o s e = e

-- ---- the sets of a step are those that the other zone lacks

has_other : (origin : Name) (b : Sets) (e : RrKey × RRset) → IsZone b → is_soa_of origin e.0 ≡ false
    → has (others origin (shown b)) (e.0, shown_set e.1) ≡ shows b e
has_other origin b e zone g =
    ap (λ o. same_at o (Some (shown_set e.1)))
    (found_other origin (shown b) (shown_zone b zone).ordered e.0 ∙ ap (λ c. cond c None (lookup (key_eq e.0) (shown b))) g ∙ found_shown b e.0)

changed_lacking : (origin : Name) (a b : Sets) → IsZone b → map shown_set (changed (key origin SOA) a b) ≡ sets_lacking (others origin (shown a)) (others origin (shown b))
changed_lacking origin [] b zone = refl
changed_lacking origin (e ∷ a) b zone =
    by (is_soa_of origin e.0) refl (shows b e) refl (λ g. has_other origin b e zone g) (changed_lacking origin a b zone)
  where
    by : (c : Bool) → is_soa_of origin e.0 ≡ c → (d : Bool) → shows b e ≡ d
        → (is_soa_of origin e.0 ≡ false → has (others origin (shown b)) (e.0, shown_set e.1) ≡ shows b e)
        → map shown_set (changed (key origin SOA) a b) ≡ sets_lacking (others origin (shown a)) (others origin (shown b))
        → map shown_set (changed (key origin SOA) (e ∷ a) b) ≡ sets_lacking (others origin (shown (e ∷ a))) (others origin (shown b))
    by true g d h k i =
        ap (λ c. map shown_set (map (λ (x : RrKey × RRset). x.1) (cond (not c && not (shows b e)) (e ∷ filter (is_changed (key origin SOA) b) a) (filter (is_changed (key origin SOA) b) a)))) g
        ∙ i
        ∙ sym (ap (λ c. map (λ (x : RrKey × RRset). x.1) (filter (λ x. not (has (others origin (shown b)) x)) (cond (not c) ((e.0, shown_set e.1) ∷ others origin (shown a)) (others origin (shown a))))) g)
    by false g d h k i =
        ap (λ c. map shown_set (map (λ (x : RrKey × RRset). x.1) (cond (not c && not (shows b e)) (e ∷ filter (is_changed (key origin SOA) b) a) (filter (is_changed (key origin SOA) b) a)))) g
        ∙ ap (λ c. map shown_set (map (λ (x : RrKey × RRset). x.1) (cond (not c) (e ∷ filter (is_changed (key origin SOA) b) a) (filter (is_changed (key origin SOA) b) a)))) h
        ∙ one d
        ∙ sym (ap (λ c. map (λ (x : RrKey × RRset). x.1) (cond (not c) ((e.0, shown_set e.1) ∷ filter (λ x. not (has (others origin (shown b)) x)) (others origin (shown a))) (filter (λ x. not (has (others origin (shown b)) x)) (others origin (shown a))))) (k g ∙ h))
        ∙ sym (ap (λ c. map (λ (x : RrKey × RRset). x.1) (filter (λ x. not (has (others origin (shown b)) x)) (cond (not c) ((e.0, shown_set e.1) ∷ others origin (shown a)) (others origin (shown a))))) g)
      where
        one : (d : Bool) → map shown_set (map (λ (x : RrKey × RRset). x.1) (cond (not d) (e ∷ filter (is_changed (key origin SOA) b) a) (filter (is_changed (key origin SOA) b) a)))
            ≡ map (λ (x : RrKey × RRset). x.1) (cond (not d) ((e.0, shown_set e.1) ∷ filter (λ x. not (has (others origin (shown b)) x)) (others origin (shown a))) (filter (λ x. not (has (others origin (shown b)) x)) (others origin (shown a))))
        one true = i
        one false = ap (λ ss. shown_set e.1 ∷ ss) i

-- ---- the SOA is taken out first, and given last

same_to_none : (o : Option RRset) → same_at o None ≡ true → o ≡ None
same_to_none None h = refl
same_to_none (Some s) h = absurd cc

key_of_stored : (k : RrKey) (s : RRset) → IsStoredAt k.name k.record_type.0 s → key (lower s.owner) s.record_type ≡ k
key_of_stored k s h = (λ i. key (h.owner i) (h.record_type i))

take_soa : (m : Sets) (k : RrKey) (s : RRset) → IsStoredAt k.name k.record_type.0 s → same_at (lookup (key_eq k) m) (Some s) ≡ true
    → with_taken m s ≡ Ok (without m k.name k.record_type.0)
take_soa m k s stored there =
    ap (λ k. taken_at m k s) (key_of_stored k s stored)
    ∙ ap (λ b. if b then Ok (without m k.name k.record_type.0) else Err NotThere) there

has_records : {A : Type 0} (rs : List A) → rs ≢ [] → (length rs == 0) ≡ false
has_records [] h = absurd (h refl)
has_records (r ∷ rs) h = eqb-suc-zero (length rs)

give_soa : (m : Sets) (k : RrKey) (s : RRset) → IsStoredAt k.name k.record_type.0 s → lookup (key_eq k) m ≡ None
    → with_given m s ≡ Ok (put m k.name k.record_type.0 s)
give_soa m k s stored none =
    ap (λ k. given_at m k s) (key_of_stored k s stored)
    ∙ ap (λ b. if b then Err AlreadyThere else (if length s.records == 0 then Err Empty else Ok (put m k.name k.record_type.0 s))) (ap is_some none)
    ∙ ap (λ b. if b then Err Empty else Ok (put m k.name k.record_type.0 s)) (has_records s.records stored.filled)

without_found : (m : Sets) (k q : RrKey) → InOrder m → lookup (key_eq q) (without m k.name k.record_type.0) ≡ cond (key_eq k q) None (lookup (key_eq q) m)
without_found m k q s =
    lookup-remove_entry (eq_by_cmp_equiv key_cmp_total) (key_eq k) (λ x y e. ap (λ j. key_eq j y) (key_same k x e)) q m (IsDistinct-from_sorted key_cmp (keys_of m) s)

put_found : (m : Sets) (k : RrKey) (v : RRset) → lookup (key_eq k) (insert_entry key_cmp m k v) ≡ Some v
put_found [] k v = ap (λ b. cond b (Some v) None) (key_itself k)
put_found (e ∷ m) k v = by (key_cmp k e.0) refl (put_found m k v)
  where
    by : (o : Ordering) → key_cmp k e.0 ≡ o → lookup (key_eq k) (insert_entry key_cmp m k v) ≡ Some v
        → lookup (key_eq k) (match_ordering o ((k, v) ∷ e ∷ m) ((e.0, v) ∷ m) (e ∷ insert_entry key_cmp m k v)) ≡ Some v
    by Less g i = ap (λ b. cond b (Some v) (lookup (key_eq k) (e ∷ m))) (key_itself k)
    by Equal g i = ap (λ b. cond b (Some v) (lookup (key_eq k) m)) (ap is_eq g)
    by Greater g i = ap (λ b. cond b (Some e.1) (lookup (key_eq k) (insert_entry key_cmp m k v))) (ap is_eq g) ∙ i

each_last : (m : Sets) (gs : List RRset) (s : RRset) → with_each with_given m (gs ++ s ∷ []) ≡ (with_each with_given m gs >>= λ n. with_given n s)
unfolding with_each
each_last m [] s = by (with_given m s)
  where
    by : (r : Result Sets DifferenceError) → (r >>= λ n. Ok n) ≡ r
    by (Ok n) = refl
    by (Err e) = refl
each_last m (g ∷ gs) s = by (with_given m g) (λ n. each_last n gs s)
  where
    by : (r : Result Sets DifferenceError) → ((n : Sets) → with_each with_given n (gs ++ s ∷ []) ≡ (with_each with_given n gs >>= λ n. with_given n s))
        → (r >>= λ n. with_each with_given n (gs ++ s ∷ [])) ≡ ((r >>= λ n. with_each with_given n gs) >>= λ n. with_given n s)
    by (Ok n) i = i n
    by (Err e) i = refl

all_last : (r : Result Sets DifferenceError) (gs : List RRset) (s : RRset)
    → (r >>= λ m. with_each with_given m (gs ++ s ∷ [])) ≡ ((r >>= λ m. with_each with_given m gs) >>= λ n. with_given n s)
all_last (Ok m) gs s = each_last m gs s
all_last (Err e) gs s = refl

soa_around : (m n : Sets) (old new : RRset) (deleted added : List RRset) → with_taken m old ≡ Ok n
    → applied m (old ∷ deleted) (added ++ new ∷ []) ≡ (applied n deleted added >>= λ x. with_given x new)
unfolding with_each
soa_around m n old new deleted added h =
    ap (λ r. (r >>= λ x. with_each with_taken x deleted) >>= λ x. with_each with_given x (added ++ new ∷ [])) h
    ∙ all_last (with_each with_taken n deleted) added new

-- ---- one step

step_leads : (origin : Name) (s : Step) (a b m : Sets) → IsStep origin a b s → IsZone a → IsZone b → IsZone m → SameZone m (shown a)
    → MakesSame (stepped m (shown_step s)) (shown b)
step_leads origin s a b m step za zb zm like = by lead
  where
    old_there : lookup (key_eq (key origin SOA)) (shown a) ≡ Some (shown_set s.old_soa)
    old_there = found_shown a (key origin SOA) ∙ ap shown_if step.old_soa

    new_there : lookup (key_eq (key origin SOA)) (shown b) ≡ Some (shown_set s.new_soa)
    new_there = found_shown b (key origin SOA) ∙ ap shown_if step.new_soa

    taken : with_taken m (shown_set s.old_soa) ≡ Ok (without m origin SOA)
    taken = take_soa m (key origin SOA) (shown_set s.old_soa) ((shown_zone a za).stored origin SOA (shown_set s.old_soa) old_there)
        (ap (same_at (lookup (key_eq (key origin SOA)) m)) (sym old_there) ∙ like (key origin SOA))

    like_others : SameZone (without m origin SOA) (others origin (shown a))
    like_others q =
        (λ i. same_at (without_found m (key origin SOA) q zm.ordered i) (found_other origin (shown a) (shown_zone a za).ordered q i))
        ∙ each (is_soa_of origin q)
      where
        each : (c : Bool) → same_at (cond c None (lookup (key_eq q) m)) (cond c None (lookup (key_eq q) (shown a))) ≡ true
        each true = refl
        each false = like q

    lead : MakesSame (applied (without m origin SOA) (sets_lacking (others origin (shown a)) (others origin (shown b))) (sets_lacking (others origin (shown b)) (others origin (shown a)))) (others origin (shown b))
    lead = differences_lead (others origin (shown a)) (others origin (shown b)) (without m origin SOA)
        (other_zone origin (shown a) (shown_zone a za)) (other_zone origin (shown b) (shown_zone b zb)) (IsZone-without m (key origin SOA) zm) like_others

    deleted_are : map shown_set s.deleted ≡ sets_lacking (others origin (shown a)) (others origin (shown b))
    deleted_are = ap (map shown_set) step.deleted ∙ changed_lacking origin a b zb

    added_are : map shown_set s.added ≡ sets_lacking (others origin (shown b)) (others origin (shown a))
    added_are = ap (map shown_set) step.added ∙ changed_lacking origin b a za

    new_stored : IsStoredAt origin SOA (shown_set s.new_soa)
    new_stored = (shown_zone b zb).stored origin SOA (shown_set s.new_soa) new_there

    by : MakesSame (applied (without m origin SOA) (sets_lacking (others origin (shown a)) (others origin (shown b))) (sets_lacking (others origin (shown b)) (others origin (shown a)))) (others origin (shown b))
        → MakesSame (stepped m (shown_step s)) (shown b)
    by (n, is, zn, same) = (
      put n origin SOA (shown_set s.new_soa),
      soa_around m (without m origin SOA) (shown_set s.old_soa) (shown_set s.new_soa) (map shown_set s.deleted) (map shown_set s.added) taken
          ∙ (λ i. applied (without m origin SOA) (deleted_are i) (added_are i) >>= λ x. with_given x (shown_set s.new_soa))
          ∙ ap (λ r. r >>= λ x. with_given x (shown_set s.new_soa)) is
          ∙ give_soa n (key origin SOA) (shown_set s.new_soa) new_stored none,
      IsZone-put n (key origin SOA) (shown_set s.new_soa) zn new_stored,
      λ q. end q (key_eq q (key origin SOA)) refl,
    )
      where
        gone : (q : RrKey) (c : Bool) → is_soa_of origin q ≡ c → lookup (key_eq q) (others origin (shown b)) ≡ cond c None (lookup (key_eq q) (shown b))
        gone q c g = found_other origin (shown b) (shown_zone b zb).ordered q ∙ ap (λ d. cond d None (lookup (key_eq q) (shown b))) g

        none : lookup (key_eq (key origin SOA)) n ≡ None
        none = same_to_none (lookup (key_eq (key origin SOA)) n)
            (ap (same_at (lookup (key_eq (key origin SOA)) n)) (sym (gone (key origin SOA) true (key_itself (key origin SOA)))) ∙ same (key origin SOA))

        end : (q : RrKey) (c : Bool) → key_eq q (key origin SOA) ≡ c → same_at (lookup (key_eq q) (put n origin SOA (shown_set s.new_soa))) (lookup (key_eq q) (shown b)) ≡ true
        end q true g =
            let is : q ≡ key origin SOA = key_same q (key origin SOA) g in
            (λ i. same_at (lookup (key_eq (is i)) (put n origin SOA (shown_set s.new_soa))) (lookup (key_eq (is i)) (shown b)))
            ∙ (λ i. same_at (put_found n (key origin SOA) (shown_set s.new_soa) i) (new_there i))
            ∙ same_set_equiv.refl (shown_set s.new_soa)
        end q false g =
            let apart : is_soa_of origin q ≡ false = sym ((eq_by_cmp_equiv key_cmp_total).symm q (key origin SOA)) ∙ g in
            (λ i. same_at (put_apart n (key origin SOA) q (shown_set s.new_soa) g i) (sym (gone q false apart) i))
            ∙ same q

-- ---- and all of them

pub steps_lead : StepsLead
unfolding all_stepped
steps_lead origin [] a m [] steps za zs zm like = (m, refl, zm, like)
steps_lead origin [] a m (b ∷ bs) steps za zs zm like = absurd steps
steps_lead origin (s ∷ ss) a m [] steps za zs zm like = absurd steps
steps_lead origin (s ∷ ss) a m (b ∷ bs) steps za zs zm like =
    let one = step_leads origin s a b m steps.0 za zs.0 zm like in
    let more = steps_lead origin ss b one.0 bs steps.1 zs.0 zs.1 one.2 one.3 in
    (more.0, ap (λ r. r >>= λ n. all_stepped n (map shown_step ss)) one.1 ∙ more.1, more.2, more.3)
