-- What one step makes of what is held
use Rattle.std.proofs.Common.{◌≡◌, ℕ, Bool, true, false, cond, List, [], ◌∷◌, ◌++◌, refl, sym, ap, ◌∙◌, subst, append_assoc}
use Rattle.std.specs.Prelude.{Some, None, is_some, filter}
use Rattle.std.specs.List.{flat_map, AllByRecursion}
use Rattle.std.specs.Map.{lookup}
use Rattle.std.proofs.lemmas.Grind.{flat_map-append}
use Rattle.zone_proto.specs.Keys.{key, key_eq}
use Rattle.zone_proto.specs.Names.{Name, lower}
use Rattle.zone_proto.specs.Sets.{RRset}
use Rattle.zone_proto.specs.Types.{SOA}
use Rattle.zone_proto.specs.declared.record.Record.{Record}
use Rattle.zone_proto.specs.declared.rr_key.RrKey.{RrKey}
use Rattle.zone_proto.proofs.Ordering.KeyOrder.{key_same, key_itself}
use Rattle.zone_map.specs.Zones.{Sets}
use Rattle.zone_difference.proofs.Found.{each_found, filter_in_order, InOrder}
use Rattle.shown_zones.specs.Sending.{sent, sent_step}
use Rattle.shown_zones.specs.Steps.{changed as changed_sets, is_changed, IsStep, Step}
use Rattle.transfer_reading.specs.Differences.{◌>>=◌, Held, changed, records_at, set_key}
use Rattle.transfer_reading.specs.Stages.{serial_at}
use Rattle.incremental_laws.specs.Holding.{has_exactly, sent_if, Holds, SameRecords}
use Rattle.incremental_laws.specs.Versions.{AreDifferent, AreKept, IsVersion}
use Rattle.incremental_laws.proofs.Arriving.{arrives, changed_is, found_changed, none_changed, only, room}
use Rattle.incremental_laws.proofs.Lists.{apart_more, apart_none}
use Rattle.incremental_laws.proofs.OneSet.{give_all, give_one, take_all, take_one, turns, StayApart}
use Rattle.incremental_laws.proofs.SetsInTurn.{give_each, given_if, key_apart, take_each, AreOther}
use Rattle.incremental_laws.proofs.StartRecords.{other_set, start_at, IsStart}

-- ---- the SOA and its signatures

take_first : (o : Name) (n : ℕ) (k : RrKey) (x : Record) (rs more : List Record) (h : Held) → serial_at o x ≡ Some n
    → AllByRecursion (λ (r : Record). serial_at o r ≡ None) rs → AllByRecursion (λ (r : Record). set_key r ≡ k) (x ∷ rs) → AreDifferent (x ∷ rs)
    → SameRecords (records_at h k) (x ∷ rs)
    → (m : Held) × (changed o true h ((x ∷ rs) ++ more) ≡ changed o false m more) × (records_at m k ≡ []) × StayApart h m k
take_first o n k x rs more h some none keyed differ like =
    let one = take_one h k x rs keyed.0 like differ.0 in
    let rest = take_all o one.0 k rs more none keyed.1 differ.1 one.2 in (
      rest.0,
      turns o true h x (rs ++ more) n some ∙ ap (λ y. y >>= λ m. changed o false m (rs ++ more)) one.1 ∙ rest.1,
      rest.2,
      λ q f. rest.3 q f ∙ one.3 q f,
    )

take_start : (o : Name) (n : ℕ) (k : RrKey) (s : RRset) (more : List Record) (h : Held) → IsStart o n s → AreKept o k (sent s) → SameRecords (records_at h k) (sent s)
    → (m : Held) × (changed o true h (sent s ++ more) ≡ changed o false m more) × (records_at m k ≡ []) × StayApart h m k
take_start o n k s more h st kept like =
    let all = take_first o n k st.soa st.others more h st.serial_is st.none
    (subst (λ (rs : List Record). AllByRecursion (λ (r : Record). set_key r ≡ k) rs) st.are kept.keyed) (subst AreDifferent st.are kept.different)
    (subst (SameRecords (records_at h k)) st.are like) in
    (all.0, ap (λ rs. changed o true h (rs ++ more)) st.are ∙ all.1, all.2, all.3)

give_first : (o : Name) (n : ℕ) (k : RrKey) (x : Record) (rs more : List Record) (h : Held) → serial_at o x ≡ Some n
    → AllByRecursion (λ (r : Record). serial_at o r ≡ None) rs → AllByRecursion (λ (r : Record). set_key r ≡ k) (x ∷ rs) → AreDifferent (x ∷ rs)
    → records_at h k ≡ []
    → (m : Held) × (changed o false h ((x ∷ rs) ++ more) ≡ changed o true m more) × (records_at m k ≡ x ∷ rs) × StayApart h m k
give_first o n k x rs more h some none keyed differ empty =
    let one = give_one h k [] x keyed.0 empty refl in
    let rest = give_all o one.0 k (x ∷ []) rs more none keyed.1 differ.1 (apart_more [] rs x (apart_none rs) differ.0) one.2 in (
      rest.0,
      turns o false h x (rs ++ more) n some ∙ ap (λ y. y >>= λ m. changed o true m (rs ++ more)) one.1 ∙ rest.1,
      rest.2,
      λ q f. rest.3 q f ∙ one.3 q f,
    )

give_start : (o : Name) (n : ℕ) (k : RrKey) (s : RRset) (more : List Record) (h : Held) → IsStart o n s → AreKept o k (sent s) → records_at h k ≡ []
    → (m : Held) × (changed o false h (sent s ++ more) ≡ changed o true m more) × (records_at m k ≡ sent s) × StayApart h m k
give_start o n k s more h st kept empty =
    let all = give_first o n k st.soa st.others more h st.serial_is st.none
    (subst (λ (rs : List Record). AllByRecursion (λ (r : Record). set_key r ≡ k) rs) st.are kept.keyed) (subst AreDifferent st.are kept.different) empty in
    (all.0, ap (λ rs. changed o false h (rs ++ more)) st.are ∙ all.1, all.2 ∙ sym st.are, all.3)

-- ---- the other sets

abbrev soa_key : Name → RrKey
soa_key o = key (lower o) SOA

changed_in_order : (k : RrKey) (a b : Sets) → InOrder a → InOrder (filter (is_changed k b) a)
changed_in_order k a b ordered = filter_in_order (λ q s. is_changed k b (q, s)) a ordered

changed_other : (o : Name) (n : ℕ) (a b : Sets) → IsVersion o n a → AllByRecursion (λ (e : RrKey × RRset). AreOther o e.0 (sent e.1)) (filter (is_changed (soa_key o) b) a)
changed_other o n a b v =
    each_found (λ q t. AreOther o q (sent t)) (filter (is_changed (soa_key o) b) a) (changed_in_order (soa_key o) a b v.zone.ordered)
    (λ q t e.
    let is = changed_is (soa_key o) a b v.zone.ordered q t e in
    other_set o q (sent t) is.0 (v.kept q t is.1))

take_changed : (o : Name) (n : ℕ) (a b : Sets) (h m : Held) (more : List Record) → IsVersion o n a → Holds h a → StayApart h m (soa_key o)
    → (l : Held) × (changed o false m (flat_map sent (changed_sets (soa_key o) a b) ++ more) ≡ changed o false l more)
    × ((q : RrKey) → key_eq (soa_key o) q ≡ false → records_at l q ≡ cond (is_some (only (lookup (key_eq q) a) (lookup (key_eq q) b))) [] (records_at h q))
    × (records_at l (soa_key o) ≡ records_at m (soa_key o))
take_changed o n a b h m more v holds stay =
    let k : RrKey = soa_key o in
    let es : Sets = filter (is_changed k b) a in
    let stands : (q : RrKey) → key_eq k q ≡ false → records_at m q ≡ records_at h q = λ q f. stay q (key_apart k q f) in
    let like : AllByRecursion (λ (e : RrKey × RRset). SameRecords (records_at m e.0) (sent e.1)) es =
    each_found (λ q t. SameRecords (records_at m q) (sent t)) es (changed_in_order k a b v.zone.ordered)
    (λ q t e r.
    let is = changed_is k a b v.zone.ordered q t e in
    ap (λ xs. has_exactly xs r) (stands q is.0) ∙ holds q r ∙ ap (λ x. has_exactly (sent_if x) r) is.1) in
    let all = take_each o m es more (changed_in_order k a b v.zone.ordered) (changed_other o n a b v) like in (
      all.0,
      all.1,
      λ q f. all.2 q ∙ (λ i. cond (is_some (found_changed k a b v.zone.ordered q f i)) [] (stands q f i)),
      all.2 k ∙ ap (λ x. cond (is_some x) [] (records_at m k)) (none_changed k a b v.zone.ordered k (key_itself k)),
    )

give_changed : (o : Name) (n : ℕ) (a b : Sets) (h m : Held) (more : List Record) → IsVersion o n b → Holds h a
    → ((q : RrKey) → key_eq (soa_key o) q ≡ false → records_at m q ≡ cond (is_some (only (lookup (key_eq q) a) (lookup (key_eq q) b))) [] (records_at h q))
    → (l : Held) × (changed o true m (flat_map sent (changed_sets (soa_key o) b a) ++ more) ≡ changed o true l more)
    × ((q : RrKey) → key_eq (soa_key o) q ≡ false → records_at l q
    ≡ given_if (only (lookup (key_eq q) b) (lookup (key_eq q) a)) (cond (is_some (only (lookup (key_eq q) a) (lookup (key_eq q) b))) [] (records_at h q)))
    × (records_at l (soa_key o) ≡ records_at m (soa_key o))
give_changed o n a b h m more v holds left =
    let k : RrKey = soa_key o in
    let es : Sets = filter (is_changed k a) b in
    let none : AllByRecursion (λ (e : RrKey × RRset). records_at m e.0 ≡ []) es =
    each_found (λ q t. records_at m q ≡ []) es (changed_in_order k b a v.zone.ordered)
    (λ q t e.
    let is = changed_is k b a v.zone.ordered q t e in
    left q is.0 ∙ room (lookup (key_eq q) a) (lookup (key_eq q) b) (records_at h q) t (holds q) (sym (found_changed k b a v.zone.ordered q is.0) ∙ e)) in
    let all = give_each o m es more (changed_in_order k b a v.zone.ordered) (changed_other o n b a v) none in (
      all.0,
      all.1,
      λ q f. all.2 q ∙ (λ i. given_if (found_changed k b a v.zone.ordered q f i) (left q f i)),
      all.2 k ∙ ap (λ x. given_if x (records_at m k)) (none_changed k b a v.zone.ordered k (key_itself k)),
    )

-- ---- the records of a step in their order

pub laid_out : (s : Step) (more : List Record)
    → sent_step s ++ more ≡ sent s.old_soa ++ (flat_map sent s.deleted ++ (sent s.new_soa ++ (flat_map sent s.added ++ more)))
laid_out s more =
    ap (λ xs. (sent s.old_soa ++ xs) ++ more) (flat_map-append sent s.deleted (s.new_soa ∷ s.added))
    ∙ append_assoc (sent s.old_soa) (flat_map sent s.deleted ++ (sent s.new_soa ++ flat_map sent s.added)) more
    ∙ ap (λ xs. sent s.old_soa ++ xs) (append_assoc (flat_map sent s.deleted) (sent s.new_soa ++ flat_map sent s.added) more)
    ∙ ap (λ xs. sent s.old_soa ++ (flat_map sent s.deleted ++ xs)) (append_assoc (sent s.new_soa) (flat_map sent s.added) more)

pub step_made : (o : Name) (before after : ℕ) (a b : Sets) (s : Step) (h : Held) (more : List Record) → IsVersion o before a → IsVersion o after b
    → IsStep (lower o) a b s → Holds h a → (n : Held) × (changed o true h (sent_step s ++ more) ≡ changed o true n more) × Holds n b
step_made o before after a b s h more va vb step holds =
    let k : RrKey = soa_key o in
    let tail : List Record = flat_map sent s.added ++ more in
    let old = start_at o before a s.old_soa va step.old_soa in
    let new = start_at o after b s.new_soa vb step.new_soa in
    let at_start : SameRecords (records_at h k) (sent s.old_soa) = λ r. holds k r ∙ ap (λ x. has_exactly (sent_if x) r) step.old_soa in
    let one = take_start o before k s.old_soa (flat_map sent s.deleted ++ (sent s.new_soa ++ tail)) h old (va.kept k s.old_soa step.old_soa) at_start in
    let two = take_changed o before a b h one.0 (sent s.new_soa ++ tail) va holds one.3 in
    let three = give_start o after k s.new_soa tail two.0 new (vb.kept k s.new_soa step.new_soa) (two.3 ∙ one.2) in
    let four = give_changed o after a b h three.0 more vb holds (λ q f. three.3 q (key_apart k q f) ∙ two.2 q f) in (
      four.0,
      ap (changed o true h) (laid_out s more)
          ∙ one.1
          ∙ ap (λ ss. changed o false one.0 (flat_map sent ss ++ (sent s.new_soa ++ tail))) step.deleted
          ∙ two.1
          ∙ three.1
          ∙ ap (λ ss. changed o true three.0 (flat_map sent ss ++ more)) step.added
          ∙ four.1,
      λ q r. arrived a b s h four.0 k step.new_soa holds (four.3 ∙ three.2) four.2 q r (key_eq k q) refl,
    )
  where
    arrived : (a b : Sets) (s : Step) (h n : Held) (k : RrKey) → lookup (key_eq k) b ≡ Some s.new_soa → Holds h a → records_at n k ≡ sent s.new_soa
        → ((q : RrKey) → key_eq k q ≡ false → records_at n q
        ≡ given_if (only (lookup (key_eq q) b) (lookup (key_eq q) a)) (cond (is_some (only (lookup (key_eq q) a) (lookup (key_eq q) b))) [] (records_at h q)))
        → (q : RrKey) (r : Record) (c : Bool) → key_eq k q ≡ c → has_exactly (records_at n q) r ≡ has_exactly (sent_if (lookup (key_eq q) b)) r
    arrived a b s h n k there holds here others q r true f =
        let same : k ≡ q = key_same k q f in
        ap (λ j. has_exactly (records_at n j) r) (sym same)
        ∙ ap (λ xs. has_exactly xs r) here
        ∙ ap (λ x. has_exactly (sent_if x) r) (sym there)
        ∙ ap (λ j. has_exactly (sent_if (lookup (key_eq j) b)) r) same
    arrived a b s h n k there holds here others q r false f =
        ap (λ xs. has_exactly xs r) (others q f) ∙ arrives (lookup (key_eq q) a) (lookup (key_eq q) b) (records_at h q) (holds q) r
