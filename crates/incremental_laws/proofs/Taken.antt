-- Steps are differences that a secondary takes
use Rattle.std.proofs.Common.{◌≡◌, ℕ, ◌==◌, true, List, [], ◌∷◌, ◌++◌, sym, ap, ◌∙◌, subst, append_assoc}
use Rattle.std.specs.Prelude.{Some, None, filter, map}
use Rattle.std.specs.List.{flat_map, AllByRecursion}
use Rattle.std.proofs.lemmas.Grind.{flat_map-append}
use Rattle.zone_proto.specs.Keys.{key}
use Rattle.zone_proto.specs.Names.{Name, lower, is_at_or_above}
use Rattle.zone_proto.specs.Sets.{RRset}
use Rattle.zone_proto.specs.Types.{IN, SOA}
use Rattle.zone_proto.specs.declared.record.Record.{Record}
use Rattle.zone_proto.specs.declared.rr_key.RrKey.{RrKey}
use Rattle.zone_map.specs.Zones.{Sets, set_at}
use Rattle.zone_difference.proofs.Found.{each_found, filter_in_order}
use Rattle.shown_zones.specs.Sending.{sent, sent_alone, sent_step}
use Rattle.shown_zones.specs.Shown.{with_ttl}
use Rattle.shown_zones.specs.Steps.{changed as changed_sets, is_changed, IsStep, Step}
use Rattle.transfer_reading.specs.Differences.{set_key}
use Rattle.transfer_reading.specs.Laws.{records_of, AreOthers, IsRecord, IsStep as IsDifference, Lead, Step as Difference, TakesDifferences}
use Rattle.transfer_reading.specs.Stages.{behind_all, serial_at}
use Rattle.transfer_reading.specs.declared.stage.Stage.TheVariants.{Before}
use Rattle.incremental_laws.specs.IncrementalLaws.{StepsAreTaken}
use Rattle.incremental_laws.specs.Versions.{IsVersion, Leads}
use Rattle.incremental_laws.proofs.Arriving.{changed_is}
use Rattle.incremental_laws.proofs.Made.{first_version, last_version}
use Rattle.incremental_laws.proofs.StartRecords.{others_none, start_at}

-- ---- the records of sets

pub kept_others : (o : Name) (rs : List Record) → AllByRecursion (λ (r : Record). (r.dns_class.0 == IN) ≡ true) rs
    → AllByRecursion (λ (r : Record). is_at_or_above (lower o) (lower r.name) ≡ true) rs → AllByRecursion (λ (r : Record). serial_at o r ≡ None) rs → AreOthers o rs
kept_others o [] class inside none = tt
kept_others o (r ∷ rs) class inside none =
    (record { class = class.0; inside = inside.0; serial_is = none.0 }, kept_others o rs class.1 inside.1 none.1)

joined : (o : Name) (xs ys : List Record) → AreOthers o xs → AreOthers o ys → AreOthers o (xs ++ ys)
joined o [] ys h g = g
joined o (x ∷ xs) ys h g = (h.0, joined o xs ys h.1 g)

pub all_others : (o : Name) (records : RRset → List Record) (es : Sets) → AllByRecursion (λ (e : RrKey × RRset). AreOthers o (records e.1)) es
    → AreOthers o (flat_map records (map (λ e. e.1) es))
all_others o records [] h = tt
all_others o records (e ∷ es) h = joined o (records e.1) (flat_map records (map (λ x. x.1) es)) h.0 (all_others o records es h.1)

changed_others : (o : Name) (n : ℕ) (a b : Sets) (ss : List RRset) → IsVersion o n a → ss ≡ changed_sets (key (lower o) SOA) a b → AreOthers o (flat_map sent ss)
changed_others o n a b ss v is =
    let k : RrKey = key (lower o) SOA in
    let es : Sets = filter (is_changed k b) a in
    subst (λ (xs : List RRset). AreOthers o (flat_map sent xs)) (sym is)
    (all_others o sent es
    (each_found (λ q t. AreOthers o (sent t)) es (filter_in_order (λ q s. is_changed k b (q, s)) a v.zone.ordered)
    (λ q t e.
    let there = changed_is k a b v.zone.ordered q t e in
    let kept = v.kept q t there.1 in
    kept_others o (sent t) kept.class kept.inside (others_none o q (sent t) there.0 kept.keyed))))

-- an SOA record and its signatures
pub record IsBegun (o : Name) (n : ℕ) (s : RRset) : Type 0 where
  pub soa : Record
  pub others : List Record
  pub are : sent s ≡ soa ∷ others
  pub alone : sent_alone s ≡ soa ∷ []
  pub signatures : map (with_ttl s.ttl) s.signatures ≡ others
  pub keyed : set_key soa ≡ key (lower o) SOA
  pub first : IsRecord o soa (Some n)
  pub rest : AreOthers o others

pub begun : (o : Name) (n : ℕ) (m : Sets) (s : RRset) → IsVersion o n m → set_at m (lower o) SOA ≡ Some s → IsBegun o n s
begun o n m s v found =
    let st = start_at o n m s v found in
    let kept = v.kept (key (lower o) SOA) s found in
    let class : AllByRecursion (λ (r : Record). (r.dns_class.0 == IN) ≡ true) (st.soa ∷ st.others) =
    subst (λ (rs : List Record). AllByRecursion (λ (r : Record). (r.dns_class.0 == IN) ≡ true) rs) st.are kept.class in
    let keyed : AllByRecursion (λ (r : Record). set_key r ≡ key (lower o) SOA) (st.soa ∷ st.others) =
    subst (λ (rs : List Record). AllByRecursion (λ (r : Record). set_key r ≡ key (lower o) SOA) rs) st.are kept.keyed in
    let inside : AllByRecursion (λ (r : Record). is_at_or_above (lower o) (lower r.name) ≡ true) (st.soa ∷ st.others) =
    subst (λ (rs : List Record). AllByRecursion (λ (r : Record). is_at_or_above (lower o) (lower r.name) ≡ true) rs) st.are kept.inside in
    record {
      soa = st.soa;
      others = st.others;
      are = st.are;
      alone = st.alone;
      signatures = st.signatures;
      keyed = keyed.0;
      first = record { class = class.0; inside = inside.0; serial_is = st.serial_is };
      rest = kept_others o st.others class.1 inside.1 st.none;
    }

-- ---- steps are differences

one_difference : (o : Name) (before after : ℕ) (a b : Sets) (s : Step) → IsVersion o before a → IsVersion o after b → IsStep (lower o) a b s
    → (d : Difference) × (records_of d ≡ sent_step s) × IsDifference o before after d
one_difference o before after a b s va vb step =
    let old = begun o before a s.old_soa va step.old_soa in
    let new = begun o after b s.new_soa vb step.new_soa in
    let taken : List Record = flat_map sent s.deleted in
    let given : List Record = flat_map sent s.added in
    let d : Difference = record { from = old.soa; taken = old.others ++ taken; to = new.soa; given = new.others ++ given } in (
      d,
      ap (λ xs. old.soa ∷ xs) (append_assoc old.others taken (new.soa ∷ (new.others ++ given)))
          ∙ (λ i. sym old.are i ++ (taken ++ (sym new.are i ++ given)))
          ∙ ap (λ xs. sent s.old_soa ++ xs) (sym (flat_map-append sent s.deleted (s.new_soa ∷ s.added))),
      record {
        from = old.first;
        taken = joined o old.others taken old.rest (changed_others o before a b s.deleted va step.deleted);
        to = new.first;
        given = joined o new.others given new.rest (changed_others o after b a s.added vb step.added);
      },
    )

all_differences : (o : Name) (before : ℕ) (a : Sets) (ss : List Step) (newest : ℕ) (z : Sets) → Leads o before a ss newest z
    → (d : Difference) × (ds : List Difference) × (flat_map records_of (d ∷ ds) ≡ flat_map sent_step ss) × Lead o newest before (d ∷ ds)
all_differences o before a [] newest z leads = absurd leads
all_differences o before a (s ∷ []) newest z leads =
    let one = one_difference o before newest a z s leads.0 leads.1 leads.2 in
    (one.0, [], ap (λ xs. xs ++ []) one.1, one.2)
all_differences o before a (s ∷ t ∷ ss) newest z leads =
    let one = one_difference o before leads.1 a leads.2 s leads.0 (first_version o leads.1 leads.2 t ss newest z leads.5) leads.3 in
    let rest = all_differences o leads.1 leads.2 (t ∷ ss) newest z leads.5 in
    (one.0, rest.0 ∷ rest.1, (λ i. one.1 i ++ rest.2 i), (leads.1, one.2, leads.4, rest.3))

pub steps_are_taken : TakesDifferences → StepsAreTaken
steps_are_taken takes a held newest before z steps soa is =
    let last = begun a.origin newest z soa (last_version a.origin held before steps newest z is.leads) is.soa_is in
    let all = all_differences a.origin held before steps newest z is.leads in
    ap (behind_all a Before) (λ i. last.alone i ++ (sym all.2 i ++ last.alone i))
    ∙ takes a held newest last.soa last.soa (all.0 ∷ all.1) is.question is.newer last.first all.3 last.first
