-- Steps make the newest version of what is held
use Rattle.std.proofs.Common.{◌≡◌, ℕ, ◌+◌, ◌-◌, true, List, [], ◌∷◌, ◌++◌, length, take, drop, refl, ap, ◌∙◌, arith, Ok}
use Rattle.std.specs.List.{flat_map}
use Rattle.zone_proto.specs.Names.{Name}
use Rattle.zone_proto.specs.declared.record.Record.{Record}
use Rattle.zone_map.specs.Zones.{Sets}
use Rattle.shown_zones.specs.Sending.{sent_step}
use Rattle.shown_zones.specs.Steps.{Step}
use Rattle.transfer_reading.specs.Differences.{◌>>=◌, Held, all_records, changed, held_of}
use Rattle.transfer_reading.specs.Outcomes.{without_last, zone_of}
use Rattle.incremental_laws.specs.Holding.{Holds}
use Rattle.incremental_laws.specs.IncrementalLaws.{StepsMakeTheNewest}
use Rattle.incremental_laws.specs.Versions.{IsVersion, Leads}
use Rattle.incremental_laws.proofs.OneStep.{step_made}
use Rattle.incremental_laws.proofs.StartRecords.{start_at}

pub first_version : (o : Name) (before : ℕ) (a : Sets) (s : Step) (ss : List Step) (newest : ℕ) (z : Sets) → Leads o before a (s ∷ ss) newest z → IsVersion o before a
first_version o before a s [] newest z leads = leads.0
first_version o before a s (t ∷ ss) newest z leads = leads.0

pub last_version : (o : Name) (before : ℕ) (a : Sets) (ss : List Step) (newest : ℕ) (z : Sets) → Leads o before a ss newest z → IsVersion o newest z
last_version o before a [] newest z leads = absurd leads
last_version o before a (s ∷ []) newest z leads = leads.1
last_version o before a (s ∷ t ∷ ss) newest z leads = last_version o leads.1 leads.2 (t ∷ ss) newest z leads.5

nothing_left : (o : Name) (n : Held) → changed o true n [] ≡ Ok n
unfolding changed
nothing_left o n = refl

all_made : (o : Name) (before : ℕ) (a : Sets) (ss : List Step) (newest : ℕ) (z : Sets) (h : Held) → Leads o before a ss newest z → Holds h a
    → (n : Held) × (changed o true h (flat_map sent_step ss) ≡ Ok n) × Holds n z
all_made o before a [] newest z h leads holds = absurd leads
all_made o before a (s ∷ []) newest z h leads holds =
    let one = step_made o before newest a z s h [] leads.0 leads.1 leads.2 holds in
    (one.0, one.1 ∙ nothing_left o one.0, one.2)
all_made o before a (s ∷ t ∷ ss) newest z h leads holds =
    let one = step_made o before leads.1 a leads.2 s h (flat_map sent_step (t ∷ ss)) leads.0 (first_version o leads.1 leads.2 t ss newest z leads.5) leads.3 holds in
    let rest = all_made o leads.1 leads.2 (t ∷ ss) newest z one.0 leads.5 one.2 in
    (rest.0, one.1 ∙ rest.1, rest.2)

-- ---- between the two SOA records of the newest version

without_end : (rs : List Record) (last : Record) → take (length rs) (rs ++ last ∷ []) ≡ rs
without_end [] last = refl
without_end (r ∷ rs) last = ap (λ xs. r ∷ xs) (without_end rs last)

count : (rs : List Record) (last : Record) → length (rs ++ last ∷ []) ≡ length rs + 1
count [] last = refl
count (r ∷ rs) last = let e : length (rs ++ last ∷ []) ≡ length rs + 1 = count rs last in omega (arith, e)

between : (x : Record) (rs : List Record) → drop 1 (without_last (x ∷ (rs ++ x ∷ []))) ≡ rs
between x rs =
    let all : List Record = x ∷ (rs ++ x ∷ []) in
    let e : length all - 1 ≡ length (x ∷ rs) = let n : length (rs ++ x ∷ []) ≡ length rs + 1 = count rs x in omega (arith, n) in
    ap (λ n. drop 1 (take n all)) e ∙ ap (drop 1) (without_end (x ∷ rs) x)

pub steps_make_the_newest : StepsMakeTheNewest
steps_make_the_newest a held newest before z steps soa records is holds =
    let st = start_at a.origin newest z soa (last_version a.origin held before steps newest z is.leads) is.soa_is in
    let made = all_made a.origin held before steps newest z (held_of records) is.leads holds in (
      made.0,
      ap (λ xs. changed a.origin true (held_of records) (drop 1 (without_last xs)) >>= λ h. Ok (zone_of (all_records h))) (λ i. st.alone i ++ (flat_map sent_step steps ++ st.alone i))
          ∙ ap (λ xs. changed a.origin true (held_of records) xs >>= λ h. Ok (zone_of (all_records h))) (between st.soa (flat_map sent_step steps))
          ∙ ap (λ m. m >>= λ h. Ok (zone_of (all_records h))) made.1,
      made.2,
    )
