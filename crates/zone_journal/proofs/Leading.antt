-- What journals lead to
use Rattle.std.proofs.Common.{◌≡◌, ℕ, zero, suc, ◌≤◌, List, [], ◌∷◌, ◌++◌, length, take, refl, ap, ◌∙◌, arith, Result}
use Rattle.std.specs.Prelude.{Some, map}
use Rattle.std.specs.List.{AllByRecursion}
use Rattle.zone_proto.specs.Names.{Name}
use Rattle.zone_map.specs.Zones.{Sets, IsZone}
use Rattle.zone_difference.specs.Laws.{last_of, MakesSame, SameZone}
use Rattle.zone_difference.specs.declared.error.DifferenceError.{DifferenceError}
use Rattle.journal_frames.specs.Frames.{checksum, number_octets}
use Rattle.journal_frames.specs.Journals.{frames_in, journal_of}
use Rattle.journal_frames.proofs.Cuts.{cuts_are_fronts, frames_are_messages, torn_frames_end}
use Rattle.message_reading.specs.Octets.{◌>>=◌}
use Rattle.shown_zones.specs.Shown.{shown}
use Rattle.shown_zones.specs.Steps.{Step, all_stepped, shown_step}
use Rattle.shown_zones.specs.StepLaws.{AreSteps}
use Rattle.shown_zones.proofs.Leading.{steps_lead}
use Rattle.zone_journal.specs.Journals.{AreEntries}
use Rattle.zone_journal.specs.JournalLaws.{CutJournalsLead, JournalsLead, LeadsTo, TornJournalsLead}
use Rattle.zone_journal.specs.Replays.{if_entries, if_fits, replayed, steps_of}

pub steps_back : (texts : List (List ℕ)) (ss : List Step) → AreEntries texts ss → steps_of texts ≡ Some (map shown_step ss)
unfolding steps_of
steps_back [] [] h = refl
steps_back [] (s ∷ ss) h = absurd h
steps_back (text ∷ texts) [] h = absurd h
steps_back (text ∷ texts) (s ∷ ss) h =
    ap (λ o. o >>= λ x. steps_of texts >>= λ xs. Some (x ∷ xs)) h.0
    ∙ ap (λ o. o >>= λ xs. Some (shown_step s ∷ xs)) (steps_back texts ss h.1)

fits : (r : Result Sets DifferenceError) (z : Sets) → MakesSame r (shown z) → LeadsTo (if_fits r) z
fits r z (n, is, zone, same) = (n, ap if_fits is, zone, same)

-- whole frames with the entries of steps lead where the steps do
frames_lead : (origin : Name) (a m : Sets) (bs : List Sets) (octets : List ℕ) (texts : List (List ℕ)) (ss : List Step) → frames_in octets ≡ texts
    → AreEntries texts ss → AreSteps origin ss a bs → IsZone a → AllByRecursion IsZone bs → IsZone m → SameZone m (shown a)
    → LeadsTo (replayed m octets) (last_of a bs)
frames_lead origin a m bs octets texts ss front entries lead first others zone like =
    let end = fits (all_stepped m (map shown_step ss)) (last_of a bs) (steps_lead origin ss a m bs lead first others zone like) in
    (end.0, ap (if_entries m) (ap steps_of front ∙ steps_back texts ss entries) ∙ end.1, end.2, end.3)

-- ---- the first steps

fronts : (j : ℕ) (texts : List (List ℕ)) (ss : List Step) → AreEntries texts ss → AreEntries (take j texts) (take j ss)
fronts zero texts ss h = tt
fronts (suc j) [] [] h = tt
fronts (suc j) [] (s ∷ ss) h = absurd h
fronts (suc j) (text ∷ texts) [] h = absurd h
fronts (suc j) (text ∷ texts) (s ∷ ss) h = (h.0, fronts j texts ss h.1)

steps_before : (j : ℕ) (origin : Name) (ss : List Step) (a : Sets) (bs : List Sets) → AreSteps origin ss a bs → AreSteps origin (take j ss) a (take j bs)
steps_before zero origin ss a bs h = tt
steps_before (suc j) origin [] a [] h = tt
steps_before (suc j) origin [] a (b ∷ bs) h = absurd h
steps_before (suc j) origin (s ∷ ss) a [] h = absurd h
steps_before (suc j) origin (s ∷ ss) a (b ∷ bs) h = (h.0, steps_before j origin ss b bs h.1)

zones_before : (j : ℕ) (bs : List Sets) → AllByRecursion IsZone bs → AllByRecursion IsZone (take j bs)
zones_before zero bs h = tt
zones_before (suc j) [] h = tt
zones_before (suc j) (b ∷ bs) h = (h.0, zones_before j bs h.1)

as_many : (texts : List (List ℕ)) (ss : List Step) → AreEntries texts ss → length texts ≡ length ss
as_many [] [] h = refl
as_many [] (s ∷ ss) h = absurd h
as_many (text ∷ texts) [] h = absurd h
as_many (text ∷ texts) (s ∷ ss) h = let more = as_many texts ss h.1 in omega (arith, more)

as_many_versions : (origin : Name) (ss : List Step) (a : Sets) (bs : List Sets) → AreSteps origin ss a bs → length ss ≡ length bs
as_many_versions origin [] a [] h = refl
as_many_versions origin [] a (b ∷ bs) h = absurd h
as_many_versions origin (s ∷ ss) a [] h = absurd h
as_many_versions origin (s ∷ ss) a (b ∷ bs) h = let more = as_many_versions origin ss b bs h.1 in omega (arith, more)

-- ---- journals whole, cut off, and with a torn frame behind them

pub journals_lead : JournalsLead
journals_lead origin a m bs octets h zone like =
    frames_lead origin a m bs octets h.texts h.steps (ap frames_in h.put ∙ frames_are_messages h.texts h.frames) h.entries h.lead h.first h.others zone like

pub cut_journals_lead : CutJournalsLead
cut_journals_lead origin a m bs octets h zone like k = by (cuts_are_fronts h.texts h.frames k)
  where
    by : (j : ℕ) × (j ≤ length h.texts) × (frames_in (take k (journal_of h.texts)) ≡ take j h.texts)
        → (j : ℕ) × (j ≤ length bs) × LeadsTo (replayed m (take k octets)) (last_of a (take j bs))
    by (j, within, front) =
        let one = as_many h.texts h.steps h.entries in
        let two = as_many_versions origin h.steps a bs h.lead in (
          j,
          omega (arith, within, one, two),
          frames_lead origin a m (take j bs) (take k octets) (take j h.texts) (take j h.steps) (ap (λ o. frames_in (take k o)) h.put ∙ front)
              (fronts j h.texts h.steps h.entries) (steps_before j origin h.steps a bs h.lead) h.first (zones_before j bs h.others) zone like,
        )

pub torn_journals_lead : TornJournalsLead
torn_journals_lead origin a m bs octets text torn h zone like within differ =
    frames_lead origin a m bs (octets ++ (number_octets (length text) ++ (checksum text ++ torn))) h.texts h.steps
    (ap (λ o. frames_in (o ++ (number_octets (length text) ++ (checksum text ++ torn)))) h.put ∙ torn_frames_end h.texts h.frames text torn within differ)
    h.entries h.lead h.first h.others zone like
