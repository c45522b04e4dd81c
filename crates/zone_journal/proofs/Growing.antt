-- Journals from step to step
use Rattle.std.proofs.Common.{◌≡◌, ℕ, ◌^◌, ◌<◌, List, [], ◌∷◌, ◌++◌, length, refl, sym, ap, ◌∙◌, append_assoc}
use Rattle.std.specs.Prelude.{Some}
use Rattle.std.specs.List.{AllByRecursion}
use Rattle.std.proofs.lemmas.List.{append-nil}
use Rattle.zone_proto.specs.Names.{Name}
use Rattle.zone_map.specs.Zones.{Sets, IsZone}
use Rattle.zone_difference.specs.Laws.{last_of}
use Rattle.journal_frames.specs.Frames.{framed}
use Rattle.journal_frames.specs.Journals.{journal_of, AreMessages}
use Rattle.shown_zones.specs.Steps.{Step, shown_step, IsStep}
use Rattle.shown_zones.specs.StepLaws.{AreSteps}
use Rattle.zone_journal.specs.Entries.{entry_of}
use Rattle.zone_journal.specs.Journals.{AreEntries}
use Rattle.zone_journal.specs.JournalLaws.{JournalsBegin, JournalsGrow}

frames_more : (texts : List (List ℕ)) (text : List ℕ) → AreMessages texts → length text < 2 ^ 32 → AreMessages (texts ++ text ∷ [])
frames_more [] text h g = (g, tt)
frames_more (t ∷ texts) text h g = (h.0, frames_more texts text h.1 g)

journal_more : (texts : List (List ℕ)) (text : List ℕ) → journal_of texts ++ framed text ≡ journal_of (texts ++ text ∷ [])
journal_more [] text = sym (append-nil (framed text))
journal_more (t ∷ texts) text = append_assoc (framed t) (journal_of texts) (framed text) ∙ ap (λ o. framed t ++ o) (journal_more texts text)

entries_more : (texts : List (List ℕ)) (ss : List Step) (text : List ℕ) (s : Step) → AreEntries texts ss → entry_of text ≡ Some (shown_step s)
    → AreEntries (texts ++ text ∷ []) (ss ++ s ∷ [])
entries_more [] [] text s h g = (g, tt)
entries_more [] (t ∷ ss) text s h g = absurd h
entries_more (t ∷ texts) [] text s h g = absurd h
entries_more (t ∷ texts) (u ∷ ss) text s h g = (h.0, entries_more texts ss text s h.1 g)

steps_more : (origin : Name) (ss : List Step) (a : Sets) (bs : List Sets) (b : Sets) (s : Step) → AreSteps origin ss a bs → IsStep origin (last_of a bs) b s
    → AreSteps origin (ss ++ s ∷ []) a (bs ++ b ∷ [])
steps_more origin [] a [] b s h g = (g, tt)
steps_more origin [] a (c ∷ bs) b s h g = absurd h
steps_more origin (t ∷ ss) a [] b s h g = absurd h
steps_more origin (t ∷ ss) a (c ∷ bs) b s h g = (h.0, steps_more origin ss c bs b s h.1 g)

zones_more : (bs : List Sets) (b : Sets) → AllByRecursion IsZone bs → IsZone b → AllByRecursion IsZone (bs ++ b ∷ [])
zones_more [] b h g = (g, tt)
zones_more (c ∷ bs) b h g = (h.0, zones_more bs b h.1 g)

pub journals_begin : JournalsBegin
journals_begin origin a zone = record { texts = []; put = refl; frames = tt; steps = []; entries = tt; lead = tt; first = zone; others = tt }

pub journals_grow : JournalsGrow
journals_grow origin a b bs old new s h zone step put = record {
  texts = h.texts ++ put.text ∷ [];
  put = put.put ∙ ap (λ o. o ++ framed put.text) h.put ∙ journal_more h.texts put.text;
  frames = frames_more h.texts put.text h.frames put.within;
  steps = h.steps ++ s ∷ [];
  entries = entries_more h.texts h.steps put.text s h.entries put.reads;
  lead = steps_more origin h.steps a bs b s h.lead step;
  first = h.first;
  others = zones_more bs b h.others zone;
}
