-- Journals from a later version on
use Rattle.std.proofs.Common.{◌≡◌, ℕ, zero, suc, ◌+◌, ◌<◌, Bool, true, false, true≢false, List, [], ◌∷◌, ◌++◌, length, get_or, take, drop, refl, sym, ap, ◌∙◌, subst, append_assoc}
use Rattle.std.specs.Prelude.{◌||◌, Option, Some, None, if◌then◌else◌}
use Rattle.std.specs.List.{list_any, AllByRecursion}
use Rattle.std.proofs.lemmas.List.{append-nil, drop_at, get_or-append-add}
use Rattle.zone_proto.specs.Names.{Name}
use Rattle.zone_proto.specs.SetEquality.{same_set_equiv}
use Rattle.zone_proto.specs.Sets.{RRset}
use Rattle.zone_proto.specs.Types.{SOA}
use Rattle.zone_map.specs.Zones.{Sets, set_at, IsZone}
use Rattle.zone_difference.specs.Differences.{same_at}
use Rattle.zone_difference.specs.Laws.{last_of, SameZone}
use Rattle.journal_frames.specs.Frames.{frame_at, framed}
use Rattle.journal_frames.specs.Journals.{frames_in, journal_of, AreMessages}
use Rattle.journal_frames.proofs.Cuts.{frames_are_messages, frames_step}
use Rattle.journal_frames.proofs.OneFrame.{frame_is}
use Rattle.shown_zones.specs.Shown.{shown, shown_if}
use Rattle.shown_zones.specs.Steps.{Step, shown_step, IsStep}
use Rattle.shown_zones.specs.StepLaws.{AreSteps}
use Rattle.shown_zones.proofs.Shows.{found_shown}
use Rattle.zone_proto.specs.Keys.{key}
use Rattle.zone_journal.specs.Entries.{entry_of}
use Rattle.zone_journal.specs.Journals.{AreEntries, IsJournal}
use Rattle.zone_journal.specs.JournalLaws.{LeadsTo}
use Rattle.zone_journal.specs.Replays.{replayed}
use Rattle.zone_journal.specs.Shortening.{is_to, leads_to, left_out, shows_soa, up_to_last, JournalsShorten}
use Rattle.zone_journal.proofs.EntriesRead.{frames_end}
use Rattle.zone_journal.proofs.Leading.{journals_lead}

-- ---- one more message

or_true : (a : Bool) → (a || true) ≡ true
or_true true = refl
or_true false = refl

module _ (test : List ℕ → Bool) (text : List ℕ) where
  any_last : (done : List (List ℕ)) → test text ≡ true → list_any test (done ++ text ∷ []) ≡ true
  any_last [] h = ap (λ b. b || false) h
  any_last (d ∷ done) h = ap (λ b. test d || b) (any_last done h) ∙ or_true (test d)

  any_same : (done : List (List ℕ)) → test text ≡ false → list_any test (done ++ text ∷ []) ≡ list_any test done
  any_same [] h = ap (λ b. b || false) h
  any_same (d ∷ done) h = ap (λ b. test d || b) (any_same done h)

  up_to_it : (done : List (List ℕ)) → test text ≡ true → up_to_last test (done ++ text ∷ []) ≡ done ++ text ∷ []
  unfolding up_to_last
  up_to_it [] h = ap (λ b. if b then text ∷ [] else []) (any_last [] h)
  up_to_it (d ∷ done) h = (λ i. if any_last (d ∷ done) h i then d ∷ up_to_it done h i else [])

  up_to_before : (done : List (List ℕ)) → test text ≡ false → up_to_last test (done ++ text ∷ []) ≡ up_to_last test done
  unfolding up_to_last
  up_to_before [] h = ap (λ b. if b then text ∷ [] else []) (any_same [] h)
  up_to_before (d ∷ done) h = (λ i. if any_same (d ∷ done) h i then d ∷ up_to_before done h i else [])

-- ---- a journal that is read in part

-- the messages that are read, what stands behind them, and what stands behind the last of them that passes a test
pub record IsRead (test : List ℕ → Bool) (octets rest kept : List ℕ) : Type 0 where
  pub done : List (List ℕ)
  pub read : octets ≡ journal_of done ++ rest
  pub frames : frames_in octets ≡ done ++ frames_in rest
  pub behind : octets ≡ journal_of (up_to_last test done) ++ kept

pub read_begun : (test : List ℕ → Bool) (octets : List ℕ) → IsRead test octets octets octets
unfolding up_to_last
read_begun test octets = record { done = []; read = refl; frames = refl; behind = refl }

journal_more : (done : List (List ℕ)) (text : List ℕ) → journal_of done ++ framed text ≡ journal_of (done ++ text ∷ [])
journal_more [] text = sym (append-nil (framed text))
journal_more (d ∷ done) text = append_assoc (framed d) (journal_of done) (framed text) ∙ ap (λ o. framed d ++ o) (journal_more done text)

-- the octets behind others are octets
octets_behind : (front rest octets : List ℕ) → octets ≡ front ++ rest → ((i : ℕ) → get_or octets i 0 < 256) → (i : ℕ) → get_or rest i 0 < 256
octets_behind front rest octets e h i =
    subst (λ (v : ℕ). v < 256) (ap (λ o. get_or o (length front + i) 0) e ∙ get_or-append-add front rest i 0) (h (length front + i))

module _ (test : List ℕ → Bool) (octets rest kept text next : List ℕ) where
  more_read : IsRead test octets rest kept → ((i : ℕ) → get_or octets i 0 < 256) → frame_at rest ≡ Some (text, next) → (done : List (List ℕ))
      → octets ≡ journal_of done ++ rest → octets ≡ journal_of (done ++ text ∷ []) ++ next
  more_read h bytes e done is =
      is
      ∙ ap (λ o. journal_of done ++ o) (frame_is rest text next (octets_behind (journal_of done) rest octets is bytes) e)
      ∙ sym (append_assoc (journal_of done) (framed text) next)
      ∙ ap (λ o. o ++ next) (journal_more done text)

  more_frames : IsRead test octets rest kept → frame_at rest ≡ Some (text, next) → (done : List (List ℕ)) → frames_in octets ≡ done ++ frames_in rest
      → frames_in octets ≡ (done ++ text ∷ []) ++ frames_in next
  more_frames h e done is =
      is ∙ ap (λ fs. done ++ fs) (frames_step rest text next e) ∙ sym (append_assoc done (text ∷ []) (frames_in next))

  -- the next message passes the test
  pub read_last : IsRead test octets rest kept → ((i : ℕ) → get_or octets i 0 < 256) → frame_at rest ≡ Some (text, next) → test text ≡ true
      → IsRead test octets next next
  read_last h bytes e passes = record {
    done = h.done ++ text ∷ [];
    read = more_read h bytes e h.done h.read;
    frames = more_frames h e h.done h.frames;
    behind = more_read h bytes e h.done h.read ∙ ap (λ ds. journal_of ds ++ next) (sym (up_to_it test text h.done passes));
  }

  -- or it doesn't
  pub read_other : IsRead test octets rest kept → ((i : ℕ) → get_or octets i 0 < 256) → frame_at rest ≡ Some (text, next) → test text ≡ false
      → IsRead test octets next kept
  read_other h bytes e fails = record {
    done = h.done ++ text ∷ [];
    read = more_read h bytes e h.done h.read;
    frames = more_frames h e h.done h.frames;
    behind = h.behind ∙ ap (λ ds. journal_of ds ++ kept) (sym (up_to_before test text h.done fails));
  }

-- the frames are over
pub all_read : (test : List ℕ → Bool) (octets rest kept : List ℕ) → IsRead test octets rest kept → frame_at rest ≡ None
    → octets ≡ journal_of (up_to_last test (frames_in octets)) ++ kept
all_read test octets rest kept h none =
    h.behind ∙ ap (λ ds. journal_of (up_to_last test ds) ++ kept) (sym (h.frames ∙ ap (λ fs. h.done ++ fs) (frames_end (length rest) rest none) ∙ append-nil h.done))

-- ---- which entries lead to a version

module _ (origin : Name) (soa : RRset) where
  -- an entry leads to a version of which answers show the SOA
  leads_there : (a b : Sets) (text : List ℕ) (s : Step) → entry_of text ≡ Some (shown_step s) → IsStep origin a b s → leads_to soa text ≡ shows_soa origin soa b
  leads_there a b text s entry step = ap (is_to soa) entry ∙ sym (ap (λ o. same_at (shown_if o) (Some soa)) step.new_soa)

  none_leads : (a : Sets) (bs : List Sets) (texts : List (List ℕ)) (ss : List Step) → AreEntries texts ss → AreSteps origin ss a bs
      → AllByRecursion (λ b. shows_soa origin soa b ≡ false) bs → list_any (leads_to soa) texts ≡ false
  none_leads a bs [] ss entries steps none = refl
  none_leads a bs (text ∷ texts) [] entries steps none = absurd entries
  none_leads a [] (text ∷ texts) (s ∷ ss) entries steps none = absurd steps
  none_leads a (b ∷ bs) (text ∷ texts) (s ∷ ss) entries steps none =
      ap (λ c. c || list_any (leads_to soa) texts) (leads_there a b text s entries.0 steps.0 ∙ none.0)
      ∙ none_leads b bs texts ss entries.1 steps.1 none.1

  nothing_left : (texts : List (List ℕ)) → list_any (leads_to soa) texts ≡ false → up_to_last (leads_to soa) texts ≡ []
  unfolding up_to_last
  nothing_left [] h = refl
  nothing_left (text ∷ texts) h = ap (λ c. if c then text ∷ up_to_last (leads_to soa) texts else []) h

  some_leads : (a : Sets) (place : ℕ) (bs : List Sets) (texts : List (List ℕ)) (ss : List Step) → AreEntries texts ss → AreSteps origin ss a bs
      → shows_soa origin soa a ≡ false → shows_soa origin soa (last_of a (take place bs)) ≡ true → list_any (leads_to soa) texts ≡ true
  some_leads a zero bs texts ss entries steps other there = absurd (true≢false (sym there ∙ other))
  some_leads a (suc place) [] texts ss entries steps other there = absurd (true≢false (sym there ∙ other))
  some_leads a (suc place) (b ∷ bs) texts [] entries steps other there = absurd steps
  some_leads a (suc place) (b ∷ bs) [] (s ∷ ss) entries steps other there = absurd entries
  some_leads a (suc place) (b ∷ bs) (text ∷ texts) (s ∷ ss) entries steps other there =
      by (shows_soa origin soa b) refl (λ c. some_leads b place bs texts ss entries.1 steps.1 c there)
    where
      by : (c : Bool) → shows_soa origin soa b ≡ c → (shows_soa origin soa b ≡ false → list_any (leads_to soa) texts ≡ true)
          → list_any (leads_to soa) (text ∷ texts) ≡ true
      by true g more = ap (λ c. c || list_any (leads_to soa) texts) (leads_there a b text s entries.0 steps.0 ∙ g)
      by false g more = ap (λ c. leads_to soa text || c) (more g) ∙ or_true (leads_to soa text)

  -- those up to the last that leads to the version at a place are as many
  up_to_version : (a : Sets) (place : ℕ) (bs : List Sets) (texts : List (List ℕ)) (ss : List Step) → AreEntries texts ss → AreSteps origin ss a bs
      → shows_soa origin soa (last_of a (take place bs)) ≡ true → AllByRecursion (λ b. shows_soa origin soa b ≡ false) (drop place bs)
      → up_to_last (leads_to soa) texts ≡ take place texts
  unfolding up_to_last
  up_to_version a zero bs texts ss entries steps there none = nothing_left texts (none_leads a bs texts ss entries steps none)
  up_to_version a (suc place) bs [] ss entries steps there none = refl
  up_to_version a (suc place) bs (text ∷ texts) [] entries steps there none = absurd entries
  up_to_version a (suc place) [] (text ∷ texts) (s ∷ ss) entries steps there none = absurd steps
  up_to_version a (suc place) (b ∷ bs) (text ∷ texts) (s ∷ ss) entries steps there none =
      (λ i. if some i then text ∷ up_to_version b place bs texts ss entries.1 steps.1 there none i else [])
    where
      by : (c : Bool) → shows_soa origin soa b ≡ c → list_any (leads_to soa) (text ∷ texts) ≡ true
      by true g = ap (λ c. c || list_any (leads_to soa) texts) (leads_there a b text s entries.0 steps.0 ∙ g)
      by false g = ap (λ c. leads_to soa text || c) (some_leads b place bs texts ss entries.1 steps.1 g there) ∙ or_true (leads_to soa text)

      some : list_any (leads_to soa) (text ∷ texts) ≡ true
      some = by (shows_soa origin soa b) refl

-- ---- what is left of a journal

journal_parted : (place : ℕ) (texts : List (List ℕ)) → journal_of texts ≡ journal_of (take place texts) ++ journal_of (drop place texts)
journal_parted zero texts = refl
journal_parted (suc place) [] = refl
journal_parted (suc place) (text ∷ texts) =
    ap (λ o. framed text ++ o) (journal_parted place texts) ∙ sym (append_assoc (framed text) (journal_of (take place texts)) (journal_of (drop place texts)))

same_behind : (front one other octets : List ℕ) → octets ≡ front ++ one → octets ≡ front ++ other → one ≡ other
same_behind front one other octets h g =
    sym (drop_at front one (length front) refl) ∙ ap (drop (length front)) (sym h ∙ g) ∙ drop_at front other (length front) refl

messages_behind : (place : ℕ) (texts : List (List ℕ)) → AreMessages texts → AreMessages (drop place texts)
messages_behind zero texts h = h
messages_behind (suc place) [] h = tt
messages_behind (suc place) (text ∷ texts) h = messages_behind place texts h.1

entries_behind : (place : ℕ) (texts : List (List ℕ)) (ss : List Step) → AreEntries texts ss → AreEntries (drop place texts) (drop place ss)
entries_behind zero texts ss h = h
entries_behind (suc place) [] [] h = tt
entries_behind (suc place) [] (s ∷ ss) h = absurd h
entries_behind (suc place) (text ∷ texts) [] h = absurd h
entries_behind (suc place) (text ∷ texts) (s ∷ ss) h = entries_behind place texts ss h.1

steps_behind : (place : ℕ) (origin : Name) (ss : List Step) (a : Sets) (bs : List Sets) → AreSteps origin ss a bs
    → AreSteps origin (drop place ss) (last_of a (take place bs)) (drop place bs)
steps_behind zero origin ss a bs h = h
steps_behind (suc place) origin [] a [] h = tt
steps_behind (suc place) origin [] a (b ∷ bs) h = absurd h
steps_behind (suc place) origin (s ∷ ss) a [] h = absurd h
steps_behind (suc place) origin (s ∷ ss) a (b ∷ bs) h = steps_behind place origin ss b bs h.1

zones_behind : (place : ℕ) (bs : List Sets) → AllByRecursion IsZone bs → AllByRecursion IsZone (drop place bs)
zones_behind zero bs h = h
zones_behind (suc place) [] h = tt
zones_behind (suc place) (b ∷ bs) h = zones_behind place bs h.1

zone_at : (place : ℕ) (a : Sets) (bs : List Sets) → IsZone a → AllByRecursion IsZone bs → IsZone (last_of a (take place bs))
zone_at zero a bs h zones = h
zone_at (suc place) a [] h zones = h
zone_at (suc place) a (b ∷ bs) h zones = zone_at place b bs zones.0 zones.1

last_behind : (place : ℕ) (a : Sets) (bs : List Sets) → last_of (last_of a (take place bs)) (drop place bs) ≡ last_of a bs
last_behind zero a bs = refl
last_behind (suc place) a [] = refl
last_behind (suc place) a (b ∷ bs) = last_behind place b bs

-- answers show the SOA of a version that a zone has what they show of
soa_shown : (origin : Name) (soa : RRset) (m z : Sets) → SameZone m (shown z) → set_at m origin SOA ≡ Some soa → shows_soa origin soa z ≡ true
soa_shown origin soa m z like is =
    turned (shown_if (set_at z origin SOA)) soa
    ∙ (λ i. same_at (sym is i) (sym (found_shown z (key origin SOA)) i))
    ∙ like (key origin SOA)
  where
    turned : (o : Option RRset) (s : RRset) → same_at o (Some s) ≡ same_at (Some s) o
    turned None s = refl
    turned (Some t) s = same_set_equiv.symm t s

pub journals_shorten : JournalsShorten
journals_shorten origin a m bs octets rest place soa h v is = (
  journal,
  lead (journals_lead origin (last_of a (take place bs)) m (drop place bs) rest journal v.zone v.like),
)
  where
    frames : frames_in octets ≡ h.texts
    frames = ap frames_in h.put ∙ frames_are_messages h.texts h.frames

    left : left_out soa octets ≡ take place h.texts
    left = ap (up_to_last (leads_to soa)) frames
        ∙ up_to_version origin soa a place bs h.texts h.steps h.entries h.lead (soa_shown origin soa m (last_of a (take place bs)) v.like v.soa_is) v.last

    rest_is : rest ≡ journal_of (drop place h.texts)
    rest_is = same_behind (journal_of (take place h.texts)) rest (journal_of (drop place h.texts)) octets
        (is ∙ ap (λ ts. journal_of ts ++ rest) left) (h.put ∙ journal_parted place h.texts)

    journal : IsJournal origin (last_of a (take place bs)) (drop place bs) rest
    journal = record {
      texts = drop place h.texts;
      put = rest_is;
      frames = messages_behind place h.texts h.frames;
      steps = drop place h.steps;
      entries = entries_behind place h.texts h.steps h.entries;
      lead = steps_behind place origin h.steps a bs h.lead;
      first = zone_at place a bs h.first h.others;
      others = zones_behind place bs h.others;
    }

    lead : LeadsTo (replayed m rest) (last_of (last_of a (take place bs)) (drop place bs)) → LeadsTo (replayed m rest) (last_of a bs)
    lead = subst (LeadsTo (replayed m rest)) (last_behind place a bs)
