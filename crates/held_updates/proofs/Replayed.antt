-- A journal leads a zone to its last version.
use Rattle.std.proofs.Common.{◌≡◌, ◌⊎◌, ◌∙◌, ℕ, List, inl, inr, refl, sym, ap, subst, Result, Ok, Err}
use Rattle.std.specs.Prelude.{Option}
use Rattle.zone_proto.specs.Sets.{RRset}
use Rattle.zone_proto.specs.Types.{SOA}
use Rattle.zone_map.specs.Zones.{Sets, set_at}
use Rattle.zone_difference.specs.Laws.{last_of, SameZone}
use Rattle.shown_zones.specs.Shown.{shown}
use Rattle.zone_journal.specs.declared.replaying.ReplayFault.{ReplayFault}
use Rattle.zone_journal.specs.declared.replaying.ReplayFault.TheVariants.{NoEntry, Misfit, Memory}
use Rattle.zone_journal.specs.Journals.{IsJournal}
use Rattle.zone_journal.specs.JournalLaws.{LeadsTo}
use Rattle.zone_journal.specs.Replays.{replayed, IsReplayFault}
use Rattle.zone_journal.specs.Shortening.{IsVersion}
use Rattle.zone_journal.proofs.Shortened.{journals_shorten}
use Rattle.zone_database.specs.declared.zone.Zone.{Zone}
use Rattle.zone_database.specs.Zones.{zone_of_records}
use Rattle.held_updates.specs.Replaying.{IsBehind, JournalsAreReplayed, Replays}

-- ---- what the steps of the way say

module _ (z : Zone) (journal rest : List ℕ) (behind : IsBehind (set_at (shown z.inner.records) z.origin SOA) journal rest) where
  pub made_of : (after : Zone) (m : Sets) → replayed (shown z.inner.records) rest ≡ Ok m → after ≡ zone_of_records z.origin m → Replays z journal (Ok after)
  made_of after m made is = (rest, behind, (m, made, is))

  pub refused_for : (e : ReplayFault) → IsReplayFault e (replayed (shown z.inner.records) rest) → Replays z journal (Err e)
  refused_for NoEntry made = (rest, behind, made)
  refused_for Misfit made = (rest, behind, made)
  refused_for Memory made = tt

-- ---- where a journal leads

clash : (made : Result Sets ReplayFault) (e : ReplayFault) (m : Sets) → made ≡ Err e → made ≡ Ok m → ⊥
clash made e m f g = absurd cc

ok_same : {m n : Sets} → ◌≡◌ {A = Result Sets ReplayFault} (Ok m) (Ok n) → m ≡ n
ok_same e = cc

module _ (z : Zone) (a : Sets) (bs : List Sets) (journal : List ℕ) (place : ℕ) (soa : RRset) (is : IsJournal z.origin a bs journal)
    (version : IsVersion z.origin a bs place (shown z.inner.records) soa) where
  leads : (rest : List ℕ) → IsBehind (set_at (shown z.inner.records) z.origin SOA) journal rest → LeadsTo (replayed (shown z.inner.records) rest) (last_of a bs)
  leads rest behind =
      (journals_shorten z.origin a (shown z.inner.records) bs journal rest place soa is version
      (subst (λ (o : Option RRset). IsBehind o journal rest) version.soa_is behind)).1

  led : (made : Result Zone ReplayFault) → Replays z journal made → (made ≡ Err Memory) ⊎ ((after : Zone) × (made ≡ Ok after) × SameZone after.inner.records (shown (last_of a bs)))
  led (Ok after) (rest, behind, (m, made, of)) =
      let l : LeadsTo (replayed (shown z.inner.records) rest) (last_of a bs) = leads rest behind in
      let its : l.0 ≡ after.inner.records = ok_same (sym l.1 ∙ made) ∙ sym (ap (λ (y : Zone). y.inner.records) of) in
      inr (after, refl, subst (λ (s : Sets). SameZone s (shown (last_of a bs))) its l.3)
  led (Err Memory) made = inl refl
  led (Err NoEntry) (rest, behind, made) = absurd (clash (replayed (shown z.inner.records) rest) NoEntry (leads rest behind).0 made (leads rest behind).1)
  led (Err Misfit) (rest, behind, made) = absurd (clash (replayed (shown z.inner.records) rest) Misfit (leads rest behind).0 made (leads rest behind).1)

pub journals_are_replayed : JournalsAreReplayed
journals_are_replayed z a bs journal place soa made is version replays = led z a bs journal place soa is version made replays
