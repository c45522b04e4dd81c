-- What the call of a program does that replays a journal, from what is done in the zones that are held
use Rattle.std.proofs.Common.{◌≡◌, List, ℕ, ◌⊎◌, inl, inr, refl, sym, ap, subst, Err, Ok}
use Rattle.std.specs.Prelude.{Option, Some, None, IsErr}
use Rattle.std.specs.List.{find}
use Rattle.zone_proto.specs.Names.{Name, lower}
use Rattle.zone_database.specs.declared.database.ZoneDatabase.{ZoneDatabase}
use Rattle.zone_database.specs.declared.outcome.Outcome.TheVariants.{Done, BadName, NoMemory, NoZone}
use Rattle.zone_database.specs.declared.zone.Zone.{Zone}
use Rattle.zone_database.specs.declared.outcome.Outcome.{Outcome}
use Rattle.zone_database.specs.Calls.{origin_of}
use Rattle.zone_database.specs.Databases.{begins_at, with_zone, zones_in}
use Rattle.zone_journal.specs.declared.replaying.ReplayFault.{ReplayFault}
use Rattle.zone_journal.specs.declared.replaying.ReplayFault.TheVariants as fault
use Rattle.held_updates.specs.Replaying.{Replays}
use Rattle.journal_calls.specs.declared.outcome.JournalOutcome.{JournalOutcome}
use Rattle.journal_calls.specs.declared.outcome.JournalOutcome.TheVariants.{Usual}
use Rattle.journal_calls.specs.Replays.{fault_told, ReplaysAt, ReplaysHeld, ReplaysNamed}

module _ (journal : List ℕ) (zs : List Zone) where
  pub no_zone : (found : Option Zone) → found ≡ None → ReplaysAt journal found zs (Usual NoZone) zs
  no_zone found none = subst (λ (f : Option Zone). ReplaysAt journal f zs (Usual NoZone) zs) (sym none) (refl, refl)

  pub replayed_at : (found : Option Zone) (z after : Zone) (new : List Zone) → found ≡ Some z → Replays z journal (Ok after) → new ≡ with_zone after zs → ReplaysAt journal found zs (Usual Done) new
  replayed_at found z after new is replays put = subst (λ (f : Option Zone). ReplaysAt journal f zs (Usual Done) new) (sym is) (after, replays, put)

  pub not_put : (found : Option Zone) (z : Zone) (new : List Zone) → found ≡ Some z → new ≡ zs → ReplaysAt journal found zs (Usual NoMemory) new
  not_put found z new is same = subst (λ (f : Option Zone). ReplaysAt journal f zs (Usual NoMemory) new) (sym is) same

  pub refused_at : (found : Option Zone) (z : Zone) (e : ReplayFault) (o : JournalOutcome) → found ≡ Some z → Replays z journal (Err e) → o ≡ fault_told e → ReplaysAt journal found zs o zs
  refused_at found z e o is replays told =
      subst (λ (x : JournalOutcome). ReplaysAt journal found zs x zs) (sym told) (subst (λ (f : Option Zone). ReplaysAt journal f zs (fault_told e) zs) (sym is) (by e replays))
    where
      by : (e : ReplayFault) → Replays z journal (Err e) → ReplaysAt journal (Some z) zs (fault_told e) zs
      by fault.NoEntry r = (r, refl)
      by fault.Misfit r = (r, refl)
      by fault.Memory r = refl

  pub unread : (text : List ℕ) (o : Outcome) → (o ≡ NoMemory) ⊎ ((o ≡ BadName) × IsErr (origin_of text)) → ReplaysNamed text journal zs (Usual o) zs
  unread text o (inl none) = inl (inl (ap Usual none), refl)
  unread text o (inr (bad, wrong)) = inl (inr (ap Usual bad, wrong), refl)

  pub replayed_named : (text : List ℕ) (name : Name) (o : JournalOutcome) (new : List Zone) → origin_of text ≡ Ok name → ReplaysAt journal (find (begins_at (lower name)) zs) zs o new
      → ReplaysNamed text journal zs o new
  replayed_named text name o new is d = inr (name, is, d)

pub replayed_held : (text journal : List ℕ) (zones new : Option ZoneDatabase) (c after : ZoneDatabase) (o : JournalOutcome) → zones ≡ Some c → ReplaysNamed text journal (zones_in c) o (zones_in after)
    → new ≡ Some after → ReplaysHeld text journal zones o new
replayed_held text journal zones new c after o is d set = subst (λ (z : Option ZoneDatabase). ReplaysHeld text journal z o new) (sym is) (after, d, set)
