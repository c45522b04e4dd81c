-- A zone in place of the one that was loaded
use Rattle.std.proofs.Common.{◌≡◌, ℕ, List, sym, subst}
use Rattle.std.specs.Prelude.{Option, Some, None, Ok, Err}
use Rattle.zone_database.specs.declared.zone.Zone.{Zone}
use Rattle.zone_database.specs.Databases.{with_zone}
use Rattle.zone_journal.specs.declared.replaying.ReplayFault.{ReplayFault}
use Rattle.zone_journal.specs.declared.replaying.ReplayFault.TheVariants as fault
use Rattle.held_updates.specs.Replaying.{Replays}
use Rattle.zoned.specs.Replays.{IsReplayed, IsUnreplayed}

module _ (journal : List ℕ) (found : Option Zone) where
  pub no_zone : (zs new : List Zone) → found ≡ None → new ≡ zs → IsReplayed journal found zs new
  no_zone zs new none same = subst (λ (f : Option Zone). IsReplayed journal f zs new) (sym none) same

  pub replayed : (z after : Zone) (zs new : List Zone) → found ≡ Some z → Replays z journal (Ok after) → new ≡ with_zone after zs → IsReplayed journal found zs new
  replayed z after zs new is replays put = subst (λ (f : Option Zone). IsReplayed journal f zs new) (sym is) (after, replays, put)

  pub unreplayed : (z : Zone) (e : ReplayFault) → found ≡ Some z → Replays z journal (Err e) → IsUnreplayed journal found e
  unreplayed z fault.Memory is replays = tt
  unreplayed z fault.NoEntry is replays = subst (λ (f : Option Zone). IsUnreplayed journal f fault.NoEntry) (sym is) replays
  unreplayed z fault.Misfit is replays = subst (λ (f : Option Zone). IsUnreplayed journal f fault.Misfit) (sym is) replays
