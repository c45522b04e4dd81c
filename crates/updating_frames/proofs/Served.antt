-- An update is in the journal of its zone before it is served, and served before its response is written
use Rattle.std.proofs.Common.{◌≡◌, inl, inr, ℕ, Bool, true, false, List, [], refl, subst}
use Rattle.std.specs.Prelude.{OnErr, OnOk, Option, Result, Ok, Err}
use Rattle.std.specs.Io.KnownBytes.{Appends}
use Rattle.zone_server.specs.declared.waiting.Stop.{Stop}
use Rattle.zone_server.specs.Frames.{framed}
use Rattle.zone_server.specs.Stopping.{MovesFront}
use Rattle.zone_server.proofs.WrittenFronts.{none_front, on_err_from}
use Rattle.zone_database.specs.declared.zone.Zone.{Zone}
use Rattle.served_frames.specs.Serving.{Writes}
use Rattle.served_frames.specs.Stopping.{Stops}
use Rattle.held_transfers.specs.declared.access.TransferAccess.{TransferAccess}
use Rattle.held_updates.specs.Committing.{Commits}
use Rattle.held_updates.specs.declared.access.UpdateAccess.{UpdateAccess}
use Rattle.held_updates.specs.declared.committing.Commit.TheVariants as commit
use Rattle.held_updates.specs.declared.planned.UpdatedZone.{UpdatedZone}
use Rattle.updating_frames.specs.Journals.{Entry, Takes}
use Rattle.updating_frames.specs.Turns.{entry_of, ServesUpdated, State, StopsUpdated}

module _ (access : TransferAccess) (updates : UpdateAccess) (u : UpdatedZone) (octets : List ℕ) (zs after : List Zone) (es took : Option (List Entry)) (v w : Option (List ℕ)) where
  abbrev old : State
  old = record { access = access; updates = updates; zones = zs; entries = es }

  abbrev new : State
  new = record { access = access; updates = updates; zones = after; entries = took }

  abbrev unserved : State
  unserved = record { access = access; updates = updates; zones = zs; entries = took }

  -- the journal doesn't take it
  pub not_taken : (taken : Bool) → Takes es took taken (entry_of u) → taken ≡ false → Stops (StopsUpdated u octets old unserved) v v
  not_taken taken takes is =
      record {
        text = [];
        is = inl (refl, record { access = refl; updates = refl; zones = refl; entries = subst (λ (b : Bool). Takes es took b (entry_of u)) is takes });
        front = none_front [] v;
      }

  -- the zone after it isn't served
  pub not_served : (taken : Bool) → Takes es took taken (entry_of u) → taken ≡ true → after ≡ zs → Stops (StopsUpdated u octets old new) v v
  not_served taken takes is same =
      record {
        text = [];
        is = inr (inl (refl, record { access = refl; updates = refl; zones_are = same; entries = subst (λ (b : Bool). Takes es took b (entry_of u)) is takes }));
        front = none_front [] v;
      }

  -- it is, and its response is written, or a front of it
  module _ (taken : Bool) (takes : Takes es took taken (entry_of u)) (is : taken ≡ true) (done : Commits u zs commit.Done after) (r : Result (Unit {0}) Stop) where
    so : ServesUpdated u octets old new (framed octets)
    so = (refl, record { access = refl; updates = refl; zones_are = done.1; entries = subst (λ (b : Bool). Takes es took b (entry_of u)) is takes })

    pub served : OnOk r (Appends v w (framed octets)) → OnOk r (Writes (ServesUpdated u octets old new) v w)
    served h = by r h
      where
        by : (r : Result (Unit {0}) Stop) → OnOk r (Appends v w (framed octets)) → OnOk r (Writes (ServesUpdated u octets old new) v w)
        by (Ok d) a = (framed octets, so, a)
        by (Err e) a = tt

    pub not_written : OnErr r (MovesFront (framed octets) v w) → OnErr r (Stops (StopsUpdated u octets old new) v w)
    not_written h =
        on_err_from r (MovesFront (framed octets) v w) (Stops (StopsUpdated u octets old new) v w)
        (λ f. record { text = framed octets; is = inr (inr so); front = f }) h
