-- What the calls of a program do to steps, from what is done to those that are held
use Rattle.std.proofs.Common.{◌≡◌, ℕ, List, refl, inl, inr, sym, subst}
use Rattle.std.specs.Prelude.{Option, Some, None}
use Rattle.std.specs.List.{find}
use Rattle.zone_proto.specs.Names.{Name}
use Rattle.zone_database.specs.declared.database.ZoneDatabase.{ZoneDatabase}
use Rattle.zone_database.specs.declared.outcome.Outcome.TheVariants.{Done, NoZone, NoMemory}
use Rattle.zone_database.specs.declared.zone.Zone.{Zone}
use Rattle.zone_database.specs.Databases.{begins_at, zones_in}
use Rattle.held_steps.specs.declared.held_answer.HeldAnswer.{HeldAnswer}
use Rattle.held_steps.specs.declared.histories.HeldSteps.{HeldSteps}
use Rattle.held_steps.specs.Histories.{history_of, most_in, HasNone, IsNotedIn, IsPut, IsSame}
use Rattle.held_steps.specs.Recalling.{IsRecalledIn}
use Rattle.transfer_calls.specs.declared.outcome.TransferOutcome.{TransferOutcome}
use Rattle.transfer_calls.specs.declared.outcome.TransferOutcome.TheVariants.{Usual}
use Rattle.transfer_calls.specs.Accesses.{IsName, IsUnread}
use Rattle.transfer_calls.specs.Steps.{BeginsSteps, IsTaken, Notes, NotesFrom, NotesHeld, NotesZone, ShortensAnswer, ShortensBy, ShortensHeld}

-- ---- steps are kept

pub begun : (most : ℕ) (s : HeldSteps) (old new : Option HeldSteps) → HasNone s → most_in s ≡ most → new ≡ Some s → BeginsSteps most old Done new
begun most s old new none bound put = (s, none, bound, put)

-- a version is taken in
module _ (z : Zone) (old new : HeldSteps) where
  pub taken_next : (journal : Option (List ℕ)) → None ≡ journal → IsNotedIn z old new → IsTaken journal z old new
  taken_next journal is noted = subst (λ (j : Option (List ℕ)). IsTaken j z old new) is noted

  pub taken_again : (journal : Option (List ℕ)) (octets : List ℕ) → Some octets ≡ journal → IsRecalledIn z octets old new → IsTaken journal z old new
  taken_again journal octets is recalled = subst (λ (j : Option (List ℕ)). IsTaken j z old new) is recalled

module _ (journal : Option (List ℕ)) (origin : Name) (old new : HeldSteps) where
  pub noted_at : (zone : Option Zone) (z : Zone) → Some z ≡ zone → IsTaken journal z old new → NotesZone journal origin zone old (Usual Done) new
  noted_at zone z is taken = subst (λ (x : Option Zone). NotesZone journal origin x old (Usual Done) new) is taken

  pub forgotten_at : (zone : Option Zone) → None ≡ zone → IsPut origin None (history_of old) (history_of new) → most_in new ≡ most_in old
      → NotesZone journal origin zone old (Usual NoZone) new
  forgotten_at zone is put most = subst (λ (x : Option Zone). NotesZone journal origin x old (Usual NoZone) new) is (record { forgotten = put; most = most })

  pub unnoted : (zone : Option Zone) → IsSame old new → NotesZone journal origin zone old (Usual NoMemory) new
  unnoted None same = same
  unnoted (Some z) same = same

pub unnoted_now : (journal : Option (List ℕ)) (origin : Name) (s : HeldSteps) (zone : Option Zone) → NotesZone journal origin zone s (Usual NoMemory) s
unnoted_now journal origin s zone = unnoted journal origin s s zone (record { histories = λ n. refl; most = refl })

module _ (journal : Option (List ℕ)) where
  pub noted_named : (octets : List ℕ) (zs : List Zone) (old new : HeldSteps) (o : TransferOutcome) (origin : Name) → IsName octets origin
      → NotesZone journal origin (find (begins_at origin) zs) old o new → Notes journal octets zs old o new
  noted_named octets zs old new o origin named notes = inl (record { origin = origin; named = named; notes = notes })

  pub unread : (octets : List ℕ) (zs : List Zone) (s : HeldSteps) (o : TransferOutcome) → IsUnread octets o → Notes journal octets zs s o s
  unread octets zs s o is = inr (is, record { histories = λ n. refl; most = refl })

  pub noted_from : (octets : List ℕ) (held : Option ZoneDatabase) (c : ZoneDatabase) (old new : HeldSteps) (o : TransferOutcome) → held ≡ Some c
      → Notes journal octets (zones_in c) old o new → NotesFrom journal octets held old o new
  noted_from octets held c old new o is notes = subst (λ (h : Option ZoneDatabase). NotesFrom journal octets h old o new) (sym is) notes

  pub noted_held : (octets : List ℕ) (zones : Option ZoneDatabase) (held new : Option HeldSteps) (old s : HeldSteps) (o : TransferOutcome) → held ≡ Some old
      → NotesFrom journal octets zones old o s → new ≡ Some s → NotesHeld journal octets zones held o new
  noted_held octets zones held new old s o is notes put = subst (λ (h : Option HeldSteps). NotesHeld journal octets zones h o new) (sym is) (s, notes, put)

-- ---- steps go out in place of a zone

pub shortened_by : (s : HeldSteps) (message : List ℕ) (held new : Option HeldAnswer) (old a : HeldAnswer) (o : TransferOutcome) → held ≡ Some old
    → ShortensAnswer s message old o a → new ≡ Some a → ShortensBy s message held o new
shortened_by s message held new old a o is does put = subst (λ (h : Option HeldAnswer). ShortensBy s message h o new) (sym is) (a, does, put)

pub shortened_held : (held : Option HeldSteps) (s : HeldSteps) (message : List ℕ) (old new : Option HeldAnswer) (o : TransferOutcome) → held ≡ Some s
    → ShortensBy s message old o new → ShortensHeld held message old o new
shortened_held held s message old new o is does = subst (λ (h : Option HeldSteps). ShortensHeld h message old o new) (sym is) does
