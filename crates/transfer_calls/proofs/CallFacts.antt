-- What the calls of a program do to keys and transfers, from what is done to those that are held
use Rattle.std.proofs.Common.{◌≡◌, ◌⊎◌, ◌∙◌, ℕ, Bool, true, false, List, [], ap, inl, inr, refl, sym, subst, Ok, Err, Result}
use Rattle.std.specs.Prelude.{Option, Some}
use Rattle.std.specs.declared.alloc.AllocError.{AllocError}
use Rattle.call_handles.specs.Rooms.{IsUntouched}
use Rattle.arrival_calls.specs.declared.client.ClientMessage.{ClientMessage}
use Rattle.zone_server.specs.declared.transport.Transport.{Transport}
use Rattle.zone_database.specs.declared.database.ZoneDatabase.{ZoneDatabase}
use Rattle.zone_database.specs.declared.outcome.Outcome.{Outcome}
use Rattle.zone_database.specs.declared.outcome.Outcome.TheVariants.{Done, NoMemory}
use Rattle.zone_database.specs.declared.zone.Zone.{Zone}
use Rattle.zone_database.specs.Databases.{zones_in}
use Rattle.held_transfers.specs.declared.access.TransferAccess.{TransferAccess}
use Rattle.held_transfers.specs.declared.answering.KeyedAnswer.{KeyedAnswer}
use Rattle.held_steps.specs.declared.held_answer.HeldAnswer.{HeldAnswer}
use Rattle.held_transfers.specs.Accesses.{ReadsKeys}
use Rattle.held_transfers.specs.Answering.{AnswersWithKeys}
use Rattle.held_steps.specs.Sending.{GoesOnAnswer}
use Rattle.transfer_calls.specs.declared.outcome.TransferOutcome.{TransferOutcome}
use Rattle.transfer_calls.specs.declared.outcome.TransferOutcome.TheVariants.{Usual, NoMore}
use Rattle.transfer_calls.specs.Accesses.{AllowsHeld, IsAllowed, IsSameAccess, IsUnreadGrant, ReadsAccess}
use Rattle.transfer_calls.specs.Transfers.{AnswersByAccess, AnswersByZones, AnswersKeyed, FindsNoMemory, GivesMessage, HandsOut, IsGivenBy, IsKeptBy, TellsAnswer, TellsMessage}

-- ---- keys

-- the keys that were read are held, or no memory was found for that
pub read_put : (text : List ℕ) (a : TransferAccess) (o : Outcome) (old new : Option TransferAccess) → ReadsKeys text a.keys.items → a.grants.items ≡ []
    → ((o ≡ Done) × (new ≡ Some a)) ⊎ ((o ≡ NoMemory) × (new ≡ old)) → ReadsAccess text old o new
read_put text a o old new keys grants (inl (held, put)) = subst (λ (x : Outcome). ReadsAccess text old x new) (sym held) (a, keys, grants, put)
read_put text a o old new keys grants (inr (none, same)) = subst (λ (x : Outcome). ReadsAccess text old x new) (sym none) same

-- ---- who may have a zone

pub unread_grant : (origin key : List ℕ) (a b : TransferAccess) (o : TransferOutcome) → IsUnreadGrant origin key o → IsSameAccess a b → IsAllowed origin key a o b
unread_grant origin key a b o (inl none) same = subst (λ (x : TransferOutcome). IsAllowed origin key a x b) (sym none) same
unread_grant origin key a b o (inr (bad, unread)) same = subst (λ (x : TransferOutcome). IsAllowed origin key a x b) (sym bad) (unread, same)

pub allowed_held : (origin key : List ℕ) (held new : Option TransferAccess) (a after : TransferAccess) (o : TransferOutcome) → held ≡ Some a → IsAllowed origin key a o after → new ≡ Some after
    → AllowsHeld origin key held o new
allowed_held origin key held new a after o is d set = subst (λ (h : Option TransferAccess). AllowsHeld origin key h o new) (sym is) (after, d, set)

-- ---- a message is answered

module _ (t : Transport) (m : ClientMessage) (old new : Option HeldAnswer) (o : TransferOutcome) (written : ℕ) (before after : List ℕ) where
  pub answered : (access : TransferAccess) (zs : List Zone) (x : KeyedAnswer) (octets : List ℕ) → AnswersWithKeys access zs m.moment t m.octets.now x octets
      → TellsAnswer x octets old o written before after new → AnswersKeyed access zs t m old o written before after new
  answered access zs x octets is told = inr (x, octets, is, told)

  pub unanswered : (access : TransferAccess) (zs : List Zone) → FindsNoMemory old o written before after new → AnswersKeyed access zs t m old o written before after new
  unanswered access zs none = inl none

  pub by_access : (held : Option TransferAccess) (access : TransferAccess) (zs : List Zone) → held ≡ Some access → AnswersKeyed access zs t m old o written before after new
      → AnswersByAccess held zs t m old o written before after new
  by_access held access zs is d = subst (λ (h : Option TransferAccess). AnswersByAccess h zs t m old o written before after new) (sym is) d

  pub by_zones : (held : Option ZoneDatabase) (c : ZoneDatabase) (access : Option TransferAccess) → held ≡ Some c → AnswersByAccess access (zones_in c) t m old o written before after new
      → AnswersByZones held access t m old o written before after new
  by_zones held c access is d = subst (λ (h : Option ZoneDatabase). AnswersByZones h access t m old o written before after new) (sym is) d

-- ---- a transfer goes on

module _ (now : ℕ) (old h : HeldAnswer) (octets : List ℕ) (written : ℕ) (before after : List ℕ) (r : Result Bool AllocError) where
  pub handed : (o : TransferOutcome) (b : Bool) → r ≡ Ok b → b ≡ true → GoesOnAnswer now old h octets r → IsGivenBy octets o written before after → HandsOut now old h o written before after
  handed o b is more on told = record { octets = octets; goes = r; on = on; told = subst (λ (x : Result Bool AllocError). TellsMessage x octets o written before after) (sym (is ∙ ap Ok more)) told }

  pub handed_none : (b : Bool) → r ≡ Ok b → b ≡ false → GoesOnAnswer now old h octets r → IsUntouched written before after → HandsOut now old h NoMore written before after
  handed_none b is none on same =
      record { octets = octets; goes = r; on = on; told = subst (λ (x : Result Bool AllocError). TellsMessage x octets NoMore written before after) (sym (is ∙ ap Ok none)) (refl, same) }

  pub handed_later : (e : AllocError) → r ≡ Err e → GoesOnAnswer now old h octets r → IsUntouched written before after → HandsOut now old h (Usual NoMemory) written before after
  handed_later e is on same =
      record { octets = octets; goes = r; on = on; told = subst (λ (x : Result Bool AllocError). TellsMessage x octets (Usual NoMemory) written before after) (sym is) (refl, same) }

pub given_held : (now : ℕ) (held : Option HeldAnswer) (old h : HeldAnswer) (o : TransferOutcome) (written : ℕ) (before after : List ℕ) (new : Option HeldAnswer) → held ≡ Some old
    → HandsOut now old h o written before after → IsKeptBy o h new → GivesMessage now held o written before after new
given_held now held old h o written before after new is handed kept = subst (λ (x : Option HeldAnswer). GivesMessage now x o written before after new) (sym is) (h, handed, kept)
