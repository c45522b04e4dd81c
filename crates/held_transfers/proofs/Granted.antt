-- The messages of a zone begin only for those who may have it.
use Rattle.std.proofs.Common.{◌≡◌, ◌∙◌, ℕ, Bool, true, false, cond, List, [], ◌∷◌, inl, inr, refl, sym, ap, subst}
use Rattle.std.proofs.lemmas.Map.Views.{tells_apart}
use Rattle.std.specs.Arc.{arc_value}
use Rattle.std.specs.List.{find}
use Rattle.std.specs.Prelude.{Option, Some, None, option_copied, if◌then◌else◌}
use Rattle.zone_proto.specs.NameLaws.{exact_names}
use Rattle.zone_proto.specs.Names.{Name, lower}
use Rattle.message_tsig.specs.declared.key.Key.{Key}
use Rattle.message_tsig.specs.declared.tsig.Tsig.{Tsig}
use Rattle.message_tsig.specs.Checking.{IsAuthentic}
use Rattle.zone_server.specs.declared.transfer_policy.TransferPolicy.{TransferPolicy}
use Rattle.zone_server.specs.declared.transfer_policy.TransferPolicy.TheVariants.{AllowAll, Deny}
use Rattle.zone_server.specs.declared.transport.Transport.{Transport}
use Rattle.zone_server.specs.Transfers.{Reply, by_code, by_soa, by_zone}
use Rattle.zone_database.specs.declared.zone.Zone.{Zone}
use Rattle.zone_database.specs.Databases.{begins_at}
use Rattle.transfer_messages.proofs.KeysAsked.{zones_go_to_their_keys}
use Rattle.transfer_messages.specs.declared.beginning.Begun.{Begun}
use Rattle.transfer_messages.specs.declared.beginning.Begun.TheVariants as begun
use Rattle.transfer_messages.specs.declared.open_transfer.OpenTransfer.{OpenTransfer}
use Rattle.transfer_messages.specs.declared.opening.Opened.{Opened}
use Rattle.transfer_messages.specs.declared.opening.Opened.TheVariants as opened
use Rattle.transfer_messages.specs.declared.opening.Request.{Request}
use Rattle.transfer_messages.specs.Beginning.{BeginsBy}
use Rattle.transfer_messages.specs.Opening.{IsAuthenticRequest}
use Rattle.transfer_messages.specs.TransferLaws.{MayBeSent}
use Rattle.held_transfers.specs.declared.access.TransferAccess.{TransferAccess}
use Rattle.held_transfers.specs.declared.answering.KeyedAnswer.TheVariants as answer
use Rattle.held_transfers.specs.declared.held_transfer.HeldTransfer.{HeldTransfer}
use Rattle.held_transfers.specs.Accesses.{is_let, policy_for}
use Rattle.held_transfers.specs.Answering.{AnswersOpened, IsHeld, IsHeldIfAny, reply_in, zones_asked}
use Rattle.held_transfers.specs.Laws.{IsEntitled, TransfersAreGranted}

-- a policy that isn't to deny is that of a grant
let_by : (b : Bool) (key : Option Key) (origin : Name) → MayBeSent (if b then AllowAll else Deny) key origin → b ≡ true
let_by true key origin m = refl
let_by false key origin (inl e) = cc
let_by false key origin (inr (e, k, is, may)) = cc

-- what a search finds passes its test
find_passes : {X : Type 0} (p : X → Bool) (xs : List X) (y : X) → find p xs ≡ Some y → p y ≡ true
find_passes p [] y e = cc
find_passes p (x ∷ xs) y e = by (p x) refl e (find_passes p xs y)
  where
    by : (b : Bool) → p x ≡ b → cond b (Some x) (find p xs) ≡ Some y → (find p xs ≡ Some y → p y ≡ true) → p y ≡ true
    by true h e up = let same : x ≡ y = cc in ap p (sym same) ∙ h
    by false h e up = up e

-- a zone that is found by a name has it as its origin
begins_there : (name : Name) (zs : List Zone) (z : Zone) → find (begins_at name) zs ≡ Some z → z.origin ≡ name
begins_there name zs z e = tells_apart exact_names z.origin name (find_passes (begins_at name) zs z e)

module _ (access : TransferAccess) (zs : List Zone) (now : ℕ) (t : Transport) (message : List ℕ) (h : HeldTransfer) (octets : List ℕ) where
  entitled : (r : Request) (z : Zone) (b : Begun) → z.origin ≡ lower r.query.question.name → IsAuthenticRequest access.keys.items now message (opened.Transfer r)
      → BeginsBy t now r (reply_in (policy_for access.grants.items (option_copied r.key) (lower r.query.question.name)) (Some z) t r) b octets
      → IsHeld z b (answer.Transfer h) → IsEntitled access now message h
  entitled r z begun.Answered asked is begins held = absurd held
  entitled r z (begun.Transfer x) asked is begins (same, its) =
      let key : Option Key = option_copied r.key in
      let origin : Name = lower r.query.question.name in
      let policy : TransferPolicy = policy_for access.grants.items key origin in
      let granted : is_let access.grants.items key origin ≡ true =
      let_by (is_let access.grants.items key origin) key origin (zones_go_to_their_keys t now r (zones_asked (Some z)) policy x octets begins) in
      let held : (arc_value h.zone).origin ≡ origin = ap (λ (y : Zone). y.origin) same ∙ asked in
      record {
        key = key;
        granted = subst (λ (n : Name). is_let access.grants.items key n ≡ true) (sym held) granted;
        authentic = λ k e. let found : (tsig : Tsig) × IsAuthentic access.keys.items now message tsig k r.message.items = is k e in (found.0, r.message.items, found.1);
      }

  by_zone_asked : (r : Request) (z : Option Zone) (b : Begun) → find (begins_at (lower r.query.question.name)) zs ≡ z
      → IsAuthenticRequest access.keys.items now message (opened.Transfer r)
      → BeginsBy t now r (reply_in (policy_for access.grants.items (option_copied r.key) (lower r.query.question.name)) z t r) b octets
      → IsHeldIfAny z b (answer.Transfer h) → IsEntitled access now message h
  by_zone_asked r None b found is begins held = absurd held
  by_zone_asked r (Some z) b found is begins held = entitled r z b (begins_there (lower r.query.question.name) zs z found) is begins held

  by_opened : (o : Opened) (written : List ℕ) → IsAuthenticRequest access.keys.items now message o → AnswersOpened access zs now t o written (answer.Transfer h) octets
      → IsEntitled access now message h
  by_opened opened.Other written is a = absurd a
  by_opened opened.Refused written is a = absurd a.0
  by_opened (opened.Signed rest s) written is a = absurd a.sealed
  by_opened (opened.Transfer r) written is (b, begins, held) =
      by_zone_asked r (find (begins_at (lower r.query.question.name)) zs) b refl is begins held

pub transfers_are_granted : TransfersAreGranted
transfers_are_granted access zs now t message h octets a = by_opened access zs now t message h octets a.found a.written a.authentic a.answers
