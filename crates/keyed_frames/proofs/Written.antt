-- Octets behind their length, and what is written to a message by what it is answered with
use Rattle.std.proofs.Common.{◌≡◌, ◌≢◌, ℕ, List, [], ◌∷◌, ◌++◌, length, map, refl, arith}
use Rattle.std.specs.Prelude.{Option, OnErr, OnOk, Result, Ok, Err}
use Rattle.std.specs.Io.KnownBytes.{Appends, Keeps}
use Rattle.std.proofs.KnownBytes.{Appends-kept, Appends-nil, Appends-trans}
use Rattle.zone_server.specs.declared.waiting.Stop.{Stop}
use Rattle.zone_server.specs.Answers.{IsAnswer}
use Rattle.zone_server.specs.Frames.{Framed, framed, length_text}
use Rattle.zone_server.specs.Stopping.{MovesFront}
use Rattle.zone_database.specs.declared.zone.Zone.{Zone}
use Rattle.zone_database.specs.Zones.{served_zone}
use Rattle.held_transfers.specs.declared.access.TransferAccess.{TransferAccess}
use Rattle.held_transfers.specs.declared.answering.KeyedAnswer.{KeyedAnswer}
use Rattle.held_transfers.specs.declared.answering.KeyedAnswer.TheVariants as answer
use Rattle.held_transfers.specs.declared.held_transfer.HeldTransfer.{HeldTransfer}
use Rattle.held_transfers.specs.Answering.{AnswersWithKeys}
use Rattle.keyed_frames.specs.Sending.{IsSentWhole}
use Rattle.keyed_frames.specs.Serving.{AnswersByKeys, IsPlainAnswer, IsWrittenFor, Writes}
use Rattle.keyed_frames.specs.Stopping.{BeginsFor, BeginsZone, Stops}
use Rattle.keyed_frames.proofs.StoppedFrames.{front_before, front_behind, stops_if, text_stops, whole_front}
use Rattle.zone_server.proofs.WrittenFronts.{on_err_from}

-- ---- behind a length

-- the length and the octets are written, and nothing more
pub both_appended : (head octets : List ℕ) (u v w x : Option (List ℕ)) → Appends u v head → Appends v w octets → Keeps w x → Appends u x (head ++ octets)
both_appended head octets u v w x a b kept = Appends-kept u w x (head ++ octets) (Appends-trans u v w head octets a b) kept

-- what was written where one of them fails
pub first_front : (head octets : List ℕ) (u v : Option (List ℕ)) → MovesFront head u v → MovesFront (head ++ octets) u v
first_front head octets u v f = front_before head octets u v f

pub second_front : (head octets : List ℕ) (u v w : Option (List ℕ)) → Appends u v head → MovesFront octets v w → MovesFront (head ++ octets) u w
second_front head octets u v w a f = front_behind head octets u v w a f

pub both_front : (head octets : List ℕ) (u v w x : Option (List ℕ)) → Appends u v head → Appends v w octets → Keeps w x → MovesFront (head ++ octets) u x
both_front head octets u v w x a b kept = whole_front (head ++ octets) u x (both_appended head octets u v w x a b kept)

pub framed_front : (xs : List ℕ) (u v : Option (List ℕ)) → length xs ≢ 0 → MovesFront (length_text (length xs) ++ xs) u v → MovesFront (framed xs) u v
framed_front [] u v some f = absurd (some refl)
framed_front (x ∷ xs) u v some f = f

pub framed_whole : (xs : List ℕ) (u v : Option (List ℕ)) → length xs ≢ 0 → Appends u v (length_text (length xs) ++ xs) → Appends u v (framed xs)
framed_whole [] u v some a = absurd (some refl)
framed_whole (x ∷ xs) u v some a = a

pub framed_nothing : (xs : List ℕ) (u : Option (List ℕ)) → length xs ≡ 0 → Appends u u (framed xs)
framed_nothing [] u none = Appends-nil u
framed_nothing (x ∷ xs) u none = absurd (omega arith)

-- ---- what is written to a message

module _ (zs : List Zone) (f : Framed) (u v : Option (List ℕ)) where
  pub by_plain : (r : Result (Unit {0}) Stop) (octets : List ℕ) → IsAnswer (map served_zone zs) f.transport f.message octets → OnOk r (Appends u v (framed octets)) → OnOk r (Writes (IsPlainAnswer zs f) u v)
  by_plain (Ok done) octets is a = (framed octets, (octets, is, refl), a)
  by_plain (Err stop) octets is a = tt

  pub by_any : (r : Result (Unit {0}) Stop) (octets : List ℕ) → OnOk r (Writes (IsPlainAnswer zs f) u v) → OnOk r (Writes (IsWrittenFor zs f answer.Unkeyed octets) u v)
  by_any (Ok done) octets w = w
  by_any (Err stop) octets w = tt

  pub by_response : (r : Result (Unit {0}) Stop) (octets : List ℕ) → OnOk r (Appends u v (framed octets)) → OnOk r (Writes (IsWrittenFor zs f answer.Response octets) u v)
  by_response (Ok done) octets a = (framed octets, refl, a)
  by_response (Err stop) octets a = tt

  pub by_transfer : (r : Result (Unit {0}) Stop) (h : HeldTransfer) (octets : List ℕ) → OnOk r (Writes (IsSentWhole h) u v) → OnOk r (Writes (IsWrittenFor zs f (answer.Transfer h) octets) u v)
  by_transfer (Ok done) h octets w = w
  by_transfer (Err stop) h octets w = tt

  -- by keys, at a moment
  pub by_keys : (access : TransferAccess) (now : ℕ) (r : Result (Unit {0}) Stop) (a : KeyedAnswer) (octets : List ℕ) → AnswersWithKeys access zs now f.transport f.message a octets
      → OnOk r (Writes (IsWrittenFor zs f a octets) u v) → OnOk r (Writes (AnswersByKeys access zs f) u v)
  by_keys access now (Ok done) a octets is w = (w.0, record { moment = now; answer_is = a; octets = octets; answers = is; written = w.1 }, w.2)
  by_keys access now (Err stop) a octets is w = tt

pub by_nothing : (zs : List Zone) (f : Framed) (u : Option (List ℕ)) (octets : List ℕ) → Writes (IsWrittenFor zs f answer.Nothing octets) u u
by_nothing zs f u octets = ([], refl, Appends-nil u)

-- ---- where it stops

module _ (zs : List Zone) (f : Framed) (u v : Option (List ℕ)) where
  pub stopped_plain : (r : Result (Unit {0}) Stop) (octets : List ℕ) → IsAnswer (map served_zone zs) f.transport f.message octets → OnErr r (MovesFront (framed octets) u v) → OnErr r (Stops (IsPlainAnswer zs f) u v)
  stopped_plain r octets is m = on_err_from r (MovesFront (framed octets) u v) (Stops (IsPlainAnswer zs f) u v) (text_stops (IsPlainAnswer zs f) (framed octets) u v (octets, is, refl)) m

  pub stopped_any : (r : Result (Unit {0}) Stop) (octets : List ℕ) → OnErr r (Stops (IsPlainAnswer zs f) u v) → OnErr r (Stops (BeginsFor zs f answer.Unkeyed octets) u v)
  stopped_any r octets s = s

  pub stopped_response : (r : Result (Unit {0}) Stop) (octets : List ℕ) → OnErr r (MovesFront (framed octets) u v) → OnErr r (Stops (BeginsFor zs f answer.Response octets) u v)
  stopped_response r octets m =
      on_err_from r (MovesFront (framed octets) u v) (Stops (BeginsFor zs f answer.Response octets) u v) (text_stops (BeginsFor zs f answer.Response octets) (framed octets) u v refl) m

  pub stopped_transfer : (r : Result (Unit {0}) Stop) (h : HeldTransfer) (octets : List ℕ) → OnErr r (Stops (BeginsZone h) u v) → OnErr r (Stops (BeginsFor zs f (answer.Transfer h) octets) u v)
  stopped_transfer r h octets s = s
