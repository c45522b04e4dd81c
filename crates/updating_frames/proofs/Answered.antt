-- What comes of a message
use Rattle.std.proofs.Common.{◌≡◌, inl, inr, ℕ, true, List, [], refl, ap, subst}
use Rattle.std.specs.Prelude.{OnErr, OnOk, Option, Result, Ok, Err}
use Rattle.std.specs.Io.KnownBytes.{Appends}
use Rattle.zone_server.specs.declared.waiting.Stop.{Stop}
use Rattle.zone_server.specs.Frames.{Framed, framed}
use Rattle.zone_server.specs.Stopping.{MovesFront}
use Rattle.zone_server.proofs.WrittenFronts.{none_front, on_err_from}
use Rattle.served_frames.specs.Serving.{Writes}
use Rattle.served_frames.specs.Stopping.{Stops}
use Rattle.zone_database.specs.declared.zone.Zone.{Zone}
use Rattle.keyed_frames.specs.Serving.{AnswersByKeys}
use Rattle.keyed_frames.specs.Stopping.{BeginsByKeys}
use Rattle.keyed_frames.specs.Stopping as keyed
use Rattle.held_updates.specs.Journaling.{IsPlanJournaled}
use Rattle.held_updates.specs.Planning.{PlansUpdate}
use Rattle.held_updates.specs.declared.planned.PlannedUpdate.{PlannedUpdate}
use Rattle.held_updates.specs.declared.planned.PlannedUpdate.TheVariants as planned
use Rattle.updating_frames.specs.Turns.{Answers, Begins, Comes, IsBegun, State}
use Rattle.updating_frames.proofs.Grown.{grows_by_none, stays}

module _ (f : Framed) (s : State) (octets : List ℕ) (v w : Option (List ℕ)) (r : Result (Unit {0}) Stop) where
  -- by keys
  pub by_keys : OnOk r (Writes (AnswersByKeys s.access s.zones f) v w) → OnOk r (Writes (Comes f planned.Other octets s s) v w)
  by_keys h = by r h
    where
      by : (r : Result (Unit {0}) Stop) → OnOk r (Writes (AnswersByKeys s.access s.zones f) v w) → OnOk r (Writes (Comes f planned.Other octets s s) v w)
      by (Ok d) (text, is, a) = (text, (is, stays s), a)
      by (Err e) a = tt

  pub stopped_keys : OnErr r (keyed.Stops (BeginsByKeys s.access s.zones f) v w) → OnErr r (Stops (IsBegun f planned.Other octets s s) v w)
  stopped_keys h =
      on_err_from r (keyed.Stops (BeginsByKeys s.access s.zones f) v w) (Stops (IsBegun f planned.Other octets s s) v w)
      (λ x. record { text = x.text; is = (x.is, stays s); front = x.front }) h

  -- by a response alone
  pub by_refusal : OnOk r (Appends v w (framed octets)) → OnOk r (Writes (Comes f planned.Refused octets s s) v w)
  by_refusal h = by r h
    where
      by : (r : Result (Unit {0}) Stop) → OnOk r (Appends v w (framed octets)) → OnOk r (Writes (Comes f planned.Refused octets s s) v w)
      by (Ok d) a = (framed octets, (refl, stays s), a)
      by (Err e) a = tt

  pub by_response : OnOk r (Appends v w (framed octets)) → OnOk r (Writes (Comes f planned.Unchanged octets s s) v w)
  by_response h = by_refusal h

  pub stopped_refusal : OnErr r (MovesFront (framed octets) v w) → OnErr r (Stops (IsBegun f planned.Refused octets s s) v w)
  stopped_refusal h =
      on_err_from r (MovesFront (framed octets) v w) (Stops (IsBegun f planned.Refused octets s s) v w)
      (λ x. record { text = framed octets; is = (refl, stays s); front = x }) h

  pub stopped_response : OnErr r (MovesFront (framed octets) v w) → OnErr r (Stops (IsBegun f planned.Unchanged octets s s) v w)
  stopped_response h =
      on_err_from r (MovesFront (framed octets) v w) (Stops (IsBegun f planned.Unchanged octets s s) v w)
      (λ x. record { text = framed octets; is = (refl, stays s); front = x }) h

-- At a moment. Between what is planned of a message and what comes of it the zones are as they were.
module _ (f : Framed) (old new : State) (zs : List Zone) (same : zs ≡ old.zones) (now : ℕ) (plan : PlannedUpdate) (octets : List ℕ) (v w : Option (List ℕ)) (r : Result (Unit {0}) Stop)
    (plans : PlansUpdate old.updates now f.message old.zones plan octets) (journaled : IsPlanJournaled true old.zones plan) where
  abbrev mid : State
  mid = record old { zones = zs }

  back : mid ≡ old
  back = ap (λ (ys : List Zone). record old { zones = ys }) same

  pub answered : OnOk r (Writes (Comes f plan octets mid new) v w) → OnOk r (Writes (Answers f old new) v w)
  answered h = by r (subst (λ (s : State). OnOk r (Writes (Comes f plan octets s new) v w)) back h)
    where
      by : (r : Result (Unit {0}) Stop) → OnOk r (Writes (Comes f plan octets old new) v w) → OnOk r (Writes (Answers f old new) v w)
      by (Ok d) (text, is, a) = (text, record { moment = now; plan = plan; octets = octets; plans = plans; journaled = journaled; comes = is }, a)
      by (Err e) a = tt

  pub begun : OnErr r (Stops (IsBegun f plan octets mid new) v w) → OnErr r (Stops (Begins f old new) v w)
  begun h =
      on_err_from r (Stops (IsBegun f plan octets old new) v w) (Stops (Begins f old new) v w)
      (λ x. record {
        text = x.text;
        is = inr (record { moment = now; plan = plan; octets = octets; plans = plans; journaled = journaled; begun = x.is });
        front = x.front;
      }) (subst (λ (s : State). OnErr r (Stops (IsBegun f plan octets s new) v w)) back h)

-- nothing was done yet
pub not_begun : (f : Framed) (s : State) (zs : List Zone) (v : Option (List ℕ)) → zs ≡ s.zones → Stops (Begins f s (record s { zones = zs })) v v
not_begun f s zs v same = record {
  text = [];
  is = inl (refl, record { access = refl; updates = refl; zones = same; entries = grows_by_none s.entries });
  front = none_front [] v;
}
