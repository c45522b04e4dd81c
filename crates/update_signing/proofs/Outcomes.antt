-- What comes of an update of a signed zone, from what the steps of the way say
use Rattle.std.proofs.Common.{◌≡◌, ◌<◌, ℕ, List, [], sym, ap, subst, arith, Result, Ok, Err}
use Rattle.std.specs.Prelude.{Option, Some, None, IfOk, IfErr, IfSome}
use Rattle.std.specs.Option.{IfNone}
use Rattle.zone_lookup.specs.StartOfAuthority.{serial}
use Rattle.zone_map.specs.Zones.{Sets}
use Rattle.zone_proto.specs.Names.{Name}
use Rattle.zone_update.specs.Entries.{◌>>=◌, IsRefusal}
use Rattle.zone_update.specs.Updates.{course_of, Course}
use Rattle.zone_update.specs.declared.entry.Entry.{Entry}
use Rattle.zone_update.specs.declared.refusal.Refusal.{Refusal}
use Rattle.zone_update.specs.declared.refusal.Refusal.TheVariants.{FormErr, NXDomain, Refused, YXDomain, YXRRSet, NXRRSet, NotAuth, NotZone, Memory}
use Rattle.update_message.specs.Updates.{Parts}
use Rattle.update_answers.specs.Replies.{reply_text}
use Rattle.update_answers.proofs.Codes.{code_short}
use Rattle.update_denials.specs.declared.preparing.PrepareFault.{PrepareFault}
use Rattle.update_denials.specs.declared.preparing.PrepareFault.TheVariants as why
use Rattle.update_denials.specs.declared.preparing.Prepared.{Prepared}
use Rattle.update_denials.specs.declared.preparing.Signing.{Signing}
use Rattle.update_denials.specs.Prepared.{IsPrepared, IsUnchanged, IsUnprepared}
use Rattle.update_signing.specs.Outcomes.{IsOutcome}
use Rattle.update_signing.specs.Replies.{outcome_of, reply_code, reply_of, IsSignedReply}
use Rattle.update_signing.specs.declared.answering.SignedReply.{SignedReply}
use Rattle.update_signing.specs.declared.answering.SignedReply.TheVariants as reply

-- an update takes this course, if it may go on
abbrev gone_on : Result Course Refusal → Result (Unit {0}) Refusal → Result Course Refusal
gone_on course may = may >>= λ _. course

module _ (origin : Name) (old : Sets) (signing : Signing) where
  -- ---- an update that may go on has the outcome of its changes alone, and another is refused

  pub permitted_outcome : (may : Result (Unit {0}) Refusal) (x : Unit {0}) (course : Result Course Refusal) (made : Result (Option Prepared) PrepareFault) → may ≡ Ok x
      → IsOutcome origin old signing course made → IsOutcome origin old signing (may >>= λ _. course) made
  permitted_outcome may x course made h is = subst (λ (o : Result (Unit {0}) Refusal). IsOutcome origin old signing (o >>= λ _. course) made) (sym h) is

  pub refused_outcome : (may : Result (Unit {0}) Refusal) (course : Result Course Refusal) (e : Refusal) → IsRefusal e may → IsOutcome origin old signing (may >>= λ _. course) (Err (why.Refused e))
  refused_outcome may course e h = by e h
    where
      by : (e : Refusal) → IsRefusal e may → IsRefusal e (may >>= λ _. course)
      by Memory h = tt
      by FormErr h = ap (gone_on course) h
      by NXDomain h = ap (gone_on course) h
      by Refused h = ap (gone_on course) h
      by YXDomain h = ap (gone_on course) h
      by YXRRSet h = ap (gone_on course) h
      by NXRRSet h = ap (gone_on course) h
      by NotAuth h = ap (gone_on course) h
      by NotZone h = ap (gone_on course) h

  -- ---- changes without prerequisites

  module _ (prerequisites changes : List Entry) where
    abbrev course : Result Course Refusal
    course = course_of origin old prerequisites changes

    -- what is said of them where they are prepared is their outcome
    outcome : (made : Result (Option Prepared) PrepareFault)
        → IfOk made (λ found. IfSome found (λ (p : Prepared). IsPrepared origin old prerequisites changes signing p.plan))
        → IfOk made (λ found. IfNone found (IsUnchanged course))
        → IfOk made (λ found. IfSome found (λ (p : Prepared). p.serial ≡ serial old origin))
        → IfErr made (IsUnprepared origin old prerequisites changes signing)
        → IsOutcome origin old signing course made
    outcome (Ok None) prepared unchanged stood fault = unchanged
    outcome (Ok (Some p)) prepared unchanged stood fault = (prepared.after, prepared.updated, prepared.made, stood)
    outcome (Err (why.Refused r)) prepared unchanged stood fault = fault
    outcome (Err (why.Unsigned e)) prepared unchanged stood fault = fault
    outcome (Err why.Memory) prepared unchanged stood fault = tt

  pub prepared_outcome : (prerequisites changes : List Entry) (made : Result (Option Prepared) PrepareFault) → prerequisites ≡ []
      → IfOk made (λ found. IfSome found (λ (p : Prepared). IsPrepared origin old prerequisites changes signing p.plan))
      → IfOk made (λ found. IfNone found (IsUnchanged (course_of origin old prerequisites changes)))
      → IfOk made (λ found. IfSome found (λ (p : Prepared). p.serial ≡ serial old origin))
      → IfErr made (IsUnprepared origin old prerequisites changes signing)
      → IsOutcome origin old signing (course_of origin old [] changes) made
  prepared_outcome prerequisites changes made none prepared unchanged stood fault =
      subst (λ (ps : List Entry). IsOutcome origin old signing (course_of origin old ps changes) made) none (outcome prerequisites changes made prepared unchanged stood fault)

  -- ---- the response

  -- what is replied tells the outcome
  told : (took : Result Course Refusal) (made : Result (Option Prepared) PrepareFault) → IsOutcome origin old signing took made
      → IsOutcome origin old signing took (outcome_of (reply_of made))
  told took (Ok (Some p)) h = h
  told took (Ok None) h = h
  told took (Err (why.Refused r)) h = h
  told took (Err (why.Unsigned e)) h = h
  told took (Err why.Memory) h = tt

  pub replied : (course : Parts → Result Course Refusal) (p : Parts) (made : Result (Option Prepared) PrepareFault) (r : SignedReply) (code : ℕ) (octets : List ℕ)
      → IsOutcome origin old signing (course p) made → r ≡ reply_of made → code ≡ reply_code r → octets ≡ reply_text p.header code p.has_extension
      → IsSignedReply origin old signing course p r octets
  replied course p made r code octets h is coded text = (
    subst (λ (x : SignedReply). IsOutcome origin old signing (course p) (outcome_of x)) (sym is) (told (course p) made h),
    subst (λ (k : ℕ). octets ≡ reply_text p.header k p.has_extension) coded text,
  )

-- its code has four bits
pub reply_short : (r : SignedReply) → reply_code r < 16
reply_short (reply.Refused r) = code_short r
reply_short (reply.Unsigned e) = omega arith
reply_short reply.Unchanged = omega arith
reply_short (reply.Prepared p) = omega arith
