-- The response to an update of a signed zone (RFC 2136 section 3.8)
use Rattle.std.specs.Prelude.{◌≡◌, ℕ, List, Option, Some, None, Result, Ok, Err}
use Rattle.zone_map.specs.Zones.{Sets}
use Rattle.zone_proto.specs.Names.{Name}
use Rattle.zone_update.specs.Entries.{code_of}
use Rattle.zone_update.specs.Updates.{Course}
use Rattle.zone_update.specs.declared.refusal.Refusal.{Refusal}
use Rattle.zone_update.specs.declared.refusal.Refusal.TheVariants.{Memory}
use Rattle.update_policy.specs.declared.rule.Rule.{Rule}
use Rattle.update_message.specs.Updates.{Parts}
use Rattle.update_answers.specs.Replies.{reply_text}
use Rattle.update_denials.specs.declared.preparing.PrepareFault.{PrepareFault}
use Rattle.update_denials.specs.declared.preparing.PrepareFault.TheVariants as why
use Rattle.update_denials.specs.declared.preparing.Prepared.{Prepared}
use Rattle.update_denials.specs.declared.preparing.Signing.{Signing}
use Rattle.update_signing.specs.Outcomes.{course_if_permitted, IsOutcome}
use Rattle.update_signing.specs.declared.answering.SignedReply.{SignedReply}
use Rattle.update_signing.specs.declared.answering.SignedReply.TheVariants as reply

-- the course of an update that was read, where it is permitted
abbrev pub course_for : List Rule → Option Name → Name → Sets → Parts → Result Course Refusal
course_for rules key origin m p = course_if_permitted rules key origin m p.prerequisites p.changes

-- what came of an update that is answered so
abbrev pub outcome_of : SignedReply → Result (Option Prepared) PrepareFault
outcome_of (reply.Refused r) = Err (why.Refused r)
outcome_of (reply.Unsigned e) = Err (why.Unsigned e)
outcome_of reply.Unchanged = Ok None
outcome_of (reply.Prepared p) = Ok (Some p)

-- and the other way: want of memory is a refusal
abbrev pub reply_of : Result (Option Prepared) PrepareFault → SignedReply
reply_of (Ok (Some p)) = reply.Prepared p
reply_of (Ok None) = reply.Unchanged
reply_of (Err (why.Refused r)) = reply.Refused r
reply_of (Err (why.Unsigned e)) = reply.Unsigned e
reply_of (Err why.Memory) = reply.Refused Memory

-- The code of its response: that of the refusal; SERVFAIL, as for want of memory, where the zone after it can't be signed; and otherwise NOERROR
abbrev pub reply_code : SignedReply → ℕ
reply_code (reply.Refused r) = code_of r
reply_code (reply.Unsigned e) = code_of Memory
reply_code reply.Unchanged = 0
reply_code (reply.Prepared p) = 0

-- An update that was read, and would take this course, is answered so by these octets.
abbrev pub IsSignedReply : Name → Sets → Signing → (Parts → Result Course Refusal) → Parts → SignedReply → List ℕ → Type 0
IsSignedReply origin old signing course p r octets =
    IsOutcome origin old signing (course p) (outcome_of r) × (octets ≡ reply_text p.header (reply_code r) p.has_extension)
