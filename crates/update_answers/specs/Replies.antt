-- What a message asks for is made of a zone, and its response (RFC 2136 sections 3.1 to 3.8)
use Rattle.std.specs.Prelude.{◌≡◌, ℕ, Bool, false, List, Option, Some, None, Result, Ok, Err, if◌then◌else◌}
use Rattle.std.specs.Ordering.{eq_by_cmp}
use Rattle.zone_proto.specs.Names.{Name, lower, name_cmp}
use Rattle.zone_map.specs.Zones.{Sets}
use Rattle.message_reading.specs.declared.header.Header.{Header}
use Rattle.update_policy.specs.declared.rule.Rule.{Rule}
use Rattle.zone_update.specs.Entries.{code_of, IsRefusal}
use Rattle.zone_update.specs.declared.refusal.Refusal.{Refusal}
use Rattle.zone_update.specs.declared.refusal.Refusal.TheVariants.{FormErr, NotAuth}
use Rattle.update_message.specs.Responses.{response_text}
use Rattle.update_message.specs.Updates.{update_of, Parts}
use Rattle.update_message.specs.declared.message.UpdateError.{UpdateError}
use Rattle.update_message.specs.declared.message.UpdateError.TheVariants as unread
use Rattle.update_permission.specs.Permissions.{updated_if_permitted}
use Rattle.update_answers.specs.declared.answering.UpdateFault.{UpdateFault}
use Rattle.update_answers.specs.declared.answering.UpdateFault.TheVariants as fault
use Rattle.update_answers.specs.declared.answering.UpdateReply.{UpdateReply}
use Rattle.update_answers.specs.declared.answering.UpdateReply.TheVariants as reply

-- a name is this one, the case of its letters aside
abbrev pub is_zone : Name → Name → Bool
is_zone origin n = eq_by_cmp name_cmp (lower n) origin

-- the sets of the zone after the update, or none where it changes nothing: a zone of another name isn't this server's (section 3.1.2)
abbrev pub outcome : List Rule → Option Name → Name → Sets → Parts → Result (Option Sets) Refusal
outcome rules key origin m p = if is_zone origin p.zone then updated_if_permitted rules key origin m p.prerequisites p.changes else Err NotAuth

-- the octets of a response: its opcode is that of updates (section 3.8)
abbrev pub reply_text : Header → ℕ → Bool → List ℕ
reply_text h code has_extension = response_text (record h { opcode = 5 }) code has_extension

-- Octets answer what was read, where an update has this outcome, and this came of it. What is no update of class IN is refused without being
-- carried out (sections 3.1.1 and 3.1.2); SERVFAIL may come in place of each other refusal, for want of memory.
abbrev pub IsReply : (Parts → Result (Option Sets) Refusal) → Result Parts UpdateError → UpdateReply → List ℕ → Type 0
IsReply outcome (Ok p) (reply.Updated after) octets = (outcome p ≡ Ok (Some after)) × (octets ≡ reply_text p.header 0 p.has_extension)
IsReply outcome (Ok p) reply.Unchanged octets = (outcome p ≡ Ok None) × (octets ≡ reply_text p.header 0 p.has_extension)
IsReply outcome (Ok p) reply.Refused octets = (e : Refusal) × IsRefusal e (outcome p) × (octets ≡ reply_text p.header (code_of e) p.has_extension)
IsReply outcome (Err (unread.Malformed h)) reply.Refused octets = octets ≡ reply_text h (code_of FormErr) false
IsReply outcome (Err (unread.OtherClass h)) reply.Refused octets = octets ≡ reply_text h (code_of NotAuth) false
IsReply outcome read came octets = ⊥

-- why a message has no response here: it is no update, or memory ran out
abbrev pub IsUnanswered : List ℕ → UpdateFault → Type 0
IsUnanswered message fault.NoUpdate = update_of message ≡ Err unread.NoUpdate
IsUnanswered message fault.Memory = Unit {0}
