-- Zones change only by those whom their rules permit it.
use Rattle.std.proofs.Common.{◌≡◌, ◌≢◌, ◌∙◌, ℕ, Bool, true, false, cond, List, inl, inr, refl, sym, ap, subst, Result, Ok, Err}
use Rattle.std.specs.Bool.{MatchBool}
use Rattle.std.specs.List.{find}
use Rattle.std.specs.Prelude.{Option, Some, None}
use Rattle.message_reading.specs.declared.header.Header.{Header}
use Rattle.message_reading.specs.Headers.{header_of}
use Rattle.message_tsig.specs.Checking.{Checked, unsigned, malformed, refused, signed, checked_of}
use Rattle.zone_proto.specs.Names.{Name, lower}
use Rattle.zone_map.specs.Zones.{Sets}
use Rattle.update_policy.specs.declared.rule.Rule.{Rule}
use Rattle.zone_update.specs.declared.refusal.Refusal.{Refusal}
use Rattle.zone_update.specs.declared.refusal.Refusal.TheVariants.{Memory, NotAuth, Refused}
use Rattle.update_message.specs.Updates.{update_of, Parts}
use Rattle.update_message.specs.declared.message.UpdateError.{UpdateError}
use Rattle.update_permission.proofs.GoingOn.{serials_go_on}
use Rattle.update_permission.proofs.Permitted.{nothing_changes_without_key, permitted_sets_alone_change}
use Rattle.update_permission.specs.Permissions.{updated_if_permitted}
use Rattle.update_answers.specs.Replies.{is_zone, outcome, IsReply}
use Rattle.update_answers.specs.declared.answering.UpdateReply.TheVariants as reply
use Rattle.zone_database.specs.declared.zone.Zone.{Zone}
use Rattle.zone_database.specs.Databases.{begins_at}
use Rattle.held_updates.specs.declared.access.UpdateAccess.{UpdateAccess}
use Rattle.held_updates.specs.declared.answering.UpdateAnswer.{UpdateAnswer}
use Rattle.held_updates.specs.declared.answering.UpdateAnswer.TheVariants as answer
use Rattle.held_updates.specs.declared.planned.PlannedUpdate.{PlannedUpdate}
use Rattle.held_updates.specs.declared.planned.PlannedUpdate.TheVariants as planned
use Rattle.held_updates.specs.declared.planned.UpdatedZone.{UpdatedZone}
use Rattle.held_updates.specs.Answering.{Comes}
use Rattle.held_updates.specs.Planning.{has_expired, is_signed, is_update, outcome_among, outcome_in, IsItsOrigin, PlansBy, PlansHeader, PlansUpdate}
use Rattle.held_updates.specs.Laws.{IsPermitted, ChangesZone, PlansArePermitted, RefusalsChangeNothing, UpdatesArePermitted}
use Rattle.held_updates.specs.Tables.{rules_for}
use Rattle.held_updates.proofs.Standing.{found_put, others_stay}

-- an update of these sections was carried out in the zone of an origin, which has neither expired nor is signed
record IsCarriedOut (rules : List Rule) (key : Option Name) (origin : Name) (found : Option Zone) (p : Parts) (after : Sets) : Type 0 where
  pub zone : Zone
  pub stood : found ≡ Some zone
  pub current : has_expired zone ≡ false
  pub bare : is_signed zone ≡ false
  pub made : updated_if_permitted rules key origin zone.inner.records p.prerequisites p.changes ≡ Ok (Some after)

its_made : (made : Result (Option Sets) Refusal) (b : Bool) (after : Sets) → cond b made (Err NotAuth) ≡ Ok (Some after) → made ≡ Ok (Some after)
its_made made true after q = q
its_made made false after q = absurd cc

carried_in : (rules : List Rule) (key : Option Name) (origin : Name) (z : Zone) (p : Parts) (after : Sets) (a b : Bool) → has_expired z ≡ a → is_signed z ≡ b
    → cond a (Err Memory) (cond b (Err Refused) (outcome rules key origin z.inner.records p)) ≡ Ok (Some after) → IsCarriedOut rules key origin (Some z) p after
carried_in rules key origin z p after true b g h q = absurd cc
carried_in rules key origin z p after false true g h q = absurd cc
carried_in rules key origin z p after false false g h q = record {
  zone = z;
  stood = refl;
  current = g;
  bare = h;
  made = its_made (updated_if_permitted rules key origin z.inner.records p.prerequisites p.changes) (is_zone origin p.zone) after q;
}

carried_out : (rules : List Rule) (key : Option Name) (origin : Name) (found : Option Zone) (p : Parts) (after : Sets) → outcome_in rules key origin found p ≡ Ok (Some after)
    → IsCarriedOut rules key origin found p after
carried_out rules key origin None p after e = absurd cc
carried_out rules key origin (Some z) p after e = carried_in rules key origin z p after (has_expired z) (is_signed z) refl refl e

-- an update was carried out in the zone of an origin among those of a database
abbrev IsTaken : UpdateAccess → List Zone → Name → Option Name → Sets → Type 0
IsTaken access zs origin key after = (p : Parts) × IsCarriedOut (rules_for origin access.tables.entries) key origin (find (begins_at origin) zs) p after

taken : (access : UpdateAccess) (zs : List Zone) (origin : Name) (key : Option Name) (read : Result Parts UpdateError) (after : Sets) (octets : List ℕ)
    → IsReply (outcome_among access key zs) read (reply.Updated after) octets → IsItsOrigin origin read → IsTaken access zs origin key after
taken access zs origin key (Err e) after octets reply its = absurd its
taken access zs origin key (Ok p) after octets reply its =
    subst (λ (n : Name). IsTaken access zs n key after) (sym its)
    (p, carried_out (rules_for (lower p.zone) access.tables.entries) key (lower p.zone) (find (begins_at (lower p.zone)) zs) p after reply.0)

module _ (access : UpdateAccess) (now : ℕ) (message : List ℕ) (zs : List Zone) (u : UpdatedZone) where
  abbrev origin : Name
  origin = u.zone.origin

  by_checked : (h : Header) (o : Checked) (octets : List ℕ) → PlansBy access now message h o zs (planned.Updated u) octets → IsPermitted access now message zs u
  by_checked h unsigned octets (after, replied, its, is) =
      let t : IsTaken access zs origin None after = taken access zs origin None (update_of message) after octets replied its in
      absurd (nothing_changes_without_key (rules_for origin access.tables.entries) origin t.1.zone.inner.records (Some after) t.0.prerequisites t.0.changes t.1.made)
  by_checked h malformed octets (is, text) = absurd cc
  by_checked h (refused t e k rest) octets (is, text) = absurd cc
  by_checked h (signed t k rest) octets (authentic, (plain, (after, replied, its, is), text)) =
      let x : IsTaken access zs origin (Some k.name) after = taken access zs origin (Some k.name) (update_of rest) after plain replied its in
      record {
        key = k;
        authentic = (t, rest, authentic);
        zone = x.1.zone;
        stood = x.1.stood;
        current = x.1.current;
        bare = x.1.bare;
        after = after;
        made = is;
        sets = permitted_sets_alone_change (rules_for origin access.tables.entries) k.name origin x.1.zone.inner.records after x.0.prerequisites x.0.changes x.1.made;
        serial = λ number stood. serials_go_on (rules_for origin access.tables.entries) (Some k.name) origin x.1.zone.inner.records after x.0.prerequisites x.0.changes number x.1.made stood;
      }

  by_header : (o : Option (Header × List ℕ)) (octets : List ℕ) → PlansHeader access now message o zs (planned.Updated u) octets → IsPermitted access now message zs u
  by_header None octets is = absurd cc
  by_header (Some h) octets a = by (is_update h.0) a
    where
      by : (b : Bool) → MatchBool b (PlansBy access now message h.0 (checked_of access.keys.items now message) zs (planned.Updated u) octets) (planned.Updated u ≡ planned.Other)
          → IsPermitted access now message zs u
      by true x = by_checked h.0 (checked_of access.keys.items now message) octets x
      by false is = absurd cc

pub plans_are_permitted : PlansArePermitted
plans_are_permitted access now message zs u octets plans = by_header access now message zs u (header_of message) octets plans

its_origin : (m n : Name) → answer.Updated m ≡ answer.Updated n → m ≡ n
its_origin m n e = cc

module _ (access : UpdateAccess) (now room : ℕ) (message : List ℕ) (zs new : List Zone) (octets : List ℕ) where
  come : (origin : Name) (x : PlannedUpdate) → PlansUpdate access now message zs x octets → Comes room octets x zs (answer.Updated origin) new → ChangesZone access now message zs origin new
  come origin planned.Other plans (is, same) = absurd cc
  come origin planned.Refused plans (is, same) = absurd cc
  come origin planned.Unchanged plans (is, same) = absurd cc
  come origin (planned.Updated u) plans (inl (fits, is, put)) =
      subst (λ (n : Name). ChangesZone access now message zs n new) (sym (its_origin origin u.zone.origin is)) (record {
        update = u;
        its = refl;
        permitted = plans_are_permitted access now message zs u octets plans;
        stands = ap (find (begins_at u.zone.origin)) put ∙ found_put (λ (y : Zone). y.origin) u.zone zs;
        others = λ n apart. ap (find (begins_at n)) put ∙ others_stay (λ (y : Zone). y.origin) n u.zone zs apart;
      })
  come origin (planned.Updated u) plans (inr (long, is, same)) = absurd cc

  -- what puts no zone in place of another changes nothing
  stays : (a : UpdateAnswer) → ((n : Name) → a ≢ answer.Updated n) → (x : PlannedUpdate) → Comes room octets x zs a new → new ≡ zs
  stays a apart planned.Other (is, same) = same
  stays a apart planned.Refused (is, same) = same
  stays a apart planned.Unchanged (is, same) = same
  stays a apart (planned.Updated u) (inl (fits, is, put)) = absurd (apart u.zone.origin is)
  stays a apart (planned.Updated u) (inr (long, is, same)) = same

pub updates_are_permitted : UpdatesArePermitted
updates_are_permitted access now room message zs new origin octets a = come access now room message zs new octets origin a.plan a.plans a.comes

pub refusals_change_nothing : RefusalsChangeNothing
refusals_change_nothing access now room message zs new a octets x apart = stays access now room message zs new octets a apart x.plan x.comes
