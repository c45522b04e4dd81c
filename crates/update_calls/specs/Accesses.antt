-- What the calls do that keep keys, and rules of who may change what
use Rattle.std.specs.Prelude.{◌≡◌, ◌⊎◌, ℕ, true, false, List, [], map, Option, Some, None, Ok, Err, IsErr, if◌then◌else◌, ◌==◌}
use Rattle.call_handles.specs.Rooms.{HasText, IsUntouched}
use Rattle.zone_proto.specs.Names.{Name, lower}
use Rattle.key_files.specs.declared.fault.KeyFileError.TheVariants as errors
use Rattle.key_files.specs.declared.fault.KeyFileFault.{KeyFileFault}
use Rattle.key_files.specs.Entries.{keys_of}
use Rattle.update_policy.specs.declared.rule.Rule.{Rule}
use Rattle.update_policy.specs.declared.rule.RuleScope.{RuleScope}
use Rattle.update_policy.specs.declared.rule.RuleScope.TheVariants as scope
use Rattle.zone_database.specs.declared.outcome.Outcome.{Outcome}
use Rattle.zone_database.specs.declared.outcome.Outcome.TheVariants.{Done, BadName, BadText, NoMemory}
use Rattle.zone_database.specs.Calls.{origin_of}
use Rattle.held_transfers.specs.Accesses.{has_key, ReadsKeys}
use Rattle.held_updates.specs.declared.access.UpdateAccess.{UpdateAccess}
use Rattle.held_updates.specs.Tables.{AreSameRules, HasRuleMore}
use Rattle.update_calls.specs.declared.outcome.UpdateOutcome.{UpdateOutcome}
use Rattle.update_calls.specs.declared.outcome.UpdateOutcome.TheVariants.{Usual, NoKeys, NoKey, BadScope}
use Rattle.update_calls.specs.declared.rules.RuleTexts.{RuleTexts}

-- ---- keys

-- the keys of a text are held, and no zone has a rule; or the text or want of memory refuses it, and what was held stays
abbrev pub ReadsAccess : List ℕ → Option UpdateAccess → Outcome → Option UpdateAccess → Type 0
ReadsAccess text old Done new = (a : UpdateAccess) × ReadsKeys text a.keys.items × (a.tables.entries ≡ []) × (new ≡ Some a)
ReadsAccess text old BadText new = (f : KeyFileFault) × (keys_of text ≡ Err (errors.Fault f)) × (new ≡ old)
ReadsAccess text old NoMemory new = new ≡ old
ReadsAccess text old outcome new = ⊥

-- the fault of a text that is refused stands in the room; nothing else is told there
abbrev pub TellsFault : Outcome → ℕ → List ℕ → List ℕ → Type 0
TellsFault BadText written before after = HasText written before after
TellsFault outcome written before after = IsUntouched written before after

-- ---- a rule

-- the scope of a number
abbrev pub scope_of : ℕ → Option RuleScope
scope_of number =
    if number == 0 then Some scope.Name
    else (if number == 1 then Some scope.Subdomain
    else (if number == 2 then Some scope.OwnName
    else (if number == 3 then Some scope.OwnSubdomain
    else None)))

-- octets are this name in its text form (RFC 1035 section 5.1), of which a final dot may be left out, in lower case
abbrev pub IsName : List ℕ → Name → Type 0
IsName octets name = (n : Name) × (origin_of octets ≡ Ok n) × (name ≡ lower n)

-- a rule of the zone of an origin is the one that is told so
pub record IsRule (texts : RuleTexts) (origin : Name) (r : Rule) : Type 0 where
  pub zone : IsName texts.origin.now origin
  pub granting : r.grants ≡ (texts.denies == 0)
  pub key : IsName texts.key.now r.key
  pub scoped : scope_of texts.scope ≡ Some r.scope
  pub name : IsName texts.name.now r.name
  pub types : map (λ t. t.0) r.types.items ≡ texts.types.now

-- one of the names is none
abbrev pub HasBadName : RuleTexts → Type 0
HasBadName texts = IsErr (origin_of texts.origin.now) ⊎ (IsErr (origin_of texts.key.now) ⊎ IsErr (origin_of texts.name.now))

-- nothing changed
abbrev pub IsSameAccess : UpdateAccess → UpdateAccess → Type 0
IsSameAccess old new = (new.keys ≡ old.keys) × AreSameRules old.tables.entries new.tables.entries

-- a rule of the zone of an origin is there behind the others
abbrev pub HasRule : Name → Rule → UpdateAccess → UpdateAccess → Type 0
HasRule origin r old new = (new.keys ≡ old.keys) × HasRuleMore origin r old.tables.entries new.tables.entries

-- a rule that is told by names and numbers is there behind those of its zone; or this is refused, and nothing changed
abbrev pub IsRuled : RuleTexts → UpdateAccess → UpdateOutcome → UpdateAccess → Type 0
IsRuled texts old (Usual Done) new =
    (origin : Name) × (r : Rule) × IsRule texts origin r × (has_key r.key old.keys.items ≡ true) × HasRule origin r old new
IsRuled texts old (Usual BadName) new = HasBadName texts × IsSameAccess old new
IsRuled texts old (Usual NoMemory) new = IsSameAccess old new
IsRuled texts old BadScope new = (scope_of texts.scope ≡ None) × IsSameAccess old new
IsRuled texts old NoKey new = (key : Name) × IsName texts.key.now key × (has_key key old.keys.items ≡ false) × IsSameAccess old new
IsRuled texts old outcome new = ⊥

-- the same of a handle, which may hold no keys
abbrev pub RulesHeld : RuleTexts → Option UpdateAccess → UpdateOutcome → Option UpdateAccess → Type 0
RulesHeld texts None outcome new = (outcome ≡ NoKeys) × (new ≡ None)
RulesHeld texts (Some a) outcome new = (after : UpdateAccess) × IsRuled texts a outcome after × (new ≡ Some after)

-- ---- on the way

-- no memory was found, or octets are no name
abbrev pub IsUnread : List ℕ → UpdateOutcome → Type 0
IsUnread octets outcome = (outcome ≡ Usual NoMemory) ⊎ ((outcome ≡ Usual BadName) × IsErr (origin_of octets))

-- no memory was found, one of the names is none, or the number is that of no scope
abbrev pub IsNoRule : RuleTexts → UpdateOutcome → Type 0
IsNoRule texts outcome =
    (outcome ≡ Usual NoMemory) ⊎ (((outcome ≡ Usual BadName) × HasBadName texts) ⊎ ((outcome ≡ BadScope) × (scope_of texts.scope ≡ None)))
