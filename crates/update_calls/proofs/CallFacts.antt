-- What the calls of a program do to keys, rules and zones, from what is done to those that are held
use Rattle.std.proofs.Common.{◌≡◌, ◌⊎◌, ◌∙◌, ℕ, true, false, List, [], length, ap, inl, inr, refl, sym, subst}
use Rattle.std.specs.Prelude.{Option, Some, IsErr}
use Rattle.arrival_calls.specs.declared.client.ClientMessage.{ClientMessage}
use Rattle.call_handles.specs.Rooms.{IsUntouched}
use Rattle.update_policy.specs.declared.rule.Rule.{Rule}
use Rattle.zone_proto.specs.Names.{Name}
use Rattle.zone_database.specs.declared.database.ZoneDatabase.{ZoneDatabase}
use Rattle.zone_database.specs.declared.outcome.Outcome.{Outcome}
use Rattle.zone_database.specs.declared.outcome.Outcome.TheVariants.{Done, NoMemory}
use Rattle.zone_database.specs.declared.zone.Zone.{Zone}
use Rattle.zone_database.specs.Calls.{origin_of}
use Rattle.zone_database.specs.Databases.{zones_in}
use Rattle.held_transfers.specs.Accesses.{has_key, ReadsKeys}
use Rattle.held_updates.specs.declared.access.UpdateAccess.{UpdateAccess}
use Rattle.held_updates.specs.declared.answering.UpdateAnswer.{UpdateAnswer}
use Rattle.held_updates.specs.declared.answering.UpdateAnswer.TheVariants as answer
use Rattle.held_updates.specs.Answering.{AnswersUpdate}
use Rattle.held_updates.specs.Tables.{AreSameRules, HasRuleMore}
use Rattle.update_calls.specs.declared.outcome.UpdateOutcome.{UpdateOutcome}
use Rattle.update_calls.specs.declared.outcome.UpdateOutcome.TheVariants.{Usual, NoKey, NoUpdate}
use Rattle.update_calls.specs.declared.rules.RuleTexts.{RuleTexts}
use Rattle.update_calls.specs.Accesses.{HasBadName, IsNoRule, IsRule, IsRuled, IsSameAccess, IsUnread, ReadsAccess, RulesHeld}
use Rattle.update_calls.specs.Updates.{changed_by, EndsWith, IsGivenBy, TellsAnswer, Told, UpdatesByAccess, UpdatesHeld, UpdatesZones}

-- ---- keys

-- the keys that were read are held, or no memory was found for that
pub read_put : (text : List ℕ) (a : UpdateAccess) (o : Outcome) (old new : Option UpdateAccess) → ReadsKeys text a.keys.items → a.tables.entries ≡ []
    → ((o ≡ Done) × (new ≡ Some a)) ⊎ ((o ≡ NoMemory) × (new ≡ old)) → ReadsAccess text old o new
read_put text a o old new keys tables (inl (held, put)) = subst (λ (x : Outcome). ReadsAccess text old x new) (sym held) (a, keys, tables, put)
read_put text a o old new keys tables (inr (none, same)) = subst (λ (x : Outcome). ReadsAccess text old x new) (sym none) same

-- ---- rules

-- one of the names isn't read
unread : (texts : RuleTexts) (octets : List ℕ) (o : UpdateOutcome) → (IsErr (origin_of octets) → HasBadName texts) → IsUnread octets o → IsNoRule texts o
unread texts octets o its (inl none) = inl none
unread texts octets o its (inr (bad, wrong)) = inr (inl (bad, its wrong))

pub unread_origin : (texts : RuleTexts) (o : UpdateOutcome) → IsUnread texts.origin.now o → IsNoRule texts o
unread_origin texts o u = unread texts texts.origin.now o (λ wrong. inl wrong) u

pub unread_key : (texts : RuleTexts) (o : UpdateOutcome) → IsUnread texts.key.now o → IsNoRule texts o
unread_key texts o u = unread texts texts.key.now o (λ wrong. inr (inl wrong)) u

pub unread_name : (texts : RuleTexts) (o : UpdateOutcome) → IsUnread texts.name.now o → IsNoRule texts o
unread_name texts o u = unread texts texts.name.now o (λ wrong. inr (inr wrong)) u

stays : (a : UpdateAccess) → IsSameAccess a a
stays a = (refl, λ n. refl)

pub no_rule : (texts : RuleTexts) (a : UpdateAccess) (o : UpdateOutcome) → IsNoRule texts o → IsRuled texts a o a
no_rule texts a o (inl none) = subst (λ (x : UpdateOutcome). IsRuled texts a x a) (sym none) (stays a)
no_rule texts a o (inr (inl (bad, unread))) = subst (λ (x : UpdateOutcome). IsRuled texts a x a) (sym bad) (unread, stays a)
no_rule texts a o (inr (inr (bad, none))) = subst (λ (x : UpdateOutcome). IsRuled texts a x a) (sym bad) (none, stays a)

pub no_key : (texts : RuleTexts) (a : UpdateAccess) (origin : Name) (r : Rule) → IsRule texts origin r → has_key r.key a.keys.items ≡ false → IsRuled texts a NoKey a
no_key texts a origin r is none = (r.key, is.key, none, stays a)

pub added : (texts : RuleTexts) (a b : UpdateAccess) (origin : Name) (r : Rule) → IsRule texts origin r → has_key r.key a.keys.items ≡ true → b.keys ≡ a.keys
    → HasRuleMore origin r a.tables.entries b.tables.entries → IsRuled texts a (Usual Done) b
added texts a b origin r is there keys more = (origin, r, is, there, (keys, more))

pub not_added : (texts : RuleTexts) (a b : UpdateAccess) → b.keys ≡ a.keys → AreSameRules a.tables.entries b.tables.entries → IsRuled texts a (Usual NoMemory) b
not_added texts a b keys same = (keys, same)

pub ruled_held : (texts : RuleTexts) (held new : Option UpdateAccess) (a after : UpdateAccess) (o : UpdateOutcome) → held ≡ Some a → IsRuled texts a o after → new ≡ Some after
    → RulesHeld texts held o new
ruled_held texts held new a after o is d set = subst (λ (h : Option UpdateAccess). RulesHeld texts h o new) (sym is) (after, d, set)

-- ---- updates

module _ (a : UpdateAnswer) (octets : List ℕ) (t : Told) where
  -- what is told of an answer, by what it is
  by_answer : (b : UpdateAnswer) → a ≡ b → TellsAnswer b octets t → TellsAnswer a octets t
  by_answer b is told = subst (λ (x : UpdateAnswer). TellsAnswer x octets t) (sym is) told

  pub other_told : a ≡ answer.Other → t.outcome ≡ NoUpdate → IsUntouched t.written t.before t.after → t.changed ≡ changed_by a → TellsAnswer a octets t
  other_told is ended untouched changed = by_answer answer.Other is (ended, untouched, changed ∙ ap changed_by is)

  pub refused_told : a ≡ answer.Refused → IsGivenBy octets t.outcome t.written t.before t.after → t.changed ≡ changed_by a → TellsAnswer a octets t
  refused_told is given changed = by_answer answer.Refused is (given, changed ∙ ap changed_by is)

  pub same_told : a ≡ answer.Unchanged → IsGivenBy octets t.outcome t.written t.before t.after → t.changed ≡ changed_by a → TellsAnswer a octets t
  same_told is given changed = by_answer answer.Unchanged is (given, changed ∙ ap changed_by is)

  pub long_told : a ≡ answer.TooLong → IsGivenBy octets t.outcome t.written t.before t.after → t.changed ≡ changed_by a → TellsAnswer a octets t
  long_told is given changed = by_answer answer.TooLong is (given, changed ∙ ap changed_by is)

  pub updated_told : (origin : Name) → a ≡ answer.Updated origin → IsGivenBy octets t.outcome t.written t.before t.after → t.changed ≡ changed_by a → TellsAnswer a octets t
  updated_told origin is given changed = by_answer (answer.Updated origin) is (given, changed ∙ ap changed_by is)

module _ (m : ClientMessage) (t : Told) where
  pub answered : (access : UpdateAccess) (zs new : List Zone) (a : UpdateAnswer) (octets : List ℕ) → AnswersUpdate access m.moment (length t.before) m.octets.now zs a octets new
      → TellsAnswer a octets t → UpdatesZones access m zs t new
  answered access zs new a octets is told = inr (a, octets, is, told)

  pub unanswered : (access : UpdateAccess) (zs new : List Zone) → EndsWith (Usual NoMemory) t → new ≡ zs → UpdatesZones access m zs t new
  unanswered access zs new none same = inl (none, same)

  pub by_access : (held : Option UpdateAccess) (access : UpdateAccess) (zs new : List Zone) → held ≡ Some access → UpdatesZones access m zs t new → UpdatesByAccess held m zs t new
  by_access held access zs new is d = subst (λ (h : Option UpdateAccess). UpdatesByAccess h m zs t new) (sym is) d

  pub by_zones : (access : Option UpdateAccess) (held new : Option ZoneDatabase) (c after : ZoneDatabase) → held ≡ Some c → UpdatesByAccess access m (zones_in c) t (zones_in after) → new ≡ Some after
      → UpdatesHeld access m held t new
  by_zones access held new c after is d set = subst (λ (h : Option ZoneDatabase). UpdatesHeld access m h t new) (sym is) (after, d, set)
