-- The rule of a line
use Rattle.std.specs.Prelude.{◌≡◌, ℕ, ◌<◌, ◌==◌, ◌||◌, length, Bool, true, false, List, [], ◌∷◌, Option, Some, None, Result, Ok, Err, codes, if◌then◌else◌}
use Rattle.std.specs.Char.{is_ascii_alphanumeric}
use Rattle.std.specs.List.{list_all}
use Rattle.zone_proto.specs.Names.{Name, lower}
use Rattle.zone_proto.specs.declared.record_type.RecordType.{RecordType}
use Rattle.line_text.specs.Reading.{name_of_word}
use Rattle.zone_tokens.specs.Types.{type_named}
use Rattle.update_policy.specs.declared.rule.Rule.{Rule}
use Rattle.update_policy.specs.declared.rule.RuleScope.{RuleScope}
use Rattle.update_policy.specs.declared.rule.RuleScope.TheVariants as scopes
use Rattle.update_rules.specs.declared.fault.RuleReason.TheVariants as reasons
use Rattle.update_rules.specs.declared.fault.WordError.{WordError}
use Rattle.update_rules.specs.declared.fault.WordError.TheVariants.{Wrong, Memory}
use Rattle.update_rules.specs.declared.rule.LineRule.{LineRule}
use Rattle.update_rules.specs.declared.rule.RuleHead.{RuleHead}
use Rattle.update_rules.specs.declared.rule.RuleWords.{RuleWords}
use Rattle.update_rules.specs.declared.target.RuleTarget.{RuleTarget}
use Rattle.update_rules.specs.Words.{open_quote, says, word_at, words_of}

-- a rule of the zone of an origin
pub record SaidRule : Type 0 where
  pub origin : Name
  pub grants : Bool
  pub key : Name
  pub scope : RuleScope
  pub name : Name
  pub types : List RecordType

abbrev pub said_rule : Name → Rule → SaidRule
said_rule origin r = record { origin = origin; grants = r.grants; key = r.key; scope = r.scope; name = r.name; types = r.types.items }

-- the same as a line says it, and where the words for the origin and the key begin in it
pub record SaidLine : Type 0 where
  pub rule : SaidRule
  pub origin_at : ℕ
  pub key_at : ℕ

abbrev pub said_line : LineRule → SaidLine
said_line l = record { rule = said_rule l.origin l.rule; origin_at = l.origin_at; key_at = l.key_at }

-- ---- words

abbrev pub verb_of : List ℕ → Option Bool
verb_of word = if says word (codes "grant") then Some true else (if says word (codes "deny") then Some false else None)

abbrev pub scope_of : List ℕ → Option RuleScope
scope_of word =
    if says word (codes "name") then Some scopes.Name
    else (if says word (codes "subdomain") then Some scopes.Subdomain
    else (if says word (codes "self") then Some scopes.OwnName
    else (if says word (codes "selfsub") then Some scopes.OwnSubdomain else None)))

-- these scopes are about the name of the key
abbrev pub is_own : RuleScope → Bool
is_own scopes.Name = false
is_own scopes.Subdomain = false
is_own scopes.OwnName = true
is_own scopes.OwnSubdomain = true

-- letters, digits, hyphens, underscores and dots: a file can be named by a word of these
abbrev pub is_plain : ℕ → Bool
is_plain b = is_ascii_alphanumeric b || (b == 45 || (b == 95 || b == 46))

abbrev pub names_file : List ℕ → Bool
names_file word = list_all is_plain word

-- ---- the first four words

-- What they say; where one says nothing, the first of these is at fault.
abbrev pub head_with : RuleWords → Bool → Bool → Option Name → Option Bool → Option Name → Result RuleHead WordError
head_with w false is_file origin grants key = Err (Wrong w.directive reasons.DirectiveWanted)
head_with w true false origin grants key = Err (Wrong w.origin reasons.BadOrigin)
head_with w true true None grants key = Err (Wrong w.origin reasons.BadName)
head_with w true true (Some o) None key = Err (Wrong w.verb reasons.VerbWanted)
head_with w true true (Some o) (Some g) None = Err (Wrong w.key reasons.BadName)
head_with w true true (Some o) (Some g) (Some k) = Ok (record { origin = lower o; grants = g; key = lower k })

abbrev pub head_of : List ℕ → RuleWords → Result RuleHead WordError
head_of line w =
    head_with w (says (word_at w.directive line) (codes "update")) (names_file (word_at w.origin line)) (name_of_word (word_at w.origin line))
    (verb_of (word_at w.verb line)) (name_of_word (word_at w.key line))

-- ---- which names

-- a name and the words behind it, where its word says one
abbrev pub named_target : RuleScope → ℕ → List ℕ → Option Name → Result (RuleTarget × List ℕ) WordError
named_target s at types None = Err (Wrong at reasons.BadName)
named_target s at types (Some n) = Ok (record { scope = s; name = lower n }, types)

abbrev pub target_behind : List ℕ → RuleWords → RuleScope → List ℕ → Result (RuleTarget × List ℕ) WordError
target_behind line w s [] = Err (Wrong w.directive reasons.Incomplete)
target_behind line w s (at ∷ types) = named_target s at types (name_of_word (word_at at line))

abbrev pub target_with : List ℕ → RuleWords → List ℕ → Option RuleScope → Result (RuleTarget × List ℕ) WordError
target_with line w more None = Err (Wrong w.scope reasons.ScopeWanted)
target_with line w more (Some s) = if is_own s then Ok (record { scope = s; name = [] }, more) else target_behind line w s more

-- which names a rule is about by its scope and the words behind that, and the words behind the name
abbrev pub target_of : List ℕ → RuleWords → List ℕ → Result (RuleTarget × List ℕ) WordError
target_of line w more = target_with line w more (scope_of (word_at w.scope line))

-- ---- which types

abbrev pub with_type : ℕ → Option RecordType → Result (List RecordType) WordError → Result (List RecordType) WordError
with_type at None more = Err (Wrong at reasons.UnknownType)
with_type at (Some t) (Err e) = Err e
with_type at (Some t) (Ok ts) = Ok (t ∷ ts)

-- the types that the words name which begin at these offsets
abbrev pub types_of : List ℕ → List ℕ → Result (List RecordType) WordError
types_of line [] = Ok []
types_of line (at ∷ more) = with_type at (type_named (word_at at line)) (types_of line more)

-- ---- all of it

-- what is said next, unless what comes before says nothing
abbrev pub then_said : {X Y : Type 0} → Result X WordError → (X → Result Y WordError) → Result Y WordError
then_said (Err e) next = Err e
then_said (Ok x) next = next x

abbrev pub line_with : RuleWords → RuleHead → RuleTarget → List RecordType → SaidLine
line_with w h t types = record {
  rule = record { origin = h.origin; grants = h.grants; key = h.key; scope = t.scope; name = t.name; types = types };
  origin_at = w.origin;
  key_at = w.key;
}

-- the rule that five words and those behind them say
abbrev pub rule_by : List ℕ → RuleWords → List ℕ → Result SaidLine WordError
rule_by line w more =
    then_said (head_of line w) (λ h.
    then_said (target_of line w more) (λ t.
    then_said (types_of line t.1) (λ types.
    Ok (line_with w h t.0 types))))

-- what is wrong with a line that has fewer words, of which this is the first
abbrev pub few_words : List ℕ → ℕ → WordError
few_words line directive =
    if says (word_at directive line) (codes "update") then Wrong directive reasons.Incomplete else Wrong directive reasons.DirectiveWanted

abbrev pub some_rule : Result SaidLine WordError → Result (Option SaidLine) WordError
some_rule (Ok l) = Ok (Some l)
some_rule (Err e) = Err e

-- the rule of words; none where there is no word
abbrev pub rule_in : List ℕ → List ℕ → Result (Option SaidLine) WordError
rule_in line [] = Ok None
rule_in line (directive ∷ origin ∷ verb ∷ key ∷ scope ∷ more) =
    some_rule (rule_by line (record { directive = directive; origin = origin; verb = verb; key = key; scope = scope }) more)
rule_in line (directive ∷ more) = Err (few_words line directive)

abbrev pub rule_unless : Option ℕ → List ℕ → List ℕ → Result (Option SaidLine) WordError
rule_unless (Some at) line words = Err (Wrong at reasons.OpenQuote)
rule_unless None line words = rule_in line words

-- the rule of a line, or its first fault; none where it has no word
abbrev pub rule_of : List ℕ → Result (Option SaidLine) WordError
rule_of line = rule_unless (open_quote line) line (words_of line)

-- ---- as the program gives them

-- the five words of a rule, before others
abbrev pub words_before : RuleWords → List ℕ → List ℕ
words_before w more = w.directive ∷ w.origin ∷ w.verb ∷ w.key ∷ w.scope ∷ more

-- there are words, fewer than five, of which this is the first
abbrev pub IsCut : List ℕ → ℕ → Type 0
IsCut [] first = ⊥
IsCut (word ∷ more) first = (length more < 4) × (first ≡ word)

-- a result is refused by a fault, unless there is no memory
abbrev pub FailsBy : {X : Type 0} → Result X WordError → WordError → Type 0
FailsBy r Memory = Unit {0}
FailsBy r (Wrong at reason) = r ≡ Err (Wrong at reason)
