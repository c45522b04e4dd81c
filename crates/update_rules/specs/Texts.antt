-- The rules of a text
use Rattle.std.specs.Prelude.{◌≡◌, ℕ, List, [], ◌∷◌, ◌++◌, map, Option, Some, None, Result, Ok, Err}
use Rattle.zone_scanner.specs.declared.place.Place.{Place}
use Rattle.zone_scanner.specs.Signs.{first_place, place_along, place_behind}
use Rattle.line_text.specs.Parts.{parts}
use Rattle.update_rules.specs.declared.fault.RulesError.{RulesError}
use Rattle.update_rules.specs.declared.fault.RulesError.TheVariants as errors
use Rattle.update_rules.specs.declared.fault.WordError.{WordError}
use Rattle.update_rules.specs.declared.fault.WordError.TheVariants as words
use Rattle.update_rules.specs.declared.reading.PlacedRule.{PlacedRule}
use Rattle.update_rules.specs.Rules.{rule_of, said_rule, SaidLine, SaidRule}

-- a rule of a zone, and where the words for its origin and its key begin
pub record SaidPlaced : Type 0 where
  pub rule : SaidRule
  pub origin_place : Place
  pub key_place : Place

abbrev pub said_placed : PlacedRule → SaidPlaced
said_placed p = record { rule = said_rule p.origin p.rule; origin_place = p.origin_place; key_place = p.key_place }

-- a rule of a line that begins at a place
abbrev pub at_place : Place → SaidLine → SaidPlaced
at_place place l = record { rule = l.rule; origin_place = place_along place l.origin_at; key_place = place_along place l.key_at }

-- a fault is told by line and column
abbrev pub placed : Place → WordError → RulesError
placed place (words.Wrong at reason) = errors.Fault (record { place = place_along place at; reason = reason })
placed place words.Memory = errors.Memory

abbrev pub placed_rules : Place → Result (Option SaidLine) WordError → Result (List SaidPlaced) RulesError
placed_rules place (Ok None) = Ok []
placed_rules place (Ok (Some l)) = Ok (at_place place l ∷ [])
placed_rules place (Err e) = Err (placed place e)

-- the rule of a line that begins at a place, if it has one
abbrev pub line_rules : Place → List ℕ → Result (List SaidPlaced) RulesError
line_rules place line = placed_rules place (rule_of line)

abbrev pub with_more : Result (List SaidPlaced) RulesError → Result (List SaidPlaced) RulesError → Result (List SaidPlaced) RulesError
with_more (Err e) more = Err e
with_more (Ok rules) (Err e) = Err e
with_more (Ok rules) (Ok more) = Ok (rules ++ more)

-- the rules of lines, the first of which begins at a place
abbrev pub rules_from : Place → List (List ℕ) → Result (List SaidPlaced) RulesError
rules_from place [] = Ok []
rules_from place (line ∷ lines) = with_more (line_rules place line) (rules_from (place_behind place 10) lines)

-- the rules of a text, or its first fault: those of the lines that line feeds separate
unfoldable pub rules_of : List ℕ → Result (List SaidPlaced) RulesError
rules_of text = rules_from first_place (parts 10 text)

-- ---- as the program gives them

-- the rules of a line come behind others
abbrev pub Pushes : Place → List ℕ → List PlacedRule → List PlacedRule → Type 0
Pushes place line old new =
    (said : List SaidPlaced) × (line_rules place line ≡ Ok said) × (map said_placed new ≡ map said_placed old ++ said)

-- rules are refused by a fault, unless there is no memory
abbrev pub FailsBy : Result (List SaidPlaced) RulesError → RulesError → Type 0
FailsBy r errors.Memory = Unit {0}
FailsBy r (errors.Fault fault) = r ≡ Err (errors.Fault fault)

-- a text is refused by its first fault, unless there is no memory
abbrev pub ReportsFault : List ℕ → RulesError → Type 0
ReportsFault text e = FailsBy (rules_of text) e
