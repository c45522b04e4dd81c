-- A loop over the lines of a text: the rules so far, and those of the lines that are left, are the rules of the text
use Rattle.std.proofs.Common.{◌≡◌, ℕ, List, [], ◌∷◌, ◌++◌, map, refl, sym, ap, ◌∙◌, append_assoc, append-nil}
use Rattle.std.specs.Prelude.{Some, Result, Ok, Err}
use Rattle.std.proofs.lemmas.List.{map-append}
use Rattle.zone_scanner.specs.declared.place.Place.{Place}
use Rattle.zone_scanner.specs.Signs.{place_behind}
use Rattle.update_rules.specs.declared.fault.RulesError.{RulesError}
use Rattle.update_rules.specs.declared.fault.RulesError.TheVariants.{Fault, Memory}
use Rattle.update_rules.specs.declared.reading.PlacedRule.{PlacedRule}
use Rattle.update_rules.specs.Rules.{rule_of, SaidLine}
use Rattle.update_rules.specs.Texts.{at_place, line_rules, placed_rules, rules_from, said_placed, with_more, FailsBy, Pushes, SaidPlaced}

abbrev Rules : Type 0
Rules = Result (List SaidPlaced) RulesError

one_more : (xs said : List SaidPlaced) (more : Rules) → with_more (Ok (xs ++ said)) more ≡ with_more (Ok xs) (with_more (Ok said) more)
one_more xs said (Ok more) = ap (λ (x : List SaidPlaced). Ok x) (append_assoc xs said more)
one_more xs said (Err e) = refl

module _ (place : Place) (line : List ℕ) (lines left : List (List ℕ)) (old new : List PlacedRule) (whole : Rules) (first : left ≡ line ∷ lines)
    (so_far : with_more (Ok (map said_placed old)) (rules_from place left) ≡ whole) where
  split : with_more (Ok (map said_placed old)) (with_more (line_rules place line) (rules_from (place_behind place 10) lines)) ≡ whole
  split = ap (λ (ls : List (List ℕ)). with_more (Ok (map said_placed old)) (rules_from place ls)) (sym first) ∙ so_far

  pub line_read : Pushes place line old new → with_more (Ok (map said_placed new)) (rules_from (place_behind place 10) lines) ≡ whole
  line_read (said, read, pushed) =
      let rest : Rules = rules_from (place_behind place 10) lines in
      ap (λ (xs : List SaidPlaced). with_more (Ok xs) rest) pushed
      ∙ one_more (map said_placed old) said rest
      ∙ ap (λ (r : Rules). with_more (Ok (map said_placed old)) (with_more r rest)) (sym read)
      ∙ split

  pub line_fails : (e : RulesError) → FailsBy (line_rules place line) e → FailsBy whole e
  line_fails Memory fails = tt
  line_fails (Fault f) fails =
      sym split ∙ ap (λ (r : Rules). with_more (Ok (map said_placed old)) (with_more r (rules_from (place_behind place 10) lines))) fails

pub none_left : (place : Place) (rules : List PlacedRule) (left : List (List ℕ)) (whole : Rules) → left ≡ []
    → with_more (Ok (map said_placed rules)) (rules_from place left) ≡ whole → whole ≡ Ok (map said_placed rules)
none_left place rules left whole none so_far =
    sym so_far
    ∙ ap (λ (ls : List (List ℕ)). with_more (Ok (map said_placed rules)) (rules_from place ls)) none
    ∙ ap (λ (x : List SaidPlaced). Ok x) (append-nil (map said_placed rules))

-- a line that has a rule, which comes behind the others
pub rule_pushed : (place : Place) (line : List ℕ) (old new : List PlacedRule) (l : SaidLine) (p : PlacedRule) → rule_of line ≡ Ok (Some l) → said_placed p ≡ at_place place l
    → new ≡ old ++ p ∷ [] → Pushes place line old new
rule_pushed place line old new l p read said pushed = (
  at_place place l ∷ [],
  ap (placed_rules place) read,
  ap (λ (ps : List PlacedRule). map said_placed ps) pushed ∙ map-append said_placed old (p ∷ []) ∙ ap (λ (s : SaidPlaced). map said_placed old ++ s ∷ []) said,
)
