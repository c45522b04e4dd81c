-- The rule of the words of a line
use Rattle.std.proofs.Common.{◌≡◌, ℕ, List, [], ◌∷◌, None, sym, ap, ◌∙◌, arith}
use Rattle.std.specs.Prelude.{Option, Result, Ok, Err}
use Rattle.update_rules.specs.declared.fault.WordError.{WordError}
use Rattle.update_rules.specs.declared.fault.WordError.TheVariants.{Wrong, Memory}
use Rattle.update_rules.specs.declared.rule.RuleWords.{RuleWords}
use Rattle.update_rules.specs.Rules.{few_words, rule_by, rule_in, rule_of, rule_unless, some_rule, words_before, FailsBy, IsCut, SaidLine}
use Rattle.update_rules.specs.Words.{open_quote, words_of}

-- the words of a line without an open quote
closed : (line words : List ℕ) → open_quote line ≡ None → words ≡ words_of line → rule_of line ≡ rule_in line words
closed line words none are = ap (λ (o : Option ℕ). rule_unless o line (words_of line)) none ∙ ap (rule_in line) (sym are)

-- fewer than five words
few : (line words : List ℕ) (first : ℕ) → IsCut words first → rule_in line words ≡ Err (few_words line first)
few line [] first cut = absurd cut
few line (a ∷ []) first cut = ap (λ (x : ℕ). Err (few_words line x)) (sym cut.1)
few line (a ∷ b ∷ []) first cut = ap (λ (x : ℕ). Err (few_words line x)) (sym cut.1)
few line (a ∷ b ∷ c ∷ []) first cut = ap (λ (x : ℕ). Err (few_words line x)) (sym cut.1)
few line (a ∷ b ∷ c ∷ d ∷ []) first cut = ap (λ (x : ℕ). Err (few_words line x)) (sym cut.1)
few line (a ∷ b ∷ c ∷ d ∷ f ∷ more) first cut = absurd (omega (arith, cut.0))

fails_as : {X : Type 0} (r : Result X WordError) (e : WordError) → r ≡ Err e → FailsBy r e
fails_as r Memory same = tt
fails_as r (Wrong at reason) same = same

pub few_fail : (line words : List ℕ) (first : ℕ) → open_quote line ≡ None → words ≡ words_of line → IsCut words first → FailsBy (rule_of line) (few_words line first)
few_fail line words first none are cut = fails_as (rule_of line) (few_words line first) (closed line words none are ∙ few line words first cut)

module _ (line words : List ℕ) (w : RuleWords) (more : List ℕ) (none : open_quote line ≡ None) (are : words ≡ words_of line) (first : words ≡ words_before w more) where
  five : rule_of line ≡ some_rule (rule_by line w more)
  five = closed line words none are ∙ ap (rule_in line) first

  pub five_read : (l : SaidLine) → rule_by line w more ≡ Ok l → rule_of line ≡ Ok (Option.Some l)
  five_read l read = five ∙ ap some_rule read

  pub five_fail : (e : WordError) → FailsBy (rule_by line w more) e → FailsBy (rule_of line) e
  five_fail Memory fails = tt
  five_fail (Wrong at reason) fails = five ∙ ap some_rule fails
