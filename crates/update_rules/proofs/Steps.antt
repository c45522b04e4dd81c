-- The parts of a rule, one after the other
use Rattle.std.proofs.Common.{◌≡◌, ℕ, List, ap, ◌∙◌}
use Rattle.std.specs.Prelude.{Result, Ok}
use Rattle.zone_proto.specs.declared.record_type.RecordType.{RecordType}
use Rattle.update_rules.specs.declared.fault.WordError.{WordError}
use Rattle.update_rules.specs.declared.fault.WordError.TheVariants.{Wrong, Memory}
use Rattle.update_rules.specs.declared.rule.RuleHead.{RuleHead}
use Rattle.update_rules.specs.declared.rule.RuleWords.{RuleWords}
use Rattle.update_rules.specs.declared.target.RuleTarget.{RuleTarget}
use Rattle.update_rules.specs.Rules.{head_of, line_with, rule_by, target_of, then_said, types_of, FailsBy}

pub fails_then : {X Y : Type 0} (r : Result X WordError) (next : X → Result Y WordError) (e : WordError) → FailsBy r e → FailsBy (then_said r next) e
fails_then r next Memory fails = tt
fails_then r next (Wrong at reason) fails = ap (λ x. then_said x next) fails

pub fails_same : {Y : Type 0} (r s : Result Y WordError) (e : WordError) → r ≡ s → FailsBy s e → FailsBy r e
fails_same r s Memory same fails = tt
fails_same r s (Wrong at reason) same fails = same ∙ fails

module _ (line : List ℕ) (w : RuleWords) (more : List ℕ) (e : WordError) where
  pub no_head : FailsBy (head_of line w) e → FailsBy (rule_by line w more) e
  no_head fails = fails_then (head_of line w) _ e fails

  pub no_target : (h : RuleHead) → head_of line w ≡ Ok h → FailsBy (target_of line w more) e → FailsBy (rule_by line w more) e
  no_target h head fails =
      fails_same (rule_by line w more) _ e (ap (λ (x : Result RuleHead WordError). then_said x (λ g. then_said (target_of line w more) (λ t. then_said (types_of line t.1) (λ types. Ok (line_with w g t.0 types))))) head)
      (fails_then (target_of line w more) (λ t. then_said (types_of line t.1) (λ types. Ok (line_with w h t.0 types))) e fails)

  pub no_types : (h : RuleHead) (t : RuleTarget) (words : List ℕ) → head_of line w ≡ Ok h → target_of line w more ≡ Ok (t, words) → FailsBy (types_of line words) e → FailsBy (rule_by line w more) e
  no_types h t words head target fails =
      fails_same (rule_by line w more) _ e
      (ap (λ (x : Result RuleHead WordError). then_said x (λ g. then_said (target_of line w more) (λ u. then_said (types_of line u.1) (λ types. Ok (line_with w g u.0 types))))) head
      ∙ ap (λ (x : Result (RuleTarget × List ℕ) WordError). then_said x (λ u. then_said (types_of line u.1) (λ types. Ok (line_with w h u.0 types)))) target)
      (fails_then (types_of line words) (λ types. Ok (line_with w h t types)) e fails)

module _ (line : List ℕ) (w : RuleWords) (more : List ℕ) (h : RuleHead) (t : RuleTarget) (words : List ℕ) (types : List RecordType) where
  pub said : head_of line w ≡ Ok h → target_of line w more ≡ Ok (t, words) → types_of line words ≡ Ok types → rule_by line w more ≡ Ok (line_with w h t types)
  said head target typed =
      ap (λ (x : Result RuleHead WordError). then_said x (λ g. then_said (target_of line w more) (λ u. then_said (types_of line u.1) (λ ts. Ok (line_with w g u.0 ts))))) head
      ∙ ap (λ (x : Result (RuleTarget × List ℕ) WordError). then_said x (λ u. then_said (types_of line u.1) (λ ts. Ok (line_with w h u.0 ts)))) target
      ∙ ap (λ (x : Result (List RecordType) WordError). then_said x (λ ts. Ok (line_with w h t ts))) typed
