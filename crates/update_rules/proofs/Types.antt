-- A loop over the types of a rule: the types so far, and those of the words that are left, are the types of all words
use Rattle.std.proofs.Common.{◌≡◌, ℕ, ◌+◌, ◌<◌, List, [], ◌∷◌, ◌++◌, length, get_or, drop, refl, sym, ap, ◌∙◌, append_assoc, add-one, drop-cons}
use Rattle.std.specs.Prelude.{Option, Some, None, Result, Ok, Err}
use Rattle.zone_proto.specs.declared.record_type.RecordType.{RecordType}
use Rattle.zone_tokens.specs.Types.{type_named}
use Rattle.update_rules.specs.declared.fault.RuleReason.TheVariants.{UnknownType}
use Rattle.update_rules.specs.declared.fault.WordError.{WordError}
use Rattle.update_rules.specs.declared.fault.WordError.TheVariants.{Wrong}
use Rattle.update_rules.specs.Rules.{types_of, with_type}
use Rattle.update_rules.specs.Words.{word_at}

-- types, and more behind them
abbrev pub behind_these : List RecordType → Result (List RecordType) WordError → Result (List RecordType) WordError
behind_these types (Ok more) = Ok (types ++ more)
behind_these types (Err e) = Err e

split_at : (words : List ℕ) (i : ℕ) → i < length words → drop i words ≡ get_or words i 0 ∷ drop (i + 1) words
split_at words i less = rw add-one (drop-cons words i 0 less)

one_more : (types : List RecordType) (t : RecordType) (at : ℕ) (more : Result (List RecordType) WordError)
    → behind_these (types ++ t ∷ []) more ≡ behind_these types (with_type at (Some t) more)
one_more types t at (Ok more) = ap (λ (x : List RecordType). Ok x) (append_assoc types (t ∷ []) more)
one_more types t at (Err e) = refl

module _ (line words : List ℕ) (types : List RecordType) (i : ℕ) (less : i < length words) where
  pub type_fails : type_named (word_at (get_or words i 0) line) ≡ None → behind_these types (types_of line (drop i words)) ≡ types_of line words
      → types_of line words ≡ Err (Wrong (get_or words i 0) UnknownType)
  type_fails none so_far =
      sym so_far
      ∙ ap (λ (s : List ℕ). behind_these types (types_of line s)) (split_at words i less)
      ∙ ap (λ (o : Option RecordType). behind_these types (with_type (get_or words i 0) o (types_of line (drop (i + 1) words)))) none

  pub type_read : (t : RecordType) → type_named (word_at (get_or words i 0) line) ≡ Some t → behind_these types (types_of line (drop i words)) ≡ types_of line words
      → behind_these (types ++ t ∷ []) (types_of line (drop (i + 1) words)) ≡ types_of line words
  type_read t some so_far =
      one_more types t (get_or words i 0) (types_of line (drop (i + 1) words))
      ∙ ap (λ (o : Option RecordType). behind_these types (with_type (get_or words i 0) o (types_of line (drop (i + 1) words)))) (sym some)
      ∙ ap (λ (s : List ℕ). behind_these types (types_of line s)) (sym (split_at words i less))
      ∙ so_far
