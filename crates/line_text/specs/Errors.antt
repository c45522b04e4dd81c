-- Why words aren't read
use Rattle.std.specs.Prelude.{◌≡◌, Result, IfErr}
use Rattle.line_text.specs.declared.error.TextError.{TextError}
use Rattle.line_text.specs.declared.error.TextError.TheVariants.{BadText}

-- a fact where words are refused as bad text, and not for lack of memory
abbrev pub OnBadText : {X : Type 0} → Result X TextError → Type 0 → Type 0
OnBadText result fact = IfErr result (λ e. e ≡ BadText → fact)
