use Rattle.std.proofs.Common.{◌≡◌, ◌<◌, ℕ, List, [], ◌∷◌, length, None, refl, arith}
use Rattle.zone_tokens.specs.Addresses.{double_at}
use Rattle.zone_tokens.proofs.addresses.+double_at.Goals as goal

-- one octet is no `::`
alone : (w : List ℕ) → length w < 2 → None ≡ double_at w
alone [] h = refl
alone (b ∷ []) h = refl
alone (b ∷ c ∷ s) h = absurd (omega arith)

pub returns-in-len1-clause-value : goal.returns-in-len1-clause-value
returns-in-len1-clause-value t c = alone c.args.word.now (omega arith)
