use Rattle.std.proofs.Common.{◌≡◌, Bool, true, false, List, ◌∷◌, sym, ap, ◌∙◌, subst}
use Rattle.std.specs.Prelude.{MatchOption}
use Rattle.std.specs.Bool.{then_some}
use denote.Ref.{Bor}
use Rattle.zone_proto.specs.declared.rr_key.RrKey.{RrKey}
use Rattle.zone_proto.specs.Keys.{key_eq}
use Rattle.zone_proto.proofs.Ordering.KeyOrder.{key_same, key_itself}
use Rattle.zone_map.proofs.record_map.puts.behind.Goals as goal

told : (keys : List RrKey) (k first : RrKey) (others : Bor (List RrKey)) (b : Bool) → keys ≡ first ∷ others.now → b ≡ key_eq k first
    → MatchOption (then_some b others) ((rest : List RrKey) → keys ≡ k ∷ rest → ⊥) (λ r. keys ≡ k ∷ r.now)
told keys k first others true parts is = parts ∙ ap (λ (x : RrKey). x ∷ others.now) (sym (key_same k first (sym is)))
told keys k first others false parts is = λ rest starts.
    let both : first ∷ others.now ≡ k ∷ rest = sym parts ∙ starts in
    let same : first ≡ k = cc in
    let no : false ≡ true = is ∙ ap (key_eq k) same ∙ key_itself k in
    absurd cc

pub returns : goal.returns
returns c =
    let keys = c.args.keys.now in
    let k = c.args.key.now in
    subst (λ o. MatchOption o ((rest : List RrKey) → keys ≡ k ∷ rest → ⊥) (λ r. keys ≡ k ∷ r.now)) (sym c.then_some.ensures)
    (told keys k c.in_ok-first.first.now c.in_ok-first.others c.same_as.result c.in_ok-first.ensures.cases.0 c.same_as.ensures)
