use Rattle.std.proofs.Common.{◌≡◌, ℕ, ◌+◌, [], ◌∷◌, ◌++◌, take, sym, ap, ◌∙◌, add-one}
use Rattle.std.specs.Borrow.{Bor}
use Rattle.std.proofs.Math.Seq.{take-suc}
use Rattle.zone_proto.specs.declared.rr_key.RrKey.{RrKey}
use Rattle.zone_denial.proofs.Sets.TypesPassed.{one_more}
use Rattle.zone_denial.proofs.listed_types.after_types.Goals as goal

pub loop-key-preserved : goal.loop-key-preserved
loop-key-preserved c =
    let keys = c.args.keys.now in
    let i = c.loop-key.key-index in
    let k = c.key-item.result in
    let front : take (i + 1) keys ≡ take i keys ++ k ∷ [] =
    ap (λ (n : ℕ). take n keys) (add-one i) ∙ take-suc keys i k c.loop-key-test.true ∙ ap (λ (b : Bor RrKey). take i keys ++ b ∷ []) (sym c.key-item.is) in
    one_more keys i k _ _ _ front c.loop-key.invariant c.in_ok-left.ensures
