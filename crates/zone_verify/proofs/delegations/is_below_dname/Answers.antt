use Rattle.std.proofs.Common.{◌≡◌, ℕ, ◌<◌, ◌+◌, [], length, take, drop, sym, ap, ◌∙◌, true, arith}
use Rattle.std.proofs.lemmas.List.{take-append-drop, drop_more}
use Rattle.zone_proto.specs.Names.{Name, is_above}
use Rattle.zone_proto.proofs.Members.{any_from_In}
use Rattle.zone_proto.proofs.Names.NameTree.{above_test}
use Rattle.zone_map.specs.Zones.{owners}
use Rattle.zone_map.proofs.Owned.{owner_in}
use Rattle.zone_denial.proofs.Names.LongestAncestors.{above_below}
use Rattle.zone_verify.specs.ChainSets.{sets_of}
use Rattle.zone_verify.proofs.delegations.is_below_dname.Goals as goal

shorter : (n a b : Name) (k : ℕ) → b ≡ drop 1 a → a ≡ drop k n → k < length n → b ≡ drop (k + 1) n
shorter n a b k e f lt = e ∙ ap (drop 1) (f ∙ drop_more n k [] lt)

shorter_above : (n : Name) (k : ℕ) → k < length n → is_above (drop (k + 1) n) n ≡ true
shorter_above n k lt =
    (above_test (drop (k + 1) n) n).1
    (above_below (drop (k + 1) n) (drop k n) n (_, [], drop_more n k [] lt) (take k n, sym (take-append-drop k n)))

pub returns-then-branch-clause-ok : goal.returns-then-branch-clause-ok
returns-then-branch-clause-ok c = λ _.
    let m = sets_of c.args.sets.now in
    let a : Name = c.shorten.new.self in
    let n : Name = c.args.name.now in
    let k = c.loop-step._step in
    let lt : k < length n = omega (arith, c.loop-step-test.true, c.num_labels-step-end.ensures.count) in
    let is : a ≡ drop (k + 1) n = shorter n c.loop-step.ancestor a k c.shorten.ensures c.loop-step.invariant lt in
    any_from_In (λ (d : Name). is_above d n) a (owners m 39) (owner_in m a 39 (sym c.in_ok-owns.ensures.ok ∙ c.if-branch.true))
    (ap (λ (d : Name). is_above d n) is ∙ shorter_above n k lt)

pub loop-step-preserved : goal.loop-step-preserved
loop-step-preserved c =
    let n : Name = c.args.name.now in
    shorter n c.loop-step.ancestor c.shorten.new.self c.loop-step._step c.shorten.ensures c.loop-step.invariant
    (omega (arith, c.loop-step-test.true, c.num_labels-step-end.ensures.count))
