use Rattle.std.proofs.Common.{◌≡◌, ◌++◌, ◌∷◌, [], refl, sym, ap, ◌∙◌}
use Rattle.std.specs.Prelude.{option_map}
use Rattle.zone_planner.proofs.Passes.{leaving_begun, leaving_below, leaving_none, leaving_parents, leaving_cut}
use Rattle.zone_planner.proofs.unsigned.left_out.Goals as goal

pub loop-key-init : goal.loop-key-init
loop-key-init c =
    let all : c.into_iter-key-iterator.result ≡ c.args.records.now = cc in
    leaving_begun c.args.origin.now c.args.records.now c.into_iter-key-iterator.result _ _ c.new-keys.result.items c.iter-key-items.ensures.zone.ordered all refl refl c.new-keys.ensures.items

pub loop-key-preserved-then-is_below : goal.loop-key-preserved-then-is_below
loop-key-preserved-then-is_below c =
    leaving_below c.args.origin.now c.args.records.now c.loop-key.key-iterator c.next.new.self (c.in-Some.key.now, c.in-Some.field-0-1.now)
    (option_map (λ a. a.now) c.loop-key.cut) (option_map (λ a. a.now) c.loop-key.no_cut) c.loop-key.keys.items c.in-Some.ensures.steps c.loop-key.invariant
    c.push.new.self.items (sym c.is_below.ensures ∙ c.if-is_below.true) (c.in_ok-push.ensures.items ∙ ap (λ k. c.loop-key.keys.items ++ k ∷ []) c.in_ok-clone.ensures.copy.ok)

pub loop-key-preserved-then-not-branch : goal.loop-key-preserved-then-not-branch
loop-key-preserved-then-not-branch c =
    leaving_none c.args.origin.now c.args.records.now c.loop-key.key-iterator c.next.new.self (c.in-Some.key.now, c.in-Some.field-0-1.now)
    (option_map (λ a. a.now) c.loop-key.cut) (option_map (λ a. a.now) c.loop-key.no_cut) c.loop-key.keys.items c.in-Some.ensures.steps c.loop-key.invariant
    (sym c.is_below.ensures ∙ c.if-is_below.false) (sym c.in_ok-is_cut_knowing.ensures.ok ∙ c.if-not-branch.true)

pub loop-key-preserved-in_ok-push-2 : goal.loop-key-preserved-in_ok-push-2
loop-key-preserved-in_ok-push-2 c =
    leaving_cut c.args.origin.now c.args.records.now c.loop-key.key-iterator c.next.new.self (c.in-Some.key.now, c.in-Some.field-0-1.now)
    (option_map (λ a. a.now) c.loop-key.cut) (option_map (λ a. a.now) c.loop-key.no_cut) c.loop-key.keys.items c.in-Some.ensures.steps c.loop-key.invariant
    (sym c.is_below.ensures ∙ c.if-is_below.false) (sym c.in_ok-is_cut_knowing.ensures.ok ∙ c.if-not-branch.false)
    c.push-then-not-is_parents.new.self.items (sym c.is_parents.ensures ∙ c.if-not-is_parents.true)
    (c.in_ok-push-2.ensures.items ∙ ap (λ k. c.loop-key.keys.items ++ k ∷ []) c.in_ok-clone-2.ensures.copy.ok)

pub loop-key-preserved : goal.loop-key-preserved
loop-key-preserved c =
    leaving_parents c.args.origin.now c.args.records.now c.loop-key.key-iterator c.next.new.self (c.in-Some.key.now, c.in-Some.field-0-1.now)
    (option_map (λ a. a.now) c.loop-key.cut) (option_map (λ a. a.now) c.loop-key.no_cut) c.loop-key.keys.items c.in-Some.ensures.steps c.loop-key.invariant
    (sym c.is_below.ensures ∙ c.if-is_below.false) (sym c.in_ok-is_cut_knowing.ensures.ok ∙ c.if-not-branch.false) (sym c.is_parents.ensures ∙ c.if-not-is_parents.false)
