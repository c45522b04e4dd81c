use Rattle.std.proofs.Common.{◌≡◌, ℕ, true, List, [], ◌∷◌, ◌++◌, map, refl, sym, ap, ◌∙◌, subst, Bor}
use Rattle.std.specs.Prelude.{Option, Some, None, Result, Ok, Err, OnOk, option_copied}
use Rattle.std.proofs.lemmas.List.{map-append}
use Rattle.zone_proto.specs.declared.rr_key.RrKey.{RrKey}
use Rattle.zone_proto.specs.Sets.{RRset}
use Rattle.zone_map.specs.Zones.{Sets}
use Rattle.zone_planning.specs.declared.fault.PlanFault.{PlanFault}
use Rattle.zone_planning.specs.Faults.{IsUnwritableUnless}
use Rattle.zone_digest.specs.Faults.{AreDigestible}
use Rattle.zone_digest.specs.ZoneText.{digested_sets, is_digested, owner_text}
use Rattle.zone_digest.proofs.Refusals.{handed_on, of_more, refused_of_more}
use Rattle.zone_digest.proofs.Runs.{IsCollected, collecting_begun, collecting_past, collecting_more, collecting_anew, collected_digestible, collected_all}
use Rattle.zone_digest.proofs.zone_text.push_sets.Goals as goal
use Rattle.zone_digest.proofs.zone_text.push_sets.Goals.{then-not-is_of_owner+in_ok-push_owner, else-not-is_of_owner}

-- the sets that are lent
abbrev values : List (Bor RRset) → List RRset
values sets = map (λ (s : Bor RRset). s.now) sets

-- what follows from what was written does
on_ok : {T : Type 0} (r : Result T PlanFault) (P Q : Type 0) → (P → Q) → OnOk r P → OnOk r Q
on_ok (Ok x) P Q f h = f h
on_ok (Err e) P Q f h = tt

pub loop-key-init : goal.loop-key-init
loop-key-init c =
    let all : c.into_iter-key-iterator.result ≡ c.args.records.now = cc in
    collecting_begun c.args.own.now c.args.out.now.items c.args.records.now c.into_iter-key-iterator.result (values c.new-sets.result.items) None c.args.out.now.items
    all (ap values c.new-sets.ensures.items) refl refl

pub returns-in_err-push_owner-clause-err : goal.returns-in_err-push_owner-clause-err
returns-in_err-push_owner-clause-err c =
    let whole : Type 0 = AreDigestible (digested_sets c.args.own.now c.args.records.now) in
    let e = c.in_err-push_owner.field-0.0 in
    handed_on c.from_residual.result (λ f. IsUnwritableUnless f whole) e c.from_residual.ensures.1
    (of_more e (AreDigestible (values c.as_slice.result.now)) whole
    (λ d. subst (λ (sets : List (Bor RRset)). AreDigestible (values sets)) (sym c.as_slice.ensures.value)
    (collected_digestible c.args.own.now c.args.out.now.items c.args.records.now c.loop-key.key-iterator (values c.loop-key.sets.items) (option_copied c.loop-key.last) c.loop-key.out.items c.loop-key.invariant d))
    c.in_err-push_owner.ensures.err)

pub loop-key-preserved-then-is_digested : goal.loop-key-preserved-then-is_digested
loop-key-preserved-then-is_digested c =
    let own : RrKey = c.args.own.now in
    let begun : List ℕ = c.args.out.now.items in
    let m : Sets = c.args.records.now in
    let rest : Sets = c.loop-key.key-iterator in
    let left : Sets = c.next.new.self in
    let set : Bor RRset = c.in-Some.set in
    let entry : RrKey × RRset = (c.in-Some.key.now, set.now) in
    let before : List (Bor RRset) = c.loop-key.sets.items in
    let last : Option RRset = option_copied c.loop-key.last in
    let counted : is_digested own entry ≡ true = sym c.is_digested.ensures ∙ c.if-is_digested.true in
    let pushed : c.push.new.self.items ≡ c.if-not-is_of_owner.sets.items ++ set ∷ [] = c.in_ok-push.ensures.items in
    elim c.if-not-is_of_owner.branch [
      | then-not-is_of_owner+in_ok-push_owner w ↦
          collecting_anew own begun m rest left entry (values before) (values c.push.new.self.items) last (Some set.now) c.loop-key.out.items c.if-not-is_of_owner.out.items
          c.in-Some.ensures.steps counted (sym c.is_of_owner.ensures ∙ w.if-not-is_of_owner.true)
          (ap (λ v. v.items) w.out-is ∙ w.in_ok-push_owner.ensures.ok ∙ ap (λ (sets : List (Bor RRset)). c.loop-key.out.items ++ owner_text (values sets)) w.as_slice.ensures.value)
          (ap values (pushed ∙ ap (λ v. v.items ++ set ∷ []) w.sets-is ∙ ap (λ (sets : List (Bor RRset)). sets ++ set ∷ []) w.clear.ensures.items))
          refl c.loop-key.invariant
      | else-not-is_of_owner w ↦
          subst (λ (x : List ℕ). IsCollected own begun m left (values c.push.new.self.items) (Some set.now) x) (sym (ap (λ v. v.items) w.out-is))
          (collecting_more own begun m rest left entry (values before) (values c.push.new.self.items) last (Some set.now) c.loop-key.out.items
          c.in-Some.ensures.steps counted (sym c.is_of_owner.ensures ∙ w.if-not-is_of_owner.false)
          (ap values (pushed ∙ ap (λ v. v.items ++ set ∷ []) w.sets-is) ∙ map-append (λ (s : Bor RRset). s.now) before (set ∷ [])) refl c.loop-key.invariant)
    ]

pub loop-key-preserved : goal.loop-key-preserved
loop-key-preserved c =
    collecting_past c.args.own.now c.args.out.now.items c.args.records.now c.loop-key.key-iterator c.next.new.self (c.in-Some.key.now, c.in-Some.set.now)
    (values c.loop-key.sets.items) (option_copied c.loop-key.last) c.loop-key.out.items
    c.in-Some.ensures.steps (sym c.is_digested.ensures ∙ c.if-is_digested.false) c.loop-key.invariant

pub returns-clause-ok : goal.returns-clause-ok
returns-clause-ok c =
    let made = c.push_owner-2.new.out.items in
    on_ok c.push_owner-2.result _ _
    (λ (h : made ≡ c.loop-key.out.items ++ owner_text (values c.as_slice-2.result.now)).
    collected_all c.args.own.now c.args.out.now.items c.args.records.now c.loop-key.key-iterator (values c.loop-key.sets.items) (option_copied c.loop-key.last) c.loop-key.out.items made
    c.in-None.ensures.steps.0 (h ∙ ap (λ (sets : List (Bor RRset)). c.loop-key.out.items ++ owner_text (values sets)) c.as_slice-2.ensures.value) c.loop-key.invariant)
    c.push_owner-2.ensures.ok

pub returns-clause-err : goal.returns-clause-err
returns-clause-err c =
    refused_of_more c.push_owner-2.result (AreDigestible (values c.as_slice-2.result.now)) (AreDigestible (digested_sets c.args.own.now c.args.records.now))
    (λ d. subst (λ (sets : List (Bor RRset)). AreDigestible (values sets)) (sym c.as_slice-2.ensures.value)
    (collected_digestible c.args.own.now c.args.out.now.items c.args.records.now c.loop-key.key-iterator (values c.loop-key.sets.items) (option_copied c.loop-key.last) c.loop-key.out.items c.loop-key.invariant d))
    c.push_owner-2.ensures.err
