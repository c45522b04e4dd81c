use Rattle.std.proofs.Common.{◌≡◌, List, map, refl, sym, ◌∙◌, true≢false, eq-eqb}
use Rattle.zone_proto.specs.declared.rr_key.RrKey.{RrKey}
use Rattle.zone_proto.specs.Keys.{key}
use Rattle.zone_proto.specs.Sets.{RRset}
use Rattle.zone_proto.specs.Types.{NSEC}
use Rattle.zone_proto.proofs.Members.{In, Contains-In, In-Contains}
use Rattle.zone_map.proofs.Owned.{has_entry}
use Rattle.zone_verify.proofs.Passing.{passed, all_passed}
use Rattle.zone_verify.proofs.nsec.check_owners.Goals as goal
use Rattle.zone_verify.proofs.nsec.check_owners.Goals.{else-eq-via-then-eq+else-not-has_key, else-eq-via-else-eq}

abbrev IsKeyed : List RrKey → RrKey × RRset → Type 0
IsKeyed ks e = e.0.record_type.0 ≡ NSEC → In e.0 ks

pub loop-key-preserved : goal.loop-key-preserved
loop-key-preserved c =
    let ks : List RrKey = map (λ k. k.now) c.args.keys.now in
    let e : RrKey × RRset = (c.in-Some.key.now, c.in-Some.field-0-1.now) in
    let keyed : IsKeyed ks e = elim c.else-eq.branch [
      | else-eq-via-then-eq+else-not-has_key w ↦ λ _. Contains-In e.0 ks (w.has_key.ensures w.if-not-has_key.false)
      | else-eq-via-else-eq w ↦ λ t. absurd (true≢false (sym (eq-eqb e.0.record_type.0 NSEC t) ∙ sym w.if-eq.ensures))
    ] in
    passed (IsKeyed ks) c.args.records.now c.loop-key.key-iterator c.next.new.self e c.in-Some.ensures.steps keyed c.loop-key.invariant

pub returns : goal.returns
returns c = λ n owned.
    let ks : List RrKey = map (λ k. k.now) c.args.keys.now in
    let found = has_entry c.args.records.now n NSEC owned in
    In-Contains (key n NSEC) ks
    (all_passed (IsKeyed ks) c.args.records.now c.loop-key.key-iterator c.in-None.ensures.steps.0 c.loop-key.invariant (key n NSEC, found.0) found.1 refl)
