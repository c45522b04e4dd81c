use Rattle.std.proofs.Common.{◌≡◌, ◌+◌, ◌<◌, length, sym, ◌∙◌, true≢false, arith}
use Rattle.zone_verify.proofs.Nsec3Links.{linked_here, linked_more, all_linked}
use Rattle.zone_verify.proofs.nsec3_links.check_links.Goals as goal
use Rattle.zone_verify.proofs.nsec3_links.check_links.Goals.{else-i-names-via-then-i-names+else-same_digest, else-i-names-via-else-i-names}

pub loop-i-preserved : goal.loop-i-preserved
loop-i-preserved c =
    let names = c.args.names.now in
    let i = c.loop-i.i in
    let x = c.index-names-i.result in
    let n = c.next_on_chain-next.result.now in
    let apart : i + 1 < length names → x.digest ≡ n.digest → ⊥ = elim c.else-i-names.branch [
      | else-i-names-via-then-i-names+else-same_digest w ↦ λ l e. true≢false (sym (w.same_digest.ensures.1 e) ∙ w.if-same_digest.false)
      | else-i-names-via-else-i-names w ↦ λ l e. omega (arith, l, w.if-i-names.false)
    ] in
    linked_more names i c.loop-i.invariant
    (linked_here names i x n (omega arith) c.index-names-i.is c.next_on_chain-next.ensures.within c.next_on_chain-next.ensures.last apart (c.leads_to.ensures c.if-not-leads_to.false))

pub returns : goal.returns
returns c = all_linked c.args.names.now c.requires (λ j l. c.loop-i.invariant j (omega (arith, l, c.loop-i-test.false)))
