use Rattle.std.proofs.Common.{◌≡◌, ◌∙◌, ◌+◌, ◌≤◌, length, take, drop, sym, subst, arith}
use Rattle.ready_table.specs.Ready.{IsQuestionText, IsReady}
use Rattle.ready_table.proofs.KeptPlaces.{kept}
use Rattle.ready_table.proofs.table.ReadyTable.keep.Goals as goal

pub returns : goal.returns
returns c = λ z q ready said text within all.
    let p = c.in-Some.place in
    let e = c.in-Some.ensures in
    let octets = c.args.ready.now in
    let long : 12 + p.question ≤ length octets = omega (arith, e.question, within) in
    kept z c.args.self.now.octets.items octets c.extend_from_slice.new.self.items c.args.self.now.places.items c.push.new.self.items p q
    c.in_ok-extend_from_slice.ensures.items c.in_ok-push.ensures.items (e.start ∙ c.len-start.ensures ∙ c.args.self.now.octets.ok.0) e.size
    (subst (λ l. IsReady z l q octets) (sym e.limit) ready) (said ∙ sym e.said)
    (subst (λ n. IsQuestionText q.question (take n (drop 12 octets))) (sym e.question) text) long all
