use Rattle.std.proofs.Common.{◌≡◌, ◌<◌, ℕ, true, false, get_or, sym, ◌∙◌, arith}
use Rattle.journal_frames.proofs.OneFrame.{behind_shorter}
use Rattle.zone_journal.specs.Shortening.{leads_to}
use Rattle.zone_journal.proofs.Shortened.{all_read, read_begun, read_last, read_other}
use Rattle.zone_journal.proofs.shortening.journal_from.Goals as goal

pub loop-text-init : goal.loop-text-init
loop-text-init c = read_begun (leads_to c.args.soa.now) c.args.journal.now

pub loop-text-smaller-then-branch : goal.loop-text-smaller-then-branch
loop-text-smaller-then-branch c = behind_shorter c.loop-text.rest.now c.in-Some.text.now c.in-Some.behind.now (sym c.in-Some.ensures)

pub loop-text-preserved-then-branch : goal.loop-text-preserved-then-branch
loop-text-preserved-then-branch c =
    let leads : leads_to c.args.soa.now c.in-Some.text.now ≡ true = sym c.in_ok-leads_to.ensures ∙ c.if-branch.true in
    let octets : (i : ℕ) → get_or c.args.journal.now i 0 < 256 = λ i. omega (arith, c.type_inv.journal i) in
    read_last (leads_to c.args.soa.now) c.args.journal.now c.loop-text.rest.now c.loop-text.kept.now c.in-Some.text.now c.in-Some.behind.now
    c.loop-text.invariant octets (sym c.in-Some.ensures) leads

pub loop-text-smaller : goal.loop-text-smaller
loop-text-smaller c = behind_shorter c.loop-text.rest.now c.in-Some.text.now c.in-Some.behind.now (sym c.in-Some.ensures)

pub loop-text-preserved : goal.loop-text-preserved
loop-text-preserved c =
    let leads : leads_to c.args.soa.now c.in-Some.text.now ≡ false = sym c.in_ok-leads_to.ensures ∙ c.if-branch.false in
    let octets : (i : ℕ) → get_or c.args.journal.now i 0 < 256 = λ i. omega (arith, c.type_inv.journal i) in
    read_other (leads_to c.args.soa.now) c.args.journal.now c.loop-text.rest.now c.loop-text.kept.now c.in-Some.text.now c.in-Some.behind.now
    c.loop-text.invariant octets (sym c.in-Some.ensures) leads

pub returns : goal.returns
returns c =
    all_read (leads_to c.args.soa.now) c.args.journal.now c.loop-text.rest.now c.loop-text.kept.now c.loop-text.invariant
    (sym (rw c.in_default.is at c.next_frame.ensures))
