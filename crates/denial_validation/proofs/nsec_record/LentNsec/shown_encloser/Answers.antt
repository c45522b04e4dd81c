use Rattle.std.proofs.Common.{◌≡◌, Bool, true, false, ◌||◌, Some, ap, sym, ◌∙◌}
use Rattle.zone_proto.specs.Names.{Name, lower, is_at_or_above}
use Rattle.denial_validation.specs.NsecRecords.{NsecRecord}
use Rattle.denial_validation.proofs.AncestorWalk.{found_here, found_above, found_nowhere, lower_parent}
use Rattle.denial_validation.proofs.nsec_record.LentNsec.shown_encloser.Goals as goal

abbrev shows_below : NsecRecord → Name → Bool
shows_below r a = is_at_or_above a r.owner || is_at_or_above a r.next

pub returns-then-shows_below : goal.returns-then-shows_below
returns-then-shows_below c =
    let n = c.loop-ancestor.ancestor in
    let parent = c.next.new.self in
    let low : lower parent ≡ parent = lower_parent n parent c.next.result c.next.ensures.steps c.loop-ancestor.invariant.low in
    let shows : shows_below c.args.self.now parent ≡ true = ap (shows_below c.args.self.now) (sym low) ∙ sym c.shows_below.ensures ∙ c.if-shows_below.true in
    ap Some low
    ∙ sym (found_here (shows_below c.args.self.now) n parent c.next.result c.next.ensures.steps (sym c.is_some.ensures ∙ c.loop-ancestor-test.true) shows)
    ∙ c.loop-ancestor.invariant.found

pub loop-ancestor-preserved : goal.loop-ancestor-preserved
loop-ancestor-preserved c =
    let n = c.loop-ancestor.ancestor in
    let parent = c.next.new.self in
    let low : lower parent ≡ parent = lower_parent n parent c.next.result c.next.ensures.steps c.loop-ancestor.invariant.low in
    let hides : shows_below c.args.self.now parent ≡ false = ap (shows_below c.args.self.now) (sym low) ∙ sym c.shows_below.ensures ∙ c.if-shows_below.false in
    record {
      callable = tt;
      finite = tt;
      low = low;
      found =
          sym (found_above (shows_below c.args.self.now) n parent c.next.result c.next.ensures.steps (sym c.is_some.ensures ∙ c.loop-ancestor-test.true) hides)
          ∙ c.loop-ancestor.invariant.found;
    }

pub returns : goal.returns
returns c =
    sym (found_nowhere (shows_below c.args.self.now) c.loop-ancestor.ancestor c.next.new.self c.next.result c.next.ensures.steps (sym c.is_some.ensures ∙ c.loop-ancestor-test.false))
    ∙ c.loop-ancestor.invariant.found
