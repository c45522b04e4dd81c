use Rattle.std.proofs.Common.{◌≡◌, drop, sym, ap, ◌∙◌, subst}
use Rattle.zone_proto.specs.Names.{IsAbove, wildcard_under}
use Rattle.zone_denial.specs.NsecDenial.{nsec_encloser}
use Rattle.zone_denial.proofs.Chain.NsecEnclosers.{wildcard_found, goes_below, goes_on}
use Rattle.zone_denial.proofs.denial.enclosed_wildcard.Goals as goal

pub loop-next_closer-preserved : goal.loop-next_closer-preserved
loop-next_closer-preserved c =
    let origin = c.args.origin.now in
    let m = c.args.records.now in
    let on = sym c.encloses.ensures ∙ c.loop-next_closer-test.true in
    let now : c.shorten.new.self ≡ c.loop-next_closer.above = c.shorten.ensures ∙ sym c.loop-next_closer.invariant.above in
    record {
      above = c.shorten-in-loop-next_closer.ensures ∙ ap (drop 1) (sym now);
      below = subst (IsAbove origin) (sym now)
          (goes_below origin m c.loop-next_closer.next_closer c.loop-next_closer.above c.loop-next_closer.invariant.above c.loop-next_closer.invariant.below on);
      encloser = c.loop-next_closer.invariant.encloser
          ∙ goes_on origin m c.loop-next_closer.next_closer c.loop-next_closer.above c.loop-next_closer.invariant.above c.loop-next_closer.invariant.below on
          ∙ ap (nsec_encloser origin m) (sym now);
    }

pub returns : goal.returns
returns c = record {
  ok = c.into_wildcard.ensures
      ∙ wildcard_found c.args.origin.now c.args.records.now c.loop-next_closer.next_closer c.loop-next_closer.above c.loop-next_closer.invariant.above c.loop-next_closer.invariant.below
      (sym c.encloses.ensures ∙ c.loop-next_closer-test.false)
      ∙ ap wildcard_under (sym c.loop-next_closer.invariant.encloser);
  err = tt;
}
