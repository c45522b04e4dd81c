use Rattle.std.proofs.Common.{◌≤◌, length, sym, ap, ◌∙◌, arith}
use Rattle.std.specs.Prelude.{None, option_map}
use Rattle.zone_response.specs.Descent.{diversion_above, diversion_by, diversion_of}
use Rattle.zone_response.proofs.TurnWalk.{or_none, at_origin}
use Rattle.zone_response.proofs.UnderApex.{none_longer, longer_by_one}
use Rattle.zone_response.proofs.descent.diversion_on_way.Goals as goal

pub returns-then-under_apex-clause-ok : goal.returns-then-under_apex-clause-ok
returns-then-under_apex-clause-ok g c = λ t.
    let o = c.args.origin.now in
    let m = c.args.inner.now.records in
    let x = c.args.name.now in
    let here = option_map diversion_of c.diversion_by.result in
    let under = c.requires.under_apex c.if-under_apex.true in
    let short : length x ≤ length x = omega arith in
    at_origin o m x t x None here here c.requires.inside (longer_by_one m o x under) short (none_longer m o x under)
    (c.diversion_by.ensures ∙ ap (diversion_by None) c.requires.apex.second_asked) (sym (or_none here))
    ∙ or_none (diversion_above o m x t x)
