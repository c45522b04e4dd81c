use Rattle.std.proofs.Common.{ap, ◌∙◌}
use Rattle.zone_lookup.specs.FoundSets.{found_set}
use Rattle.zone_response.specs.Sections.{is_signed}
use Rattle.zone_response.proofs.SetLists.{signed_out}
use Rattle.zone_response.proofs.dname_repeats.goes_out_signed.Goals as goal

pub returns-in-Signed : goal.returns-in-Signed
returns-in-Signed c =
    let item = c.args.item.now in
    c.is_signed.ensures ∙ ap is_signed c.set.ensures ∙ signed_out item.ttl (found_set item.set) item.part c.in-Signed.is
