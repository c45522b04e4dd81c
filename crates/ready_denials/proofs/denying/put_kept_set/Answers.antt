use Rattle.std.proofs.Common.{subst, sym}
use Rattle.message_writing.specs.KeptText.{IsPlaced}
use Rattle.message_writing.specs.KnownNames.{IsKnown}
use Rattle.message_writing.specs.declared.response.Section.TheVariants.{Authorities}
use Rattle.zone_response.specs.Sections.{sent}
use Rattle.zone_server.proofs.GroupFacts.{puts_one}
use Rattle.ready_denials.proofs.DenialFacts.{group_for, records_for}
use Rattle.ready_denials.proofs.denying.put_kept_set.Goals as goal

pub returns-clause-put : goal.returns-clause-put
returns-clause-put c = λ t part ttl s kept.
    let old = c.args.out.now.items in
    puts_one Authorities (group_for part ttl s) (sent part ttl s) c.args.writer.now c.put_kept.new.self old c.put_kept.new.out.items (records_for part ttl s)
    (c.in_ok-put_kept.ensures.put (group_for part ttl s)
    (subst (λ rs. IsPlaced old c.in-Some.place rs c.args.kept.now) (sym (records_for part ttl s))
    (record { origin = c.args.origin.now; known = subst (λ o. IsKnown o c.in-Some.place c.args.origin.now) c.deref.ensures.value c.in-Some.ensures; kept = kept })))
