use Rattle.std.specs.Prelude.{option_copied}
use Rattle.ready_denials.proofs.DenialFacts.{named_put}
use Rattle.ready_denials.proofs.denying.put_named.Goals as goal

pub returns-clause-put : goal.returns-clause-put
returns-clause-put g c = λ t set kept.
    named_put c.args.zone.now.denials.now c.args.name.now c.args.ttl set (option_copied c.in_ok-covering.covering) c.args.writer.now c.put_if_any.new.writer
    c.put_wildcard.new.writer c.args.out.now.items c.put_if_any.new.out.items c.put_wildcard.new.out.items c.in_ok-covering.ensures.found
    c.in_ok-put_if_any.ensures.put (c.in_ok-put_wildcard.ensures.put t c.args.ttl set kept)
