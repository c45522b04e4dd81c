use Rattle.std.proofs.Common.{◌∙◌, sym}
use Rattle.std.specs.Prelude.{option_copied}
use Rattle.std.proofs.lemmas.Result.{IfOk-weaker}
use Rattle.ready_denials.proofs.DenialFacts.{kept_set, none_put, other_put, owned_put}
use Rattle.ready_denials.proofs.denying.put_wildcard.Goals as goal

pub returns-then-is_owned-clause-put : goal.returns-then-is_owned-clause-put
returns-then-is_owned-clause-put c = λ t ttl set kept.
    owned_put c.args.origin.now (option_copied c.args.there) c.in-Some.proof ttl set c.args.wildcard.now c.args.writer.now c.args.out.now.items c.in-Some.is kept
    (sym c.is_owned.ensures ∙ c.if-is_owned.true)

pub put_kept_set-requires-clause-kept : goal.put_kept_set-requires-clause-kept
put_kept_set-requires-clause-kept c =
    let h = c.requires.kept in kept_set c.args.origin.now (option_copied c.args.there) c.in-Some.proof h.0 h.1 c.args.wildcard.now c.in-Some.is h.2

pub returns-else-is_owned-clause-put : goal.returns-else-is_owned-clause-put
returns-else-is_owned-clause-put c =
    IfOk-weaker c.put_kept_set.result _ _
    (λ put h t ttl set kept.
    other_put c.args.origin.now (option_copied c.args.there) c.in-Some.proof ttl set c.args.wildcard.now c.args.writer.now c.put_kept_set.new.writer
    c.args.out.now.items c.put_kept_set.new.out.items c.in-Some.is kept (sym c.is_owned.ensures ∙ c.if-is_owned.false) (h t))
    c.put_kept_set.ensures.put

pub returns-in-None-clause-put : goal.returns-in-None-clause-put
returns-in-None-clause-put c = λ t ttl set kept.
    none_put c.args.origin.now (option_copied c.args.there) ttl set c.args.wildcard.now c.args.writer.now c.args.out.now.items c.in-None.is kept
