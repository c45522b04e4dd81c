use Rattle.std.proofs.Common.{◌≡◌, [], ◌∷◌, ◌∙◌, ap, map, subst, sym}
use Rattle.std.specs.Prelude.{option_copied, option_to_list}
use Rattle.std.proofs.lemmas.Result.{on_ok_weaker}
use Rattle.message_writing.specs.declared.response.Section.TheVariants.{Authorities}
use Rattle.zone_response.specs.Denials.{sent_proof}
use Rattle.zone_response.specs.Sections.{sent_set}
use Rattle.zone_server.proofs.GroupFacts.{puts_none}
use Rattle.ready_denials.specs.Denials.{Puts}
use Rattle.ready_denials.proofs.denying.put_if_any.Goals as goal

pub returns-in-Some-clause-put : goal.returns-in-Some-clause-put
returns-in-Some-clause-put c =
    let one : sent_set c.proof_of.result ∷ [] ≡ map (sent_proof c.args.ttl) (option_to_list (option_copied c.args.set)) =
    ap (λ s. s ∷ []) c.proof_of.ensures ∙ ap (λ o. map (sent_proof c.args.ttl) (option_to_list (option_copied o))) (sym c.in-Some.is) in
    on_ok_weaker c.put_set.result
    (λ h. subst (λ ss. Puts ss c.args.writer.now c.args.out.now.items c.put_set.new.writer c.put_set.new.out.items) one h) c.put_set.ensures.put

pub returns-in-None-clause-put : goal.returns-in-None-clause-put
returns-in-None-clause-put c =
    subst (λ o. Puts (map (sent_proof c.args.ttl) (option_to_list (option_copied o))) c.args.writer.now c.args.out.now.items c.args.writer.now c.args.out.now.items)
    (sym c.in-None.is) (puts_none Authorities c.args.writer.now c.args.out.now.items)
