use Rattle.std.proofs.Common.{◌≡◌, true, List, [], sym, ap, ◌∙◌, subst}
use Rattle.std.specs.List.{AllByRecursion}
use Rattle.std.proofs.lemmas.Result.{on_ok_weaker}
use Rattle.zone_proto.specs.declared.record.Record.{Record}
use Rattle.zone_proto.specs.Sets.{stores}
use Rattle.zone_builder.specs.declared.given.GivenRecord.{GivenRecord}
use Rattle.zone_builder.specs.Records.{is_signature}
use Rattle.zone_builder.proofs.FirstTaken.{signed_first, Alike}
use Rattle.zone_builder.proofs.Repeating.{all_new}
use Rattle.zone_builder.proofs.SignedSets.{signing}
use Rattle.zone_builder.proofs.filling.sign.Goals as goal

pub sign_all-requires : goal.sign_all-requires
sign_all-requires c =
    subst (AllByRecursion (λ (g : GivenRecord). is_signature g.record.rdata ≡ true)) (sym c.in_ok-first.ensures.ok)
    (all_new (λ (g : GivenRecord). is_signature g.record.rdata ≡ true) [] c.args.signatures.items c.requires.kinds)

pub returns-clause-ok : goal.returns-clause-ok
returns-clause-ok c =
    let alike : Alike 0 c.args.ttl c.args.set.now.signatures [] = λ d. ap (λ rs. stores rs d) c.requires.unsigned in
    on_ok_weaker c.sign_all.result
    (λ h. h ∙ ap (signing c.args.ttl c.args.set.now) c.in_ok-first.ensures.ok
    ∙ ap (λ (rs : List Record). record c.args.set.now { signatures = rs }) (signed_first 0 c.args.ttl c.args.set.now.signatures [] c.args.signatures.items alike))
    c.sign_all.ensures.ok
