use Rattle.std.proofs.Common.{◌≡◌, ◌≢◌, ◌⊎◌, inl, inr, ◌∙◌}
use Rattle.std.specs.Prelude.{None, Option, IfOk}
use Rattle.std.proofs.lemmas.Result.{IfOk-weaker}
use Rattle.zone_proto.specs.declared.error.ProtoError.TheVariants.{Memory}
use Rattle.zone_proto.specs.Names.{Name}
use Rattle.zone_proto.specs.WireForms.{IsWireFault}
use Rattle.zone_response.specs.Dname.{name_in}
use Rattle.zone_response.proofs.NewNames.{read, unread, fine}
use Rattle.zone_response.proofs.dname.name_in.Goals as goal

pub returns-in-Ok-clause-ok : goal.returns-in-Ok-clause-ok
returns-in-Ok-clause-ok c = read c.args.octets.now c.in-Ok.name c.in-Ok.ensures.ok (fine c.in-Ok.name c.labels-labels.ensures.valid)

pub returns-in-Err-clause-ok : goal.returns-in-Err-clause-ok
returns-in-Err-clause-ok c = refused c.in-Err.ensures.refusal
  where
    told : (o : Option Name) → (o ≡ None) × (c.in-Err.error ≢ Memory) → (c.in-Err.error ≡ Memory) ⊎ IsWireFault c.args.octets.now c.in-Err.error → o ≡ name_in c.args.octets.now
    told o (e, other) (inl memory) = absurd (other memory)
    told o (e, other) (inr fault) = e ∙ unread c.args.octets.now c.in-Err.error fault

    refused : (c.in-Err.error ≡ Memory) ⊎ IsWireFault c.args.octets.now c.in-Err.error → IfOk c.no_name.result (λ name. name ≡ name_in c.args.octets.now)
    refused why = IfOk-weaker c.no_name.result (λ o. (o ≡ None) × (c.in-Err.error ≢ Memory)) (λ o. o ≡ name_in c.args.octets.now) (λ o h. told o h why) c.no_name.ensures.ok
