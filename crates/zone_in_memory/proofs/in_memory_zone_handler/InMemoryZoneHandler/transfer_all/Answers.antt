use Rattle.std.proofs.Common.{ap, subst, ◌≡◌, ◌∙◌}
use Rattle.std.specs.Map.{values_of}
use Rattle.lookup_types.specs.declared.lookup_options.LookupOptions.{LookupOptions}
use Rattle.zone_handler.specs.Sets.{without_soa, sets_records}
use Rattle.zone_map.specs.Zones.{Sets}
use Rattle.zone_signing.specs.Signatures.{answer_signatures}
use Rattle.zone_in_memory.specs.Transfers.{plain, IsSoaPart}
use Rattle.zone_in_memory.proofs.in_memory_zone_handler.InMemoryZoneHandler.transfer_all.Goals as goal

pub returns-clause-ok : goal.returns-clause-ok
returns-clause-ok g c =
    let sign = λ (options : LookupOptions). answer_signatures g.S.Signer.signature_of c.args.now options.dnssec_ok c.args.self.now.inner.signers in
    let is_plain : c.default.result ≡ plain = ap (λ b. record { dnssec_ok = b }) c.default.ensures in
    record {
      start = c.in_ok-start_soa.ensures.ok;
      records = c.of_records.ensures ∙ ap without_soa (c.in_ok-records.ensures.copies ∙ ap (λ (m : Sets). sets_records c.args.lookup_options (values_of m)) c.records.ensures.entries);
      last = subst (λ options. IsSoaPart sign c.args.self.now.origin c.args.self.now.inner.records options c.in_ok-end_soa.end_soa) is_plain c.in_ok-end_soa.ensures.ok;
    }
