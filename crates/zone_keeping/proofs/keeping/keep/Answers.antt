use Rattle.std.proofs.Common.{List, sym, ap, ◌∙◌, subst}
use Rattle.std.specs.Prelude.{Option}
use Rattle.zone_proto.specs.declared.rdata.signing.DNSKEY.{DNSKEY}
use Rattle.zone_proto.specs.declared.record.Record.{Record}
use Rattle.zone_proto.specs.declared.rr_key.RrKey.{RrKey}
use Rattle.zone_proto.specs.Types.{DNSKEY as dnskey_type}
use Rattle.zone_map.specs.Renewals.{AreHanded}
use Rattle.zone_map.specs.Zones.{set_at}
use Rattle.zone_planning.proofs.Unstepped.{unstepped}
use Rattle.zone_keeping.specs.Keeping.{kept_lists, kept}
use Rattle.zone_keeping.specs.Usable.{usable_keys}
use Rattle.zone_keeping.proofs.keeping.keep.Goals as goal

pub returns-clause-kept : goal.returns-clause-kept
returns-clause-kept c =
    let records = c.args.plan.now.records in
    let old = c.args.old.now in
    let made = kept_lists c.args.span.now c.as_slice-2.result.now old records in
    c.renew.ensures.sets made (subst (λ (x : List Record). AreHanded records made c.in_ok-lists.lists.items x) (sym c.in_ok-exchanged.ensures.ok) c.in_ok-lists.ensures.handed)
    ∙ unstepped c.new-none.result records made (ap (λ (k : RrKey). k.record_type.0) c.new-none.ensures.value) c.in_ok-lists.ensures.stored
    ∙ ap (λ (u : List (Option DNSKEY)). kept c.args.span.now u old records) (c.as_slice-2.ensures.value ∙ c.in_ok-usable.ensures.ok)
    ∙ ap (λ (ks : List DNSKEY). kept c.args.span.now (usable_keys ks (set_at old c.args.origin.now dnskey_type)) old records) c.as_slice.ensures.value
