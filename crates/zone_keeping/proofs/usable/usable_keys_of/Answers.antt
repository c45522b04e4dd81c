use Rattle.std.proofs.Common.{◌≡◌, IfOk, ap, ◌∙◌, subst}
use Rattle.std.specs.Prelude.{Option, option_copied}
use Rattle.zone_proto.specs.declared.rr_key.RrKey.{RrKey}
use Rattle.zone_proto.specs.Names.{Name}
use Rattle.zone_proto.specs.Sets.{RRset}
use Rattle.zone_proto.specs.Types.{DNSKEY as dnskey_type}
use Rattle.zone_map.specs.Zones.{set_at}
use Rattle.zone_keeping.specs.Usable.{usable_keys}
use Rattle.zone_keeping.proofs.usable.usable_keys_of.Goals as goal

pub returns-clause-ok : goal.returns-clause-ok
returns-clause-ok c =
    let old = c.args.old.now in
    let found : option_copied c.get.result ≡ set_at old c.args.origin.now dnskey_type =
    c.get.ensures.found ∙ ap (λ (k : RrKey). set_at old k.name k.record_type.0) c.new-key.ensures.value ∙ ap (λ (n : Name). set_at old n dnskey_type) c.in_ok-clone.ensures.copy.ok in
    subst (λ (o : Option RRset). IfOk c.usable_keys.result (λ usable. usable.items ≡ usable_keys c.args.keys.now o)) found c.usable_keys.ensures.ok
