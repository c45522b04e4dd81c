use Rattle.std.proofs.Common.{◌≡◌, sym, ap, ◌∙◌, inr}
use Rattle.zone_proto.specs.declared.rr_key.RrKey.{RrKey}
use Rattle.zone_proto.specs.Keys.{key}
use Rattle.zone_proto.specs.Names.{Name}
use Rattle.zone_proto.specs.Sets.{first_serial}
use Rattle.zone_proto.specs.Types.{SOA}
use Rattle.zone_builder.specs.declared.fault.LoadFault.TheVariants.{NoSoa}
use Rattle.zone_builder.specs.Groups.{records_in}
use Rattle.zone_builder.specs.Records.{records_of}
use Rattle.zone_builder.proofs.loading.serial_of.Goals as goal

pub returns-in-None-clause-err : goal.returns-in-None-clause-err
returns-in-None-clause-err c =
    let apex : c.new-apex.result ≡ key c.args.origin.now SOA = c.new-apex.ensures.value ∙ ap (λ (n : Name). key n SOA) c.in_ok-clone.ensures.copy.ok in
    inr (
      ap (λ (k : RrKey). first_serial (records_of (records_in c.args.groups.now k))) (sym apex) ∙ sym c.serial_under.ensures ∙ c.in-None.is,
      ap NoSoa (c.from.ensures ∙ ap (λ (k : RrKey). k.name) apex),
    )
