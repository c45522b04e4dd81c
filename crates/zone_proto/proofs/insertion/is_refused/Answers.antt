use Rattle.std.proofs.Common.{◌≡◌, ◌∙◌, sym, ap, false}
use Rattle.std.specs.Prelude.{Some, None}
use Rattle.zone_proto.specs.Data.{type_of}
use Rattle.zone_proto.specs.Sets.{is_single, soa_serial, first_serial, stores}
use Rattle.zone_proto.specs.Insertion.{refused_by}
use Rattle.zone_proto.proofs.insertion.is_refused.Goals as goal

pub returns-in-Some-first_serial : goal.returns-in-Some-first_serial
returns-in-Some-first_serial c =
    let d = c.args.new.now in
    let new : soa_serial d ≡ Some c.in-Some.serial = sym c.soa_serial.ensures ∙ c.in-Some.is in
    let old : first_serial c.args.records.now ≡ Some c.in-Some-first_serial.old = sym c.first_serial.ensures ∙ c.in-Some-first_serial.is in
    sym (λ i. refused_by (new i) (old i) (is_single (type_of d)) (stores c.args.records.now d))

pub returns-then-not-is_single : goal.returns-then-not-is_single
returns-then-not-is_single c =
    let d = c.args.new.now in
    let none : soa_serial d ≡ None = sym c.soa_serial.ensures ∙ c.in_default.is in
    let several : is_single (type_of d) ≡ false = sym (c.is_single.ensures ∙ ap is_single c.record_type.ensures) ∙ c.if-not-is_single.true in
    c.stores.ensures ∙ sym (λ i. refused_by (none i) (first_serial c.args.records.now) (several i) (stores c.args.records.now d))
