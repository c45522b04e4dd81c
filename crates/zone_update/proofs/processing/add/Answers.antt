use Rattle.std.proofs.Common.{◌≡◌, sym, ap, ◌∙◌}
use Rattle.std.specs.Prelude.{if◌then◌else◌, Option, Some, None, option_map, option_copied}
use Rattle.std.specs.List.{list_any}
use Rattle.zone_proto.specs.declared.record_type.RecordType.{RecordType}
use Rattle.zone_proto.specs.declared.rr_key.RrKey.{RrKey}
use Rattle.zone_proto.specs.Data.{type_of}
use Rattle.zone_proto.specs.Names.{lower}
use Rattle.zone_proto.specs.Sets.{RRset}
use Rattle.zone_map.specs.Upserts.{clash, clashes}
use Rattle.zone_map.specs.Zones.{Sets, set_at, types_at}
use Rattle.zone_update.specs.Processing.{made, put_or_without}
use Rattle.zone_update.proofs.Made.{nothing_made, something_made}
use Rattle.zone_update.proofs.NameTests.{any_map}
use Rattle.zone_update.proofs.processing.add.Goals as goal

pub returns-then-clashes : goal.returns-then-clashes
returns-then-clashes c =
    let m : Sets = c.args.records.now in
    let r = c.args.record in
    let t = c.record_type-record_type.result.0 in
    let n_is : c.new-least.result.name ≡ lower r.name = ap (λ (k : RrKey). k.name) c.new-least.ensures.value ∙ c.in_ok-new.ensures.ok in
    let clash_is : c.clashes.result ≡ clashes m (lower r.name) (type_of r.rdata) =
    c.clashes.ensures
    ∙ ap (list_any (λ (u : RecordType). clash t u.0)) c.as_slice.ensures.value
    ∙ any_map (clash t) (λ (u : RecordType). u.0) c.in_ok-types.types.items
    ∙ ap (list_any (clash t)) c.in_ok-types.ensures.ok
    ∙ ap (λ (es : Sets). list_any (clash t) (types_at es c.new-least.result.name)) c.as_map.ensures.entries
    ∙ ap (λ n. list_any (clash t) (types_at m n)) n_is
    ∙ ap (clashes m (lower r.name)) c.record_type-record_type.ensures in
    let rest : Option Sets = option_map (put_or_without m (lower r.name) (type_of r.rdata)) (made c.args.serial r (set_at m (lower r.name) (type_of r.rdata))) in
    nothing_made m _ (ap (λ b. if b then None else rest) (sym clash_is ∙ c.if-clashes.true))

pub returns-in-None : goal.returns-in-None
returns-in-None c =
    let m : Sets = c.args.records.now in
    let r = c.args.record in
    let t = c.record_type-record_type.result.0 in
    let n_is : c.new-least.result.name ≡ lower r.name = ap (λ (k : RrKey). k.name) c.new-least.ensures.value ∙ c.in_ok-new.ensures.ok in
    let clash_is : c.clashes.result ≡ clashes m (lower r.name) (type_of r.rdata) =
    c.clashes.ensures
    ∙ ap (list_any (λ (u : RecordType). clash t u.0)) c.as_slice.ensures.value
    ∙ any_map (clash t) (λ (u : RecordType). u.0) c.in_ok-types.types.items
    ∙ ap (list_any (clash t)) c.in_ok-types.ensures.ok
    ∙ ap (λ (es : Sets). list_any (clash t) (types_at es c.new-least.result.name)) c.as_map.ensures.entries
    ∙ ap (λ n. list_any (clash t) (types_at m n)) n_is
    ∙ ap (clashes m (lower r.name)) c.record_type-record_type.ensures in
    let set_is : option_copied c.get.result ≡ set_at m (lower r.name) (type_of r.rdata) =
    c.get.ensures.found
    ∙ ap (λ (k : RrKey). set_at m k.name k.record_type.0) c.new-key.ensures.value
    ∙ ap (λ n. set_at m n t) n_is
    ∙ ap (set_at m (lower r.name)) c.record_type-record_type.ensures in
    let made_is : made c.args.serial r (set_at m (lower r.name) (type_of r.rdata)) ≡ c.in_ok-made.field-0 =
    sym (c.in_ok-made.ensures.set ∙ ap (made c.args.serial r) set_is) in
    let put : RRset → Sets = put_or_without m (lower r.name) (type_of r.rdata) in
    let rest : Option Sets = option_map put (made c.args.serial r (set_at m (lower r.name) (type_of r.rdata))) in
    nothing_made m _ (ap (λ b. if b then None else rest) (sym clash_is ∙ c.if-clashes.false) ∙ ap (option_map put) (made_is ∙ c.in-None.is))

pub returns : goal.returns
returns c =
    let m : Sets = c.args.records.now in
    let r = c.args.record in
    let t = c.record_type-record_type.result.0 in
    let n_is : c.new-least.result.name ≡ lower r.name = ap (λ (k : RrKey). k.name) c.new-least.ensures.value ∙ c.in_ok-new.ensures.ok in
    let clash_is : c.clashes.result ≡ clashes m (lower r.name) (type_of r.rdata) =
    c.clashes.ensures
    ∙ ap (list_any (λ (u : RecordType). clash t u.0)) c.as_slice.ensures.value
    ∙ any_map (clash t) (λ (u : RecordType). u.0) c.in_ok-types.types.items
    ∙ ap (list_any (clash t)) c.in_ok-types.ensures.ok
    ∙ ap (λ (es : Sets). list_any (clash t) (types_at es c.new-least.result.name)) c.as_map.ensures.entries
    ∙ ap (λ n. list_any (clash t) (types_at m n)) n_is
    ∙ ap (clashes m (lower r.name)) c.record_type-record_type.ensures in
    let set_is : option_copied c.get.result ≡ set_at m (lower r.name) (type_of r.rdata) =
    c.get.ensures.found
    ∙ ap (λ (k : RrKey). set_at m k.name k.record_type.0) c.new-key.ensures.value
    ∙ ap (λ n. set_at m n t) n_is
    ∙ ap (set_at m (lower r.name)) c.record_type-record_type.ensures in
    let made_is : made c.args.serial r (set_at m (lower r.name) (type_of r.rdata)) ≡ c.in_ok-made.field-0 =
    sym (c.in_ok-made.ensures.set ∙ ap (made c.args.serial r) set_is) in
    let put : RRset → Sets = put_or_without m (lower r.name) (type_of r.rdata) in
    let rest : Option Sets = option_map put (made c.args.serial r (set_at m (lower r.name) (type_of r.rdata))) in
    let after : c.put_or_remove.new.records ≡ put c.in-Some.set =
    c.in_ok-put_or_remove-in-Some.ensures.ok
    ∙ ap (λ (k : RrKey). put_or_without m k.name k.record_type.0 c.in-Some.set) c.new-key.ensures.value
    ∙ ap (λ n. put_or_without m n t c.in-Some.set) n_is
    ∙ ap (λ u. put_or_without m (lower r.name) u c.in-Some.set) c.record_type-record_type.ensures in
    something_made m c.put_or_remove.new.records _
    (ap (λ b. if b then None else rest) (sym clash_is ∙ c.if-clashes.false) ∙ ap (option_map put) (made_is ∙ c.in-Some.is) ∙ ap Some (sym after))
