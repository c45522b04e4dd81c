use Rattle.std.proofs.Common.{◌≡◌, ◌+◌, arith, Bool, ap, subst}
use Rattle.std.specs.Prelude.{Option, Some, None, option_map}
use Rattle.message_writing.proofs.NameWriting.{few_labels}
use Rattle.zone_lookup.proofs.Chasing.{no_value}
use Rattle.zone_proto.specs.Names.{Name, lower}
use Rattle.zone_response.specs.declared.question.ServedZone.{ServedZone}
use Rattle.zone_response.specs.Queries.{Query, Zone, zone_of}
use Rattle.zone_response.specs.Responses.{IsResponse}
use Rattle.zone_response.specs.Sections.{sections}
use Rattle.zone_server.specs.Answers.{asked_of}
use Rattle.zone_server.specs.ServedZones.{IsAnswering}
use Rattle.zone_server.proofs.AnswerFacts.{refused_from, said_from}
use Rattle.zone_server.proofs.answering.send_response.Goals as goal

pub returns-in-Ok-respond : goal.returns-in-Ok-respond
returns-in-Ok-respond g c =
    let Sg : Type 0 = g.row.Z-Signer.Denot in
    let Hs : Type 0 = g.row.Z-Hash.Denot in
    let kept : ServedZone Sg Hs → Zone = zone_of g.Z.Signer.Signer.signature_of g.Z.Hash.Nsec3Hash.digest_of in
    let zs = g.Z.ServedZones.zones c.args.zones.now in
    let q = c.args.query.now.question in
    let said = sections c.in-Ok-respond.response in
    let name : c.in-Ok.name ≡ lower q.name = c.in-Ok.ensures.ok in
    let z = kept c.in-Some.zone in
    let asked : Name → Bool → Query = λ n signed. record { name = n; record_type = q.query_type.0; class = q.query_class.0; signed = signed } in
    let P : Name → Type 0 = λ n. IsAnswering zs n q.query_type.0 (Some z) in
    let Q : Option (ServedZone Sg Hs) → Type 0 = λ o. IsAnswering zs c.in-Ok.name q.query_type.0 (option_map kept o) in
    let R : Bool → Type 0 = λ signed. IsResponse z (asked c.in-Ok.name signed) said in
    let T : Name → Type 0 = λ n. IsResponse z (asked n (asked_of c.args.query.now).signed) said in
    said_from zs c.args.limit c.args.query.now z said (c.num_labels-labels.result + 1) c.send.new.out.items (subst P name (subst Q c.in-Some.is c.in_ok-zone.ensures))
    (subst T name (subst R c.asks_for_dnssec.ensures c.in-Ok-respond.ensures.response)) (ap (λ n. n + 1) c.num_labels-labels.ensures.count) c.in_ok-send-in-Ok-respond.ensures

pub returns-in_default-2 : goal.returns-in_default-2
returns-in_default-2 g c =
    let Sg : Type 0 = g.row.Z-Signer.Denot in
    let Hs : Type 0 = g.row.Z-Hash.Denot in
    let kept : ServedZone Sg Hs → Zone = zone_of g.Z.Signer.Signer.signature_of g.Z.Hash.Nsec3Hash.digest_of in
    let zs = g.Z.ServedZones.zones c.args.zones.now in
    let q = c.args.query.now.question in
    let name : c.in-Ok.name ≡ lower q.name = c.in-Ok.ensures.ok in
    let P : Name → Type 0 = λ n. IsAnswering zs n q.query_type.0 None in
    let Q : Option (ServedZone Sg Hs) → Type 0 = λ o. IsAnswering zs c.in-Ok.name q.query_type.0 (option_map kept o) in
    refused_from zs c.args.limit c.args.query.now c.send_code.new.out.items
    (subst P name (subst Q (no_value c.in_ok-zone.field-0 c.in_default-2.not-Some) c.in_ok-zone.ensures)) c.in_ok-send_code.ensures

pub overflow_add-labels : goal.overflow_add-labels
overflow_add-labels g c = omega (arith, c.num_labels-labels.ensures.count, few_labels _ c.num_labels-labels.ensures.valid.name)
