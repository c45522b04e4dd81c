use Rattle.std.proofs.Common.{◌≡◌, ◌==◌, ◌∙◌, ◌+◌, arith, false, ap, length, sym, subst}
use Rattle.std.specs.Prelude.{Some, option_map}
use Rattle.zone_origins.specs.Nearest as origins
use Rattle.zone_response.proofs.WildcardWalk.{labels_fit}
use Rattle.zone_proto.specs.Names.{Name, lower}
use Rattle.zone_proto.specs.Types.{DS}
use Rattle.zone_server.specs.Answers.{IsResponseFrom}
use Rattle.zone_server.specs.Limits.{limit_for}
use Rattle.zone_server.specs.ServedZones.{may_answer_for, IsNearestIfAny}
use Rattle.ready_table.proofs.AskedZones.{ready_answers_query}
use Rattle.zone_database.proofs.UnderOrigins.{Entry, all_asked, asked, nearest_asked, own_origin}
use Rattle.zone_database.proofs.database.ZoneDatabase.put_ready_to.Goals as goal

pub overflow_add-result : goal.overflow_add-result
overflow_add-result c = omega (arith, c.num_labels.ensures.count, labels_fit c.in-Some.origin.now, c.num_labels.ensures.valid.name.short)

pub returns-then-branch : goal.returns-then-branch
returns-then-branch c =
    let es = c.args.self.now.zones.entries in
    let e : Entry = (c.in-Some.origin.now, c.in-Some.stored.now) in
    let q = c.args.query.now in
    let limit = limit_for c.args.transport q.extension in
    let octets = c.put_ready.new.out.items in
    let name : c.in-Ok.name ≡ lower q.question.name = c.in-Ok.ensures.ok in
    let h : origins.IsNearestIfAny c.in-Ok.name es (Some e) = subst (λ o. origins.IsNearestIfAny c.in-Ok.name es (option_map (λ p. (p.0.now, p.1.now)) o)) c.in-Some.is c.in_ok-origin.ensures in
    let near : IsNearestIfAny (may_answer_for false (lower q.question.name)) (all_asked es) (Some (asked e)) =
    subst (λ (n : Name). IsNearestIfAny (may_answer_for false n) (all_asked es) (Some (asked e))) name (nearest_asked c.in-Ok.name es (Some e) c.args.self.now.under_origins h) in
    let no_ds : (q.question.query_type.0 == DS) ≡ false = sym c.eq.ensures ∙ c.if-eq.false in
    let labels : length e.1.origin + 1 ≡ c.num_labels.result + 1 =
    ap (λ (n : Name). length n + 1) (own_origin c.in-Ok.name es e c.args.self.now.under_origins h) ∙ ap (λ n. n + 1) (sym c.num_labels.ensures.count) in
    λ read. subst (λ n. IsResponseFrom (all_asked es) limit q n octets) labels
    (ready_answers_query (all_asked es) (asked e) limit q octets no_ds near (c.in_ok-put_ready-in-Some.ensures c.if-branch.true read))
