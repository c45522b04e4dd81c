use Rattle.std.proofs.Common.{◌≡◌, [], ◌∷◌, ◌++◌, List, drop, map, take, refl, ap, subst, ◌∙◌, rules}
use Rattle.std.proofs.lemmas.List.{map-append}
use Rattle.message_writing.specs.declared.response.Group.{Group}
use Rattle.message_writing.specs.Responses.{records_of}
use Rattle.zone_server.specs.declared.transfer_writer.Halt.TheVariants as halt
use Rattle.zone_server.specs.declared.waiting.Stop.TheVariants.{Memory}
use Rattle.zone_server.specs.Transfers.{joined}
use Rattle.zone_server.specs.TransferSteps.{HasSentSets}
use Rattle.zone_server.proofs.TransferFacts.{stopped_at_once}
use Rattle.zone_server.proofs.TransferRuns.{no_sets_yet, sets_halt, sets_more}
use Rattle.zone_server.proofs.transfer_writer.add.Goals as goal

pub returns-clause-sent : goal.returns-clause-sent
returns-clause-sent g c =
    let q = c.args.query.now in
    let old = c.args.waiting.now.items in
    let gs = c.push.new.waiting.items in
    let sets = map records_of old ++ records_of c.args.group ∷ [] in
    let a = c.args.answers.now.items in
    let b = c.send_first.new.answers.items in
    let u = g.W.Write.contents c.args.output.now in
    let v = g.W.Write.contents c.send_first.new.output in
    let count = c.in_ok-count.count in
    let all : map records_of gs ≡ sets = ap (map records_of) c.in_ok-push.ensures ∙ map-append records_of old (c.args.group ∷ []) in
    sets_more q sets gs c.in_ok-left.left.items count a a b u u v (no_sets_yet q sets (map records_of gs) a u all)
    (subst (λ (xs : List Group). HasSentSets q (map records_of (take count xs)) a b u v) c.as_slice.ensures.value c.in_ok-count.ensures.sent)
    (c.in_ok-left.ensures.items ∙ c.behind.ensures.value ∙ ap (drop count) c.as_slice-2.ensures.value)

pub returns-in_err-push-clause-halted : goal.returns-in_err-push-clause-halted
returns-in_err-push-clause-halted g c =
    let sets = map records_of c.args.waiting.now.items ++ records_of c.args.group ∷ [] in
    let reported = stopped_at_once c.args.query.now (joined sets) c.args.answers.now.items (g.W.Write.contents c.args.output.now) in
    search (rules, reported)

pub returns-in_err-left-clause-halted : goal.returns-in_err-left-clause-halted
returns-in_err-left-clause-halted g c =
    let q = c.args.query.now in
    let old = c.args.waiting.now.items in
    let gs = c.push.new.waiting.items in
    let sets = map records_of old ++ records_of c.args.group ∷ [] in
    let a = c.args.answers.now.items in
    let b = c.send_first.new.answers.items in
    let u = g.W.Write.contents c.args.output.now in
    let v = g.W.Write.contents c.send_first.new.output in
    let count = c.in_ok-count.count in
    let left = drop count gs in
    let all : map records_of gs ≡ sets = ap (map records_of) c.in_ok-push.ensures ∙ map-append records_of old (c.args.group ∷ []) in
    let sent = sets_more q sets gs left count a a b u u v (no_sets_yet q sets (map records_of gs) a u all)
    (subst (λ (xs : List Group). HasSentSets q (map records_of (take count xs)) a b u v) c.as_slice.ensures.value c.in_ok-count.ensures.sent) refl in
    let reported = sets_halt q sets (map records_of left) a b b u v v (halt.Stop Memory) sent (stopped_at_once q (joined (map records_of left)) b v) in
    search (rules, reported)
