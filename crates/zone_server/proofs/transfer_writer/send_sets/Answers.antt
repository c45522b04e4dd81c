use Rattle.std.proofs.Common.{◌≡◌, [], ◌∷◌, ◌++◌, List, map, refl, sym, ap, subst, ◌∙◌, rules}
use Rattle.std.specs.Map.{values_of}
use Rattle.zone_proto.specs.declared.record.Record.{Record}
use Rattle.zone_proto.specs.Sets.{RRset}
use Rattle.message_writing.specs.declared.response.Group.{Group}
use Rattle.message_writing.specs.Responses.{records_of, records_together}
use Rattle.zone_server.specs.Transfers.{between, groups_sent, soa_alone}
use Rattle.zone_server.specs.TransferSteps.{HasSentFirst}
use Rattle.zone_server.proofs.TransferRuns.{no_sets_yet, set_added, set_halts, sets_end, sets_end_halt}
use Rattle.zone_server.proofs.transfer_writer.send_sets.Goals as goal

pub returns-in_err-add-clause-halted : goal.returns-in_err-add-clause-halted
returns-in_err-add-clause-halted g c =
    let q = c.args.query.now in
    let all = groups_sent c.args.soa.now c.args.sets.now in
    let soa = records_together (soa_alone c.args.soa.now) in
    let more = map (λ s. records_together (between s)) (values_of c.args.sets.now) ++ soa ∷ [] in
    let set = records_of c.soa_alone.result in
    let a = c.args.answers.now.items in
    let u = g.W.Write.contents c.args.output.now in
    let none = map records_of c.new-waiting.result.items in
    let is : none ++ set ∷ more ≡ all =
    ap (λ (xs : List Group). map records_of xs ++ set ∷ more) c.new-waiting.ensures.items ∙ ap (λ (x : List Record). x ∷ more) c.soa_alone.ensures in
    let reported = set_halts q all none all more set a a c.add.new.answers.items u u (g.W.Write.contents c.add.new.output) c.in_err-add.field-0.0 (sym is)
    (no_sets_yet q all all a u refl) c.in_err-add.ensures.halted in
    search (rules, reported)

pub loop-set-init : goal.loop-set-init
loop-set-init g c =
    let q = c.args.query.now in
    let all = groups_sent c.args.soa.now c.args.sets.now in
    let soa = records_together (soa_alone c.args.soa.now) in
    let more = map (λ s. records_together (between s)) (values_of c.args.sets.now) ++ soa ∷ [] in
    let set = records_of c.soa_alone.result in
    let a = c.args.answers.now.items in
    let u = g.W.Write.contents c.args.output.now in
    let none = map records_of c.new-waiting.result.items in
    let is : none ++ set ∷ more ≡ all =
    ap (λ (xs : List Group). map records_of xs ++ set ∷ more) c.new-waiting.ensures.items ∙ ap (λ (x : List Record). x ∷ more) c.soa_alone.ensures in
    let v = map records_of c.add.new.waiting.items in
    let b = c.add.new.answers.items in
    let k = g.W.Write.contents c.add.new.output in
    subst (λ (xs : List RRset). HasSentFirst q all (v ++ (map (λ s. records_together (between s)) xs ++ soa ∷ [])) a b u k)
    (sym (c.into_iter-set-iterator.ensures.into_iter_gives ∙ c.values-set-items.ensures.rest))
    (set_added q all none all more v set a a b u u k (sym is) (no_sets_yet q all all a u refl) c.in_ok-add.ensures.sent)

pub loop-set-preserved : goal.loop-set-preserved
loop-set-preserved g c =
    let f : RRset → List Record = λ s. records_together (between s) in
    let q = c.args.query.now in
    let all = groups_sent c.args.soa.now c.args.sets.now in
    let soa = records_together (soa_alone c.args.soa.now) in
    let w = map records_of c.loop-set.waiting.items in
    let more = map f c.next.new.self ++ soa ∷ [] in
    let set = records_of c.between.result in
    let is : w ++ (map f c.loop-set.set-iterator ++ soa ∷ []) ≡ w ++ set ∷ more =
    ap (λ (xs : List RRset). w ++ (map f xs ++ soa ∷ [])) c.in-Some.ensures.steps ∙ ap (λ (x : List Record). w ++ x ∷ more) (sym c.between.ensures) in
    set_added q all w (w ++ (map f c.loop-set.set-iterator ++ soa ∷ [])) more (map records_of c.add-in-loop-set.new.waiting.items) set
    c.args.answers.now.items c.loop-set.answers.items c.add-in-loop-set.new.answers.items (g.W.Write.contents c.args.output.now)
    (g.W.Write.contents c.loop-set.output) (g.W.Write.contents c.add-in-loop-set.new.output) is c.loop-set.invariant c.in_ok-add-2.ensures.sent

pub returns-in_err-add-2-clause-halted : goal.returns-in_err-add-2-clause-halted
returns-in_err-add-2-clause-halted g c =
    let f : RRset → List Record = λ s. records_together (between s) in
    let q = c.args.query.now in
    let all = groups_sent c.args.soa.now c.args.sets.now in
    let soa = records_together (soa_alone c.args.soa.now) in
    let w = map records_of c.loop-set.waiting.items in
    let more = map f c.next.new.self ++ soa ∷ [] in
    let set = records_of c.between.result in
    let is : w ++ (map f c.loop-set.set-iterator ++ soa ∷ []) ≡ w ++ set ∷ more =
    ap (λ (xs : List RRset). w ++ (map f xs ++ soa ∷ [])) c.in-Some.ensures.steps ∙ ap (λ (x : List Record). w ++ x ∷ more) (sym c.between.ensures) in
    let reported = set_halts q all w (w ++ (map f c.loop-set.set-iterator ++ soa ∷ [])) more set
    c.args.answers.now.items c.loop-set.answers.items c.add-in-loop-set.new.answers.items (g.W.Write.contents c.args.output.now)
    (g.W.Write.contents c.loop-set.output) (g.W.Write.contents c.add-in-loop-set.new.output) c.in_err-add-2.field-0.0 is c.loop-set.invariant
    c.in_err-add-2.ensures.halted in
    search (rules, reported)

pub returns-in_err-add-3-clause-halted : goal.returns-in_err-add-3-clause-halted
returns-in_err-add-3-clause-halted g c =
    let f : RRset → List Record = λ s. records_together (between s) in
    let q = c.args.query.now in
    let all = groups_sent c.args.soa.now c.args.sets.now in
    let soa = records_together (soa_alone c.args.soa.now) in
    let w = map records_of c.loop-set.waiting.items in
    let set = records_of c.soa_alone-2.result in
    let is : w ++ (map f c.loop-set.set-iterator ++ soa ∷ []) ≡ w ++ set ∷ [] =
    ap (λ (xs : List RRset). w ++ (map f xs ++ soa ∷ [])) c.in-None.ensures.steps.0 ∙ ap (λ (x : List Record). w ++ x ∷ []) (sym c.soa_alone-2.ensures) in
    let reported = set_halts q all w (w ++ (map f c.loop-set.set-iterator ++ soa ∷ [])) [] set
    c.args.answers.now.items c.loop-set.answers.items c.add-2.new.answers.items (g.W.Write.contents c.args.output.now)
    (g.W.Write.contents c.loop-set.output) (g.W.Write.contents c.add-2.new.output) c.in_err-add-3.field-0.0 is c.loop-set.invariant
    c.in_err-add-3.ensures.halted in
    search (rules, reported)

pub returns-clause-sent : goal.returns-clause-sent
returns-clause-sent g c =
    let f : RRset → List Record = λ s. records_together (between s) in
    let q = c.args.query.now in
    let all = groups_sent c.args.soa.now c.args.sets.now in
    let soa = records_together (soa_alone c.args.soa.now) in
    let w = map records_of c.loop-set.waiting.items in
    let set = records_of c.soa_alone-2.result in
    let is : w ++ (map f c.loop-set.set-iterator ++ soa ∷ []) ≡ w ++ set ∷ [] =
    ap (λ (xs : List RRset). w ++ (map f xs ++ soa ∷ [])) c.in-None.ensures.steps.0 ∙ ap (λ (x : List Record). w ++ x ∷ []) (sym c.soa_alone-2.ensures) in
    let v = map records_of c.add-2.new.waiting.items in
    let a = c.args.answers.now.items in
    let b = c.add-2.new.answers.items in
    let u = g.W.Write.contents c.args.output.now in
    let k = g.W.Write.contents c.add-2.new.output in
    let h = set_added q all w (w ++ (map f c.loop-set.set-iterator ++ soa ∷ [])) [] v set a c.loop-set.answers.items b u
    (g.W.Write.contents c.loop-set.output) k is c.loop-set.invariant c.in_ok-add-3.ensures.sent in
    sets_end q c.send_all.result all c.add-2.new.waiting.items c.as_slice.result.now a b c.send_all.new.answers.items u k
    (g.W.Write.contents c.send_all.new.output) c.as_slice.ensures.value h c.send_all.ensures.sent

pub returns-clause-halted : goal.returns-clause-halted
returns-clause-halted g c =
    let f : RRset → List Record = λ s. records_together (between s) in
    let q = c.args.query.now in
    let all = groups_sent c.args.soa.now c.args.sets.now in
    let soa = records_together (soa_alone c.args.soa.now) in
    let w = map records_of c.loop-set.waiting.items in
    let set = records_of c.soa_alone-2.result in
    let is : w ++ (map f c.loop-set.set-iterator ++ soa ∷ []) ≡ w ++ set ∷ [] =
    ap (λ (xs : List RRset). w ++ (map f xs ++ soa ∷ [])) c.in-None.ensures.steps.0 ∙ ap (λ (x : List Record). w ++ x ∷ []) (sym c.soa_alone-2.ensures) in
    let v = map records_of c.add-2.new.waiting.items in
    let a = c.args.answers.now.items in
    let b = c.add-2.new.answers.items in
    let u = g.W.Write.contents c.args.output.now in
    let k = g.W.Write.contents c.add-2.new.output in
    let h = set_added q all w (w ++ (map f c.loop-set.set-iterator ++ soa ∷ [])) [] v set a c.loop-set.answers.items b u
    (g.W.Write.contents c.loop-set.output) k is c.loop-set.invariant c.in_ok-add-3.ensures.sent in
    sets_end_halt q c.send_all.result all c.add-2.new.waiting.items c.as_slice.result.now a b c.send_all.new.answers.items u k
    (g.W.Write.contents c.send_all.new.output) c.as_slice.ensures.value h c.send_all.ensures.halted
