use Rattle.std.proofs.Common.{◌++◌, ℕ, List, map, sym, subst}
use Rattle.std.proofs.lemmas.Result.{on_ok_weaker}
use Rattle.std.specs.Prelude.{OnErr, Result}
use Rattle.message_reading.specs.declared.error.ReadError.{ReadError}
use Rattle.message_reading.specs.declared.query.Query.{Query as ReadQuery}
use Rattle.zone_response.specs.Queries.{zone_of}
use Rattle.zone_server.specs.Answers.{IsAnswerTo}
use Rattle.zone_server.specs.Frames.{framed, framed_of}
use Rattle.zone_server.specs.Serving.{served_of}
use Rattle.zone_server.specs.Stopping.{IsOneAnswerTo, MovesFront, Stops}
use Rattle.zone_server.proofs.AnswerFacts.{read_whole}
use Rattle.zone_server.proofs.QueryFacts.{read_opcode}
use Rattle.zone_server.proofs.StoppedFrames.{answer_unput}
use Rattle.zone_server.proofs.WrittenFronts.{none_stops, on_err}
use Rattle.zone_server.proofs.serving.answer_once.Goals as goal

pub answer_read-requires : goal.answer_read-requires
answer_read-requires g c = read_opcode c.args.frame.message.now c.args.read c.requires

pub returns-clause-read : goal.returns-clause-read
returns-clause-read g c =
    let zs = map (zone_of {S = g.row.S.Denot} {H = g.row.H.Denot} g.S.Signer.signature_of g.H.Nsec3Hash.digest_of) c.args.server.now.zones.now in
    on_ok_weaker c.put_answer.result (λ moved. read_whole zs c.args.frame.transport c.args.frame.message.now c.args.read c.answer_read.new.out.items c.requires
    c.in_ok-answer_read.ensures.answer) c.put_answer.ensures.put

pub returns-in_err-answer_read-clause-stopped : goal.returns-in_err-answer_read-clause-stopped
returns-in_err-answer_read-clause-stopped g c =
    let s = served_of {S = g.row.S.Denot} {H = g.row.H.Denot} g.S.Signer.signature_of g.H.Nsec3Hash.digest_of c.args.server.now in
    let Is = IsOneAnswerTo s (framed_of c.args.frame) c.args.read in
    let a = c.args.answers.now.items in
    let u = g.W.Write.contents c.args.output.now in
    on_err c.from_residual.result (Stops Is a u u) (none_stops Is a u)

pub returns-clause-stopped : goal.returns-clause-stopped
returns-clause-stopped g c =
    let s = served_of {S = g.row.S.Denot} {H = g.row.H.Denot} g.S.Signer.signature_of g.H.Nsec3Hash.digest_of c.args.server.now in
    let t = c.args.frame.transport in
    let octets = c.answer_read.new.out.items in
    let is = read_whole s.zones t c.args.frame.message.now c.args.read octets c.requires c.in_ok-answer_read.ensures.answer in
    let answer = subst (λ (x : Result ReadQuery ReadError). IsAnswerTo s.zones t x octets) (sym is) c.in_ok-answer_read.ensures.answer in
    answer_unput s c.put_answer.result (framed_of c.args.frame) c.args.read octets c.args.answers.now.items (g.W.Write.contents c.args.output.now)
    (g.W.Write.contents c.put_answer.new.output) answer is
    (subst (λ (o : List ℕ). OnErr c.put_answer.result (MovesFront (c.args.answers.now.items ++ framed o) (g.W.Write.contents c.args.output.now) (g.W.Write.contents c.put_answer.new.output)))
    c.as_slice.ensures.value c.put_answer.ensures.front)
