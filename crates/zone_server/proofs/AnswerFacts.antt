-- What an answer is by what is read of a message, and that it has octets, and no more than two octets count
use Rattle.std.proofs.Common.{◌≡◌, ℕ, ◌<◌, ◌≤◌, inl, inr, List, [], length, refl, sym, ap, subst, ◌∙◌, arith}
use Rattle.std.specs.Prelude.{◌≢◌, Option, Some, None, Result, Ok, Err, OnOk}
use Rattle.std.specs.declared.alloc.AllocError.{AllocError}
use Rattle.message_reading.specs.declared.query.Query.{Query as ReadQuery}
use Rattle.message_reading.specs.declared.query.Extension.{Extension}
use Rattle.message_reading.specs.declared.error.ReadError.{ReadError}
use Rattle.message_reading.specs.declared.error.ReadError.TheVariants.{NoHeader, NoQuery, NotImplemented, Malformed, BadVersion, Memory}
use Rattle.zone_proto.specs.declared.response_code.ResponseCode.TheVariants.{Refused}
use Rattle.message_reading.specs.Messages.{Parts, message_of}
use Rattle.message_reading.specs.Queries.{query_of, ReadsQuery}
use Rattle.zone_response.specs.Queries.{Zone}
use Rattle.zone_response.specs.Responses.{bare, IsResponse}
use Rattle.zone_response.specs.Sections.{Sections}
use Rattle.zone_server.specs.declared.answering.Answered.{Answered}
use Rattle.zone_server.specs.declared.transport.Transport.{Transport}
use Rattle.zone_server.specs.declared.transport.Transport.TheVariants.{Tcp, Udp}
use Rattle.zone_server.specs.Answers.{asked_of, origin_labels, GoesOut, IsAnswer, IsAnswerFrom, IsAnswerFromTo, IsAnswerTo, IsResponseFrom, IsResponseTo, IsSent}
use Rattle.zone_server.specs.Limits.{limit_for}
use Rattle.zone_server.specs.ServedZones.{IsAnswering}

-- ---- limits

pub limit_least : (t : Transport) (e : Option Extension) → 512 ≤ limit_for t e
limit_least (Udp limit) None = omega arith
limit_least (Udp limit) (Some e) = omega arith
limit_least Tcp e = omega arith

pub limit_most : (t : Transport) (e : Option Extension) → limit_for t e ≤ 65535
limit_most (Udp limit) None = omega arith
limit_most (Udp limit) (Some e) = omega arith
limit_most Tcp e = omega arith

-- ---- what is sent

no_message : message_of [] ≡ None
unfolding message_of
no_message = refl

has_octets : (octets : List ℕ) (p : Parts) → message_of octets ≡ Some p → octets ≢ []
has_octets octets p e none = by (sym (ap message_of none ∙ no_message) ∙ e)
  where
    by : None ≡ Some p → ⊥
    by q = cc

pub sent_some : (limit : ℕ) (q : ReadQuery) (s : Sections) (octets : List ℕ) → IsSent limit q s octets → octets ≢ []
sent_some limit q s octets h = has_octets octets _ h.written.reads

pub sent_short : (t : Transport) (e : Option Extension) (q : ReadQuery) (s : Sections) (octets : List ℕ) → IsSent (limit_for t e) q s octets → length octets < 65536
sent_short t e q s octets h =
    let within : length octets ≤ limit_for t e = h.written.within in
    let most : limit_for t e ≤ 65535 = limit_most t e in
    omega (arith, within, most)

pub gone_some : (limit : ℕ) (q : ReadQuery) (s : Sections) (octets : List ℕ) → GoesOut limit q s octets → octets ≢ []
gone_some limit q s octets (inl h) = sent_some limit q s octets h
gone_some limit q s octets (inr h) = sent_some limit q _ octets h.1

pub gone_short : (t : Transport) (e : Option Extension) (q : ReadQuery) (s : Sections) (octets : List ℕ) → GoesOut (limit_for t e) q s octets → length octets < 65536
gone_short t e q s octets (inl h) = sent_short t e q s octets h
gone_short t e q s octets (inr h) = sent_short t e q _ octets h.1

pub response_some : (zs : List Zone) (limit : ℕ) (q : ReadQuery) (octets : List ℕ) → IsResponseTo zs limit q octets → octets ≢ []
response_some zs limit q octets h = gone_some limit q h.said octets h.goes_out

pub response_short : (zs : List Zone) (t : Transport) (e : Option Extension) (q : ReadQuery) (octets : List ℕ) → IsResponseTo zs (limit_for t e) q octets → length octets < 65536
response_short zs t e q octets h = gone_short t e q h.said octets h.goes_out

-- what a zone says is sent
pub said_from : (zs : List Zone) (limit : ℕ) (q : ReadQuery) (z : Zone) (s : Sections) (labels : ℕ) (octets : List ℕ)
    → IsAnswering zs (asked_of q).name (asked_of q).record_type (Some z) → IsResponse z (asked_of q) s → labels ≡ origin_labels (Some z) → GoesOut limit q s octets
    → IsResponseFrom zs limit q labels octets
said_from zs limit q z s labels octets answering says e h = record {
  response = record { zone = Some z; said = s; answering = answering; says = says; goes_out = h };
  labels_of = e;
}

-- where no zone answers, the server refuses
pub refused_from : (zs : List Zone) (limit : ℕ) (q : ReadQuery) (octets : List ℕ)
    → IsAnswering zs (asked_of q).name (asked_of q).record_type None → IsSent limit q (bare Refused) octets → IsResponseFrom zs limit q 0 octets
refused_from zs limit q octets answering h = record {
  response = record { zone = None; said = bare Refused; answering = answering; says = refl; goes_out = inl h };
  labels_of = refl;
}

-- what comes from a zone is an answer
pub answered : (zs : List Zone) (t : Transport) (read : Result ReadQuery ReadError) (labels : ℕ) (octets : List ℕ) → IsAnswerFromTo zs t read labels octets → IsAnswerTo zs t read octets
answered zs t (Ok q) labels octets h = h.response
answered zs t (Err e) labels octets h = h.1

-- ---- a header alone has twelve octets

pub twelve_some : (octets : List ℕ) → length octets ≡ 12 → octets ≢ []
twelve_some octets e none = absurd (omega (arith, e, ap length none))

-- ---- what is answered to octets is what is answered to what is read of them

-- where a message was answered by what was read of it, it is read so: lack of memory has no answer
pub read_whole : (zs : List Zone) (t : Transport) (message : List ℕ) (read : Result ReadQuery ReadError) (octets : List ℕ) → ReadsQuery read (query_of message)
    → IsAnswerTo zs t read octets → query_of message ≡ read
read_whole zs t message (Ok q) octets reported h = reported
read_whole zs t message (Err NoHeader) octets reported h = reported
read_whole zs t message (Err NoQuery) octets reported h = reported
read_whole zs t message (Err (NotImplemented header)) octets reported h = reported
read_whole zs t message (Err (Malformed header)) octets reported h = reported
read_whole zs t message (Err (BadVersion q)) octets reported h = reported
read_whole zs t message (Err Memory) octets reported h = absurd h

pub answers_octets : (zs : List Zone) (t : Transport) (message : List ℕ) (read : Result ReadQuery ReadError) (r : Result Answered AllocError) (octets : List ℕ)
    → ReadsQuery read (query_of message) → OnOk r (IsAnswerTo zs t read octets) → OnOk r (IsAnswer zs t message octets)
answers_octets zs t message read (Err e) octets reported h = tt
answers_octets zs t message read (Ok a) octets reported h =
    subst (λ (x : Result ReadQuery ReadError). IsAnswerTo zs t x octets) (sym (read_whole zs t message read octets reported h)) h

pub answers_octets_from : (zs : List Zone) (t : Transport) (message : List ℕ) (read : Result ReadQuery ReadError) (labels : ℕ) (octets : List ℕ)
    → ReadsQuery read (query_of message) → IsAnswerFromTo zs t read labels octets → IsAnswerFrom zs t message labels octets
answers_octets_from zs t message read labels octets reported h =
    subst (λ (x : Result ReadQuery ReadError). IsAnswerFromTo zs t x labels octets) (sym (read_whole zs t message read octets reported (answered zs t read labels octets h))) h
