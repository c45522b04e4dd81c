-- Answers, and what zone they are from
use Rattle.std.proofs.Common.{ℕ, List}
use Rattle.zone_response.specs.Queries.{Zone}
use Rattle.message_reading.specs.Queries.{query_of}
use Rattle.zone_server.specs.declared.transport.Transport.{Transport}
use Rattle.zone_server.specs.Answers.{IsAnswer, IsAnswerFrom}
use Rattle.zone_server.proofs.AnswerFacts as facts

-- what comes from a zone is an answer
pub answered : (zs : List Zone) (t : Transport) (message : List ℕ) (labels : ℕ) (octets : List ℕ) → IsAnswerFrom zs t message labels octets → IsAnswer zs t message octets
answered zs t message labels octets h = facts.answered zs t (query_of message) labels octets h
