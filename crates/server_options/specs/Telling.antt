-- Answers that are told
use Rattle.std.specs.Prelude.{◌≡◌, ℕ, List, Option}
use Rattle.zone_response.specs.Queries.{Zone}
use Rattle.server_options.specs.ServerAnswers.{IsAnswerToArrival, cookie_state}
use Rattle.server_options.specs.Summaries.{summary_of}
use Rattle.server_options.specs.declared.arrival.Arrival.{Arrival}
use Rattle.server_options.specs.declared.arrival.ServerOptions.{ServerOptions}
use Rattle.server_options.specs.declared.summary.Summary.{Summary}

-- octets are the answer to a message, and a summary tells what it was, with the zone that it is from
pub record TellsAnswer (zs : List Zone) (o : ServerOptions) (a : Arrival) (summary : Option Summary) (octets : List ℕ) : Type 0 where
  pub origin_labels : ℕ
  pub answers : IsAnswerToArrival zs o a origin_labels octets
  pub tells : summary ≡ summary_of (cookie_state o a) origin_labels octets
