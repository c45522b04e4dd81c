-- No set of a section repeats one that comes before it
use Rattle.std.proofs.Common.{[], ◌++◌, ap}
use Rattle.zone_response.specs.Queries.{inquiry}
use Rattle.zone_response.specs.Responses.{IsResponse}
use Rattle.zone_response.specs.Sections.{Sections}
use Rattle.response_laws.specs.Repeats.{IsEachOnce, SetsStandOnce}
use Rattle.response_laws.proofs.AdditionalsOnce.{additionals_once}
use Rattle.response_laws.proofs.AnswersOnce.{path_once}
use Rattle.response_laws.proofs.AuthoritiesOnce.{authorities_once}
use Rattle.response_laws.proofs.Once.{stand_once}
use Rattle.response_laws.proofs.Parts.{path_of, HowAnswered, by_code_alone, by_parts, how_answered}

pub sets_stand_once : SetsStandOnce IsResponse
sets_stand_once z q r zone denials lowered is = by (how_answered z q r denials.zone is)
  where
    by : HowAnswered z q r → IsEachOnce r
    by (by_code_alone c why e) = record {
      answers = stand_once r.answers [] (ap (λ (r : Sections). r.answers) e) tt;
      authorities = stand_once r.authorities [] (ap (λ (r : Sections). r.authorities) e) tt;
      additionals = stand_once (r.glue ++ r.additionals) [] (ap (λ (r : Sections). r.glue ++ r.additionals) e) tt;
    }
    by (by_parts h) = record {
      answers = stand_once r.answers (path_of z q).answers h.answers (path_once (inquiry z q) zone q.name lowered);
      authorities = stand_once r.authorities _ h.authorities (authorities_once z zone q r h);
      additionals = stand_once (r.glue ++ r.additionals) _ (λ i. h.glue i ++ h.additionals i) (additionals_once (inquiry z q) zone (path_of z q).answers (path_of z q).end);
    }
