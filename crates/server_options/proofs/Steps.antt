-- What is answered, from what a query's options are
use Rattle.std.proofs.Common.{◌≡◌, ℕ, Bool, List, Option, Result, Ok, Err, subst, ap, ◌∙◌}
use Rattle.message_cookies.specs.declared.secrets.CookieSecrets.{CookieSecrets}
use Rattle.message_options.specs.Options.{opt_of}
use Rattle.message_reading.specs.declared.error.ReadError.{ReadError}
use Rattle.message_reading.specs.declared.query.Query.{Query}
use Rattle.message_reading.specs.declared.record_frame.RecordFrame.{RecordFrame}
use Rattle.zone_response.specs.Queries.{Zone}
use Rattle.zone_server.specs.Answers.{IsAnswerFrom, IsAnswerFromTo}
use Rattle.zone_server.specs.declared.transport.Transport.{Transport}
use Rattle.server_options.specs.Asking.{comes_again, header_alone, limit_by, lowered, reserved, state_of}
use Rattle.server_options.specs.BadCookies.{IsAnswerOrBadCookie, IsBadCookieTo}
use Rattle.server_options.specs.Completing.{completed}
use Rattle.server_options.specs.ServerAnswers.{AnswersByState, AnswersOpt, AnswersOptions, IsAnswerToArrival, IsCompleted, cookie_state, cookie_state_by}
use Rattle.server_options.specs.declared.arrival.Arrival.{Arrival}
use Rattle.server_options.specs.declared.arrival.ServerOptions.{ServerOptions}
use Rattle.server_options.specs.declared.asking.CookieState.{CookieState}

pub answers_opt : (zs : List Zone) (o : ServerOptions) (a : Arrival) (opt : Option (RecordFrame × List ℕ)) (labels : ℕ) (octets : List ℕ)
    → opt ≡ opt_of a.message.now → AnswersOpt zs o a opt labels octets → IsAnswerToArrival zs o a labels octets
answers_opt zs o a opt labels octets e h = subst (λ (x : Option (RecordFrame × List ℕ)). AnswersOpt zs o a x labels octets) e h

pub told_opt : (o : ServerOptions) (a : Arrival) (opt : Option (RecordFrame × List ℕ)) (state : CookieState)
    → opt ≡ opt_of a.message.now → state ≡ cookie_state_by o a opt → state ≡ cookie_state o a
told_opt o a opt state e h = h ∙ ap (cookie_state_by o a) e

pub answers_options : (zs : List Zone) (a : Arrival) (required : Bool) (cookie : Option (CookieSecrets × List ℕ)) (nsid : List ℕ) (size limit labels : ℕ)
    (state : CookieState) (octets : List ℕ) → state ≡ state_of cookie a → limit ≡ limit_by a.transport size
    → AnswersByState zs a required state cookie nsid limit labels octets → AnswersOptions zs a required cookie nsid size labels octets
answers_options zs a required cookie nsid size limit labels state octets e f h =
    subst (λ (n : ℕ). AnswersByState zs a required (state_of cookie a) cookie nsid n labels octets) f
    (subst (λ (s : CookieState). AnswersByState zs a required s cookie nsid limit labels octets) e h)

pub answers_header : (zs : List Zone) (a : Arrival) (message : List ℕ) (labels : ℕ) (octets : List ℕ) → message ≡ header_alone a.message.now
    → IsAnswerFrom zs a.transport message labels octets → IsAnswerFrom zs a.transport (header_alone a.message.now) labels octets
answers_header zs a message labels octets e h = subst (λ (m : List ℕ). IsAnswerFrom zs a.transport m labels octets) e h

pub completes : (zs : List Zone) (a : Arrival) (required : Bool) (state : CookieState) (cookie : Option (CookieSecrets × List ℕ)) (nsid : List ℕ)
    (limit room labels : ℕ) (way : Transport) (again : Bool) (response octets : List ℕ) → room ≡ reserved state nsid → way ≡ lowered a.transport limit room
    → again ≡ comes_again required a.transport state → IsAnswerOrBadCookie again zs way a.message.now labels response
    → octets ≡ completed limit cookie nsid a response → IsCompleted zs a required state cookie nsid limit labels octets
completes zs a required state cookie nsid limit room labels way again response octets e f g h k = (
  response,
  subst (λ (b : Bool). IsAnswerOrBadCookie b zs (lowered a.transport limit (reserved state nsid)) a.message.now labels response) g
      (subst (λ (t : Transport). IsAnswerOrBadCookie again zs t a.message.now labels response) (f ∙ ap (lowered a.transport limit) e) h),
  k,
)

-- what is no query is answered as ever
pub sends_back : (zs : List Zone) (t : Transport) (read : Result Query ReadError) (error : ReadError) (labels : ℕ) (octets : List ℕ)
    → read ≡ Err error → IsAnswerFromTo zs t read labels octets → IsBadCookieTo zs t read labels octets
sends_back zs t (Ok q) error labels octets is h = absurd cc
sends_back zs t (Err e) error labels octets is h = h
