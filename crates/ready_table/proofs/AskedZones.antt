-- The only zone of a server answers what is inside it; and what a zone answers is answered where it is the nearest
use Rattle.std.proofs.Common.{◌+◌, ◌≡◌, ℕ, ◌==◌, Bool, true, false, List, [], ◌∷◌, ◌++◌, length, refl, sym, ap, subst, ◌∙◌, true≢false, arith}
use Rattle.std.specs.Prelude.{Option, Some, None, All, Result, Ok}
use Rattle.std.proofs.lemmas.List.{length-append}
use Rattle.std.proofs.lemmas.List.Elements.{All-head}
use Rattle.zone_proto.specs.Names.{Name, lower, is_at_or_above}
use Rattle.zone_proto.specs.Types.{DS}
use Rattle.message_reading.specs.declared.query.Query.{Query}
use Rattle.message_reading.specs.declared.error.ReadError.{ReadError}
use Rattle.message_reading.specs.Queries.{query_of}
use Rattle.zone_response.specs.Queries.{Zone}
use Rattle.zone_server.specs.declared.transport.Transport.{Transport}
use Rattle.zone_server.specs.Answers.{asked_of, IsAnswer, IsAnswerTo, IsResponseFrom, IsResponseTo, Says}
use Rattle.zone_server.specs.Limits.{limit_for}
use Rattle.zone_server.specs.ServedZones.{is_parents, may_answer, may_answer_for, IsAnswering, IsNearestIfAny}
use Rattle.zone_server.proofs.AnsweringZones.{name_answers, of_other_type}
use Rattle.ready_table.specs.Ready.{IsInside, IsReady}

-- of one element a part with an element is that
only_one : {X : Type 0} (x y : X) (front rest : List X) → (x ∷ []) ≡ front ++ y ∷ rest → y ≡ x
only_one x y [] rest e = cc
only_one x y (f ∷ front) rest e = absurd (omega (arith, ap length e, length-append front (y ∷ rest)))

module _ (z : Zone) (x : Name) (t : ℕ) (above : is_at_or_above z.origin x ≡ true) (no_ds : (t == DS) ≡ false) where
  it_may : may_answer (z ∷ []) x t z ≡ true
  it_may = ap (λ b. may_answer_for b x z) (of_other_type (z ∷ []) x t no_ds) ∙ above

  one_answers : (o : Option Zone) → IsAnswering (z ∷ []) x t o → o ≡ Some z
  one_answers (Some y) h = ap Some (only_one z y h.front h.rest h.stands)
  one_answers None h = absurd (true≢false (sym it_may ∙ All-head (λ (y : Zone). may_answer (z ∷ []) x t y ≡ false) z [] h))

own_answer : (z : Zone) (limit : ℕ) (q : Query) (octets : List ℕ) → IsInside z.origin q → IsResponseTo (z ∷ []) limit q octets → IsReady z limit q octets
own_answer z limit q octets inside h = record {
  said = h.said;
  says =
      subst (λ (o : Option Zone). Says o (asked_of q) h.said)
      (one_answers z (lower q.question.name) q.question.query_type.0 inside.above inside.no_ds h.zone h.answering) h.says;
  goes_out = h.goes_out;
}

-- the answer of the only zone of a server is ready
pub answer_ready : (zs : List Zone) (z : Zone) (origin : Name) (t : Transport) (message : List ℕ) (q : Query) (octets : List ℕ) → zs ≡ z ∷ [] → z.origin ≡ origin → query_of message ≡ Ok q
    → IsInside origin q → IsAnswer zs t message octets → IsReady z (limit_for t q.extension) q octets
answer_ready zs z origin t message q octets one at read inside h =
    own_answer z (limit_for t q.extension) q octets (subst (λ n. IsInside n q) (sym at) inside)
    (subst (λ ys. IsResponseTo ys (limit_for t q.extension) q octets) one (subst (λ (o : Result Query ReadError). IsAnswerTo zs t o octets) read h))

-- a ready answer of the nearest zone is the answer, from a zone whose origin has so many labels
pub ready_answers_query : (zs : List Zone) (z : Zone) (limit : ℕ) (q : Query) (octets : List ℕ) → (q.question.query_type.0 == DS) ≡ false
    → IsNearestIfAny (may_answer_for false (lower q.question.name)) zs (Some z) → IsReady z limit q octets → IsResponseFrom zs limit q (length z.origin + 1) octets
ready_answers_query zs z limit q octets no_ds nearest h = record {
  response = record {
    zone = Some z;
    said = h.said;
    answering = name_answers zs (lower q.question.name) q.question.query_type.0 (of_other_type zs (lower q.question.name) q.question.query_type.0 no_ds) (Some z) nearest;
    says = h.says;
    goes_out = h.goes_out;
  };
  labels_of = refl;
}
