-- What is written as a NOTIFY is read as one
use Rattle.std.proofs.Common.{◌≡◌, ℕ, ◌+◌, ◌*◌, ◌/◌, ◌%◌, false, true, List, [], ◌∷◌, ◌++◌, Some, None, refl, ap, ◌∙◌, arith}
use Rattle.zone_proto.specs.Names.{Name, IsLowerName, lower, wire_form}
use Rattle.message_reading.specs.declared.header.Header.{Header}
use Rattle.message_reading.specs.declared.question.Question.{Question}
use Rattle.message_reading.specs.MessageNames.{name_of}
use Rattle.message_reading.specs.Messages.{message_of, Parts, question_of, sections_of, several}
use Rattle.message_reading.specs.Octets.{offset_of}
use Rattle.message_notify.specs.declared.notify.Notify.{Notify}
use Rattle.message_notify.specs.Notifies.{notify_of}
use Rattle.message_notify.specs.NotifyLaws.{ReadsBack}
use Rattle.message_notify.specs.Texts.{notify_text}
use Rattle.message_writing.proofs.Fields.{plain_back}
use Rattle.message_writing.proofs.OthersBack.{name_anywhere}

-- the question for the SOA record of a zone of class IN
abbrev zone_question : Name → Question
zone_question origin = record { name = origin; query_type = record { 0 = 6 }; query_class = record { 0 = 1 } }

-- the header of a NOTIFY
abbrev notify_header : ℕ → Header
notify_header id = record {
  id = id;
  is_response = false;
  opcode = 4;
  authoritative = true;
  truncated = false;
  recursion_desired = false;
  recursion_available = false;
  reserved = false;
  authentic_data = false;
  checking_disabled = false;
  response_code = 0;
  questions = 1;
  answers = 0;
  authorities = 0;
  additionals = 0;
}

abbrev notify_parts : ℕ → Question → Parts
notify_parts id q = record { header = notify_header id; questions = q ∷ []; answers = []; authorities = []; additionals = [] }

name_back : (m : List ℕ) (at : ℕ) (origin : Name) (after : List ℕ) → IsLowerName origin → name_of m at (wire_form (lower origin) ++ after) ≡ Some (origin, after)
name_back m at origin after valid =
    ap (λ (n : Name). name_of m at (wire_form n ++ after)) valid.lower
    ∙ name_anywhere m 0 at (wire_form origin ++ after) (origin, after) (omega arith) (plain_back origin after valid.name)

question_back : (m : List ℕ) (origin : Name) → IsLowerName origin
    → question_of m (wire_form (lower origin) ++ 0 ∷ 6 ∷ 0 ∷ 1 ∷ []) ≡ Some (zone_question origin, [])
unfolding question_of
question_back m origin valid =
    rw (name_back m (offset_of m (wire_form (lower origin) ++ 0 ∷ 6 ∷ 0 ∷ 1 ∷ [])) origin (0 ∷ 6 ∷ 0 ∷ 1 ∷ []) valid) refl

sections_back : (m octets : List ℕ) (id : ℕ) (q : Question) → question_of m octets ≡ Some (q, [])
    → sections_of m (notify_header id) octets ≡ Some (notify_parts id q)
unfolding sections_of several
sections_back m octets id q e = rw e refl

same_number : (id : ℕ) → id / 256 * 256 + id % 256 ≡ id
same_number id = omega arith

pub reads_back : ReadsBack
unfolding message_of
reads_back = λ id origin valid.
    let number : ℕ = id / 256 * 256 + id % 256 in
    let octets : List ℕ = wire_form (lower origin) ++ 0 ∷ 6 ∷ 0 ∷ 1 ∷ [] in
    ap notify_of (sections_back (notify_text id origin) octets number (zone_question origin) (question_back (notify_text id origin) origin valid))
    ∙ ap (λ (n : ℕ). Some (let found : Notify = record { id = n; origin = origin; serial = None } in found)) (same_number id)
