-- Messages put one behind the other, up to the last
use Rattle.std.proofs.Common.{◌≡◌, ℕ, List, [], ◌∷◌, ◌++◌, drop, append_assoc, sym, subst, ◌∙◌, ap}
use Rattle.std.specs.Prelude.{Some, None, Ok, Vec}
use Rattle.std.specs.declared.alloc.Global.{Global}
use Rattle.std.proofs.lemmas.List.{append-nil, map-append}
use Rattle.zone_proto.specs.Sets.{RRset}
use Rattle.message_reading.specs.declared.query.Query.{Query}
use Rattle.message_writing.specs.declared.response.Group.{Group}
use Rattle.shown_zones.specs.declared.step.ZoneStep.{ZoneStep}
use Rattle.difference_messages.specs.AnswerLaws.{AreAll}
use Rattle.difference_messages.specs.Messages.{Answer, HasUnsendable, IsNext}
use Rattle.step_answers.specs.Answers.{answer_by, texts_of, GivesMessages, HaveSteps, PutsNext}

-- ---- one more message

pub puts_one : (a : Answer) (sent next : ℕ) (old new : List (Vec ℕ Global)) (text : Vec ℕ Global) → IsNext a sent next text.items → new ≡ old ++ text ∷ []
    → PutsNext a sent (texts_of old) (texts_of new) (Ok (Some next))
puts_one a sent next old new text is put = (text.items, is, ap texts_of put ∙ map-append (λ (v : Vec ℕ Global). v.items) old (text ∷ []))

-- ---- all of them

-- with those that are to come, these are all messages
pub record AreBegun (a : Answer) (sent : ℕ) (texts : List (List ℕ)) : Type 0 where
  pub whole : (rest : List (List ℕ)) → AreAll a sent rest → AreAll a 0 (texts ++ rest)

pub begun_with_none : (a : Answer) (texts : List (List ℕ)) → texts ≡ [] → AreBegun a 0 texts
begun_with_none a texts none = record { whole = λ rest all. subst (λ (ts : List (List ℕ)). AreAll a 0 (ts ++ rest)) (sym none) all }

pub begun_with_next : (a : Answer) (sent next : ℕ) (old new : List (List ℕ)) → AreBegun a sent old → PutsNext a sent old new (Ok (Some next)) → AreBegun a next new
begun_with_next a sent next old new begun (text, is, put) = record {
  whole = λ rest all.
      subst (AreAll a 0) (sym (ap (λ (ts : List (List ℕ)). ts ++ rest) put ∙ append_assoc old (text ∷ []) rest)) (begun.whole (text ∷ rest) (next, is, all));
}

pub begun_is_whole : (a : Answer) (sent : ℕ) (old new : List (List ℕ)) → AreBegun a sent old → PutsNext a sent old new (Ok None) → AreAll a 0 new
begun_is_whole a sent old new begun (end, same) = subst (AreAll a 0) (append-nil old ∙ sym same) (begun.whole [] end)

-- ---- those of steps

module _ (q : Query) (soa : RRset) (ss : List ZoneStep) (size limit : ℕ) (gs : List Group) where
  pub gives_all : (texts : Vec (Vec ℕ Global) Global) → HaveSteps soa ss gs → AreAll (answer_by q size limit gs) 0 (texts_of texts.items)
      → GivesMessages q soa ss size limit (Some texts)
  gives_all texts records all = record { groups = gs; records = records; all = all }

  pub gives_none : HaveSteps soa ss gs → (sent : ℕ) × HasUnsendable (answer_by q size limit gs) (drop sent gs) → GivesMessages q soa ss size limit None
  gives_none records (sent, unsendable) = record { groups = gs; records = records; sent = sent; unsendable = unsendable }
