-- Places stay what they are where octets are put behind those of a table
use Rattle.std.proofs.Common.{◌≡◌, ℕ, ◌+◌, ◌≤◌, List, [], ◌∷◌, ◌++◌, length, take, drop, refl, sym, ap, subst, ◌∙◌, arith}
use Rattle.std.specs.List.{AllByRecursion}
use Rattle.std.proofs.lemmas.List.{drop-append-le, length-append, length-drop, take-append-le}
use Rattle.std.proofs.Math.Seq.{drop-append_seam, take-length}
use Rattle.message_reading.specs.declared.query.Query.{Query}
use Rattle.zone_response.specs.Queries.{Zone}
use Rattle.ready_answers.specs.Again.{said_by}
use Rattle.ready_table.specs.declared.table.Place.{Place}
use Rattle.ready_table.specs.Ready.{octets_at, IsQuestionText, IsReady, IsReadyAt}

one_more : {X : Type 0} (P : X → Type 0) (xs : List X) (x : X) → AllByRecursion P xs → P x → AllByRecursion P (xs ++ x ∷ [])
one_more P [] x h k = (k, tt)
one_more P (y ∷ xs) x h k = (h.0, one_more P xs x h.1 k)

module _ (z : Zone) (old more : List ℕ) where
  same_octets : (p : Place) → p.start + p.size ≤ length old → octets_at (old ++ more) p ≡ octets_at old p
  same_octets p within =
      ap (take p.size) (drop-append-le p.start old more (omega (arith, within)))
      ∙ take-append-le p.size (drop p.start old) more (omega (arith, within, length-drop p.start old))

  stays : (p : Place) → IsReadyAt z old p → IsReadyAt z (old ++ more) p
  stays p h =
      let same : octets_at old p ≡ octets_at (old ++ more) p = sym (same_octets p h.within) in
      record {
        query = h.query;
        ready = subst (λ o. IsReady z p.limit h.query o) same h.ready;
        extension = h.extension;
        question = subst (λ o. IsQuestionText h.query.question (take p.question (drop 12 o))) same h.question;
        within = omega (arith, h.within, length-append old more);
        whole = h.whole;
      }

  all_stay : (ps : List Place) → AllByRecursion (IsReadyAt z old) ps → AllByRecursion (IsReadyAt z (old ++ more)) ps
  all_stay [] h = tt
  all_stay (p ∷ ps) h = (stays p h.0, all_stay ps h.1)

-- the last octets are those at the place of their beginning
pub kept : (z : Zone) (old ready new : List ℕ) (ps qs : List Place) (p : Place) (q : Query) → new ≡ old ++ ready → qs ≡ ps ++ p ∷ [] → p.start ≡ length old → p.size ≡ length ready
    → IsReady z p.limit q ready → said_by q.extension ≡ p.dnssec_ok → IsQuestionText q.question (take p.question (drop 12 ready)) → 12 + p.question ≤ length ready
    → AllByRecursion (IsReadyAt z old) ps → AllByRecursion (IsReadyAt z new) qs
kept z old ready new ps qs p q longer one start size is said text within all =
    let here : octets_at (old ++ ready) p ≡ ready =
    (λ i. take (size i) (drop (start i) (old ++ ready))) ∙ ap (take (length ready)) (drop-append_seam old ready) ∙ take-length ready in
    let last : IsReadyAt z (old ++ ready) p = record {
      query = q;
      ready = subst (λ o. IsReady z p.limit q o) (sym here) is;
      extension = said;
      question = subst (λ o. IsQuestionText q.question (take p.question (drop 12 o))) (sym here) text;
      within = omega (arith, start, size, length-append old ready);
      whole = omega (arith, size, within);
    } in
    subst (λ o. AllByRecursion (IsReadyAt z o) qs) (sym longer)
    (subst (AllByRecursion (IsReadyAt z (old ++ ready))) (sym one) (one_more (IsReadyAt z (old ++ ready)) ps p (all_stay z old ready ps all) last))
