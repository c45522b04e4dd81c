-- A group more of a response that is written group by group
use Rattle.std.proofs.Common.{◌≡◌, ℕ, ◌+◌, Bool, true, false, ◌&&◌, not, List, [], ◌∷◌, ◌++◌, length, refl, sym, ap, subst, ◌∙◌, append_assoc, arith, true≢false}
use Rattle.std.proofs.lemmas.List.{append-nil, length-append}
use Rattle.std.proofs.lemmas.Grind.{flat_map-append}
use Rattle.message_writing.specs.declared.message_parts.Counts.{Counts}
use Rattle.message_writing.specs.declared.response.Group.{Group}
use Rattle.message_writing.specs.declared.response.Response.{Response}
use Rattle.message_writing.specs.declared.response.Section.{Section}
use Rattle.message_writing.specs.declared.response.Section.TheVariants.{Answers, Authorities, Glue, Additionals}
use Rattle.message_writing.specs.Continuing.{AppendsAll}
use Rattle.message_writing.specs.Outcomes.{IsBodyPut, IsHelpPut, IsPutWithin, IsSectionPut}
use Rattle.message_writing.specs.Responses.{AreHelpful, GoesOver, all_records, if_whole, records_of}
use Rattle.message_writing.specs.StrictReading.{strict_record_of}
use Rattle.message_writing.specs.Writers.{HasNoGroups, IsLast, counts_with, with_groups}
use Rattle.message_writing.proofs.BodyParts.{body_put}
use Rattle.message_writing.proofs.InOrder.{then_all}
use Rattle.message_writing.proofs.Sections.{group_length, help_over, help_put}

-- how many records a group adds that was put, or left out
pub record IsCount (done : Bool) (n : ℕ) (g : Group) : Type 0 where
  pub put : done ≡ true → n ≡ length g.records.now + length g.signatures.now
  pub over : done ≡ false → n ≡ 0

-- ---- one section

none_of : (front : List Group) (g : Group) (rest : List Group) → [] ≡ front ++ g ∷ rest → ⊥
none_of [] g rest e = cc
none_of (x ∷ front) g rest e = cc

-- what was put of no groups
record IsNothing (old new : List ℕ) (whole : Bool) (count : ℕ) : Type 0 where
  same : new ≡ old
  uncut : whole ≡ true
  none : count ≡ 0

nothing_put : (room : ℕ) (old new : List ℕ) (gs : List Group) (whole : Bool) (count : ℕ) → gs ≡ [] → IsSectionPut room old new gs whole count
    → IsNothing old new whole count
nothing_put room old new gs whole count e h = by whole (subst (λ s. IsSectionPut room old new s whole count) e h)
  where
    by : (w : Bool) → IsSectionPut room old new [] w count → IsNothing old new w count
    by true k = record {
      same = subst (AppendsAll strict_record_of old new) k.is.0 k.is.1;
      uncut = refl;
      none = k.counted ∙ ap length k.is.0;
    }
    by false k = absurd (none_of k.is.0 k.is.1 k.is.2 k.is.3)

nothing_helps : (room : ℕ) (old new : List ℕ) (gs : List Group) (count : ℕ) → gs ≡ [] → IsHelpPut room old new gs count → IsNothing old new true count
nothing_helps room old new gs count e h =
    let k = subst (λ s. IsHelpPut room old new s count) e h in
    record { same = k.is.0; uncut = refl; none = k.counted ∙ ap length k.is.1 }

no_section : (room : ℕ) (old : List ℕ) (gs : List Group) (count : ℕ) → gs ≡ [] → count ≡ 0 → IsSectionPut room old old gs true count
no_section room old gs count e f =
    subst (λ s. IsSectionPut room old old s true count) (sym e) (record { kept = []; is = (refl, refl); counted = f })

no_help : (room : ℕ) (old : List ℕ) (gs : List Group) (count : ℕ) → gs ≡ [] → count ≡ 0 → IsHelpPut room old old gs count
no_help room old gs count e f = subst (λ s. IsHelpPut room old old s count) (sym e) (record { kept = []; is = (refl, refl); counted = f })

section_step : (done : Bool) (room : ℕ) (gs : List Group) (count n : ℕ) (g : Group) (old mid new : List ℕ) → IsSectionPut room old mid gs true count
    → IsPutWithin room mid new (records_of g) done → IsCount done n g → IsSectionPut room old new (gs ++ g ∷ []) done (count + n)
section_step true room gs count n g old mid new h put c = record {
  kept = h.kept ++ records_of g;
  is = (
    ap (λ s. s ++ records_of g) h.is.0
        ∙ sym (flat_map-append records_of gs (g ∷ []) ∙ ap (λ s. all_records gs ++ s) (append-nil (records_of g))),
    then_all old mid new h.kept (records_of g) h.is.1 put.0,
  );
  counted = omega (arith, h.counted, c.put refl, length-append h.kept (records_of g), group_length g);
}
section_step false room gs count n g old mid new h (same, over) c = record {
  kept = h.kept;
  is = (
    gs,
    g,
    [],
    refl,
    h.is.0,
    subst (λ s. AppendsAll strict_record_of old s h.kept) (sym same) h.is.1,
    subst (λ s. GoesOver room s (records_of g)) (sym same) over,
  );
  counted = omega (arith, h.counted, c.over refl);
}

section_rest : (room : ℕ) (gs : List Group) (count : ℕ) (g : Group) (old new : List ℕ) → IsSectionPut room old new gs false count
    → IsSectionPut room old new (gs ++ g ∷ []) false count
section_rest room gs count g old new h = record {
  kept = h.kept;
  is = (
    h.is.0,
    h.is.1,
    h.is.2 ++ g ∷ [],
    ap (λ s. s ++ g ∷ []) h.is.3 ∙ append_assoc h.is.0 (h.is.1 ∷ h.is.2) (g ∷ []),
    h.is.4,
    h.is.5,
    h.is.6,
  );
  counted = h.counted;
}

help_step : (done : Bool) (room : ℕ) (gs : List Group) (count n : ℕ) (g : Group) (old mid new : List ℕ) → IsHelpPut room old mid gs count
    → IsPutWithin room mid new (records_of g) done → IsCount done n g → IsHelpPut room old new (gs ++ g ∷ []) (count + n)
help_step true room gs count n g old mid new h put c = record {
  kept = h.kept ++ records_of g;
  is = help_put gs room g old mid new h.kept h.is put.0;
  counted = omega (arith, h.counted, c.put refl, length-append h.kept (records_of g), group_length g);
}
help_step false room gs count n g old mid new h (same, over) c = record {
  kept = h.kept;
  is = subst (λ s. AreHelpful room old s (gs ++ g ∷ []) h.kept) (sym same) (help_over gs room g old mid h.kept h.is over);
  counted = omega (arith, h.counted, c.over refl);
}

-- ---- all sections

-- the sections of a body, and which of them are whole
record AreParts (room : ℕ) (a b e d : List Group) (start end : List ℕ) (counts : Counts) (first second third : Bool) : Type 0 where
  o₁ : List ℕ
  o₂ : List ℕ
  o₃ : List ℕ
  glued : ℕ
  helped : ℕ
  answers : IsSectionPut room start o₁ a first counts.answers
  authorities : IsSectionPut room o₁ o₂ (if_whole first b) second counts.authorities
  glue : IsSectionPut room o₂ o₃ (if_whole (first && second) e) third glued
  helpful : IsHelpPut room o₃ end (if_whole (first && (second && third)) d) helped
  additionals : counts.additionals ≡ glued + helped
  truncated : counts.truncated ≡ not (first && (second && third))

abbrev Parts : ℕ → Response → List ℕ → List ℕ → Counts → Bool → Bool → Bool → Type 0
Parts room r start end counts first second third =
    AreParts room r.answers.now r.authorities.now r.glue.now r.additionals.now start end counts first second third

parts_of : (room : ℕ) (r : Response) (start end : List ℕ) (counts : Counts) (h : IsBodyPut room r start end counts)
    → Parts room r start end counts h.is.answers_whole h.is.authorities_whole h.is.glue_whole
parts_of room r start end counts h =
    let b = h.is in
    record {
      o₁ = b.behind_answers;
      o₂ = b.behind_authorities;
      o₃ = b.behind_glue;
      glued = length b.glue;
      helped = length b.helpful;
      answers = record { kept = h.answers; is = b.answers_are; counted = h.answers_counted };
      authorities = record { kept = h.authorities; is = b.authorities_are; counted = h.authorities_counted };
      glue = record { kept = b.glue; is = b.glue_is; counted = refl };
      helpful = record { kept = b.helpful; is = b.helpful_are; counted = refl };
      additionals = h.additionals_counted ∙ ap length b.additionals_are ∙ length-append b.glue b.helpful;
      truncated = b.truncated_is;
    }

of_parts : (room : ℕ) (r : Response) (start end : List ℕ) (counts : Counts) (first second third : Bool) → Parts room r start end counts first second third
    → IsBodyPut room r start end counts
of_parts room r start end counts first second third p =
    let made : ℕ → Bool → Counts =
    λ n cut. record { answers = counts.answers; authorities = counts.authorities; additionals = n; truncated = cut } in
    subst (IsBodyPut room r start end) (λ i. made (sym p.additionals i) (sym p.truncated i))
    (body_put room r start p.o₁ p.o₂ p.o₃ end first second third counts.answers counts.authorities p.glued p.helped _ _ _ p.answers refl p.authorities
    refl p.glue refl p.helpful)

none_left : (b : Bool) (gs : List Group) → gs ≡ [] → if_whole b gs ≡ []
none_left true gs e = e
none_left false gs e = refl

whole_if : (b : Bool) → not b ≡ not (b && (true && true))
whole_if true = refl
whole_if false = refl

whole_second : (b : Bool) → not b ≡ not (true && (b && true))
whole_second true = refl
whole_second false = refl

-- a group more behind sections that are whole
step : (s : Section) (room : ℕ) (r : Response) (start old new : List ℕ) (counts : Counts) (done : Bool) (n : ℕ) (g : Group) → IsLast s r
    → Parts room r start old counts true true true → IsPutWithin room old new (records_of g) done → IsCount done n g
    → IsBodyPut room (with_groups s (g ∷ []) r) start new (counts_with s done n counts)
step Answers room r start old new counts done n g last p put c =
    let x₂ = nothing_put room p.o₁ p.o₂ r.authorities.now true counts.authorities last.0 p.authorities in
    let x₃ = nothing_put room p.o₂ p.o₃ r.glue.now true p.glued last.1 p.glue in
    let x₄ = nothing_helps room p.o₃ old r.additionals.now p.helped last.2 p.helpful in
    let here : IsSectionPut room start old r.answers.now true counts.answers =
    subst (λ o. IsSectionPut room start o r.answers.now true counts.answers) (sym (x₄.same ∙ x₃.same ∙ x₂.same)) p.answers in
    of_parts room (with_groups Answers (g ∷ []) r) start new (counts_with Answers done n counts) done true true (record {
      o₁ = new;
      o₂ = new;
      o₃ = new;
      glued = 0;
      helped = 0;
      answers = section_step done room r.answers.now counts.answers n g start old new here put c;
      authorities = no_section room new (if_whole done r.authorities.now) counts.authorities (none_left done r.authorities.now last.0) x₂.none;
      glue = no_section room new (if_whole (done && true) r.glue.now) 0 (none_left (done && true) r.glue.now last.1) refl;
      helpful = no_help room new (if_whole (done && (true && true)) r.additionals.now) 0
          (none_left (done && (true && true)) r.additionals.now last.2) refl;
      additionals = omega (arith, p.additionals, x₃.none, x₄.none);
      truncated = whole_if done;
    })
step Authorities room r start old new counts done n g last p put c =
    let x₃ = nothing_put room p.o₂ p.o₃ r.glue.now true p.glued last.0 p.glue in
    let x₄ = nothing_helps room p.o₃ old r.additionals.now p.helped last.1 p.helpful in
    let here : IsSectionPut room p.o₁ old r.authorities.now true counts.authorities =
    subst (λ o. IsSectionPut room p.o₁ o r.authorities.now true counts.authorities) (sym (x₄.same ∙ x₃.same)) p.authorities in
    of_parts room (with_groups Authorities (g ∷ []) r) start new (counts_with Authorities done n counts) true done true (record {
      o₁ = p.o₁;
      o₂ = new;
      o₃ = new;
      glued = 0;
      helped = 0;
      answers = p.answers;
      authorities = section_step done room r.authorities.now counts.authorities n g p.o₁ old new here put c;
      glue = no_section room new (if_whole (true && done) r.glue.now) 0 (none_left (true && done) r.glue.now last.0) refl;
      helpful = no_help room new (if_whole (true && (done && true)) r.additionals.now) 0
          (none_left (true && (done && true)) r.additionals.now last.1) refl;
      additionals = omega (arith, p.additionals, x₃.none, x₄.none);
      truncated = whole_second done;
    })
step Glue room r start old new counts done n g last p put c =
    let x₄ = nothing_helps room p.o₃ old r.additionals.now p.helped last p.helpful in
    let here : IsSectionPut room p.o₂ old r.glue.now true p.glued =
    subst (λ o. IsSectionPut room p.o₂ o r.glue.now true p.glued) (sym x₄.same) p.glue in
    of_parts room (with_groups Glue (g ∷ []) r) start new (counts_with Glue done n counts) true true done (record {
      o₁ = p.o₁;
      o₂ = p.o₂;
      o₃ = new;
      glued = p.glued + n;
      helped = 0;
      answers = p.answers;
      authorities = p.authorities;
      glue = section_step done room r.glue.now p.glued n g p.o₂ old new here put c;
      helpful = no_help room new (if_whole (true && (true && done)) r.additionals.now) 0
          (none_left (true && (true && done)) r.additionals.now last) refl;
      additionals = omega (arith, p.additionals, x₄.none);
      truncated = refl;
    })
step Additionals room r start old new counts done n g last p put c =
    of_parts room (with_groups Additionals (g ∷ []) r) start new (counts_with Additionals done n counts) true true true (record {
      o₁ = p.o₁;
      o₂ = p.o₂;
      o₃ = p.o₃;
      glued = p.glued;
      helped = p.helped + n;
      answers = p.answers;
      authorities = p.authorities;
      glue = p.glue;
      helpful = help_step done room r.additionals.now p.helped n g p.o₃ old new p.helpful put c;
      additionals = omega (arith, p.additionals);
      truncated = p.truncated;
    })

is_cut : (t : Bool) → t ≡ false → t ≡ true → ⊥
is_cut t e f = true≢false (sym f ∙ e)

pub body_step : (s : Section) (room : ℕ) (r : Response) (start old new : List ℕ) (counts : Counts) (done : Bool) (n : ℕ) (g : Group) → IsLast s r
    → counts.truncated ≡ false → IsBodyPut room r start old counts → IsPutWithin room old new (records_of g) done → IsCount done n g
    → IsBodyPut room (with_groups s (g ∷ []) r) start new (counts_with s done n counts)
body_step s room r start old new counts done n g last uncut h put c =
    by h.is.answers_whole h.is.authorities_whole h.is.glue_whole (parts_of room r start old counts h)
  where
    by : (first second third : Bool) → Parts room r start old counts first second third
        → IsBodyPut room (with_groups s (g ∷ []) r) start new (counts_with s done n counts)
    by true true true p = step s room r start old new counts done n g last p put c
    by false second third p = absurd (is_cut counts.truncated uncut p.truncated)
    by true false third p = absurd (is_cut counts.truncated uncut p.truncated)
    by true true false p = absurd (is_cut counts.truncated uncut p.truncated)

-- the same octets as parts of other sections
regrouped : (room : ℕ) (a b e d a' b' e' d' : List Group) (start end : List ℕ) (counts : Counts) (first second third : Bool)
    → (p : AreParts room a b e d start end counts first second third) → IsSectionPut room start p.o₁ a' first counts.answers
    → IsSectionPut room p.o₁ p.o₂ (if_whole first b') second counts.authorities
    → IsSectionPut room p.o₂ p.o₃ (if_whole (first && second) e') third p.glued
    → IsHelpPut room p.o₃ end (if_whole (first && (second && third)) d') p.helped
    → AreParts room a' b' e' d' start end counts first second third
regrouped room a b e d a' b' e' d' start end counts first second third p answers authorities glue helpful = record {
  o₁ = p.o₁;
  o₂ = p.o₂;
  o₃ = p.o₃;
  glued = p.glued;
  helped = p.helped;
  answers = answers;
  authorities = authorities;
  glue = glue;
  helpful = helpful;
  additionals = p.additionals;
  truncated = p.truncated;
}

-- a group more behind a section that was cut: it is left out, as it is required no more than what follows it
rest : (s : Section) (room : ℕ) (r : Response) (start end : List ℕ) (counts : Counts) (g : Group) (first second third : Bool) → IsLast s r
    → counts.truncated ≡ true → Parts room r start end counts first second third → Parts room (with_groups s (g ∷ []) r) start end counts first second third
rest s room r start end counts g true true true last cut p = absurd (is_cut counts.truncated p.truncated cut)
rest Answers room r start end counts g false second third last cut p =
    regrouped room _ _ _ _ (r.answers.now ++ g ∷ []) r.authorities.now r.glue.now r.additionals.now start end counts false second third p
    (section_rest room r.answers.now counts.answers g start p.o₁ p.answers) p.authorities p.glue p.helpful
rest Answers room r start end counts g true false third last cut p =
    absurd (is_cut false refl (nothing_put room p.o₁ p.o₂ r.authorities.now false counts.authorities last.0 p.authorities).uncut)
rest Answers room r start end counts g true true false last cut p =
    absurd (is_cut false refl (nothing_put room p.o₂ p.o₃ r.glue.now false p.glued last.1 p.glue).uncut)
rest Authorities room r start end counts g false second third last cut p =
    regrouped room _ _ _ _ r.answers.now (r.authorities.now ++ g ∷ []) r.glue.now r.additionals.now start end counts false second third p p.answers
    p.authorities p.glue p.helpful
rest Authorities room r start end counts g true false third last cut p =
    regrouped room _ _ _ _ r.answers.now (r.authorities.now ++ g ∷ []) r.glue.now r.additionals.now start end counts true false third p p.answers
    (section_rest room r.authorities.now counts.authorities g p.o₁ p.o₂ p.authorities) p.glue p.helpful
rest Authorities room r start end counts g true true false last cut p =
    absurd (is_cut false refl (nothing_put room p.o₂ p.o₃ r.glue.now false p.glued last.0 p.glue).uncut)
rest Glue room r start end counts g false second third last cut p =
    regrouped room _ _ _ _ r.answers.now r.authorities.now (r.glue.now ++ g ∷ []) r.additionals.now start end counts false second third p p.answers
    p.authorities p.glue p.helpful
rest Glue room r start end counts g true false third last cut p =
    regrouped room _ _ _ _ r.answers.now r.authorities.now (r.glue.now ++ g ∷ []) r.additionals.now start end counts true false third p p.answers
    p.authorities p.glue p.helpful
rest Glue room r start end counts g true true false last cut p =
    regrouped room _ _ _ _ r.answers.now r.authorities.now (r.glue.now ++ g ∷ []) r.additionals.now start end counts true true false p p.answers
    p.authorities (section_rest room r.glue.now p.glued g p.o₂ p.o₃ p.glue) p.helpful
rest Additionals room r start end counts g false second third last cut p =
    regrouped room _ _ _ _ r.answers.now r.authorities.now r.glue.now (r.additionals.now ++ g ∷ []) start end counts false second third p p.answers
    p.authorities p.glue p.helpful
rest Additionals room r start end counts g true false third last cut p =
    regrouped room _ _ _ _ r.answers.now r.authorities.now r.glue.now (r.additionals.now ++ g ∷ []) start end counts true false third p p.answers
    p.authorities p.glue p.helpful
rest Additionals room r start end counts g true true false last cut p =
    regrouped room _ _ _ _ r.answers.now r.authorities.now r.glue.now (r.additionals.now ++ g ∷ []) start end counts true true false p p.answers
    p.authorities p.glue p.helpful

pub body_rest : (s : Section) (room : ℕ) (r : Response) (start end : List ℕ) (counts : Counts) (g : Group) → IsLast s r → counts.truncated ≡ true
    → IsBodyPut room r start end counts → IsBodyPut room (with_groups s (g ∷ []) r) start end counts
body_rest s room r start end counts g last cut h =
    of_parts room (with_groups s (g ∷ []) r) start end counts h.is.answers_whole h.is.authorities_whole h.is.glue_whole
    (rest s room r start end counts g h.is.answers_whole h.is.authorities_whole h.is.glue_whole last cut (parts_of room r start end counts h))

-- nothing was put yet
pub body_none : (room : ℕ) (r : Response) (start : List ℕ) → HasNoGroups r
    → IsBodyPut room r start start (record { answers = 0; authorities = 0; additionals = 0; truncated = false })
body_none room r start none =
    of_parts room r start start (record { answers = 0; authorities = 0; additionals = 0; truncated = false }) true true true (record {
      o₁ = start;
      o₂ = start;
      o₃ = start;
      glued = 0;
      helped = 0;
      answers = no_section room start r.answers.now 0 none.answers refl;
      authorities = no_section room start r.authorities.now 0 none.authorities refl;
      glue = no_section room start r.glue.now 0 none.glue refl;
      helpful = no_help room start r.additionals.now 0 none.additionals refl;
      additionals = omega arith;
      truncated = refl;
    })
