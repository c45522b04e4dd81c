-- A response with options, read back
use Rattle.std.proofs.Common.{◌≡◌, ℕ, ◌+◌, ◌-◌, ◌*◌, ◌≤◌, ◌<◌, Bool, true, ◌&&◌, List, [], ◌∷◌, ◌++◌, length, take, drop, Option, Some, None, refl, sym, ap, subst, ◌∙◌, append_assoc, arith}
use Rattle.std.proofs.lemmas.List.{append-nil, drop-append-le, length-append, length-take-le, take-append-drop}
use Rattle.zone_proto.specs.declared.record.Record.{Record}
use Rattle.message_reading.specs.declared.header.Header.{Header}
use Rattle.message_reading.specs.declared.query.Extension.{Extension}
use Rattle.message_reading.specs.declared.question.Question.{Question}
use Rattle.message_reading.specs.Octets.{◌>>=◌, alone}
use Rattle.message_reading.specs.Headers.{header_of}
use Rattle.message_reading.specs.Messages.{Parts, several, question_of, record_of, sections_of, message_of}
use Rattle.message_options.specs.Options.{ends_with_opt, with_options}
use Rattle.message_writing.specs.declared.response.Response.{Response}
use Rattle.message_writing.specs.Continuing.{Continues, Appends, AppendsAll}
use Rattle.message_writing.specs.StrictReading.{strict_record_of}
use Rattle.message_writing.specs.Responses.{IsBody, IsWritten, header_for, opt_for, opt_of, opt_ttl, opt_length, parts_for, if_whole}
use Rattle.message_writing.proofs.InOrder.{then_all, all_grow}
use Rattle.message_writing.proofs.MessageBack.{message_back}
use Rattle.message_writing.proofs.ResponseBack.{section_all, helpful_all}
use Rattle.message_writing.proofs.Steps.{bind_some}
use Rattle.server_laws.specs.OptionsBack.{GetsOptions, OptionsReadBack, opt_with}
use Rattle.server_laws.proofs.OptRead.{opt_back, opt_record, opt_text}
use Rattle.server_laws.proofs.OptionOctets.{IsFuller, IsTail, fuller, tail_of}

-- ---- the header

abbrev with_rest : List ℕ → Option (Header × List ℕ) → Option (Header × List ℕ)
with_rest rest None = None
with_rest rest (Some x) = Some (x.0, rest)

-- it is the first twelve octets
header_of_front : (p a b : List ℕ) → length p ≡ 12 → with_rest b (header_of (p ++ a)) ≡ header_of (p ++ b)
header_of_front (x₀ ∷ x₁ ∷ x₂ ∷ x₃ ∷ x₄ ∷ x₅ ∷ x₆ ∷ x₇ ∷ x₈ ∷ x₉ ∷ y₀ ∷ y₁ ∷ []) a b e = refl
header_of_front (x₀ ∷ x₁ ∷ x₂ ∷ x₃ ∷ x₄ ∷ x₅ ∷ x₆ ∷ x₇ ∷ x₈ ∷ x₉ ∷ y₀ ∷ y₁ ∷ z ∷ p) a b e = absurd (omega (arith, e))
header_of_front (x₀ ∷ x₁ ∷ x₂ ∷ x₃ ∷ x₄ ∷ x₅ ∷ x₆ ∷ x₇ ∷ x₈ ∷ x₉ ∷ y₀ ∷ []) a b e = absurd (omega (arith, e))
header_of_front (x₀ ∷ x₁ ∷ x₂ ∷ x₃ ∷ x₄ ∷ x₅ ∷ x₆ ∷ x₇ ∷ x₈ ∷ x₉ ∷ []) a b e = absurd (omega (arith, e))
header_of_front (x₀ ∷ x₁ ∷ x₂ ∷ x₃ ∷ x₄ ∷ x₅ ∷ x₆ ∷ x₇ ∷ x₈ ∷ []) a b e = absurd (omega (arith, e))
header_of_front (x₀ ∷ x₁ ∷ x₂ ∷ x₃ ∷ x₄ ∷ x₅ ∷ x₆ ∷ x₇ ∷ []) a b e = absurd (omega (arith, e))
header_of_front (x₀ ∷ x₁ ∷ x₂ ∷ x₃ ∷ x₄ ∷ x₅ ∷ x₆ ∷ []) a b e = absurd (omega (arith, e))
header_of_front (x₀ ∷ x₁ ∷ x₂ ∷ x₃ ∷ x₄ ∷ x₅ ∷ []) a b e = absurd (omega (arith, e))
header_of_front (x₀ ∷ x₁ ∷ x₂ ∷ x₃ ∷ x₄ ∷ []) a b e = absurd (omega (arith, e))
header_of_front (x₀ ∷ x₁ ∷ x₂ ∷ x₃ ∷ []) a b e = absurd (omega (arith, e))
header_of_front (x₀ ∷ x₁ ∷ x₂ ∷ []) a b e = absurd (omega (arith, e))
header_of_front (x₀ ∷ x₁ ∷ []) a b e = absurd (omega (arith, e))
header_of_front (x₀ ∷ []) a b e = absurd (omega (arith, e))
header_of_front [] a b e = absurd (omega (arith, e))

same_header : (s new rest : List ℕ) (h : Header) → take 12 new ≡ take 12 s → length (take 12 s) ≡ 12 → header_of s ≡ Some (h, rest)
    → header_of new ≡ Some (h, drop 12 new)
same_header s new rest h top twelve e =
    let whole : take 12 s ++ drop 12 s ≡ s = take-append-drop 12 s in
    let other : take 12 s ++ drop 12 new ≡ new = ap (λ p. p ++ drop 12 new) (sym top) ∙ take-append-drop 12 new in
    ap header_of (sym other) ∙ sym (header_of_front (take 12 s) (drop 12 s) (drop 12 new) twelve)
    ∙ ap (λ x. with_rest (drop 12 new) (header_of x)) whole ∙ ap (with_rest (drop 12 new)) e

-- a message has the header that is read of it
sections_header : (m rest : List ℕ) (h : Header) (p : Parts) → sections_of m h rest ≡ Some p → p.header ≡ h
unfolding sections_of
sections_header m rest h p e =
    let a = bind_some (several (question_of m) h.questions rest) (λ questions.
    several (record_of m) h.answers questions.1 >>= λ answers.
    several (record_of m) h.authorities answers.1 >>= λ authorities.
    alone (several (record_of m) h.additionals authorities.1) >>= λ additionals.
    Some (record { header = h; questions = questions.0; answers = answers.0; authorities = authorities.0; additionals = additionals })) p e in
    let b = bind_some (several (record_of m) h.answers a.0.1) (λ answers.
    several (record_of m) h.authorities answers.1 >>= λ authorities.
    alone (several (record_of m) h.additionals authorities.1) >>= λ additionals.
    Some (record { header = h; questions = a.0.0; answers = answers.0; authorities = authorities.0; additionals = additionals })) p a.2 in
    let c = bind_some (several (record_of m) h.authorities b.0.1) (λ authorities.
    alone (several (record_of m) h.additionals authorities.1) >>= λ additionals.
    Some (record { header = h; questions = a.0.0; answers = b.0.0; authorities = authorities.0; additionals = additionals })) p b.2 in
    let d = bind_some (alone (several (record_of m) h.additionals c.0.1)) (λ additionals.
    Some (record { header = h; questions = a.0.0; answers = b.0.0; authorities = c.0.0; additionals = additionals })) p c.2 in
    let q : Parts = record { header = h; questions = a.0.0; answers = b.0.0; authorities = c.0.0; additionals = d.0 } in
    same q p d.2
  where
    same : (q p : Parts) → Some q ≡ Some p → p.header ≡ q.header
    same q p e = sym (ap (λ o. header_or q o) e)
      where
        header_or : Parts → Option Parts → Header
        header_or q None = q.header
        header_or q (Some p) = p.header

header_in : (m : List ℕ) (p : Parts) → message_of m ≡ Some p → (rest : List ℕ) × (header_of m ≡ Some (p.header, rest))
unfolding message_of
header_in m p e =
    let a = bind_some (header_of m) (λ header. sections_of m header.0 header.1) p e in
    (a.0.1, a.1 ∙ ap (λ h. Some (h, a.0.1)) (sym (sections_header m a.0.1 a.0.0 p a.2)))

-- ---- the record

-- two readings of one text
same_record : (x y : Record) (rest : List ℕ) → ◌≡◌ {A = Option (Record × List ℕ)} (Some (x, rest)) (Some (y, rest)) → x ≡ y
same_record x y rest e = ap (λ o. record_or x o) e
  where
    record_or : Record → Option (Record × List ℕ) → Record
    record_or x None = x
    record_or x (Some y) = y.0

-- ---- the message

with_text : (limit : ℕ) (r : Response) (octets options : List ℕ) → (w : IsWritten limit r octets) → (opt : Record) (mid : List ℕ)
    → opt_of r ≡ opt ∷ [] → (a : Appends strict_record_of w.end mid opt) → w.all ≡ mid → length a.written ≡ 11 → ends_with_opt octets ≡ true
    → (before after : Parts) × (message_of octets ≡ Some before) × (message_of (with_options options octets) ≡ Some after)
    × GetsOptions options before after
with_text limit r octets options w opt mid one a is eleven ends =
    let q = r.query.now.question in
    let new = with_options options octets in
    let first = section_all (limit - opt_length r) w.start w.body.behind_answers r.answers.now w.answers w.body.answers_whole w.body.answers_are in
    let second = section_all (limit - opt_length r) w.body.behind_answers w.body.behind_authorities
    (if_whole w.body.answers_whole r.authorities.now) w.authorities w.body.authorities_whole w.body.authorities_are in
    let third = section_all (limit - opt_length r) w.body.behind_authorities w.body.behind_glue
    (if_whole (w.body.answers_whole && w.body.authorities_whole) r.glue.now) w.body.glue w.body.glue_whole w.body.glue_is in
    let fourth = helpful_all (limit - opt_length r) w.body.behind_glue w.end
    (if_whole (w.body.answers_whole && (w.body.authorities_whole && w.body.glue_whole)) r.additionals.now) w.body.helpful w.body.helpful_are in
    let more : AppendsAll strict_record_of w.body.behind_authorities w.end w.additionals =
    subst (AppendsAll strict_record_of w.body.behind_authorities w.end) (sym w.body.additionals_are)
    (then_all w.body.behind_authorities w.body.behind_glue w.end w.body.glue w.body.helpful third fourth) in
    let long : 12 ≤ length w.end = omega (
      arith,
      w.twelve,
      ap length w.question.is,
      length-append w.header w.question.written,
      all_grow w.start w.body.behind_answers w.answers first,
      all_grow w.body.behind_answers w.body.behind_authorities w.authorities second,
      all_grow w.body.behind_authorities w.end w.additionals more,
    ) in
    let whole : w.all ≡ w.end ++ a.written = is ∙ a.is in
    let size : length octets ≡ length w.end + 11 = omega (arith, w.octets_are.size, ap length whole, length-append w.end a.written, eleven) in
    let body : drop 12 octets ≡ drop 12 w.end ++ a.written =
    w.octets_are.body ∙ append-nil (drop 12 w.all) ∙ ap (drop 12) whole ∙ drop-append-le 12 w.end a.written long in
    let tail = tail_of octets w.end a.written long size body eleven ends in
    let text : List ℕ = opt_text tail.c₁ tail.c₂ tail.t₁ tail.t₂ tail.t₃ tail.t₄ options in
    let class = tail.c₁ * 256 + tail.c₂ in
    let ttl = (tail.t₁ * 256 + tail.t₂) * 65536 + (tail.t₃ * 256 + tail.t₄) in
    let f = fuller octets w.end a.written options tail.c₁ tail.c₂ tail.t₁ tail.t₂ tail.t₃ tail.t₄ long size body tail.is in
    let here : Continues w.end (a.written ++ []) octets = record {
      size = omega (arith, size, eleven, ap length (append-nil a.written));
      body = body ∙ ap (λ x. drop 12 w.end ++ x) (sym (append-nil a.written));
    } in
    let bare : List ℕ = opt_text tail.c₁ tail.c₂ tail.t₁ tail.t₂ tail.t₃ tail.t₄ [] in
    let old : strict_record_of octets (a.written ++ []) ≡ Some (opt_record class ttl [], []) =
    ap (λ x. strict_record_of octets (x ++ [])) tail.is
    ∙ opt_back w.end tail.c₁ tail.c₂ tail.t₁ tail.t₂ tail.t₃ tail.t₄ [] octets [] (subst (λ x. Continues w.end (x ++ []) octets) tail.is here) in
    let opt_is : opt ≡ opt_record class ttl [] = same_record opt (opt_record class ttl []) [] (sym (a.back octets [] here) ∙ old) in
    let full : opt_with options opt ≡ opt_record class ttl options = ap (opt_with options) opt_is in
    let appended : Appends strict_record_of w.end (w.end ++ text) (opt_record class ttl options) =
    record { written = text; is = refl; back = opt_back w.end tail.c₁ tail.c₂ tail.t₁ tail.t₂ tail.t₃ tail.t₄ options } in
    let last : AppendsAll strict_record_of w.body.behind_authorities (w.end ++ text) (w.additionals ++ opt_record class ttl options ∷ []) =
    then_all w.body.behind_authorities w.end (w.end ++ text) w.additionals (opt_record class ttl options ∷ []) more (w.end ++ text, appended, refl) in
    let goes_on : Continues (w.end ++ text) [] new = record {
      size = omega (arith, f.size, length-append w.end text);
      body = f.body ∙ sym (drop-append-le 12 w.end text long) ∙ sym (append-nil (drop 12 (w.end ++ text)));
    } in
    let before : Parts = parts_for r w.truncated w.answers w.authorities w.additionals in
    let h : Header = before.header in
    let top = header_in octets before w.reads in
    let read : header_of new ≡ Some (h, drop 12 new) =
    same_header octets new top.0 h f.top (length-take-le 12 octets (omega (arith, size, long))) top.1 in
    let counted : h.additionals ≡ length (w.additionals ++ opt_record class ttl options ∷ []) =
    ap (λ os. length (w.additionals ++ os)) one ∙ length-append w.additionals (opt ∷ []) ∙ sym (length-append w.additionals (opt_record class ttl options ∷ [])) in
    let after : Parts = record before { additionals = w.additionals ++ opt_record class ttl options ∷ [] } in (
      before,
      after,
      w.reads,
      message_back w.header w.start w.body.behind_answers w.body.behind_authorities (w.end ++ text) new h q w.answers w.authorities
          (w.additionals ++ opt_record class ttl options ∷ []) w.twelve w.question first second last goes_on read
          (record { questions = refl; answers_are = refl; authorities_are = refl; additionals_are = counted }),
      record {
        others = w.additionals;
        opt = opt;
        last = ap (λ os. w.additionals ++ os) one;
        is = ap (λ x. record before { additionals = w.additionals ++ x ∷ [] }) (sym full);
      },
    )

pub reads_back : OptionsReadBack
reads_back limit r e octets options w asked ends short =
    let one : opt_of r ≡ opt_for r.size r.code (Some e) = ap (opt_for r.size r.code) asked in
    let all : AppendsAll strict_record_of w.end w.all (opt_for r.size r.code (Some e)) = subst (AppendsAll strict_record_of w.end w.all) one w.opt in
    let a = all.1 in
    let size : length w.all ≡ length w.end + 11 = w.opt_size ∙ ap (λ os. length w.end + 11 * length os) one in
    let eleven : length a.written ≡ 11 = omega (arith, size, ap length all.2, ap length a.is, length-append w.end a.written) in
    with_text limit r octets options w _ all.0 one a all.2 eleven ends
