-- The first groups of the answers of a response, written as a message of their own
use Rattle.std.proofs.Common.{◌≡◌, ℕ, ◌+◌, ◌-◌, ◌*◌, ◌%◌, ◌<◌, ◌≤◌, true, false, List, [], ◌∷◌, ◌++◌, length, take, drop, Some, None, refl, sym, ap, subst, ◌∙◌, arith}
use Rattle.std.specs.Prelude.{get_or, Option}
use Rattle.std.proofs.lemmas.List.{append-nil, drop_all, drop_more, length-append, length-drop}
use Rattle.zone_proto.specs.declared.record.Record.{Record}
use Rattle.message_reading.specs.declared.header.Header.{Header}
use Rattle.message_reading.specs.declared.query.Extension.{Extension}
use Rattle.message_reading.specs.Headers.{header_of}
use Rattle.message_reading.specs.Messages.{question_of}
use Rattle.message_writing.specs.declared.error.WriteError.{WriteError}
use Rattle.message_writing.specs.declared.front_writer.Front.{Front}
use Rattle.message_writing.specs.declared.response.Group.{Group}
use Rattle.message_writing.specs.declared.response.Response.{Response}
use Rattle.message_writing.specs.Continuing.{Continues, Appends, AppendsAll}
use Rattle.message_writing.specs.Fronts.{opt_octets, FirstGoesOver, FirstHasNoRoom, IsFront, IsFrontPut}
use Rattle.message_writing.specs.HeaderText.{high_text, low_text, header_text}
use Rattle.message_writing.specs.Outcomes.{FailsToPutAny, FailsToWrite, IsPutWithin}
use Rattle.message_writing.specs.Responses.{GoesOver, all_records, header_for, opt_for, opt_length, opt_of, records_of}
use Rattle.message_writing.specs.StrictReading.{strict_record_of}
use Rattle.message_writing.proofs.BodyParts.{answers_fail}
use Rattle.message_writing.proofs.Failures.{body_fails}
use Rattle.message_writing.proofs.HeaderBack.{header, header_back}
use Rattle.message_writing.proofs.InOrder.{all_grow}
use Rattle.message_writing.proofs.MessageBack.{message_back}

-- ---- the groups

-- the next group went over
pub front_cut : (gs : List Group) (i room : ℕ) (front : Front) (g : Group) (old mid new : List ℕ) → i < length gs → g ≡ get_or gs i g
    → front.groups ≡ i → AppendsAll strict_record_of old mid (all_records (take i gs)) → front.records ≡ length (all_records (take i gs))
    → IsPutWithin room mid new (records_of g) false → IsFrontPut room old new gs front
front_cut gs i room front g old mid new inside is at h counted (same, over) =
    let left : drop i gs ≡ g ∷ drop (i + 1) gs = drop_more gs i g inside ∙ ap (λ x. x ∷ drop (i + 1) gs) (sym is) in
    let written : AppendsAll strict_record_of old new (all_records (take i gs)) =
    subst (λ s. AppendsAll strict_record_of old s (all_records (take i gs))) (sym same) h in
    record {
      at_most = omega arith;
      written = subst (λ n. AppendsAll strict_record_of old new (all_records (take n gs))) (sym at) written;
      counted = counted ∙ ap (λ n. length (all_records (take n gs))) (sym at);
      next = subst (λ n. FirstGoesOver room new (drop n gs)) (sym at)
          (subst (FirstGoesOver room new) (sym left) (subst (λ s. GoesOver room s (records_of g)) (sym same) over));
    }

-- none is left
pub front_whole : (gs : List Group) (i room : ℕ) (front : Front) (old new : List ℕ) → i ≤ length gs → length gs ≤ i → front.groups ≡ i
    → AppendsAll strict_record_of old new (all_records (take i gs)) → front.records ≡ length (all_records (take i gs)) → IsFrontPut room old new gs front
front_whole gs i room front old new within past at h counted = record {
  at_most = omega arith;
  written = subst (λ n. AppendsAll strict_record_of old new (all_records (take n gs))) (sym at) h;
  counted = counted ∙ ap (λ n. length (all_records (take n gs))) (sym at);
  next = subst (λ n. FirstGoesOver room new (drop n gs)) (sym at) (subst (FirstGoesOver room new) (sym (drop_all i gs past)) tt);
}

-- ---- the message

pub opt_is : (size code : ℕ) (e : Option Extension) → 11 * length (opt_for size code e) ≡ opt_octets e
opt_is size code None = refl
opt_is size code (Some e) = refl

pub front_back : (limit : ℕ) (r : Response) (blank start end all octets : List ℕ) (count records opts : ℕ) → length blank ≡ 12
    → Appends question_of blank start r.query.now.question
    → IsFrontPut (limit - opt_length r) start end r.answers.now (record { groups = count; records = records })
    → AppendsAll strict_record_of end all (opt_of r) → opts ≡ length (opt_of r) → length all ≤ limit
    → octets ≡ header_text r.query.now.header.id (high_text r.authoritative false r.query.now.header.recursion_desired)
    (low_text r.code) records 0 opts ++ drop 12 all
    → IsFront limit r count octets
front_back limit r blank start end all octets count records opts twelve question put opt counted within is =
    let q = r.query.now in
    let aa = r.authoritative in
    let rd = q.header.recursion_desired in
    let answers : List Record = all_records (take count r.answers.now) in
    let top : List ℕ = header_text q.header.id (high_text aa false rd) (low_text r.code) records 0 opts in
    let long : 12 ≤ length all = omega (
      arith,
      twelve,
      ap length question.is,
      length-append blank question.written,
      all_grow start end answers put.written,
      all_grow end all (opt_of r) opt,
    ) in
    let size : length octets ≡ length all + 0 = omega (arith, ap length is, long, length-append top (drop 12 all), length-drop 12 all) in
    let rest : drop 12 octets ≡ drop 12 all = ap (drop 12) is in
    let goes_on : Continues all [] octets = record { size = size; body = rest ∙ sym (append-nil (drop 12 all)) } in
    let h : Header = header_for r false answers [] (opt_of r) in
    let read : header_of octets ≡ Some (h, drop 12 octets) =
    ap header_of is ∙ header_back q.header.id r.code records 0 opts aa false rd (drop 12 all)
    ∙ λ i. Some (header q.header.id true 0 aa false rd false false false false (r.code % 16) 1 (put.counted i) 0 (counted i), sym rest i) in
    record {
      at_most = put.at_most;
      reads = message_back blank start end end all octets h q.question answers [] (opt_of r) twelve question put.written refl opt goes_on read
          (record { questions = refl; answers_are = refl; authorities_are = refl; additionals_are = refl });
      within = omega (arith, size, within);
      next = no_room (drop count r.answers.now) put.next;
    }
  where
    no_room : (gs : List Group) → FirstGoesOver (limit - opt_length r) end gs → FirstHasNoRoom limit r.query.now (all_records (take count r.answers.now)) gs
    no_room [] over = tt
    no_room (g ∷ gs) over = record {
      header = blank;
      start = start;
      end = end;
      twelve = twelve;
      question = question;
      behind = put.written;
      over = subst (λ n. GoesOver (limit - n) end (records_of g)) (opt_is r.size r.code r.query.now.extension) over;
    }

-- ---- a record of the answers is one of the response

pub front_fails : (limit : ℕ) (r : Response) (e : WriteError) → FailsToPutAny (all_records r.answers.now) e → FailsToWrite limit r e
front_fails limit r e h = body_fails limit r e (answers_fail r e h)
