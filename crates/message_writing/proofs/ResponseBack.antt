-- A response that was written part by part is written as its contract says
use Rattle.std.proofs.Common.{◌≡◌, ℕ, ◌+◌, ◌-◌, ◌%◌, ◌≤◌, Bool, true, false, ◌&&◌, List, [], ◌∷◌, ◌++◌, length, drop, Some, refl, sym, ap, subst, ◌∙◌, arith, inl, inr}
use Rattle.std.proofs.lemmas.List.{append-nil, length-append, length-drop}
use Rattle.zone_proto.specs.declared.record.Record.{Record}
use Rattle.message_reading.specs.declared.header.Header.{Header}
use Rattle.message_reading.specs.Headers.{header_of}
use Rattle.message_reading.specs.Messages.{question_of}
use Rattle.message_writing.specs.declared.response.Group.{Group}
use Rattle.message_writing.specs.declared.response.Response.{Response}
use Rattle.message_writing.specs.Continuing.{Continues, Appends, AppendsAll}
use Rattle.message_writing.specs.StrictReading.{strict_record_of}
use Rattle.message_writing.specs.HeaderText.{high_text, low_text, header_text}
use Rattle.message_writing.specs.Responses.{IsSection, AreHelpful, IsBody, IsWritten, header_for, opt_of, opt_length, if_whole, records_of}
use Rattle.message_writing.proofs.InOrder.{then_all, all_grow}
use Rattle.message_writing.proofs.HeaderBack.{header, header_back}
use Rattle.message_writing.proofs.MessageBack.{message_back}

pub section_all : (room : ℕ) (old new : List ℕ) (gs : List Group) (kept : List Record) (whole : Bool) → IsSection room old new gs kept whole
    → AppendsAll strict_record_of old new kept
section_all room old new gs kept true h = h.1
section_all room old new gs kept false (front, g, rest, split, is, all, over) = all

pub helpful_all : (room : ℕ) (old new : List ℕ) (gs : List Group) (kept : List Record) → AreHelpful room old new gs kept
    → AppendsAll strict_record_of old new kept
helpful_all room old new [] kept (same, none) = subst (AppendsAll strict_record_of old new) (sym none) same
helpful_all room old new (g ∷ gs) kept (inl (mid, others, is, all, h)) =
    subst (AppendsAll strict_record_of old new) (sym is) (then_all old mid new (records_of g) others all (helpful_all room mid new gs others h))
helpful_all room old new (g ∷ gs) kept (inr (over, h)) = helpful_all room old new gs kept h

-- the octets that the header will have
pub blank_length : (cleared blank zeros : List ℕ) → cleared ≡ [] → blank ≡ cleared ++ zeros → length zeros ≡ 12 → length blank ≡ 12
blank_length cleared blank zeros e f n = omega (arith, n, ap length e, ap length f, length-append cleared zeros)

pub response_back : (limit : ℕ) (r : Response) (blank start end all octets : List ℕ) (answers authorities additionals : List Record) (truncated : Bool)
    (a b c : ℕ) → length blank ≡ 12 → Appends question_of blank start r.query.now.question
    → IsBody (limit - opt_length r) r start end answers authorities additionals truncated → AppendsAll strict_record_of end all (opt_of r)
    → length all ≡ length end + opt_length r
    → a ≡ length answers → b ≡ length authorities → c ≡ length (additionals ++ opt_of r) → length all ≤ limit
    → octets ≡ header_text r.query.now.header.id (high_text r.authoritative truncated r.query.now.header.recursion_desired)
    (low_text r.code) a b c ++ drop 12 all
    → IsWritten limit r octets
response_back limit r blank start end all octets answers authorities additionals truncated a b c twelve question body opt eleven e₁ e₂ e₃ within is =
    let q = r.query.now in
    let aa = r.authoritative in
    let rd = q.header.recursion_desired in
    let room = limit - opt_length r in
    let top : List ℕ = header_text q.header.id (high_text aa truncated rd) (low_text r.code) a b c in
    let first = section_all room start body.behind_answers r.answers.now answers body.answers_whole body.answers_are in
    let second = section_all room body.behind_answers body.behind_authorities
    (if_whole body.answers_whole r.authorities.now) authorities body.authorities_whole body.authorities_are in
    let third = section_all room body.behind_authorities body.behind_glue
    (if_whole (body.answers_whole && body.authorities_whole) r.glue.now) body.glue body.glue_whole body.glue_is in
    let fourth = helpful_all room body.behind_glue end
    (if_whole (body.answers_whole && (body.authorities_whole && body.glue_whole)) r.additionals.now) body.helpful body.helpful_are in
    let more : AppendsAll strict_record_of body.behind_authorities end additionals =
    subst (AppendsAll strict_record_of body.behind_authorities end) (sym body.additionals_are)
    (then_all body.behind_authorities body.behind_glue end body.glue body.helpful third fourth) in
    let last = then_all body.behind_authorities end all additionals (opt_of r) more opt in
    let long : 12 ≤ length all = omega (
      arith,
      twelve,
      ap length question.is,
      length-append blank question.written,
      all_grow start body.behind_answers answers first,
      all_grow body.behind_answers body.behind_authorities authorities second,
      all_grow body.behind_authorities all (additionals ++ opt_of r) last,
    ) in
    let size : length octets ≡ length all + 0 = omega (arith, ap length is, long, length-append top (drop 12 all), length-drop 12 all) in
    let rest : drop 12 octets ≡ drop 12 all = ap (drop 12) is in
    let goes_on : Continues all [] octets = record { size = size; body = rest ∙ sym (append-nil (drop 12 all)) } in
    let h : Header = header_for r truncated answers authorities (additionals ++ opt_of r) in
    let read : header_of octets ≡ Some (h, drop 12 octets) =
    ap header_of is ∙ header_back q.header.id r.code a b c aa truncated rd (drop 12 all)
    ∙ λ i. Some (header q.header.id true 0 aa truncated rd false false false false (r.code % 16) 1 (e₁ i) (e₂ i) (e₃ i), sym rest i) in
    record {
      answers = answers;
      authorities = authorities;
      additionals = additionals;
      truncated = truncated;
      reads = message_back blank start body.behind_answers body.behind_authorities all octets h q.question answers authorities
          (additionals ++ opt_of r) twelve question first second last goes_on read
          (record { questions = refl; answers_are = refl; authorities_are = refl; additionals_are = refl });
      within = omega (arith, size, within);
      header = blank;
      start = start;
      end = end;
      all = all;
      twelve = twelve;
      question = question;
      body = body;
      opt = opt;
      opt_size = eleven;
      octets_are = goes_on;
    }
