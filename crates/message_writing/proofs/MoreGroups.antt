-- A response that is written group by group: begun, gone on with, and ended
use Rattle.std.proofs.Common.{◌≡◌, ℕ, ◌+◌, ◌-◌, ◌<◌, ◌≤◌, Bool, true, false, List, [], ◌∷◌, ◌++◌, length, take, drop, Option, Some, None, refl, sym, ap, subst, ◌∙◌, append_assoc, arith}
use Rattle.std.proofs.lemmas.List.{append-nil, length-append, take_all, take_more}
use Rattle.std.specs.Borrow.{Bor}
use Rattle.std.specs.declared.alloc.Global.{Global}
use Rattle.std.specs.Prelude.{get_or, IfSome}
use Rattle.zone_proto.specs.Names.{Name, IsName, wire_form, wire_length}
use Rattle.message_reading.specs.declared.query.Query.{Query}
use Rattle.message_reading.specs.Messages.{question_of}
use Rattle.message_writing.specs.declared.error.WriteError.{WriteError}
use Rattle.message_writing.specs.declared.error.WriteError.TheVariants as errors
use Rattle.message_writing.specs.declared.group_writer.Setting.{Setting}
use Rattle.message_writing.specs.declared.hints.Hints.{Hints}
use Rattle.message_writing.specs.declared.message_parts.Counts.{Counts}
use Rattle.message_writing.specs.declared.response.Group.{Group}
use Rattle.message_writing.specs.declared.response.Response.{Response}
use Rattle.message_writing.specs.declared.response.ResponseHead.{ResponseHead}
use Rattle.message_writing.specs.declared.response.Section.{Section}
use Rattle.message_writing.specs.declared.response.Section.TheVariants.{Answers, Authorities, Glue, Additionals}
use Rattle.message_writing.specs.declared.response_writer.ResponseWriter.{ResponseWriter}
use Rattle.message_writing.specs.Continuing.{Appends, AppendsAll}
use Rattle.message_writing.specs.Fronts.{opt_octets}
use Rattle.message_writing.specs.HeaderText.{header_text, high_text, low_text}
use Rattle.message_writing.specs.KnownNames.{IsAskedAt}
use Rattle.message_writing.specs.Outcomes.{FailsToWrite, IsBodyPut, IsPutWithin}
use Rattle.message_writing.specs.Responses.{IsWritten, opt_for, opt_length, opt_of, records_of}
use Rattle.message_writing.specs.StrictReading.{strict_record_of}
use Rattle.message_writing.specs.Writers.{CanGoOn, FailsToBegin, HasNoGroups, IsHeadOf, IsLast, IsUnderway, PutsGroups, counts_with, with_groups}
use Rattle.message_writing.proofs.AskedNames.{known_begun}
use Rattle.message_writing.proofs.Fronts.{opt_is}
use Rattle.message_writing.proofs.InOrder.{all_grow}
use Rattle.message_writing.proofs.ResponseBack.{response_back}
use Rattle.message_writing.proofs.Sections.{group_length}
use Rattle.message_writing.proofs.WriterSteps.{IsCount, body_none, body_rest, body_step}

-- ---- the OPT record by the head

pub opts_by_head : (head : ResponseHead) (r : Response) → IsHeadOf head r → opt_length r ≡ opt_octets head.query.now.extension
opts_by_head head r h = opt_is r.size r.code r.query.now.extension ∙ ap (λ (q : Query). opt_octets q.extension) h.query

same_opts : (head : ResponseHead) (r x : Response) → IsHeadOf head r → IsHeadOf head x → opt_of x ≡ opt_of r
same_opts head r x h k =
    let size : x.size ≡ r.size = k.size ∙ sym h.size in
    let code : x.code ≡ r.code = k.code ∙ sym h.code in
    let query : x.query.now ≡ r.query.now = k.query ∙ sym h.query in
    λ i. opt_for (size i) (code i) (query i).extension

-- ---- begun

pub begins : (limit : ℕ) (head : ResponseHead) (alloc : Global) (asked : Option (Bor Name)) (room : ℕ) (hints : Hints)
    (blank start : List ℕ) → length blank ≡ 12 → Appends question_of blank start head.query.now.question
    → opt_octets head.query.now.extension ≤ limit → room ≡ limit - opt_octets head.query.now.extension
    → (r : Response) → IsHeadOf head r → HasNoGroups r → IsUnderway limit r (record {
      head = head;
      setting = record { alloc = alloc; asked = asked; room = room };
      hints = hints;
      counts = record { answers = 0; authorities = 0; additionals = 0; truncated = false };
    }) start
begins limit head alloc asked room hints blank start twelve read fits room_is r h none =
    let opts = opts_by_head head r h in
    record {
      head = h;
      fits = omega (arith, opts, fits);
      room = room_is ∙ ap (λ n. limit - n) (sym opts);
      header = blank;
      start = start;
      twelve = twelve;
      question = subst (λ (q : Query). Appends question_of blank start q.question) (sym h.query) read;
      body = body_none (limit - opt_length r) r start none;
    }

pub asked_begun : (asked : Option (Bor Name)) (blank start rest : List ℕ) (name : Name) → length blank ≡ 12
    → start ≡ blank ++ (wire_form name ++ rest) → IsName name → IfSome asked (λ n. (n.now ≡ name) × (wire_length name < 255)) → IsAskedAt start asked
asked_begun None blank start rest name twelve is valid h = tt
asked_begun (Some n) blank start rest name twelve is valid h =
    known_begun blank start rest n.now twelve (is ∙ ap (λ x. blank ++ (wire_form x ++ rest)) (sym h.0)) (subst IsName (sym h.0) valid)
    (omega (arith, h.1, ap wire_length h.0))

-- ---- more groups

pub last_more : (s : Section) (gs : List Group) (r : Response) → IsLast s r → IsLast s (with_groups s gs r)
last_more Answers gs r h = h
last_more Authorities gs r h = h
last_more Glue gs r h = h
last_more Additionals gs r h = h

pub more_groups : (s : Section) (xs ys : List Group) (r : Response) → with_groups s ys (with_groups s xs r) ≡ with_groups s (xs ++ ys) r
more_groups Answers xs ys r =
    λ i. record r { answers = record { ref_ptr = r.answers.ref_ptr; now = append_assoc r.answers.now xs ys i } }
more_groups Authorities xs ys r =
    λ i. record r { authorities = record { ref_ptr = r.authorities.ref_ptr; now = append_assoc r.authorities.now xs ys i } }
more_groups Glue xs ys r = λ i. record r { glue = record { ref_ptr = r.glue.ref_ptr; now = append_assoc r.glue.now xs ys i } }
more_groups Additionals xs ys r =
    λ i. record r { additionals = record { ref_ptr = r.additionals.ref_ptr; now = append_assoc r.additionals.now xs ys i } }

pub no_more_groups : (s : Section) (r : Response) → with_groups s [] r ≡ r
no_more_groups Answers r = λ i. record r { answers = record { ref_ptr = r.answers.ref_ptr; now = append-nil r.answers.now i } }
no_more_groups Authorities r = λ i. record r { authorities = record { ref_ptr = r.authorities.ref_ptr; now = append-nil r.authorities.now i } }
no_more_groups Glue r = λ i. record r { glue = record { ref_ptr = r.glue.ref_ptr; now = append-nil r.glue.now i } }
no_more_groups Additionals r = λ i. record r { additionals = record { ref_ptr = r.additionals.ref_ptr; now = append-nil r.additionals.now i } }

under_more : (s : Section) (gs : List Group) (limit : ℕ) (r : Response) (before after : ResponseWriter) (old new : List ℕ) → after.head ≡ before.head
    → after.setting.room ≡ before.setting.room → (u : IsUnderway limit r before old)
    → IsBodyPut (limit - opt_length r) (with_groups s gs r) u.start new after.counts → IsUnderway limit (with_groups s gs r) after new
under_more Answers gs limit r before after old new head room u body = record {
  head = record {
    query = u.head.query ∙ ap (λ (x : ResponseHead). x.query.now) (sym head);
    authoritative = u.head.authoritative ∙ ap (λ (x : ResponseHead). x.authoritative) (sym head);
    code = u.head.code ∙ ap (λ (x : ResponseHead). x.code) (sym head);
    size = u.head.size ∙ ap (λ (x : ResponseHead). x.size) (sym head);
  };
  fits = u.fits;
  room = room ∙ u.room;
  header = u.header;
  start = u.start;
  twelve = u.twelve;
  question = u.question;
  body = body;
}
under_more Authorities gs limit r before after old new head room u body = record {
  head = record {
    query = u.head.query ∙ ap (λ (x : ResponseHead). x.query.now) (sym head);
    authoritative = u.head.authoritative ∙ ap (λ (x : ResponseHead). x.authoritative) (sym head);
    code = u.head.code ∙ ap (λ (x : ResponseHead). x.code) (sym head);
    size = u.head.size ∙ ap (λ (x : ResponseHead). x.size) (sym head);
  };
  fits = u.fits;
  room = room ∙ u.room;
  header = u.header;
  start = u.start;
  twelve = u.twelve;
  question = u.question;
  body = body;
}
under_more Glue gs limit r before after old new head room u body = record {
  head = record {
    query = u.head.query ∙ ap (λ (x : ResponseHead). x.query.now) (sym head);
    authoritative = u.head.authoritative ∙ ap (λ (x : ResponseHead). x.authoritative) (sym head);
    code = u.head.code ∙ ap (λ (x : ResponseHead). x.code) (sym head);
    size = u.head.size ∙ ap (λ (x : ResponseHead). x.size) (sym head);
  };
  fits = u.fits;
  room = room ∙ u.room;
  header = u.header;
  start = u.start;
  twelve = u.twelve;
  question = u.question;
  body = body;
}
under_more Additionals gs limit r before after old new head room u body = record {
  head = record {
    query = u.head.query ∙ ap (λ (x : ResponseHead). x.query.now) (sym head);
    authoritative = u.head.authoritative ∙ ap (λ (x : ResponseHead). x.authoritative) (sym head);
    code = u.head.code ∙ ap (λ (x : ResponseHead). x.code) (sym head);
    size = u.head.size ∙ ap (λ (x : ResponseHead). x.size) (sym head);
  };
  fits = u.fits;
  room = room ∙ u.room;
  header = u.header;
  start = u.start;
  twelve = u.twelve;
  question = u.question;
  body = body;
}

-- a group behind a section that was cut is left out
pub puts_left : (s : Section) (g : Group) (w : ResponseWriter) (octets : List ℕ) → w.counts.truncated ≡ true → PutsGroups s (g ∷ []) w octets w octets
puts_left s g w octets cut = λ limit r last u.
    under_more s (g ∷ []) limit r w w octets octets refl refl u
    (body_rest s (limit - opt_length r) r u.start octets w.counts g last cut u.body)

pub puts_group : (s : Section) (g : Group) (before after : ResponseWriter) (old new : List ℕ) (done : Bool) (n : ℕ) → before.counts.truncated ≡ false
    → after.head ≡ before.head → after.setting.room ≡ before.setting.room → after.counts ≡ counts_with s done n before.counts
    → IsPutWithin before.setting.room old new (records_of g) done → IsCount done n g → PutsGroups s (g ∷ []) before old after new
puts_group s g before after old new done n uncut head room counts put count = λ limit r last u.
    let there = limit - opt_length r in
    under_more s (g ∷ []) limit r before after old new head room u
    (subst (IsBodyPut there (with_groups s (g ∷ []) r) u.start new) (sym counts)
    (body_step s there r u.start old new before.counts done n g last uncut u.body
    (subst (λ m. IsPutWithin m old new (records_of g) done) u.room put) count))

-- each record has an octet at least
put_grows : (done : Bool) (room n : ℕ) (g : Group) (old new : List ℕ) → IsPutWithin room old new (records_of g) done → IsCount done n g
    → length old + n ≤ length new
put_grows true room n g old new put c = omega (arith, all_grow old new (records_of g) put.0, group_length g, c.put refl)
put_grows false room n g old new put c = omega (arith, ap length put.0, c.over refl)

record AreWithin (most : ℕ) (c : Counts) : Type 0 where
  answers : c.answers ≤ most
  authorities : c.authorities ≤ most
  additionals : c.additionals ≤ most

counts_within : (s : Section) (done : Bool) (n least most : ℕ) (c : Counts) → least + n ≤ most → AreWithin least c → AreWithin most (counts_with s done n c)
counts_within Answers done n least most c more h = record {
  answers = omega (arith, more, h.answers);
  authorities = omega (arith, more, h.authorities);
  additionals = omega (arith, more, h.additionals);
}
counts_within Authorities done n least most c more h = record {
  answers = omega (arith, more, h.answers);
  authorities = omega (arith, more, h.authorities);
  additionals = omega (arith, more, h.additionals);
}
counts_within Glue done n least most c more h = record {
  answers = omega (arith, more, h.answers);
  authorities = omega (arith, more, h.authorities);
  additionals = omega (arith, more, h.additionals);
}
counts_within Additionals done n least most c more h = record {
  answers = omega (arith, more, h.answers);
  authorities = omega (arith, more, h.authorities);
  additionals = omega (arith, more, h.additionals);
}

-- with records that have an octet each at least
pub grows_on : (s : Section) (before after : ResponseWriter) (old new : List ℕ) (done : Bool) (n : ℕ) → after.head ≡ before.head
    → after.setting ≡ before.setting → after.counts ≡ counts_with s done n before.counts → length old + n ≤ length new
    → length new ≤ before.setting.room → IsAskedAt new before.setting.asked → CanGoOn before old → CanGoOn after new
grows_on s before after old new done n head setting counts more within asked h =
    let counted : AreWithin (length new) after.counts = subst (AreWithin (length new)) (sym counts)
    (counts_within s done n (length old) (length new) before.counts more
    (record { answers = h.answers; authorities = h.authorities; additionals = h.additionals })) in
    record {
      long = omega (arith, h.long, more);
      within = omega (arith, within, ap (λ (x : Setting). x.room) setting);
      small = omega (arith, h.small, ap (λ (x : Setting). x.room) setting, ap (λ (x : ResponseHead). opt_octets x.query.now.extension) head);
      asked = subst (λ (x : Setting). IsAskedAt new x.asked) (sym setting) asked;
      answers = counted.answers;
      authorities = counted.authorities;
      additionals = counted.additionals;
    }

pub goes_on : (s : Section) (g : Group) (before after : ResponseWriter) (old new : List ℕ) (done : Bool) (n : ℕ) → after.head ≡ before.head
    → after.setting ≡ before.setting → after.counts ≡ counts_with s done n before.counts
    → IsPutWithin before.setting.room old new (records_of g) done → IsCount done n g → length new ≤ before.setting.room
    → IsAskedAt new before.setting.asked → CanGoOn before old → CanGoOn after new
goes_on s g before after old new done n head setting counts put count within asked h =
    grows_on s before after old new done n head setting counts (put_grows done before.setting.room n g old new put count) within asked h

-- ---- groups one behind the other

pub puts_none : (s : Section) (w : ResponseWriter) (octets : List ℕ) → PutsGroups s [] w octets w octets
puts_none s w octets = λ limit r last u. subst (λ x. IsUnderway limit x w octets) (sym (no_more_groups s r)) u

pub puts_more : (s : Section) (gs : List Group) (i : ℕ) (g : Group) (before mid after : ResponseWriter) (old here new : List ℕ) → i < length gs
    → g ≡ get_or gs i g → PutsGroups s (take i gs) before old mid here → PutsGroups s (g ∷ []) mid here after new
    → PutsGroups s (take (i + 1) gs) before old after new
puts_more s gs i g before mid after old here new inside is p q = λ limit r last u.
    let more : take (i + 1) gs ≡ take i gs ++ g ∷ [] = take_more gs i g inside ∙ ap (λ x. take i gs ++ x ∷ []) (sym is) in
    let v = q limit (with_groups s (take i gs) r) (last_more s (take i gs) r last) (p limit r last u) in
    subst (λ x. IsUnderway limit x after new) (more_groups s (take i gs) (g ∷ []) r ∙ ap (λ xs. with_groups s xs r) (sym more)) v

pub puts_all : (s : Section) (gs : List Group) (i : ℕ) (before after : ResponseWriter) (old new : List ℕ) → length gs ≤ i
    → PutsGroups s (take i gs) before old after new → PutsGroups s gs before old after new
puts_all s gs i before after old new past p = subst (λ xs. PutsGroups s xs before old after new) (take_all i gs past) p

-- ---- ended

pub finishes : (limit : ℕ) (r x : Response) (w : ResponseWriter) (end all octets : List ℕ) (opts : ℕ) → IsUnderway limit r w end → CanGoOn w end
    → IsHeadOf w.head x → AppendsAll strict_record_of end all (opt_of x) → length all ≡ length end + opt_length x → opts ≡ length (opt_of x)
    → octets ≡ header_text x.query.now.header.id (high_text x.authoritative w.counts.truncated x.query.now.header.recursion_desired)
    (low_text x.code) w.counts.answers w.counts.authorities (w.counts.additionals + opts) ++ drop 12 all
    → IsWritten limit r octets
finishes limit r x w end all octets opts u going k opt eleven counted is =
    let h = u.head in
    let put = u.body in
    let code : x.code ≡ r.code = k.code ∙ sym h.code in
    let query : x.query.now ≡ r.query.now = k.query ∙ sym h.query in
    let authoritative : x.authoritative ≡ r.authoritative = k.authoritative ∙ sym h.authoritative in
    let opts_are : opt_of x ≡ opt_of r = same_opts w.head r x h k in
    let text : octets ≡ header_text r.query.now.header.id (high_text r.authoritative w.counts.truncated r.query.now.header.recursion_desired)
    (low_text r.code) w.counts.answers w.counts.authorities (w.counts.additionals + opts) ++ drop 12 all =
    is ∙ λ i. header_text (query i).header.id (high_text (authoritative i) w.counts.truncated (query i).header.recursion_desired) (low_text (code i))
    w.counts.answers w.counts.authorities (w.counts.additionals + opts) ++ drop 12 all in
    response_back limit r u.header u.start end all octets put.answers put.authorities put.additionals w.counts.truncated w.counts.answers
    w.counts.authorities (w.counts.additionals + opts) u.twelve u.question put.is (subst (AppendsAll strict_record_of end all) opts_are opt)
    (omega (arith, eleven, ap length opts_are)) put.answers_counted put.authorities_counted
    (omega (arith, put.additionals_counted, counted, ap length opts_are, length-append put.additionals (opt_of r)))
    (omega (arith, eleven, ap length opts_are, going.within, u.room, u.fits)) text

-- ---- why a response was not begun

pub begin_fails : (limit : ℕ) (head : ResponseHead) (r : Response) (e : WriteError) → IsHeadOf head r → FailsToBegin limit head e → FailsToWrite limit r e
begin_fails limit head r errors.Unwritable h f = absurd f
begin_fails limit head r errors.NoRoom h f = omega (arith, f, opts_by_head head r h, ap (λ (q : Query). wire_length q.question.name) h.query)
begin_fails limit head r errors.BadCode h f = subst (λ n. 4095 < n) (sym h.code) f
begin_fails limit head r errors.Memory h f = tt

-- ---- a response without its groups

abbrev pub emptied : Response → Response
emptied r = record r {
  answers = record { ref_ptr = r.answers.ref_ptr; now = [] };
  authorities = record { ref_ptr = r.authorities.ref_ptr; now = [] };
  glue = record { ref_ptr = r.glue.ref_ptr; now = [] };
  additionals = record { ref_ptr = r.additionals.ref_ptr; now = [] };
}

pub emptied_head : (head : ResponseHead) (r : Response) → IsHeadOf head r → IsHeadOf head (emptied r)
emptied_head head r h = record { query = h.query; authoritative = h.authoritative; code = h.code; size = h.size }

pub no_groups : (r : Response) → HasNoGroups (emptied r)
no_groups r = record { answers = refl; authorities = refl; glue = refl; additionals = refl }
