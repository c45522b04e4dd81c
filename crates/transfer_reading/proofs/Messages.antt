-- The messages of an answer are taken one after the other
use Rattle.std.proofs.Common.{◌≡◌, ℕ, not, ◌&&◌, Bool, true, false, List, [], ◌∷◌, ◌++◌, refl, sym, ap, ◌∙◌, subst, append_assoc, Result, Ok, Err}
use Rattle.std.specs.Prelude.{◌==◌, if◌then◌else◌, Option, Some, None}
use Rattle.std.proofs.lemmas.List.{append-nil}
use Rattle.zone_proto.specs.Names.{lower, is_at_or_above}
use Rattle.zone_proto.specs.Types.{IN}
use Rattle.zone_proto.specs.declared.record.Record.{Record}
use Rattle.message_reading.specs.Messages.{message_of, Parts}
use Rattle.zone_proto.specs.Serials.{is_newer}
use Rattle.zone_secondary.specs.declared.secondary.Question.{Question}
use Rattle.zone_secondary.specs.declared.secondary.Question.TheVariants.{Soa, Changes, Zone}
use Rattle.transfer_reading.specs.Answers.{◌>>=◌, answers_in, answers_of, asks, asks_authority}
use Rattle.transfer_reading.specs.Laws.{has_none, AreMessages, IsMessage, TakesMessages}
use Rattle.transfer_reading.specs.Stages.{behind_all, behind_difference, behind_first, behind_other, behind_record, behind_second, behind_soa, behind_zone, by_serial, serial_at}
use Rattle.transfer_reading.specs.Transfers.{is_before, took, took_all, Course}
use Rattle.transfer_reading.specs.declared.asked.Asked.{Asked}
use Rattle.transfer_reading.specs.declared.fault.AnswerFault.{AnswerFault}
use Rattle.transfer_reading.specs.declared.fault.AnswerFault.TheVariants.{NotTheAnswer, Code, OtherQuestion, NotAuthoritative, Truncated, OtherClass, Outside, OtherSerial}
use Rattle.transfer_reading.specs.declared.stage.Stage.{Stage}
use Rattle.transfer_reading.specs.declared.stage.Stage.TheVariants.{Before, Begun, InZone, TakingOut, Giving, WholeZone, AllDifferences, SerialAlone}

-- ---- behind a record an answer isn't before its first record

abbrev comes_to : Stage → Result Stage AnswerFault
comes_to s = Ok s

reached : (s n : Stage) → comes_to s ≡ Ok n → is_before s ≡ false → is_before n ≡ false
reached s n h f = let e : s ≡ n = cc in ap is_before (sym e) ∙ f

first_begins : (q : Question) (k : ℕ) → is_before (behind_first q k) ≡ false
first_begins Soa k = refl
first_begins Zone k = refl
first_begins (Changes held) k = by (is_newer k held)
  where
    by : (b : Bool) → is_before (if b then Begun k else SerialAlone k) ≡ false
    by true = refl
    by false = refl

zone_begins : (newest k : ℕ) (n : Stage) → behind_zone newest k ≡ Ok n → is_before n ≡ false
zone_begins newest k n h = by (k == newest) h
  where
    by : (b : Bool) → (if b then Ok WholeZone else Err OtherSerial) ≡ Ok n → is_before n ≡ false
    by true h = reached WholeZone n h refl
    by false h = absurd cc

second_begins : (q : Question) (newest k : ℕ) (n : Stage) → behind_second q newest k ≡ Ok n → is_before n ≡ false
second_begins Soa newest k n h = zone_begins newest k n h
second_begins Zone newest k n h = zone_begins newest k n h
second_begins (Changes held) newest k n h = by (k == held) h
  where
    by : (b : Bool) → (if b then Ok (TakingOut newest) else behind_zone newest k) ≡ Ok n → is_before n ≡ false
    by true h = reached (TakingOut newest) n h refl
    by false h = zone_begins newest k n h

difference_begins : (newest before k : ℕ) (n : Stage) → behind_difference newest before k ≡ Ok n → is_before n ≡ false
difference_begins newest before k n h = by (k == before) (k == newest) h
  where
    by : (b c : Bool) → (if not b then Err OtherSerial else (if c then Ok AllDifferences else Ok (TakingOut newest))) ≡ Ok n → is_before n ≡ false
    by false c h = absurd cc
    by true true h = reached AllDifferences n h refl
    by true false h = reached (TakingOut newest) n h refl

soa_begins : (q : Question) (s n : Stage) (k : ℕ) → behind_soa q s k ≡ Ok n → is_before n ≡ false
soa_begins q Before n k h = reached (behind_first q k) n h (first_begins q k)
soa_begins q (Begun newest) n k h = second_begins q newest k n h
soa_begins q (InZone newest) n k h = zone_begins newest k n h
soa_begins q (TakingOut newest) n k h = reached (Giving newest k) n h refl
soa_begins q (Giving newest before) n k h = difference_begins newest before k n h
soa_begins q WholeZone n k h = absurd cc
soa_begins q AllDifferences n k h = absurd cc
soa_begins q (SerialAlone alone) n k h = reached (SerialAlone alone) n h refl

other_begins : (s n : Stage) → behind_other s ≡ Ok n → is_before n ≡ false
other_begins Before n h = absurd cc
other_begins (Begun newest) n h = reached (InZone newest) n h refl
other_begins (InZone newest) n h = reached (InZone newest) n h refl
other_begins (TakingOut newest) n h = reached (TakingOut newest) n h refl
other_begins (Giving newest before) n h = reached (Giving newest before) n h refl
other_begins WholeZone n h = absurd cc
other_begins AllDifferences n h = absurd cc
other_begins (SerialAlone alone) n h = reached (SerialAlone alone) n h refl

record_begins : (a : Asked) (s n : Stage) (r : Record) → behind_record a s r ≡ Ok n → is_before n ≡ false
record_begins a s n r h = by (r.dns_class.0 == IN) (is_at_or_above (lower a.origin) (lower r.name)) (serial_at a.origin r) h
  where
    by : (b c : Bool) (k : Option ℕ) → (if not b then Err OtherClass else (if not c then Err Outside else by_serial a.question s k)) ≡ Ok n → is_before n ≡ false
    by false c k h = absurd cc
    by true false k h = absurd cc
    by true true None h = other_begins s n h
    by true true (Some k) h = soa_begins a.question s n k h

stays_begun : (a : Asked) (s n : Stage) (rs : List Record) → is_before s ≡ false → behind_all a s rs ≡ Ok n → is_before n ≡ false
unfolding behind_all
stays_begun a s n [] f h = reached s n h f
stays_begun a s n (r ∷ rs) f h = by (behind_record a s r) refl h (λ m g i. stays_begun a m n rs g i)
  where
    by : (x : Result Stage AnswerFault) → behind_record a s r ≡ x → (x >>= λ m. behind_all a m rs) ≡ Ok n
        → ((m : Stage) → is_before m ≡ false → behind_all a m rs ≡ Ok n → is_before n ≡ false) → is_before n ≡ false
    by (Ok m) e h i = i m (record_begins a s m r e) h
    by (Err e) g h i = absurd cc

-- the question is wanted until a record came
first_until : (a : Asked) (s n : Stage) (rs : List Record) → behind_all a s rs ≡ Ok n → (is_before s && has_none rs) ≡ is_before n
unfolding behind_all
first_until a s n [] h = let e : s ≡ n = cc in and_true (is_before s) ∙ ap is_before e
  where
    and_true : (b : Bool) → (b && true) ≡ b
    and_true true = refl
    and_true false = refl
first_until a s n (r ∷ rs) h = and_false (is_before s) ∙ sym (by (behind_record a s r) refl h)
  where
    and_false : (b : Bool) → (b && false) ≡ false
    and_false true = refl
    and_false false = refl

    by : (x : Result Stage AnswerFault) → behind_record a s r ≡ x → (x >>= λ m. behind_all a m rs) ≡ Ok n → is_before n ≡ false
    by (Ok m) e h = stays_begun a m n rs (record_begins a s m r e) h
    by (Err e) g h = absurd cc

-- ---- messages

-- a secondary with these records
abbrev ended : Asked → List Record → Stage → Result Course AnswerFault
ended a rs s = Ok (record { asked = a; stage = s; records = rs })

-- records in two parts
in_two : (a : Asked) (s : Stage) (xs ys : List Record) → behind_all a s (xs ++ ys) ≡ (behind_all a s xs >>= λ n. behind_all a n ys)
unfolding behind_all
in_two a s [] ys = refl
in_two a s (x ∷ xs) ys = by (behind_record a s x) (λ n. in_two a n xs ys)
  where
    by : (r : Result Stage AnswerFault) → ((n : Stage) → behind_all a n (xs ++ ys) ≡ (behind_all a n xs >>= λ m. behind_all a m ys))
        → (r >>= λ n. behind_all a n (xs ++ ys)) ≡ ((r >>= λ n. behind_all a n xs) >>= λ m. behind_all a m ys)
    by (Ok n) i = i n
    by (Err e) i = refl

none_left : (a : Asked) (s : Stage) → behind_all a s [] ≡ Ok s
unfolding behind_all
none_left a s = refl

-- the records of a message
answers : (a : Asked) (first : Bool) (m : Parts) → IsMessage a first m → answers_in a first m ≡ Ok m.answers
answers a first m h =
    let rest : Result (List Record) AnswerFault =
    if not (asks a first m.questions) then Err OtherQuestion
    else (if not m.header.authoritative && asks_authority a.question then Err NotAuthoritative else (if m.header.truncated then Err Truncated else Ok m.answers)) in
    ap (λ (b : Bool). if not b then Err NotTheAnswer else (if not (m.header.response_code == 0) then Err (Code m.header.response_code) else rest)) h.answer
    ∙ ap (λ (b : Bool). if not b then Err (Code m.header.response_code) else rest) h.code
    ∙ ap (λ (b : Bool). if not b then Err OtherQuestion
    else (if not m.header.authoritative && asks_authority a.question then Err NotAuthoritative else (if m.header.truncated then Err Truncated else Ok m.answers))) h.question
    ∙ ap (λ (b : Bool). if b then Err NotAuthoritative else (if m.header.truncated then Err Truncated else Ok m.answers)) h.authority
    ∙ ap (λ (b : Bool). if b then Err Truncated else Ok m.answers) h.whole

one_taken : (t : Course) (n : Stage) (m : Parts) (text : List ℕ) → message_of text ≡ Some m → IsMessage t.asked (is_before t.stage) m
    → behind_all t.asked t.stage m.answers ≡ Ok n → took t (message_of text) ≡ ended t.asked (t.records ++ m.answers) n
one_taken t n m text reads is behind =
    ap (λ x. answers_of t.asked (is_before t.stage) x >>= λ rs. behind_all t.asked t.stage rs >>= ended t.asked (t.records ++ rs)) reads
    ∙ ap (λ x. x >>= λ rs. behind_all t.asked t.stage rs >>= ended t.asked (t.records ++ rs)) (answers t.asked (is_before t.stage) m is)
    ∙ ap (λ x. x >>= ended t.asked (t.records ++ m.answers)) behind

all_taken : (t : Course) (end : Stage) (texts : List (List ℕ)) (rs : List Record) → AreMessages t.asked (is_before t.stage) texts rs
    → behind_all t.asked t.stage rs ≡ Ok end → took_all t texts ≡ ended t.asked (t.records ++ rs) end
unfolding took_all
all_taken t end [] rs none behind =
    let now : Ok t.stage ≡ Ok end = sym (none_left t.asked t.stage) ∙ ap (behind_all t.asked t.stage) (sym none) ∙ behind in
    let stays : t.stage ≡ end = cc in
    (λ i. ended t.asked (sym (append-nil t.records) i) (stays i)) ∙ ap (λ (xs : List Record). ended t.asked (t.records ++ xs) end) (sym none)
all_taken t end (text ∷ texts) rs (m, others, reads, is, parts, more) behind =
    by (behind_all t.asked t.stage m.answers) refl (sym (in_two t.asked t.stage m.answers others) ∙ ap (behind_all t.asked t.stage) (sym parts) ∙ behind)
    (λ n f g. all_taken (record { asked = t.asked; stage = n; records = t.records ++ m.answers }) end texts others f g)
    ∙ ap (λ (xs : List Record). ended t.asked xs end) (append_assoc t.records m.answers others)
    ∙ ap (λ (xs : List Record). ended t.asked (t.records ++ xs) end) (sym parts)
  where
    by : (r : Result Stage AnswerFault) → behind_all t.asked t.stage m.answers ≡ r → (r >>= λ n. behind_all t.asked n others) ≡ Ok end
        → ((n : Stage) → AreMessages t.asked (is_before n) texts others → behind_all t.asked n others ≡ Ok end
        → took_all (record { asked = t.asked; stage = n; records = t.records ++ m.answers }) texts ≡ ended t.asked ((t.records ++ m.answers) ++ others) end)
        → (took t (message_of text) >>= λ n. took_all n texts) ≡ ended t.asked ((t.records ++ m.answers) ++ others) end
    by (Err e) h g i = absurd cc
    by (Ok n) h g i =
        ap (λ r. r >>= λ x. took_all x texts) (one_taken t n m text reads is h)
        ∙ i n (subst (λ (b : Bool). AreMessages t.asked b texts others) (first_until t.asked t.stage n m.answers h) more) g

pub takes_messages : TakesMessages
takes_messages a texts rs end are behind = all_taken (record { asked = a; stage = Before; records = [] }) end texts rs are behind
