-- Answers of the forms of the standards are taken
use Rattle.std.proofs.Common.{◌≡◌, ℕ, ◌+◌, ◌-◌, ◌^◌, Bool, true, false, true≢false, List, [], ◌∷◌, ◌++◌, length, take, refl, sym, ap, ◌∙◌, append_assoc, arith, eq-eqb, Result, Ok, Err}
use Rattle.std.specs.Prelude.{◌==◌, ◌&&◌, not, nat_lt, if◌then◌else◌, Option, Some, None}
use Rattle.std.specs.List.{flat_map}
use Rattle.std.proofs.lemmas.Bool.{eqb-true}
use Rattle.zone_proto.specs.Names.{lower, is_at_or_above}
use Rattle.zone_proto.specs.declared.record.Record.{Record}
use Rattle.zone_proto.specs.Serials.{ahead, is_newer}
use Rattle.zone_secondary.specs.declared.secondary.Question.{Question}
use Rattle.zone_secondary.specs.declared.secondary.Question.TheVariants.{Soa, Changes, Zone}
use Rattle.transfer_reading.specs.Answers.{◌>>=◌}
use Rattle.transfer_reading.specs.Laws.{records_of, AreOthers, AsksFor, IsRecord, IsStep, Lead, Step, TakesDifferences, TakesWholeZones}
use Rattle.transfer_reading.specs.Outcomes.{zone_of}
use Rattle.transfer_reading.specs.Stages.{behind_all, behind_first, behind_record, behind_second, behind_zone, by_serial, serial_at}
use Rattle.transfer_reading.specs.declared.asked.Asked.{Asked}
use Rattle.transfer_reading.specs.declared.fault.AnswerFault.{AnswerFault}
use Rattle.transfer_reading.specs.declared.fault.AnswerFault.TheVariants.{OtherClass, Outside, OtherSerial}
use Rattle.transfer_reading.specs.declared.stage.Stage.{Stage}
use Rattle.transfer_reading.specs.declared.stage.Stage.TheVariants.{Before, Begun, InZone, TakingOut, Giving, WholeZone, AllDifferences, SerialAlone}

-- a record that may stand in the zone leads on by its serial
on_by : (a : Asked) (stage : Stage) (r : Record) (serial : Option ℕ) → IsRecord a.origin r serial → behind_record a stage r ≡ by_serial a.question stage serial
on_by a stage r serial h =
    ap (λ (b : Bool). if not b then Err OtherClass else (if not (is_at_or_above (lower a.origin) (lower r.name)) then Err Outside else by_serial a.question stage (serial_at a.origin r))) h.class
    ∙ ap (λ (b : Bool). if not b then Err Outside else by_serial a.question stage (serial_at a.origin r)) h.inside
    ∙ ap (by_serial a.question stage) h.serial_is

-- one record, and those behind it
one_more : (a : Asked) (stage next : Stage) (r : Record) (rs : List Record) → behind_record a stage r ≡ Ok next → behind_all a stage (r ∷ rs) ≡ behind_all a next rs
unfolding behind_all
one_more a stage next r rs e = ap (λ (x : Result Stage AnswerFault). x >>= λ n. behind_all a n rs) e

none_more : (a : Asked) (stage : Stage) → behind_all a stage [] ≡ Ok stage
unfolding behind_all
none_more a stage = refl

same : (n : ℕ) → (n == n) ≡ true
same n = eq-eqb n n refl

-- other records leave a stage that they leave
others_stay : (a : Asked) (stage : Stage) → ((r : Record) → IsRecord a.origin r None → behind_record a stage r ≡ Ok stage) → (rs more : List Record) → AreOthers a.origin rs
    → behind_all a stage (rs ++ more) ≡ behind_all a stage more
others_stay a stage stays [] more h = refl
others_stay a stage stays (r ∷ rs) more h = one_more a stage stage r (rs ++ more) (stays r h.0) ∙ others_stay a stage stays rs more h.1

-- ---- the whole zone

zone_end : (a : Asked) (serial : ℕ) (last : Record) → IsRecord a.origin last (Some serial) → behind_all a (InZone serial) (last ∷ []) ≡ Ok WholeZone
zone_end a serial last h =
    one_more a (InZone serial) WholeZone last []
    (on_by a (InZone serial) last (Some serial) h ∙ ap (λ (b : Bool). if b then Ok WholeZone else Err OtherSerial) (same serial))
    ∙ none_more a WholeZone

in_zone : (a : Asked) (serial : ℕ) (last : Record) (between : List Record) → AreOthers a.origin between → IsRecord a.origin last (Some serial)
    → behind_all a (InZone serial) (between ++ last ∷ []) ≡ Ok WholeZone
in_zone a serial last between others h =
    others_stay a (InZone serial) (λ r o. on_by a (InZone serial) r None o) between (last ∷ []) others ∙ zone_end a serial last h

-- a version that answers a question is newer than the one that is held, so no answer of differences begins with its SOA record
no_newer : (n : ℕ) → is_newer n n ≡ false
no_newer n =
    let none : ahead n n ≡ 0 = omega arith in
    ap (λ (k : ℕ). nat_lt 0 k && nat_lt k (2 ^ 31)) none

not_held : (n held : ℕ) → is_newer n held ≡ true → (n == held) ≡ false
not_held n held h = by (n == held) refl
  where
    by : (b : Bool) → (n == held) ≡ b → b ≡ false
    by true e = absurd (true≢false (sym h ∙ ap (λ (k : ℕ). is_newer k held) (eqb-true n held e) ∙ no_newer held))
    by false e = refl

first_is : (q : Question) (n : ℕ) → AsksFor q n → behind_first q n ≡ Begun n
first_is Soa n h = absurd h
first_is (Changes held) n h = ap (λ (b : Bool). if b then Begun n else SerialAlone n) h
first_is Zone n h = refl

second_is : (q : Question) (n : ℕ) → AsksFor q n → behind_second q n n ≡ Ok WholeZone
second_is Soa n h = absurd h
second_is (Changes held) n h =
    ap (λ (b : Bool). if b then Ok (TakingOut n) else behind_zone n n) (not_held n held h) ∙ ap (λ (b : Bool). if b then Ok WholeZone else Err OtherSerial) (same n)
second_is Zone n h = ap (λ (b : Bool). if b then Ok WholeZone else Err OtherSerial) (same n)

begun : (a : Asked) (serial : ℕ) (last : Record) (between : List Record) → AsksFor a.question serial → AreOthers a.origin between → IsRecord a.origin last (Some serial)
    → behind_all a (Begun serial) (between ++ last ∷ []) ≡ Ok WholeZone
begun a serial last [] q others h =
    one_more a (Begun serial) WholeZone last [] (on_by a (Begun serial) last (Some serial) h ∙ second_is a.question serial q) ∙ none_more a WholeZone
begun a serial last (r ∷ rs) q others h =
    one_more a (Begun serial) (InZone serial) r (rs ++ last ∷ []) (on_by a (Begun serial) r None others.0) ∙ in_zone a serial last rs others.1 h

without_end : (rs : List Record) (last : Record) → take (length rs) (rs ++ last ∷ []) ≡ rs
without_end [] last = refl
without_end (r ∷ rs) last = ap (λ xs. r ∷ xs) (without_end rs last)

count : (rs : List Record) (last : Record) → length (rs ++ last ∷ []) ≡ length rs + 1
count [] last = refl
count (r ∷ rs) last = let e : length (rs ++ last ∷ []) ≡ length rs + 1 = count rs last in omega (arith, e)

pub takes_whole_zones : TakesWholeZones
takes_whole_zones = record {
  taken = λ a serial first last between q f others l.
      one_more a Before (Begun serial) first (between ++ last ∷ [])
      (on_by a Before first (Some serial) f ∙ ap (λ (x : Stage). Ok x) (first_is a.question serial q))
      ∙ begun a serial last between q others l;
  said = λ origin first last between held.
      let whole = first ∷ between ++ last ∷ [] in
      let e : length whole - 1 ≡ length (first ∷ between) = let n : length (between ++ last ∷ []) ≡ length between + 1 = count between last in omega (arith, n) in
      ap (λ n. Ok (zone_of (take n whole))) e ∙ ap (λ rs. Ok (zone_of rs)) (without_end (first ∷ between) last);
}

-- ---- differences

-- what a difference gives, behind its second SOA record
given_on : (a : Asked) (newest after : ℕ) (rs more : List Record) → AreOthers a.origin rs → behind_all a (Giving newest after) (rs ++ more) ≡ behind_all a (Giving newest after) more
given_on a newest after rs more others = others_stay a (Giving newest after) (λ r o. on_by a (Giving newest after) r None o) rs more others

-- a difference, behind its first SOA record
step_on : (a : Asked) (newest before after : ℕ) (s : Step) (more : List Record) → IsStep a.origin before after s
    → behind_all a (TakingOut newest) ((s.taken ++ s.to ∷ s.given) ++ more) ≡ behind_all a (Giving newest after) more
step_on a newest before after s more h =
    ap (behind_all a (TakingOut newest)) (append_assoc s.taken (s.to ∷ s.given) more)
    ∙ others_stay a (TakingOut newest) (λ r o. on_by a (TakingOut newest) r None o) s.taken (s.to ∷ s.given ++ more) h.taken
    ∙ one_more a (TakingOut newest) (Giving newest after) s.to (s.given ++ more) (on_by a (TakingOut newest) s.to (Some after) h.to)
    ∙ given_on a newest after s.given more h.given

-- behind the first SOA record of the first of some differences
steps_on : (a : Asked) (newest before : ℕ) (last : Record) (s : Step) (steps : List Step) → Lead a.origin newest before (s ∷ steps) → IsRecord a.origin last (Some newest)
    → behind_all a (TakingOut newest) ((s.taken ++ s.to ∷ s.given) ++ (flat_map records_of steps ++ last ∷ [])) ≡ Ok AllDifferences
steps_on a newest before last s [] h l =
    step_on a newest before newest s (last ∷ []) h
    ∙ one_more a (Giving newest newest) AllDifferences last []
    (on_by a (Giving newest newest) last (Some newest) l
    ∙ ap (λ (b : Bool). if not b then Err OtherSerial else (if b then Ok AllDifferences else Ok (TakingOut newest))) (same newest))
    ∙ none_more a AllDifferences
steps_on a newest before last s (t ∷ steps) (after, step, other, lead) l =
    step_on a newest before after s (flat_map records_of (t ∷ steps) ++ last ∷ []) step
    ∙ ap (behind_all a (Giving newest after)) (append_assoc (records_of t) (flat_map records_of steps) (last ∷ []))
    ∙ one_more a (Giving newest after) (TakingOut newest) t.from ((t.taken ++ t.to ∷ t.given) ++ (flat_map records_of steps ++ last ∷ []))
    (on_by a (Giving newest after) t.from (Some after) (begins t steps lead)
    ∙ ap (λ (b : Bool). if not b then Err OtherSerial else (if after == newest then Ok AllDifferences else Ok (TakingOut newest))) (same after)
    ∙ ap (λ (b : Bool). if b then Ok AllDifferences else Ok (TakingOut newest)) other)
    ∙ steps_on a newest after last t steps lead l
  where
    begins : (t : Step) (steps : List Step) → Lead a.origin newest after (t ∷ steps) → IsRecord a.origin t.from (Some after)
    begins t [] h = h.from
    begins t (u ∷ steps) (next, step, other, lead) = step.from

pub takes_differences : TakesDifferences
takes_differences a held newest first last [] q newer f lead l = absurd lead
takes_differences a held newest first last (s ∷ steps) q newer f lead l =
    one_more a Before (Begun newest) first (flat_map records_of (s ∷ steps) ++ last ∷ [])
    (on_by a Before first (Some newest) f ∙ ap (λ (x : Question). Ok (behind_first x newest)) q
    ∙ ap (λ (b : Bool). Ok (if b then Begun newest else SerialAlone newest)) newer)
    ∙ ap (behind_all a (Begun newest)) (append_assoc (records_of s) (flat_map records_of steps) (last ∷ []))
    ∙ one_more a (Begun newest) (TakingOut newest) s.from ((s.taken ++ s.to ∷ s.given) ++ (flat_map records_of steps ++ last ∷ []))
    (on_by a (Begun newest) s.from (Some held) (begins steps lead)
    ∙ ap (λ (x : Question). behind_second x newest held) q
    ∙ ap (λ (b : Bool). if b then Ok (TakingOut newest) else behind_zone newest held) (same held))
    ∙ steps_on a newest held last s steps lead l
  where
    begins : (steps : List Step) → Lead a.origin newest held (s ∷ steps) → IsRecord a.origin s.from (Some held)
    begins [] h = h.from
    begins (u ∷ steps) (next, step, other, lead) = step.from
