-- Transcripts in parts, and lines that change nothing
use Rattle.std.proofs.Common.{◌≡◌, ◌≢◌, ◌++◌, ◌+◌, ◌&&◌, ◌∙◌, ◌==◌, arith, append_assoc, append-nil, eq-eqb, ℕ, List, [], ◌∷◌, Bool, true, false, Option, Some, None, true≢false, refl, sym, ap, subst, inl, inr}
use Rattle.std.specs.Prelude.{IsTrue}
use Rattle.std.specs.Str.Lines.{strip_carriage_return}
use Rattle.std.proofs.lemmas.Bool.{eqb-true}
use Rattle.std.proofs.lemmas.List.Elements.{All-append}
use Rattle.zonectl_commands.specs.InHand.{HasNoFeed}
use Rattle.zonectl_commands.specs.Lines.{lines_of, plain}
use Rattle.zonectl_commands.proofs.LineFacts.{first_line_of}
use Rattle.zonectl_commands.specs.declared.command.Command.{Command}
use Rattle.zonectl_commands.specs.Commands.{said_by}
use Rattle.zonectl_commands.specs.Transcripts.{bad_line, AnswersLine, AnswersSaid, IsTranscript}
use Rattle.zonectl_commands.specs.TranscriptLaws.{IsInParts, LinesJoin, NoCommandChangesNothing, NumbersChangeNoSession, SaysNoCommand, TranscriptsJoin}
use Rattle.zonectl_commands.proofs.ServedLines.{joined_transcripts, moved_transcript, parted_transcripts}

module _ (S : Type 0) (carries : S → Command → List ℕ → S → Type 0) where
  parted : (s : S) (n : ℕ) (xs ys : List (Option (List ℕ))) (text : List ℕ) (good : Bool) (t : S) → IsTranscript carries s n (xs ++ ys) text good t → IsInParts S carries s n xs ys text good t
  parted s n xs ys text good t h =
      let p = parted_transcripts carries s n xs ys text good t h in
      record { between = p.0; first = p.1; more = p.2; first_good = p.3; more_good = p.4; begins = p.5; goes_on = p.6; whole = p.7; all_good = p.8 }

  joined : (s : S) (n : ℕ) (xs ys : List (Option (List ℕ))) (text : List ℕ) (good : Bool) (t : S) → IsInParts S carries s n xs ys text good t → IsTranscript carries s n (xs ++ ys) text good t
  joined s n xs ys text good t p =
      moved_transcript carries s s n n (xs ++ ys) (p.first ++ p.more) text (p.first_good && p.more_good) good t refl refl (sym p.whole) (sym p.all_good)
      (joined_transcripts carries s n xs ys p.first p.more p.first_good p.more_good p.between t p.begins p.goes_on)

  pub transcripts_join : TranscriptsJoin S carries
  transcripts_join s n xs ys text good t = (parted s n xs ys text good t, joined s n xs ys text good t)

  -- ---- lines without a command

  no_command_said : (s u : S) (n : ℕ) (said : Option (Option Command)) (text : List ℕ) (good : Bool) → ((command : Command) → said ≢ Some (Some command)) → AnswersSaid carries s n said text good u → u ≡ s
  no_command_said s u n None text good none h = h.2
  no_command_said s u n (Some None) text good none h = h.2
  no_command_said s u n (Some (Some command)) text good none h = absurd (none command refl)

  session_stays : (s u : S) (n : ℕ) (line : Option (List ℕ)) (text : List ℕ) (good : Bool) → SaysNoCommand line → AnswersLine carries s n line text good u → u ≡ s
  session_stays s u n None text good none h = h.2
  session_stays s u n (Some line) text good none (inl h) = no_command_said s u n (said_by line) text good none h
  session_stays s u n (Some line) text good none (inr h) = h.2

  pub no_command_changes_nothing : NoCommandChangesNothing S carries
  no_command_changes_nothing s n line lines text good t none (u, first, more, is_good, all_good, answer, rest, whole, all) =
      let same : u ≡ s = session_stays s u n line first is_good none answer in
      let P : S → Type 0 = λ x. AnswersLine carries s n line first is_good x in
      let Q : S → Type 0 = λ x. IsTranscript carries x (n + 1) lines more all_good t in
      (first, more, is_good, all_good, subst P same answer, subst Q same rest, whole, all)

  -- ---- numbers of lines

  -- an answer under another number: of a good line it is the same
  abbrev Renumbered : (List ℕ → Type 0) → List ℕ → Bool → Type 0
  Renumbered IsText text good = (other : List ℕ) × IsText other × (IsTrue good → other ≡ text)

  said_renumbered : (s u : S) (n m : ℕ) (said : Option (Option Command)) (text : List ℕ) (good : Bool) → AnswersSaid carries s n said text good u → Renumbered (λ other. AnswersSaid carries s m said other good u) text good
  said_renumbered s u n m None text good h = (bad_line m, (refl, h.1, h.2), λ is_good. absurd (true≢false (sym is_good ∙ h.1)))
  said_renumbered s u n m (Some None) text good h = (text, h, λ is_good. refl)
  said_renumbered s u n m (Some (Some command)) text good h = (text, h, λ is_good. refl)

  line_renumbered : (s u : S) (n m : ℕ) (line : Option (List ℕ)) (text : List ℕ) (good : Bool) → AnswersLine carries s n line text good u → Renumbered (λ other. AnswersLine carries s m line other good u) text good
  line_renumbered s u n m None text good h = (bad_line m, (refl, h.1, h.2), λ is_good. absurd (true≢false (sym is_good ∙ h.1)))
  line_renumbered s u n m (Some line) text good (inl h) = let r = said_renumbered s u n m (said_by line) text good h in (r.0, inl r.1, r.2)
  line_renumbered s u n m (Some line) text good (inr h) = (text, inr h, λ is_good. refl)

  both_true : (a b c : Bool) → a ≡ (b && c) → IsTrue a → IsTrue b × IsTrue c
  both_true a true c e t = (refl, sym e ∙ t)
  both_true a false c e t = absurd (true≢false (sym t ∙ e))

  pub numbers_change_no_session : NumbersChangeNoSession S carries
  numbers_change_no_session s n m [] text good t h = (text, h, λ is_good. refl)
  numbers_change_no_session s n m (line ∷ lines) text good t (u, first, more, is_good, all_good, answer, rest, whole, all) =
      let a = line_renumbered s u n m line first is_good answer in
      let b = numbers_change_no_session u (n + 1) (m + 1) lines more all_good t rest in (
        a.0 ++ b.0,
        (u, a.0, b.0, is_good, all_good, a.1, b.1, refl, all),
        λ each. let both = both_true good is_good all_good all each in ap (λ xs. xs ++ b.0) (a.2 both.0) ∙ ap (λ xs. first ++ xs) (b.2 both.1) ∙ sym whole,
      )

-- ---- lines of octets in two parts

-- an octet that isn't a line feed comes after others
more_feedless : (l : List ℕ) (c : ℕ) → HasNoFeed l → c ≢ 10 → HasNoFeed (l ++ c ∷ [])
more_feedless l c h n = All-append (λ o. o ≢ 10) l (c ∷ []) h (λ k d m. let first : k ≡ 0 = omega arith in rw first n)

abbrev Joined : List ℕ → List ℕ → List ℕ → Type 0
Joined ys l xs = lines_of (l ++ (xs ++ 10 ∷ ys)) ≡ lines_of (l ++ (xs ++ 10 ∷ [])) ++ lines_of ys

joined_behind : (l xs ys : List ℕ) → HasNoFeed l → Joined ys l xs
joined_behind l [] ys h =
    let line = plain (strip_carriage_return l) in
    let whole : lines_of (l ++ 10 ∷ ys) ≡ line ∷ lines_of ys = ap lines_of (sym (append_assoc l (10 ∷ []) ys)) ∙ first_line_of l [] h ys in
    let alone : lines_of (l ++ 10 ∷ []) ≡ line ∷ [] = ap lines_of (sym (append-nil (l ++ 10 ∷ []))) ∙ first_line_of l [] h [] in
    whole ∙ sym (ap (λ ls. ls ++ lines_of ys) alone)
joined_behind l (x ∷ xs) ys h = by (x == 10) refl (λ none. joined_behind [] xs ys none) (λ more. joined_behind (l ++ x ∷ []) xs ys more)
  where
    by : (b : Bool) → (x == 10) ≡ b → (HasNoFeed [] → Joined ys [] xs) → (HasNoFeed (l ++ x ∷ []) → Joined ys (l ++ x ∷ []) xs) → Joined ys l (x ∷ xs)
    by true e after on =
        let line = plain (strip_carriage_return l) in
        let first : (more : List ℕ) → lines_of (l ++ (x ∷ xs ++ more)) ≡ line ∷ lines_of (xs ++ more) = λ more.
        ap (λ o. lines_of (l ++ (o ∷ xs ++ more))) (eqb-true x 10 e) ∙ ap lines_of (sym (append_assoc l (10 ∷ xs) more)) ∙ first_line_of l xs h more in
        first (10 ∷ ys) ∙ ap (λ ls. line ∷ ls) (after (λ k d m. absurd (omega arith))) ∙ sym (ap (λ ls. ls ++ lines_of ys) (first (10 ∷ [])))
    by false e after on =
        let other : x ≢ 10 = λ is. absurd (true≢false (sym (eq-eqb x 10 is) ∙ e)) in
        let moved : (more : List ℕ) → lines_of (l ++ (x ∷ xs ++ more)) ≡ lines_of ((l ++ x ∷ []) ++ (xs ++ more)) = λ more. ap lines_of (sym (append_assoc l (x ∷ []) (xs ++ more))) in
        moved (10 ∷ ys) ∙ on (more_feedless l x h other) ∙ sym (ap (λ ls. ls ++ lines_of ys) (moved (10 ∷ [])))

pub lines_join : LinesJoin
lines_join xs ys = joined_behind [] xs ys (λ k d m. absurd (omega arith))
