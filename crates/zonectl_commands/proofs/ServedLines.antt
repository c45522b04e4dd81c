-- Lines that are served one after the other
use Rattle.std.proofs.Common.{◌≡◌, ◌++◌, ◌+◌, ◌&&◌, ◌∙◌, ℕ, List, [], ◌∷◌, Bool, true, false, Option, None, length, refl, sym, true≢false, ap, subst, arith, append_assoc, append-nil, length-append}
use Rattle.std.proofs.KnownBytes.{Appends-nil, Appends-trans, Consumes-nil, Consumes-trans}
use Rattle.std.specs.Bool.{OnFalse}
use Rattle.std.specs.Io.KnownBytes.{Appends, Consumes, IsAtEnd}
use Rattle.zonectl_commands.specs.declared.command.Command.{Command}
use Rattle.zonectl_commands.specs.InHand.{HasNoFeed, InHand, IsBegun, IsUntaken, TakesLine}
use Rattle.zonectl_commands.specs.Lines.{lines_of}
use Rattle.zonectl_commands.specs.Serving.{Moves, TakesNext}
use Rattle.zonectl_commands.specs.Transcripts.{AnswersLine, IsTranscript}

-- ---- what is written and what waits

pub nothing_moved : (waiting : List ℕ) (w : Option (List ℕ)) → Moves waiting w w waiting
nothing_moved waiting w = record { written = []; parts = refl; appended = Appends-nil w }

-- one writing after another, where octets came in between
pub moved_on : (a b t c : List ℕ) (u v w : Option (List ℕ)) → Moves a u v b → Moves (b ++ t) v w c → Moves (a ++ t) u w c
moved_on a b t c u v w first second = record {
  written = first.written ++ second.written;
  parts = ap (λ xs. xs ++ t) first.parts ∙ append_assoc first.written b t ∙ ap (λ xs. first.written ++ xs) second.parts ∙ sym (append_assoc first.written second.written c);
  appended = Appends-trans u v w first.written second.written first.appended second.appended;
}

pub moved_then : (a b c : List ℕ) (u v w : Option (List ℕ)) → Moves a u v b → Moves b v w c → Moves a u w c
moved_then a b c u v w first second =
    let P : List ℕ → Type 0 = λ xs. Moves xs u w c in
    let Q : List ℕ → Type 0 = λ xs. Moves xs v w c in
    subst P (append-nil a) (moved_on a b [] c u v w first (subst Q (sym (append-nil b)) second))

-- all that waits is written
pub moved_all : (waited : List ℕ) (v w : Option (List ℕ)) (left : List ℕ) → left ≡ [] → Appends v w waited → Moves waited v w left
moved_all waited v w left none h = record {
  written = waited;
  parts = sym (ap (λ xs. waited ++ xs) none ∙ append-nil waited);
  appended = h;
}

pub all_written : (waited left : List ℕ) (v w : Option (List ℕ)) → Moves waited v w left → left ≡ [] → Appends v w waited
all_written waited left v w moves none =
    let all : moves.written ≡ waited = sym (moves.parts ∙ ap (λ xs. moves.written ++ xs) none ∙ append-nil moves.written) in
    subst (Appends v w) all moves.appended

-- ---- transcripts

and_assoc : (a b c : Bool) → ((a && b) && c) ≡ (a && (b && c))
and_assoc true b c = refl
and_assoc false b c = refl

module _ {S : Type 0} (carries : S → Command → List ℕ → S → Type 0) where
  -- of one line
  pub one_line : (s : S) (n : ℕ) (line : Option (List ℕ)) (text : List ℕ) (good : Bool) (t : S) → AnswersLine carries s n line text good t → IsTranscript carries s n (line ∷ []) text good t
  one_line s n line text good t h = (t, text, [], good, true, h, (refl, refl, refl), sym (append-nil text), sym (right_true good))
    where
      right_true : (b : Bool) → (b && true) ≡ b
      right_true true = refl
      right_true false = refl

  -- the same transcript
  pub moved_transcript : (s u : S) (n m : ℕ) (lines : List (Option (List ℕ))) (text other : List ℕ) (good all_good : Bool) (t : S)
      → u ≡ s → m ≡ n → text ≡ other → good ≡ all_good → IsTranscript carries u m lines text good t → IsTranscript carries s n lines other all_good t
  moved_transcript s u n m lines text other good all_good t a b c d h =
      let A : S → Type 0 = λ x. IsTranscript carries x m lines text good t in
      let B : ℕ → Type 0 = λ x. IsTranscript carries s x lines text good t in
      let C : List ℕ → Type 0 = λ x. IsTranscript carries s n lines x good t in
      let D : Bool → Type 0 = λ x. IsTranscript carries s n lines other x t in
      subst D d (subst C c (subst B b (subst A a h)))

  -- of lines and of others behind them
  pub joined_transcripts : (s : S) (n : ℕ) (xs ys : List (Option (List ℕ))) (first more : List ℕ) (good all_good : Bool) (u t : S)
      → IsTranscript carries s n xs first good u
      → IsTranscript carries u (n + length xs) ys more all_good t
      → IsTranscript carries s n (xs ++ ys) (first ++ more) (good && all_good) t
  joined_transcripts s n [] ys first more good all_good u t (none, is_good, same) h =
      moved_transcript s u n (n + 0) ys more (first ++ more) all_good (good && all_good) t
      same (omega arith) (sym (ap (λ xs. xs ++ more) none)) (sym (ap (λ b. b && all_good) is_good)) h
  joined_transcripts s n (x ∷ xs) ys first more good all_good u t (v, a, b, is_good, others, line, rest, text, all) h =
      let P : ℕ → Type 0 = λ m. IsTranscript carries u m ys more all_good t in
      let after : n + length (x ∷ xs) ≡ n + 1 + length xs = omega arith in (
        v,
        a,
        b ++ more,
        is_good,
        others && all_good,
        line,
        joined_transcripts v (n + 1) xs ys b more others all_good u t rest (subst P after h),
        ap (λ xs. xs ++ more) text ∙ append_assoc a b more,
        ap (λ g. g && all_good) all ∙ and_assoc is_good others all_good,
      )

  -- and the transcripts of both parts
  pub parted_transcripts : (s : S) (n : ℕ) (xs ys : List (Option (List ℕ))) (text : List ℕ) (good : Bool) (t : S)
      → IsTranscript carries s n (xs ++ ys) text good t
      → (u : S) × (first more : List ℕ) × (is_good all_good : Bool) × IsTranscript carries s n xs first is_good u × IsTranscript carries u (n + length xs) ys more all_good t
      × (text ≡ first ++ more) × (good ≡ (is_good && all_good))
  parted_transcripts s n [] ys text good t h =
      (s, [], text, true, good, (refl, refl, refl), moved_transcript s s (n + 0) n ys text text good good t refl (omega arith) refl refl h, refl, refl)
  parted_transcripts s n (x ∷ xs) ys text good t (v, a, b, is_good, others, line, rest, whole, all) =
      by (parted_transcripts v (n + 1) xs ys b others t rest)
    where
      Parts : Type 0
      Parts = (u : S) × (first more : List ℕ) × (first_good all_good : Bool) × IsTranscript carries s n (x ∷ xs) first first_good u × IsTranscript carries u (n + length (x ∷ xs)) ys more all_good t
          × (text ≡ first ++ more) × (good ≡ (first_good && all_good))

      by : (u : S) × (first more : List ℕ) × (g h : Bool) × IsTranscript carries v (n + 1) xs first g u × IsTranscript carries u (n + 1 + length xs) ys more h t × (b ≡ first ++ more) × (others ≡ (g && h)) → Parts
      by (u, first, more, g, h, front, back, parts, goods) =
          let P : ℕ → Type 0 = λ m. IsTranscript carries u m ys more h t in
          let after : n + 1 + length xs ≡ n + length (x ∷ xs) = omega arith in (
            u,
            a ++ first,
            more,
            is_good && g,
            h,
            (v, a, first, is_good, g, line, front, refl, refl),
            subst P after back,
            whole ∙ ap (λ xs. a ++ xs) parts ∙ sym (append_assoc a first more),
            all ∙ ap (λ b. is_good && b) goods ∙ sym (and_assoc is_good g h),
          )

  -- ---- the lines that were served so far

  -- a session before all lines, what a reader had left and a writer held then, and what these are after so many lines, of which all are good or not
  pub record HasServed (before : S) (r v : Option (List ℕ)) (s : S) (n : ℕ) (good : Bool) (hand : InHand) (remaining contents : Option (List ℕ)) (waiting : List ℕ) : Type 0 where
    pub octets : List ℕ
    pub untaken : List ℕ
    pub served : List (Option (List ℕ))
    pub text : List ℕ
    pub consumed : Consumes r remaining octets
    pub held : IsUntaken hand untaken
    pub lines : (more : List ℕ) → lines_of (octets ++ more) ≡ served ++ lines_of (untaken ++ more)
    pub count : length served ≡ n
    pub answered : IsTranscript carries before 1 served text good s
    pub written : Moves text v contents waiting

  pub none_served : (s : S) (r v : Option (List ℕ)) (hand : InHand) (waiting : List ℕ) → IsUntaken hand [] → waiting ≡ [] → HasServed s r v s 0 true hand r v waiting
  none_served s r v hand waiting held none = record {
    octets = [];
    untaken = [];
    served = [];
    text = [];
    consumed = Consumes-nil r;
    held = held;
    lines = λ more. refl;
    count = refl;
    answered = (refl, refl, refl);
    written = moved_all [] v v waiting none (Appends-nil v);
  }

  -- one line more
  pub line_served : (before : S) (r v : Option (List ℕ)) (s : S) (n : ℕ) (good : Bool) (hand : InHand) (r1 v1 : Option (List ℕ)) (waiting1 : List ℕ)
      (line : Option (List ℕ)) (hand2 : InHand) (r2 v2 : Option (List ℕ)) (waiting2 : List ℕ) (u : S) (is_good : Bool) (v3 : Option (List ℕ)) (waiting3 : List ℕ)
      → HasServed before r v s n good hand r1 v1 waiting1
      → ((octets : List ℕ) → IsUntaken hand octets → ((read : List ℕ) × Consumes r1 r2 read × ((left : List ℕ) × IsUntaken hand2 left × TakesLine (octets ++ read) line left)))
      → Moves waiting1 v1 v2 waiting2
      → ((text : List ℕ) × AnswersLine carries s (n + 1) line text is_good u × Moves (waiting2 ++ text) v2 v3 waiting3)
      → HasServed before r v u (n + 1) (good && is_good) hand2 r2 v3 waiting3
  line_served before r v s n good hand r1 v1 waiting1 line hand2 r2 v2 waiting2 u is_good v3 waiting3 h next moved (text, answer, moves) =
      by (next h.untaken h.held)
    where
      by : (read : List ℕ) × Consumes r1 r2 read × ((left : List ℕ) × IsUntaken hand2 left × TakesLine (h.untaken ++ read) line left) → HasServed before r v u (n + 1) (good && is_good) hand2 r2 v3 waiting3
      by (read, consumes, (left, held, takes)) =
          let P : ℕ → Type 0 = λ m. IsTranscript carries s m (line ∷ []) text is_good u in
          let number : n + 1 ≡ 1 + length h.served = omega (arith, h.count) in
          record {
            octets = h.octets ++ read;
            untaken = left;
            served = h.served ++ line ∷ [];
            text = h.text ++ text;
            consumed = Consumes-trans r r1 r2 h.octets read h.consumed consumes;
            held = held;
            lines = λ more.
                ap lines_of (append_assoc h.octets read more) ∙ h.lines (read ++ more)
                ∙ ap (λ xs. h.served ++ lines_of xs) (sym (append_assoc h.untaken read more))
                ∙ ap (λ ls. h.served ++ ls) (takes more) ∙ sym (append_assoc h.served (line ∷ []) (lines_of (left ++ more)));
            count = length-append h.served (line ∷ []) ∙ (omega (arith, h.count));
            answered = joined_transcripts before 1 h.served (line ∷ []) h.text text good is_good s u h.answered (subst P number (one_line s (n + 1) line text is_good u answer));
            written = moved_on h.text waiting2 text waiting3 v v2 v3 (moved_then h.text waiting1 waiting2 v v1 v2 h.written moved) moves;
          }

  -- all of them
  pub all_served : (before : S) (r v : Option (List ℕ)) (s : S) (n : ℕ) (good : Bool) (hand : InHand) (r1 v1 : Option (List ℕ)) (waiting1 : List ℕ)
      (hand2 : InHand) (r2 v2 : Option (List ℕ)) (waiting2 : List ℕ) (u : S) (is_good : Bool) (v3 : Option (List ℕ))
      → HasServed before r v s n good hand r1 v1 waiting1
      → ((octets : List ℕ) → IsUntaken hand octets → ((read : List ℕ) × Consumes r1 r2 read × TakesNext None (octets ++ read) hand2 r2))
      → Moves waiting1 v1 v2 waiting2
      → ((octets : List ℕ) → IsUntaken hand2 octets → ((text : List ℕ) × IsTranscript carries s (n + 1) (lines_of octets) text is_good u × Appends v2 v3 (waiting2 ++ text)))
      → (octets text : List ℕ) × Consumes r r2 octets × IsAtEnd r2 × IsTranscript carries before 1 (lines_of octets) text (good && is_good) u × Appends v v3 text
  all_served before r v s n good hand r1 v1 waiting1 hand2 r2 v2 waiting2 u is_good v3 h next moved last =
      by (next h.untaken h.held)
    where
      Served : Type 0
      Served = (octets text : List ℕ) × Consumes r r2 octets × IsAtEnd r2 × IsTranscript carries before 1 (lines_of octets) text (good && is_good) u × Appends v v3 text

      end : (read : List ℕ) → Consumes r1 r2 read → IsAtEnd r2 → ((text : List ℕ) × IsTranscript carries s (n + 1) (lines_of (h.untaken ++ read)) text is_good u × Appends v2 v3 (waiting2 ++ text)) → Served
      end read consumes at_end (text, answers, appends) =
          let P : ℕ → Type 0 = λ m. IsTranscript carries s m (lines_of (h.untaken ++ read)) text is_good u in
          let number : n + 1 ≡ 1 + length h.served = omega (arith, h.count) in
          let all = joined_transcripts before 1 h.served (lines_of (h.untaken ++ read)) h.text text good is_good s u h.answered (subst P number answers) in
          let lines : h.served ++ lines_of (h.untaken ++ read) ≡ lines_of (h.octets ++ read) = sym (h.lines read) in
          let Q : List (Option (List ℕ)) → Type 0 = λ ls. IsTranscript carries before 1 ls (h.text ++ text) (good && is_good) u in
          let moves = moved_then h.text waiting1 waiting2 v v1 v2 h.written moved in
          let R : List ℕ → Type 0 = λ xs. Appends v v3 xs in
          let written : moves.written ++ (waiting2 ++ text) ≡ h.text ++ text = sym (append_assoc moves.written waiting2 text) ∙ ap (λ xs. xs ++ text) (sym moves.parts) in (
            h.octets ++ read,
            h.text ++ text,
            Consumes-trans r r1 r2 h.octets read h.consumed consumes,
            at_end,
            subst Q lines all,
            subst R written (Appends-trans v v2 v3 moves.written (waiting2 ++ text) moves.appended appends),
          )

      by : (read : List ℕ) × Consumes r1 r2 read × (IsUntaken hand2 (h.untaken ++ read) × HasNoFeed (h.untaken ++ read) × (hand2.ahead ≡ []) × IsAtEnd r2) → Served
      by (read, consumes, (held, no_feed, nothing, at_end)) = end read consumes at_end (last (h.untaken ++ read) held)

-- ---- what is read

-- what is read behind octets that weren't taken isn't taken either
pub read_behind : (hand : InHand) (new : InHand) (octets : List ℕ) → IsUntaken hand octets → hand.ahead ≡ [] → new ≡ record hand { ahead = new.ahead } → IsUntaken new (octets ++ new.ahead)
read_behind hand new octets u none kept =
    let whole : octets ≡ u.begun = u.whole ∙ ap (λ xs. u.begun ++ xs) none ∙ append-nil u.begun in
    let begun : new.begun ≡ hand.begun = ap (λ (h : InHand). h.begun) kept in
    let P : Option (List ℕ) → Type 0 = λ b. IsBegun b u.begun in
    record {
      begun = u.begun;
      whole = ap (λ xs. xs ++ new.ahead) whole;
      kept = subst P (sym begun) u.kept;
      no_feed = u.no_feed;
    }

-- nothing more was read, and nothing more comes
pub nothing_behind : (hand new : InHand) (octets read : List ℕ) (a b c : Option (List ℕ))
    → IsUntaken hand (octets ++ read) → HasNoFeed (octets ++ read) → hand.ahead ≡ [] → new ≡ record hand { ahead = new.ahead } → new.ahead ≡ []
    → Consumes a b read → Consumes b c new.ahead → IsAtEnd c
    → (x : List ℕ) × Consumes a c x × TakesNext None (octets ++ x) new c
nothing_behind hand new octets read a b c u no_feed used_up kept none first second at_end =
    let P : List ℕ → Type 0 = λ xs. IsUntaken new (octets ++ read ++ xs) in
    let all : IsUntaken new (octets ++ read ++ []) = subst P none (read_behind hand new (octets ++ read) u used_up kept) in
    let Q : List ℕ → Type 0 = λ xs. Consumes a c xs in
    let both : Consumes a c read = subst Q (ap (λ xs. read ++ xs) none ∙ append-nil read) (Consumes-trans a b c read new.ahead first second) in
    (read, both, (subst (IsUntaken new) (append-nil (octets ++ read)) all, no_feed, none, at_end))

-- some more was read
pub more_behind : (hand new : InHand) (octets read : List ℕ) (a b c : Option (List ℕ))
    → IsUntaken hand (octets ++ read) → hand.ahead ≡ [] → new ≡ record hand { ahead = new.ahead } → Consumes a b read → Consumes b c new.ahead
    → (x : List ℕ) × Consumes a c x × IsUntaken new (octets ++ x)
more_behind hand new octets read a b c u used_up kept first second = (
  read ++ new.ahead,
  Consumes-trans a b c read new.ahead first second,
  subst (IsUntaken new) (append_assoc octets read new.ahead) (read_behind hand new (octets ++ read) u used_up kept),
)

-- ---- what answers to calls say

pub on_false : (P : Type 0) (b : Bool) → b ≡ false → OnFalse b P → P
on_false P true e h = absurd (true≢false e)
on_false P false e h = h
