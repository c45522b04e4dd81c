-- A journal: frames, one behind the other
use Rattle.std.specs.Prelude.{◌≡◌, ◌≢◌, ℕ, zero, suc, ◌^◌, ◌<◌, ◌≤◌, List, [], ◌∷◌, ◌++◌, length, take, fold, Option, Some, None}
use Rattle.std.specs.List.{AllByRecursion}
use Rattle.journal_frames.specs.Frames.{checksum, frame_at, framed, number_octets}

-- the journal of these messages
abbrev pub journal_of : List (List ℕ) → List ℕ
journal_of [] = []
journal_of (m ∷ ms) = framed m ++ journal_of ms

-- messages whose lengths have four octets
abbrev pub AreMessages : List (List ℕ) → Type 0
AreMessages = AllByRecursion (λ m. length m < 2 ^ 32)

-- the message in front, if there is one, and those behind it
abbrev pub with_next : (List ℕ → List (List ℕ)) → Option (List ℕ × List ℕ) → List (List ℕ)
with_next behind None = []
with_next behind (Some f) = f.0 ∷ behind f.1

-- the messages of the whole frames that octets begin with, at most so many
unfoldable pub frames_from : ℕ → List ℕ → List (List ℕ)
frames_from zero octets = []
frames_from (suc n) octets = with_next (frames_from n) (frame_at octets)

-- the messages of all whole frames that octets begin with: of these there are fewer than octets
abbrev pub frames_in : List ℕ → List (List ℕ)
frames_in octets = frames_from (length octets) octets

-- the octets of these frames
abbrev pub whole : List ℕ → List ℕ
whole octets = journal_of (frames_in octets)

-- ---- laws

-- the messages of a journal are those that were put there, in their order
abbrev pub FramesAreMessages : Type 0
FramesAreMessages = (ms : List (List ℕ)) → AreMessages ms → frames_in (journal_of ms) ≡ ms

-- whatever stands behind a journal, its messages come first
abbrev pub FramesStand : Type 0
FramesStand = (ms : List (List ℕ)) → AreMessages ms → (behind : List ℕ) → frames_in (journal_of ms ++ behind) ≡ ms ++ frames_in behind

-- of a journal that is cut off behind any octet the messages are the first ones
abbrev pub CutsAreFronts : Type 0
CutsAreFronts = (ms : List (List ℕ)) → AreMessages ms → (k : ℕ) → (j : ℕ) × (j ≤ length ms) × (frames_in (take k (journal_of ms)) ≡ take j ms)

-- a frame whose message was written in part or wrongly, so that its checksum is another, ends the messages
abbrev pub TornFramesEnd : Type 0
TornFramesEnd = (ms : List (List ℕ)) → AreMessages ms → (m torn : List ℕ) → length m < 2 ^ 32 → checksum (take (length m) torn) ≢ checksum m
    → frames_in (journal_of ms ++ (number_octets (length m) ++ (checksum m ++ torn))) ≡ ms

-- what a journal replays to, where a message makes of what is there what comes next
abbrev pub replayed : {Z : Type 0} → (Z → List ℕ → Z) → Z → List ℕ → Z
replayed step z octets = fold step z (frames_in octets)

-- a journal that is cut off behind any octet replays to what was there once the first messages were taken, so many as are whole
abbrev pub ReplaysWereThere : Type 0 → Type 0
ReplaysWereThere Z = (step : Z → List ℕ → Z) (z : Z) (ms : List (List ℕ)) → AreMessages ms → (k : ℕ)
    → (j : ℕ) × (j ≤ length ms) × (replayed step z (take k (journal_of ms)) ≡ fold step z (take j ms))
