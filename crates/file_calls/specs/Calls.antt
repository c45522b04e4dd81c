-- What the calls of a program that isn't written in Rattle do to the texts of files that it keeps
use Rattle.std.specs.Prelude.{◌≡◌, ◌<◌, ℕ, List, [], drop, length, slice_get, Option, Some, None, Result}
use Rattle.std.specs.Str.{IsUtf8}
use Rattle.call_handles.specs.Rooms.{IsUntouched, StandsIn}
use Rattle.included_texts.specs.declared.kept.KeptTexts.{KeptTexts}
use Rattle.included_texts.specs.declared.kept.Lack.{Lack}
use Rattle.included_texts.specs.Kept.{IsPut, IsSame, kept_of}
use Rattle.included_texts.specs.Kept as kept
use Rattle.file_calls.specs.declared.outcome.FileOutcome.{FileOutcome}
use Rattle.file_calls.specs.declared.outcome.FileOutcome.TheVariants.{Done, NoMemory, NoRoom, NoFile, BadFileName}

-- ---- what a handle holds, which is nothing where it is empty

-- what is kept of the file of each name
abbrev pub kept_in : Option KeptTexts → List ℕ → Option (Result (List ℕ) Lack)
kept_in None name = None
kept_in (Some texts) name = kept_of texts name

-- the names of the files that are wanted besides
abbrev pub wanted_in : Option KeptTexts → List (List ℕ)
wanted_in None = []
wanted_in (Some texts) = kept.wanted_in texts

-- the same is kept, and the same files are wanted
pub record HoldSame (old new : Option KeptTexts) : Type 0 where
  pub kept : IsSame (kept_in old) (kept_in new)
  pub wanted : wanted_in new ≡ wanted_in old

-- ---- what the calls do

-- this is kept of the file of a name, in place of what was kept of it; or nothing changes: the name isn't UTF-8, or no memory was found
abbrev pub KeepsFile : List ℕ → Result (List ℕ) Lack → Option KeptTexts → FileOutcome → Option KeptTexts → Type 0
KeepsFile name file old Done new = IsPut name file (kept_in old) (kept_in new) × (wanted_in new ≡ wanted_in old)
KeepsFile name file old BadFileName new = (IsUtf8 name → ⊥) × HoldSame old new
KeepsFile name file old NoMemory new = HoldSame old new
KeepsFile name file old outcome new = ⊥

-- the first name that is wanted is in the room, and isn't handed out again; or its length alone is told, where it is longer than the room;
-- or none is wanted
abbrev pub GivesFirst : Option (List ℕ) → FileOutcome → ℕ → List ℕ → List ℕ → List (List ℕ) → List (List ℕ) → Type 0
GivesFirst None NoFile written before after old new = IsUntouched written before after × (new ≡ old)
GivesFirst (Some name) Done written before after old new = (written ≡ length name) × StandsIn name before after × (new ≡ drop 1 old)
GivesFirst (Some name) NoRoom written before after old new = (length before < length name) × (written ≡ length name) × (after ≡ before) × (new ≡ old)
GivesFirst name outcome written before after old new = ⊥

abbrev pub GivesName : List (List ℕ) → FileOutcome → ℕ → List ℕ → List ℕ → List (List ℕ) → Type 0
GivesName old outcome written before after new = GivesFirst (slice_get old 0) outcome written before after old new
