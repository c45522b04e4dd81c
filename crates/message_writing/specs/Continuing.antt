-- What was written is read back, in whatever message it comes to stand
use Rattle.std.specs.Prelude.{◌≡◌, ℕ, ◌+◌, List, [], ◌∷◌, ◌++◌, length, drop, Option, Some}

-- A message has these octets, but for the 12 of its header, which may still change, and then the rest, to its end.
pub record Continues (before rest message : List ℕ) : Type 0 where
  pub size : length message ≡ length before + length rest
  pub body : drop 12 message ≡ drop 12 before ++ rest

-- a reading of the last octets of a message
abbrev pub Reading : Type 0 → Type 0
Reading A = List ℕ → List ℕ → Option (A × List ℕ)

-- Written behind these octets, it is read as a value in each message that goes on with them, whatever follows.
abbrev pub ReadsBack : {A : Type 0} → Reading A → List ℕ → List ℕ → A → Type 0
ReadsBack read before written x =
    (message after : List ℕ) → Continues before (written ++ after) message
    → read message (written ++ after) ≡ Some (x, after)

-- a value was written behind what was there
pub record Appends {A : Type 0} (read : Reading A) (old new : List ℕ) (x : A) : Type 0 where
  pub written : List ℕ
  pub is : new ≡ old ++ written
  pub back : ReadsBack read old written x

-- values were written one behind the other
abbrev pub AppendsAll : {A : Type 0} → Reading A → List ℕ → List ℕ → List A → Type 0
AppendsAll read old new [] = new ≡ old
AppendsAll read old new (x ∷ xs) = (mid : List ℕ) × Appends read old mid x × AppendsAll read mid new xs
