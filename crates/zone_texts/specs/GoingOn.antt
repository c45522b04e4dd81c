-- Where reading goes on behind a fault: with the next entry; or, where a text can't be cut into entries, behind the line of the fault,
-- with the first line that begins with an owner or a control entry
use Rattle.std.specs.Prelude.{◌≤◌, ◌<◌, ◌==◌, ◌&&◌, ◌||◌, not, ℕ, zero, suc, List, [], ◌∷◌, length, take, get_or, count_by, Bool, false, IsTrue, IsFalse, nat_le, Option, Some, None, unwrap_or}
use Rattle.zone_scanner.specs.declared.fault.EntryFault.{EntryFault}
use Rattle.zone_scanner.specs.Entries.{Event, Whole, Broken}
use Rattle.zone_file.specs.declared.context.Context.{Context}

-- ---- entries

-- what the next entries take from those before one with a fault: the same as that did, and an owner and a TTL where there was none,
-- since it may have been the one to give them
abbrev pub behind_fault : Context → Context
behind_fault c = record c { owner = Some (unwrap_or c.owner c.origin); last_ttl = Some (unwrap_or c.last_ttl 0) }

-- ---- texts

-- the fault with which a text's entries end, where it can't be cut into further ones
abbrev pub fault_in : List Event → Option EntryFault
fault_in [] = None
fault_in (Broken f ∷ es) = Some f
fault_in (Whole e ∷ es) = fault_in es

-- an owner or a control entry begins with no blank, no tab, no line end, no comment and no parenthesis that closes
abbrev pub begins_entry : ℕ → Bool
begins_entry b = not (b == 32 || (b == 9 || (b == 13 || (b == 10 || (b == 59 || b == 41)))))

-- before a place of a text a line ends
abbrev pub ends_line : List ℕ → ℕ → Bool
ends_line text zero = false
ends_line text (suc at) = get_or text at 0 == 10

-- at a place of a text such a line begins, before which this one and all before it have ended
abbrev pub is_start : List ℕ → ℕ → ℕ → Bool
is_start text line at = ends_line text at && (nat_le line (count_by (λ b. b == 10) (take at text)) && begins_entry (get_or text at 10))

-- the first of these places, or the end of the text
pub record GoesOnAt (text : List ℕ) (line at : ℕ) : Type 0 where
  pub within : at ≤ length text
  pub start : at < length text → IsTrue (is_start text line at)
  pub first : (earlier : ℕ) → earlier < at → IsFalse (is_start text line earlier)
