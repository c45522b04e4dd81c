-- How far the messages of a response are checked (RFC 8945 section 5.3.1)
use Rattle.std.specs.Prelude.{ℕ, ◌==◌, ◌&&◌, Bool, true, false, List}
use Rattle.message_tsig.specs.Signing.{of_message, of_request, Prior}

-- the MAC that comes before the next message in what its own MAC is made of, the messages without a TSIG since, one behind the other, and
-- how many these are
pub record Checking : Type 0 where
  pub prior : Prior
  pub since : List ℕ
  pub count : ℕ

-- a message with a TSIG came
abbrev pub is_behind_first : Prior → Bool
is_behind_first (of_request mac) = false
is_behind_first (of_message mac) = true

-- the last message had a TSIG
abbrev pub is_complete : Checking → Bool
is_complete c = is_behind_first c.prior && (c.count == 0)
