-- A response for whose TSIG there is room goes out whole
use Rattle.std.proofs.Common.{◌≡◌, ℕ, ◌+◌, ◌≤◌, Bool, cond, List, length, ap}
use Rattle.std.proofs.lemmas.Bool.{le-leb}
use Rattle.message_tsig.specs.Replies.{header_text, truncated_text}
use Rattle.message_tsig.specs.Signing.{fitting, has_room}

pub fits : (limit size : ℕ) (message : List ℕ) → length message + size ≤ limit → fitting limit size message ≡ message
fits limit size message room =
    ap (λ (b : Bool). cond b message (cond (has_room limit size (truncated_text message)) (truncated_text message) (header_text message)))
    (le-leb (length message + size) limit room)
