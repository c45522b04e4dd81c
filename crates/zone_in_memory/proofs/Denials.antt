-- The denial of a name that isn't there
use Rattle.std.proofs.Common.{◌≡◌, Bool, true, false, cond, refl, ap}
use Rattle.zone_proto.specs.Names.{Name, IsAtOrAbove, is_at_or_above}
use Rattle.zone_proto.proofs.Names.NameTree.{is_at_or_above_sound, is_at_or_above_complete}
use Rattle.zone_lookup.specs.Replies.{nx_domain, refused, absent}
use Rattle.zone_in_memory.specs.Lookup.{error_of}

pub absent_inside : (origin n : Name) → IsAtOrAbove origin n → error_of (absent origin n) ≡ error_of nx_domain
absent_inside origin n h = ap (λ b. error_of (cond b nx_domain refused)) (is_at_or_above_complete origin n h)

pub absent_outside : (origin n : Name) → (IsAtOrAbove origin n → ⊥) → error_of (absent origin n) ≡ error_of refused
absent_outside origin n h = ap (λ b. error_of (cond b nx_domain refused)) (by (is_at_or_above origin n) refl)
  where
    by : (b : Bool) → is_at_or_above origin n ≡ b → b ≡ false
    by true e = absurd (h (is_at_or_above_sound origin n e))
    by false e = refl
