-- Which version is held after an event, how long it is served, and how long a question waits
use Rattle.std.proofs.Common.{◌≡◌, ℕ, ◌+◌, ◌-◌, ◌<◌, ◌≤◌, ◌^◌, Bool, true, false, cond, not, Some, None, refl, sym, ap, arith}
use Rattle.std.specs.Prelude.{Option, min, nat_le}
use Rattle.std.proofs.lemmas.Bool.Decides.{nat_tests}
use Rattle.zone_secondary.specs.declared.secondary.Held.{Held}
use Rattle.zone_secondary.specs.declared.secondary.Poll.{Poll}
use Rattle.zone_secondary.specs.declared.secondary.Poll.TheVariants.{Newer, Same, Older}
use Rattle.zone_secondary.specs.declared.secondary.Question.{Question}
use Rattle.zone_secondary.specs.declared.secondary.Question.TheVariants.{Soa, Changes, Zone}
use Rattle.zone_secondary.specs.States.{at_once, failed_by, first_question, is_known, notified, poll_of, polled, polled_by, State, wait_to_retry}
use Rattle.zone_secondary.specs.StateLaws.{IsServedUntilExpiry, KeepsVersion, version_of, WaitsASecond}
use Rattle.zone_secondary.specs.Waits.{later}

notified_keeps : (s : State) (hint : Option ℕ) (now : ℕ) → version_of (notified s hint now).held ≡ version_of s.held
notified_keeps s hint now = by (is_known s.held hint)
  where
    by : (b : Bool) → version_of (cond b s (at_once s (first_question s.held) (min s.due.from now))).held ≡ version_of s.held
    by true = refl
    by false = refl

polled_keeps : (s : State) (serial now : ℕ) → version_of (polled s s.held serial now).held ≡ version_of s.held
polled_keeps s serial now = by s.held refl
  where
    held_by : (h : Held) (p : Poll) → s.held ≡ Some h → version_of (polled_by s h p now).held ≡ version_of s.held
    held_by h Newer e = refl
    held_by h Same e = ap version_of (sym e)
    held_by h Older e = refl

    by : (o : Option Held) → s.held ≡ o → version_of (polled s o serial now).held ≡ version_of s.held
    by None e = refl
    by (Some h) e = held_by h (poll_of serial h.version) e

failed_keeps : (s : State) (q : Question) (now : ℕ) → version_of (failed_by s q now).held ≡ version_of s.held
failed_keeps s (Changes serial) now = refl
failed_keeps s Soa now = refl
failed_keeps s Zone now = refl

pub keeps_version : KeepsVersion
keeps_version = record {
  ask = λ s now. refl;
  notify = λ s hint now. notified_keeps s hint now;
  poll = λ s serial now. polled_keeps s serial now;
  fail = λ s now. failed_keeps s s.due.question now;
}

not_over : (over at : ℕ) → at < over → not (nat_le over at) ≡ true
not_over over at less = grind (arith, nat_tests)

is_over_then : (over at : ℕ) → over ≤ at → not (nat_le over at) ≡ false
is_over_then over at more = grind (arith, nat_tests)

pub served_until_expiry : IsServedUntilExpiry
served_until_expiry = record {
  before = λ version now at less. not_over (later now version.expire) at less;
  after = λ version now at more. is_over_then (later now version.expire) at more;
}

positive : (o : Option Held) → 1 ≤ wait_to_retry o
positive None = omega arith
positive (Some h) = omega arith

sooner : (now wait : ℕ) → 1 ≤ wait → now + 1 < 2 ^ 64 → now < min (now + wait) (2 ^ 64 - 1)
sooner now wait one last = omega arith

pub waits_a_second : WaitsASecond
waits_a_second = λ s now last. sooner now (wait_to_retry s.held) (positive s.held) last
