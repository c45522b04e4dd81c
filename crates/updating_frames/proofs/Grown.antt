-- What is known of journals
use Rattle.std.proofs.Common.{List, [], refl, sym, append-nil}
use Rattle.std.specs.Prelude.{Option, Some, None}
use Rattle.updating_frames.specs.Journals.{Entry, Grows}
use Rattle.updating_frames.specs.Turns.{State, Stays}

pub grows_by_none : (es : Option (List Entry)) → Grows es es []
grows_by_none None = tt
grows_by_none (Some xs) = sym (append-nil xs)

pub stays : (s : State) → Stays s s
stays s = record { access = refl; updates = refl; zones = refl; entries = grows_by_none s.entries }
