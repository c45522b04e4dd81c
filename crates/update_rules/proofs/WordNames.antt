-- A word is read as a name, or is none
use Rattle.std.proofs.Common.{◌≡◌, ◌≢◌, ◌⊎◌, inl, inr, ℕ, List, None, sym, subst, ◌∙◌}
use Rattle.std.specs.Prelude.{Option, Result, Ok, Err, IfOk, OnOk}
use Rattle.zone_proto.specs.declared.error.ProtoError.{ProtoError}
use Rattle.zone_proto.specs.declared.error.ProtoError.TheVariants as proto
use Rattle.zone_proto.specs.Faults.{IsTextFault}
use Rattle.zone_proto.specs.Names.{Name}
use Rattle.line_text.specs.Reading.{name_of_word}
use Rattle.line_text.proofs.ReadingFacts.{name_not_text, name_read, name_refused}

no_word : (w t : List ℕ) (e : ProtoError) → t ≡ w → ((e ≡ proto.Memory) ⊎ IsTextFault t e) → e ≢ proto.Memory → name_of_word w ≡ None
no_word w t e same (inl memory) fault = absurd (fault memory)
no_word w t e same (inr bad) fault = name_refused w e (let P : List ℕ → Type 0 = λ s. IsTextFault s e in subst P same bad)

pub refused_word : {E : Type 0} (w t : List ℕ) (e : ProtoError) (r : Result (Option Name) E) → t ≡ w → ((e ≡ proto.Memory) ⊎ IsTextFault t e)
    → IfOk r (λ n. n ≡ None) → OnOk r (e ≢ proto.Memory) → IfOk r (λ n. n ≡ name_of_word w)
refused_word w t e (Ok n) same bad none fault = none ∙ sym (no_word w t e same bad fault)
refused_word w t e (Err x) same bad none fault = tt

pub ruleset naming = (name_not_text, name_read)
