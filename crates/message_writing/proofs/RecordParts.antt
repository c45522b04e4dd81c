-- Cuts and data of a record, as the call that writes it knows them
use Rattle.std.proofs.Common.{◌≡◌, ℕ, ◌-◌, ◌≤◌, Bool, true, List, ◌++◌, length, Option, ap, subst, arith, MatchBool}
use Rattle.std.proofs.lemmas.List.{length-append}
use Rattle.zone_proto.specs.Names.{Name}
use Rattle.zone_proto.specs.declared.rdata.RData.{RData}
use Rattle.message_writing.specs.declared.name_writer.Cut.{Cut}
use Rattle.message_writing.specs.DataText.{AreCuts, AreCutsOf, IsSound, IsWritable, data_text, short_text}
use Rattle.message_writing.specs.KnownNames.{IsCut}
use Rattle.message_writing.proofs.DataLengths.{data_short}

pub cut_at : (a b : List ℕ) (k : ℕ) (p : Option ℕ) (n m : Name) → a ≡ b → n ≡ m → IsCut a k p n → IsCut b k p m
cut_at a b k p n m e f h = subst (λ s. IsCut s k p m) e (subst (λ x. IsCut a k p x) f h)

pub cuts_at : (a b : List ℕ) (first second : Cut) (d : RData) → a ≡ b → AreCuts a first second d → AreCutsOf b first second d
cuts_at a b first second d e h = subst (λ s. AreCutsOf s first second d) e h.cuts

pub writable : (b : Bool) (d : RData) → b ≡ true → MatchBool b (IsWritable d) (IsWritable d → ⊥) → IsWritable d
writable b d e h = subst (λ x. MatchBool x (IsWritable d) (IsWritable d → ⊥)) e h

-- RDLENGTH has 16 bits
pub count_short : (old o₂ o₃ o₄ : List ℕ) (first second : Cut) (d : RData) → IsWritable d → IsSound d → AreCutsOf old first second d
    → o₃ ≡ o₂ ++ short_text 0 → o₄ ≡ o₃ ++ data_text first second d → length o₄ - length o₂ - 2 ≤ 65535
count_short old o₂ o₃ o₄ first second d w s cuts e f =
    omega (
      arith,
      ap length e,
      ap length f,
      length-append o₂ (short_text 0),
      length-append o₃ (data_text first second d),
      data_short old first second d w s cuts,
    )
