-- What a digest's text before the labels of a zone's name comes to
use Rattle.std.proofs.Common.{◌≡◌, ℕ, List, ◌∷◌, sym, ap, ◌∙◌, inl, inr, ◌⊎◌, Option, Some, None, Result, Ok, Err, IfOk, IfErr}
use Rattle.zone_proto.specs.declared.error.ProtoError.{ProtoError}
use Rattle.zone_proto.specs.declared.error.ProtoError.TheVariants.{Memory}
use Rattle.zone_proto.specs.Base32.{base32_text}
use Rattle.zone_proto.specs.Faults.{fault_of}
use Rattle.zone_proto.specs.HashedOwners.{hashed_owner, name_or_fault, owner_or_refusal}
use Rattle.zone_proto.specs.Names.{Name, lower_label}
use Rattle.zone_proto.specs.Results.{ReportsFaultOrMemory}
use Rattle.zone_proto.proofs.Ordering.Base32Facts.{lower_text}

-- the name that is made is the owner
pub made_owner : (zone : Name) (digest : Option (List ℕ)) (d label : List ℕ) (result : Result Name ProtoError)
    → digest ≡ Some d → label ≡ base32_text d
    → IfOk result (λ n. n ≡ lower_label label ∷ zone) → ReportsFaultOrMemory result (label ∷ zone)
    → IfOk result (λ owner. owner_or_refusal zone digest ≡ Ok owner)
made_owner zone digest d label (Ok n) e t is no_fault =
    let fault : fault_of (hashed_owner zone d) ≡ None = ap (λ (l : List ℕ). fault_of (l ∷ zone)) (sym t) ∙ no_fault in
    let name : n ≡ hashed_owner zone d = is ∙ ap (λ (l : List ℕ). l ∷ zone) (ap lower_label t ∙ lower_text d) in
    ap (owner_or_refusal zone) e ∙ ap (name_or_fault (hashed_owner zone d)) fault ∙ ap Ok (sym name)
made_owner zone digest d label (Err f) e t is fault = tt

-- a refusal is the fault of the owner, or lack of memory
pub refused_owner : (zone : Name) (digest : Option (List ℕ)) (d label : List ℕ) (result : Result Name ProtoError)
    → digest ≡ Some d → label ≡ base32_text d
    → ReportsFaultOrMemory result (label ∷ zone)
    → IfErr result (λ f. (f ≡ Memory) ⊎ (owner_or_refusal zone digest ≡ Err f))
refused_owner zone digest d label (Ok n) e t no_fault = tt
refused_owner zone digest d label (Err f) e t (inl memory) = inl memory
refused_owner zone digest d label (Err f) e t (inr fault) =
    inr (ap (owner_or_refusal zone) e ∙ ap (name_or_fault (hashed_owner zone d)) (ap (λ (l : List ℕ). fault_of (l ∷ zone)) (sym t) ∙ fault))
