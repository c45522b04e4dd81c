-- One step after the other, as loops take them
use Rattle.std.proofs.Common.{◌≡◌, List, [], ◌∷◌, ◌++◌, refl, ap, append_assoc, Result, Ok, Err}
use Rattle.zone_update.specs.Entries.{◌>>=◌, IsRefusal}
use Rattle.zone_update.specs.declared.refusal.Refusal.{Refusal}
use Rattle.zone_update.specs.declared.refusal.Refusal.TheVariants.{FormErr, NXDomain, Refused, YXDomain, YXRRSet, NXRRSet, NotAuth, NotZone, Memory}

-- what is refused for a cause is refused for it as a part of more
pub passes : {A B : Type 0} (e : Refusal) (made : Result A Refusal) (more : Result B Refusal) → IsRefusal e made → (made ≡ Err e → more ≡ Err e) → IsRefusal e more
passes Memory made more h f = tt
passes FormErr made more h f = f h
passes NXDomain made more h f = f h
passes Refused made more h f = f h
passes YXDomain made more h f = f h
passes YXRRSet made more h f = f h
passes NXRRSet made more h f = f h
passes NotAuth made more h f = f h
passes NotZone made more h f = f h

-- some in front of a list, where there is one
abbrev pub with_front : {A : Type 0} → List A → Result (List A) Refusal → Result (List A) Refusal
with_front xs r = r >>= λ ys. Ok (xs ++ ys)

pub no_front : {A : Type 0} (r : Result (List A) Refusal) → with_front [] r ≡ r
no_front (Ok ys) = refl
no_front (Err e) = refl

pub front_taken : {A : Type 0} (xs : List A) (x : A) (r : Result (List A) Refusal) → with_front (xs ++ x ∷ []) r ≡ with_front xs (r >>= λ ys. Ok (x ∷ ys))
front_taken xs x (Ok ys) = ap Ok (append_assoc xs (x ∷ []) ys)
front_taken xs x (Err e) = refl

-- a refusal that is defined is the one that is given
pub refused : {A : Type 0} (e : Refusal) (made : Result A Refusal) → made ≡ Err e → IsRefusal e made
refused Memory made h = tt
refused FormErr made h = h
refused NXDomain made h = h
refused Refused made h = h
refused YXDomain made h = h
refused YXRRSet made h = h
refused NXRRSet made h = h
refused NotAuth made h = h
refused NotZone made h = h
