-- Octets of items and of parameters, put one behind the other
use Rattle.std.proofs.Common.{◌≡◌, ℕ, List, [], ◌∷◌, ◌++◌, Option, Some, None, refl, sym, ap, ◌∙◌, append_assoc}
use Rattle.std.specs.Prelude.{option_map}
use Rattle.line_text.proofs.HexFacts.{after_octets}
use Rattle.service_parameters.specs.Items.{all_octets, read_then}
use Rattle.service_parameters.specs.Values.{item_octets}

octets_or : List ℕ → Option (List ℕ) → List ℕ
octets_or os None = os
octets_or os (Some x) = x

same : (new other : List ℕ) → ◌≡◌ {A = Option (List ℕ)} (Some new) (Some other) → new ≡ other
unfolding octets_or
same new other h = ap (octets_or []) h

one_more : (out os : List ℕ) (more : Option (List ℕ)) → after_octets (out ++ os) more ≡ after_octets out (read_then (Some os) more)
one_more out os None = refl
one_more out os (Some rest) = ap (λ (x : List ℕ). Some x) (append_assoc out os rest)

pub item_read : (k : ℕ) (out os item : List ℕ) (rest : List (List ℕ)) → Some os ≡ item_octets k item
    → after_octets (out ++ os) (all_octets (item_octets k) rest) ≡ after_octets out (all_octets (item_octets k) (item ∷ rest))
item_read k out os item rest h = one_more out os (all_octets (item_octets k) rest) ∙ ap (λ (r : Option (List ℕ)). after_octets out (read_then r (all_octets (item_octets k) rest))) h

pub item_not : (k : ℕ) (out item : List ℕ) (rest : List (List ℕ)) → None ≡ item_octets k item → after_octets out (all_octets (item_octets k) (item ∷ rest)) ≡ None
item_not k out item rest h = ap (λ (r : Option (List ℕ)). after_octets out (read_then r (all_octets (item_octets k) rest))) (sym h)

pub parameter_read : (out new : List ℕ) (r more : Option (List ℕ)) → Some new ≡ option_map (λ os. out ++ os) r → after_octets new more ≡ after_octets out (read_then r more)
parameter_read out new None more h = absurd (cc)
parameter_read out new (Some os) None h = refl
parameter_read out new (Some os) (Some rest) h = rw (same new (out ++ os) h) (ap (λ (x : List ℕ). Some x) (append_assoc out os rest))

pub parameter_not : (out : List ℕ) (r more : Option (List ℕ)) → None ≡ option_map (λ os. out ++ os) r → after_octets out (read_then r more) ≡ None
parameter_not out None more h = refl
parameter_not out (Some os) more h = absurd (cc)
