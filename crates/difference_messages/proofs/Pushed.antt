-- Records put one behind the other
use Rattle.std.proofs.Common.{◌≡◌, ℕ, ◌+◌, ◌<◌, List, [], ◌∷◌, ◌++◌, length, get_or, take, map, refl, sym, ap, ◌∙◌}
use Rattle.std.specs.List.{flat_map}
use Rattle.std.proofs.lemmas.List.{flat_map_more, take_more}
use Rattle.zone_proto.specs.declared.record.Record.{Record}
use Rattle.shown_zones.specs.Sending.{sent_step}
use Rattle.shown_zones.specs.Steps.{step_of}
use Rattle.shown_zones.specs.declared.step.ZoneStep.{ZoneStep}

-- the records of one more item
pub one_more : {A : Type 0} (f : A → List Record) (xs : List A) (i : ℕ) (x : A) (front mid new : List Record) → i < length xs → x ≡ get_or xs i x
    → mid ≡ front ++ flat_map f (take i xs) → new ≡ mid ++ f x → new ≡ front ++ flat_map f (take (i + 1) xs)
one_more {A} f xs i x front mid new lt is before one =
    one
    ∙ ap (λ (rs : List Record). rs ++ f x) before
    ∙ flat_map_more f front (take i xs) x
    ∙ ap (λ (ys : List A). front ++ flat_map f ys) (ap (λ (y : A). take i xs ++ y ∷ []) is ∙ sym (take_more xs i x lt))

-- those of steps
pub mapped : (ss : List ZoneStep) → flat_map (λ (s : ZoneStep). sent_step (step_of s)) ss ≡ flat_map sent_step (map step_of ss)
mapped [] = refl
mapped (s ∷ ss) = ap (λ x. sent_step (step_of s) ++ x) (mapped ss)
