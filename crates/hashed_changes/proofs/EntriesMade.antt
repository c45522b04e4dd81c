-- Entries put behind others
use Rattle.std.proofs.Common.{◌≡◌, ℕ, suc, ◌+◌, ◌<◌, List, [], ◌∷◌, ◌++◌, length, get_or, drop, drop-cons, add-one, sym, ap, ◌∙◌, subst, append_assoc, arith}
use Rattle.std.specs.Prelude.{Option, filter_map}
use Rattle.std.proofs.lemmas.List.Elements.{All-append, All-cons, filter_map-append}
use Rattle.zone_proto.specs.declared.rr_key.RrKey.{RrKey}
use Rattle.zone_proto.specs.Sets.{RRset}
use Rattle.zone_map.specs.Zones.{Sets, IsStoredAt, AreStored}

pub stored_behind : (old new : Sets) (e : RrKey × RRset) → new ≡ old ++ e ∷ [] → IsStoredAt e.0.name e.0.record_type.0 e.1 → AreStored old → AreStored new
stored_behind old new e made s h =
    subst AreStored (sym made)
    (All-append (λ (x : RrKey × RRset). IsStoredAt x.0.name x.0.record_type.0 x.1) old (e ∷ []) h
    (All-cons (λ (x : RrKey × RRset). IsStoredAt x.0.name x.0.record_type.0 x.1) e [] s (λ i d l. absurd (omega arith))))

pub one_more_entry : {A B : Type 0} (f : A → Option B) (xs : List A) (i : ℕ) (x : A) (so_far new whole : List B) → i < length xs → x ≡ get_or xs i x → new ≡ so_far ++ filter_map f (x ∷ [])
    → so_far ++ filter_map f (drop i xs) ≡ whole → new ++ filter_map f (drop (i + 1) xs) ≡ whole
one_more_entry {A} {B} f xs i x so_far new whole lt is made h = rw add-one (
    ap (λ (ys : List B). ys ++ filter_map f (drop (suc i) xs)) made
    ∙ append_assoc so_far (filter_map f (x ∷ [])) (filter_map f (drop (suc i) xs))
    ∙ ap (λ (ys : List B). so_far ++ ys) (sym (filter_map-append f (x ∷ []) (drop (suc i) xs)))
    ∙ ap (λ (ys : List A). so_far ++ filter_map f ys) (ap (λ (y : A). y ∷ drop (suc i) xs) is ∙ sym (drop-cons xs i x lt))
    ∙ h)
