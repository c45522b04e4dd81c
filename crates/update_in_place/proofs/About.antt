-- The names that an update is about are those of its records and the origin; and what its prerequisites say
use Rattle.std.proofs.Common.{◌≡◌, true, List, [], ◌∷◌, map, refl, ap, Result, Ok, Err}
use Rattle.std.specs.List.{AllByRecursion}
use Rattle.zone_proto.specs.Names.{Name, lower, name_eq}
use Rattle.zone_proto.proofs.Members.{or_left, or_right}
use Rattle.zone_proto.proofs.Names.NameTree.{name_eq-Decides}
use Rattle.zone_map.specs.Zones.{Sets}
use Rattle.zone_update.specs.Demands.{are_met, demands_of, met}
use Rattle.zone_update.specs.Entries.{◌>>=◌, IsRefusal}
use Rattle.zone_update.specs.Updates.{updated}
use Rattle.zone_update.specs.declared.demand.Demand.{Demand}
use Rattle.zone_update.specs.declared.entry.Entry.{Entry}
use Rattle.zone_update.specs.declared.refusal.Refusal.{Refusal}
use Rattle.zone_update.specs.declared.refusal.Refusal.TheVariants.{FormErr, NXDomain, Refused, YXDomain, YXRRSet, NXRRSet, NotAuth, NotZone, Memory}
use Rattle.update_in_place.specs.Parts.{is_among, names_about}

abbrev Among : List Name → List Entry → Type 0
Among ns rs = AllByRecursion (λ (r : Entry). is_among ns (lower r.name) ≡ true) rs

first_among : (n : Name) (ns : List Name) → is_among (n ∷ ns) n ≡ true
first_among n ns = or_left (name_eq n n) (is_among ns n) ((name_eq-Decides n n).1 refl)

among_more : (n : Name) (ns : List Name) (rs : List Entry) → Among ns rs → Among (n ∷ ns) rs
among_more n ns [] h = tt
among_more n ns (r ∷ rs) h = (or_right (name_eq (lower r.name) n) (is_among ns (lower r.name)) h.0, among_more n ns rs h.1)

own_names : (rs : List Entry) → Among (map (λ (r : Entry). lower r.name) rs) rs
own_names [] = tt
own_names (r ∷ rs) =
    (first_among (lower r.name) (map (λ (x : Entry). lower x.name) rs), among_more (lower r.name) (map (λ (x : Entry). lower x.name) rs) rs (own_names rs))

pub origin_among : (origin : Name) (rs : List Entry) → is_among (names_about origin rs) origin ≡ true
origin_among origin rs = first_among origin (map (λ (r : Entry). lower r.name) rs)

pub all_among : (origin : Name) (rs : List Entry) → Among (names_about origin rs) rs
all_among origin rs = among_more origin (map (λ (r : Entry). lower r.name) rs) rs (own_names rs)

-- ---- prerequisites

-- where they are met, the update is that of its changes alone
pub once_met : (origin : Name) (m : Sets) (ps rs : List Entry) (u : Unit {0}) → are_met origin m ps ≡ Ok u → updated origin m ps rs ≡ updated origin m [] rs
unfolding demands_of
once_met origin m ps rs u h = by (met origin m ps) h
  where
    by : (o : Result (List Demand) Refusal) → ◌≡◌ {A = Result (Unit {0}) Refusal} (o >>= λ _. Ok tt) (Ok u) → (o >>= λ _. updated origin m [] rs) ≡ updated origin m [] rs
    by (Err e) g = absurd cc
    by (Ok ds) g = refl

unmet : (origin : Name) (m : Sets) (ps rs : List Entry) (f : Refusal) → are_met origin m ps ≡ Err f → updated origin m ps rs ≡ Err f
unfolding demands_of
unmet origin m ps rs f h = by (met origin m ps) h
  where
    by : (o : Result (List Demand) Refusal) → ◌≡◌ {A = Result (Unit {0}) Refusal} (o >>= λ _. Ok tt) (Err f) → (o >>= λ _. updated origin m [] rs) ≡ Err f
    by (Err e) g = let same : e ≡ f = cc in ap Err same
    by (Ok ds) g = absurd cc

-- what is refused for a cause is refused for it as a part of more
pub passes : {A B : Type 0} (e : Refusal) (made : Result A Refusal) (more : Result B Refusal) → IsRefusal e made → (made ≡ Err e → more ≡ Err e) → IsRefusal e more
passes Memory made more h f = tt
passes FormErr made more h f = f h
passes NXDomain made more h f = f h
passes Refused made more h f = f h
passes YXDomain made more h f = f h
passes YXRRSet made more h f = f h
passes NXRRSet made more h f = f h
passes NotAuth made more h f = f h
passes NotZone made more h f = f h

pub once_unmet : (origin : Name) (m : Sets) (ps rs : List Entry) (f : Refusal) → IsRefusal f (are_met origin m ps) → IsRefusal f (updated origin m ps rs)
once_unmet origin m ps rs f h = passes f (are_met origin m ps) (updated origin m ps rs) h (λ e. unmet origin m ps rs f e)

pub refused_part : (f : Refusal) (part whole : Result Sets Refusal) → IsRefusal f part → (part ≡ Err f → whole ≡ Err f) → IsRefusal f whole
refused_part f part whole h g = passes f part whole h g
