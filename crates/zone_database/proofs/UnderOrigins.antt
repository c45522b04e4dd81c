-- Zones that are under their origins: the nearest of them, from the nearest of the entries
use Rattle.std.proofs.Common.{◌≡◌, ◌<◌, ◌≤◌, true, false, List, [], ◌∷◌, ◌++◌, length, map, refl, sym, ap, subst, ◌∙◌, true≢false}
use Rattle.std.specs.Prelude.{All, Option, Some, None, Result, Ok, Err, OnOk, OnErr, option_map}
use Rattle.std.proofs.lemmas.List.Elements.{All-nil, All-cons, All-head, All-tail}
use Rattle.zone_proto.specs.Names.{Name, is_at_or_above}
use Rattle.zone_origins.specs.Nearest as origins
use Rattle.zone_response.specs.Queries as queries
use Rattle.zone_server.specs.ServedZones.{may_answer_for, IsNearestIfAny}
use Rattle.zone_database.specs.declared.zone.Zone.{Zone}
use Rattle.zone_database.specs.Origins.{AreUnderOrigins}
use Rattle.zone_database.specs.Zones.{served_zone}

-- what follows from each of the two ends of a call
pub either_way : {T E : Type 0} (r : Result T E) (P Q R : Type 0) → OnOk r P → OnErr r Q → (P → R) → (Q → R) → R
either_way (Ok x) P Q R p q f g = f p
either_way (Err e) P Q R p q f g = g q

-- what is kept for an origin
abbrev pub Entry : Type 0
Entry = Name × Zone

-- the zone of an entry as a query finds it
abbrev pub asked : Entry → queries.Zone
asked e = served_zone e.1

-- the zones of entries as a query finds them
abbrev pub all_asked : List Entry → List queries.Zone
all_asked es = map served_zone (map (λ (e : Entry). e.1) es)

under_head : (e : Entry) (es : List Entry) → AreUnderOrigins (e ∷ es) → e.1.origin ≡ e.0
under_head e es h = cc

under_tail : (e : Entry) (es : List Entry) → AreUnderOrigins (e ∷ es) → AreUnderOrigins es
under_tail e es h = cc

under_front : (front rest : List Entry) (p : Entry) → AreUnderOrigins (front ++ p ∷ rest) → AreUnderOrigins front
under_front [] rest p h = refl
under_front (e ∷ front) rest p h =
    let first = under_head e (front ++ p ∷ rest) h in
    let others = under_front front rest p (under_tail e (front ++ p ∷ rest) h) in
    λ i. first i ∷ others i

under_rest : (front rest : List Entry) (p : Entry) → AreUnderOrigins (front ++ p ∷ rest) → AreUnderOrigins (p ∷ rest)
under_rest [] rest p h = h
under_rest (e ∷ front) rest p h = under_rest front rest p (under_tail e (front ++ p ∷ rest) h)

-- what holds of each entry under its origin holds of its zone
each_asked : (P : Entry → Type 0) (Q : queries.Zone → Type 0) → ((e : Entry) → e.1.origin ≡ e.0 → P e → Q (asked e)) → (es : List Entry) → AreUnderOrigins es → All P es → All Q (all_asked es)
each_asked P Q f [] h a = All-nil Q
each_asked P Q f (e ∷ es) h a = All-cons Q (asked e) (all_asked es) (f e (under_head e es h) (All-head P e es a)) (each_asked P Q f es (under_tail e es h) (All-tail P e es a))

-- entries in parts are zones in parts
asked_parts : (front rest : List Entry) (p : Entry) → all_asked (front ++ p ∷ rest) ≡ all_asked front ++ asked p ∷ all_asked rest
asked_parts [] rest p = refl
asked_parts (e ∷ front) rest p = ap (λ zs. asked e ∷ zs) (asked_parts front rest p)

-- the nearest of the origins is that of its zone
pub own_origin : (x : Name) (es : List Entry) (p : Entry) → AreUnderOrigins es → origins.IsNearestIfAny x es (Some p) → p.1.origin ≡ p.0
own_origin x es p under h = under_head p h.rest (under_rest h.front h.rest p (subst AreUnderOrigins h.stands under))

-- the nearest of the origins, at which its zone stands, is the origin of the nearest zone
pub nearest_asked : (x : Name) (es : List Entry) (o : Option Entry) → AreUnderOrigins es → origins.IsNearestIfAny x es o → IsNearestIfAny (may_answer_for false x) (all_asked es) (option_map asked o)
nearest_asked x es None under h =
    each_asked (λ e. is_at_or_above e.0 x ≡ false) (λ z. may_answer_for false x z ≡ false) (λ e is f. ap (λ n. is_at_or_above n x) is ∙ f) es under h
nearest_asked x es (Some p) under h =
    let parted : AreUnderOrigins (h.front ++ p ∷ h.rest) = subst AreUnderOrigins h.stands under in
    let whole : AreUnderOrigins (p ∷ h.rest) = under_rest h.front h.rest p parted in
    let is_p : p.1.origin ≡ p.0 = under_head p h.rest whole in
    record {
      front = all_asked h.front;
      rest = all_asked h.rest;
      stands = ap all_asked h.stands ∙ asked_parts h.front h.rest p;
      answers = ap (λ n. is_at_or_above n x) is_p ∙ h.above;
      before = each_asked (λ y. is_at_or_above y.0 x ≡ true → length y.0 < length p.0) (λ z. may_answer_for false x z ≡ true → length z.origin < length p.1.origin)
          (λ y is f t. subst (λ (n : Name). length n < length p.1.origin) (sym is) (subst (λ (n : Name). length y.0 < length n) (sym is_p) (f (ap (λ n. is_at_or_above n x) (sym is) ∙ t))))
          h.front (under_front h.front h.rest p parted) h.before;
      behind = each_asked (λ y. is_at_or_above y.0 x ≡ false) (λ z. may_answer_for false x z ≡ true → length z.origin ≤ length p.1.origin)
          (λ y is f t. absurd (true≢false (sym t ∙ ap (λ n. is_at_or_above n x) is ∙ f)))
          h.rest (under_tail p h.rest whole) h.behind;
    }
