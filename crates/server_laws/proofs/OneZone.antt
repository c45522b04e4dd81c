-- Of several zones one is the nearest to a name
use Rattle.std.proofs.Common.{◌≡◌, ℕ, ◌<◌, ◌≤◌, Bool, true, false, List, [], ◌∷◌, ◌++◌, length, refl, sym, ap, subst, ◌∙◌, arith, true≢false}
use Rattle.std.specs.Prelude.{Option, Some, None, All}
use Rattle.std.proofs.lemmas.List.Elements.{All-head, All-tail, All-same}
use Rattle.zone_proto.specs.Names.{Name}
use Rattle.zone_response.specs.Queries.{Zone}
use Rattle.zone_server.specs.ServedZones.{may_answer, IsNearestIfAny, IsAnswering}

module _ (may : Zone → Bool) where
  abbrev Shorter : Zone → Zone → Type 0
  Shorter z y = may y ≡ true → length y.origin < length z.origin

  abbrev NotLonger : Zone → Zone → Type 0
  NotLonger z y = may y ≡ true → length y.origin ≤ length z.origin

  -- an element in the middle of a list
  in_the_middle : (P : Zone → Type 0) (front rest : List Zone) (z : Zone) → All P (front ++ z ∷ rest) → P z
  in_the_middle P [] rest z h = All-head P z rest h
  in_the_middle P (y ∷ front) rest z h = in_the_middle P front rest z (All-tail P y (front ++ z ∷ rest) h)

  -- of two that are nearest neither comes before the other
  same : (front rest : List Zone) (z : Zone) (others behind : List Zone) (y : Zone) → front ++ z ∷ rest ≡ others ++ y ∷ behind → may z ≡ true → may y ≡ true
      → All (Shorter z) front → All (NotLonger z) rest → All (Shorter y) others → All (NotLonger y) behind → z ≡ y
  same [] rest z [] behind y e p q a b c d = cc
  same [] rest z (w ∷ others) behind y e p q a b c d =
      let here : z ≡ w = cc in
      let there : rest ≡ others ++ y ∷ behind = cc in
      let least : length z.origin < length y.origin = subst (Shorter y) (sym here) (All-head (Shorter y) w others c) p in
      let most : length y.origin ≤ length z.origin = in_the_middle (NotLonger z) others behind y (All-same (NotLonger z) (others ++ y ∷ behind) rest (sym there) b) q in
      absurd (omega (arith, least, most))
  same (w ∷ front) rest z [] behind y e p q a b c d =
      let here : w ≡ y = cc in
      let there : front ++ z ∷ rest ≡ behind = cc in
      let least : length y.origin < length z.origin = subst (Shorter z) here (All-head (Shorter z) w front a) q in
      let most : length z.origin ≤ length y.origin = in_the_middle (NotLonger y) front rest z (All-same (NotLonger y) (front ++ z ∷ rest) behind there d) p in
      absurd (omega (arith, least, most))
  same (w ∷ front) rest z (x ∷ others) behind y e p q a b c d =
      let there : front ++ z ∷ rest ≡ others ++ y ∷ behind = cc in
      same front rest z others behind y there p q (All-tail (Shorter z) w front a) b (All-tail (Shorter y) x others c) d

  one : (zs : List Zone) (a b : Option Zone) → IsNearestIfAny may zs a → IsNearestIfAny may zs b → a ≡ b
  one zs None None h k = refl
  one zs None (Some y) h k =
      absurd (true≢false (sym k.answers ∙ in_the_middle (λ z. may z ≡ false) k.front k.rest y (All-same (λ z. may z ≡ false) (k.front ++ y ∷ k.rest) zs (sym k.stands) h)))
  one zs (Some z) None h k =
      absurd (true≢false (sym h.answers ∙ in_the_middle (λ y. may y ≡ false) h.front h.rest z (All-same (λ y. may y ≡ false) (h.front ++ z ∷ h.rest) zs (sym h.stands) k)))
  one zs (Some z) (Some y) h k =
      ap Some (same h.front h.rest z k.front k.rest y (sym h.stands ∙ k.stands) h.answers k.answers h.before h.behind k.before k.behind)

pub one_answers : (zs : List Zone) (x : Name) (t : ℕ) (a b : Option Zone) → IsAnswering zs x t a → IsAnswering zs x t b → a ≡ b
one_answers zs x t a b h k = one (may_answer zs x t) zs a b h k
