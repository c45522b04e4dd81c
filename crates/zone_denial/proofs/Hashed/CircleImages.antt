-- The next of values on a circle, by what a function makes of them: where that keeps their order, it makes of the next one
-- the next of what it makes of all
use Rattle.std.proofs.Common.{◌≡◌, List, refl, sym, ap, ◌∙◌, Ordering, is_lt}
use Rattle.std.specs.Prelude.{Option, Some, None, filter, option_map, unwrap_or}
use Rattle.std.specs.Option.{option_or}
use Rattle.zone_proto.specs.Order.{is_before, greatest, least}
use Rattle.zone_proto.proofs.Members.{In, In-filter, In-from_filter}
use Rattle.zone_proto.proofs.Ordering.Orders.{IsOrder, greatest_is, greatest_none, greatest_from}
use Rattle.zone_denial.specs.Covering.{next_around}
use Rattle.zone_denial.proofs.InOrder.{flipped}

-- of xs, f makes exactly the elements of ys, in the same order
pub record IsImage {K L : Type 0} (R : K → K → Ordering) (S : L → L → Ordering) (f : K → L) (xs : List K) (ys : List L) : Type 0 where
  pub into : (x : K) → In x xs → In (f x) ys
  pub from : (y : L) → In y ys → (x : K) × In x xs × (f x ≡ y)
  pub agree : (x y : K) → In x xs → In y xs → R x y ≡ S (f x) (f y)

module _ {K L : Type 0} {f : K → L} where
  greatest_image : {R : K → K → Ordering} {S : L → L → Ordering} → IsOrder R → IsOrder S → (xs : List K) (ys : List L) → IsImage R S f xs ys → option_map f (greatest R xs) ≡ greatest S ys
  greatest_image {R} {S} o p xs ys h = by (greatest R xs) refl
    where
      by : (g : Option K) → greatest R xs ≡ g → option_map f g ≡ greatest S ys
      by (Some m) e =
          let top = greatest_is o xs m e in
          sym (greatest_from p ys (f m) (record { among = h.into m top.among; none_greater = λ y i l. let r = h.from y i in top.none_greater r.0 r.1 (h.agree m r.0 top.among r.1 ∙ ap (S (f m)) r.2 ∙ l) }))
      by None e = none_made (greatest S ys) refl
        where
          none_made : (g : Option L) → greatest S ys ≡ g → option_map f None ≡ g
          none_made None d = refl
          none_made (Some n) d = let r = h.from n (greatest_is p ys n d).among in absurd (greatest_none o xs e r.0 r.1)

  module _ {R : K → K → Ordering} {S : L → L → Ordering} (o : IsOrder R) (p : IsOrder S) (xs : List K) (ys : List L) (h : IsImage R S f xs ys) where
    least_image : (us : List K) (vs : List L) → IsImage R S f us vs → option_map f (least R us) ≡ least S vs
    least_image us vs k = greatest_image (flipped o) (flipped p) us vs (record { into = k.into; from = k.from; agree = λ x y i j. k.agree y x j i })

    -- what follows an element is made of what follows it
    later_image : (x : K) → In x xs → IsImage R S f (filter (is_before R x) xs) (filter (is_before S (f x)) ys)
    later_image x i = record {
      into = λ y j. let r = In-from_filter (is_before R x) y xs j in In-filter (is_before S (f x)) (f y) ys (h.into y r.0) (ap is_lt (sym (h.agree x y i r.0)) ∙ r.1);
      from = λ z j.
          let r = In-from_filter (is_before S (f x)) z ys j in
          let y = h.from z r.0 in
          (y.0, In-filter (is_before R x) y.0 xs y.1 (ap is_lt (h.agree x y.0 i y.1 ∙ ap (S (f x)) y.2) ∙ r.1), y.2);
      agree = λ y z j k. h.agree y z (In-from_filter (is_before R x) y xs j).0 (In-from_filter (is_before R x) z xs k).0;
    }

    chosen : (u v : Option K) (x : K) → f (unwrap_or (option_or u v) x) ≡ unwrap_or (option_or (option_map f u) (option_map f v)) (f x)
    chosen (Some u) v x = refl
    chosen None (Some v) x = refl
    chosen None None x = refl

    pub next_image : (x : K) → In x xs → f (next_around R xs x) ≡ next_around S ys (f x)
    next_image x i =
        let later = least_image (filter (is_before R x) xs) (filter (is_before S (f x)) ys) (later_image x i) in
        let all = least_image xs ys h in
        chosen (least R (filter (is_before R x) xs)) (least R xs) x ∙ (λ j. unwrap_or (option_or (later j) (all j)) (f x))
