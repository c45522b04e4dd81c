-- Records put one behind the other, up to the first that goes over
use Rattle.std.proofs.Common.{◌≡◌, ℕ, ◌+◌, ◌<◌, true, false, List, [], ◌∷◌, ◌++◌, length, map, take, drop, sym, ap, subst, ◌∙◌, append_assoc}
use Rattle.std.proofs.lemmas.List.{map-append, map_more, take-append-drop}
use Rattle.std.specs.Prelude.{get_or}
use Rattle.zone_proto.specs.declared.record.Record.{Record}
use Rattle.message_writing.specs.StrictReading.{strict_record_of}
use Rattle.message_writing.specs.Continuing.{Appends, AppendsAll}
use Rattle.message_writing.specs.Outcomes.{ArePutWithin, IsPutWithin}
use Rattle.message_writing.proofs.InOrder.{one_more, then_all, stands_behind}

-- one record more, of a list whose records are changed in some way
pub put_more : (f : Record → Record) (rs : List Record) (i : ℕ) (r : Record) (old mid new : List ℕ) → i < length rs → r ≡ get_or rs i r
    → AppendsAll strict_record_of old mid (map f (take i rs)) → Appends strict_record_of mid new (f r) → AppendsAll strict_record_of old new (map f (take (i + 1) rs))
put_more f rs i r old mid new inside is before now =
    let more : map f (take (i + 1) rs) ≡ map f (take i rs) ++ f r ∷ [] = map_more f rs i r inside ∙ ap (λ x. map f (take i rs) ++ f x ∷ []) (sym is) in
    subst (AppendsAll strict_record_of old new) (sym more) (one_more old mid new (map f (take i rs)) (f r) before now)

pub put_over : (f : Record → Record) (rs : List Record) (i room : ℕ) (old new : List ℕ) → AppendsAll strict_record_of old new (map f (take i rs))
    → room < length new → ArePutWithin room old new (map f rs) false
put_over f rs i room old new h over =
    (map f (take i rs), map f (drop i rs), ap (map f) (sym (take-append-drop i rs)) ∙ map-append f (take i rs) (drop i rs), h, over)

-- two lists, both whole
pub put_both : (f : Record → Record) (rs ss : List Record) (room : ℕ) (old mid new : List ℕ) → ArePutWithin room old mid (map f rs) true
    → ArePutWithin room mid new (map f ss) true → IsPutWithin room old new (map f (rs ++ ss)) true
put_both f rs ss room old mid new h k =
    (subst (AppendsAll strict_record_of old new) (sym (map-append f rs ss)) (then_all old mid new (map f rs) (map f ss) h.0 k.0), k.1)

-- the first went over
pub over_first : (f : Record → Record) (rs ss : List Record) (room : ℕ) (old over new : List ℕ) → ArePutWithin room old over (map f rs) false
    → new ≡ take (length old) over → IsPutWithin room old new (map f (rs ++ ss)) false
over_first f rs ss room old over new (front, rest, is, h, more) e = (
  e ∙ stands_behind old over front h,
  (front, rest ++ map f ss, over, map-append f rs ss ∙ ap (λ s. s ++ map f ss) is ∙ append_assoc front rest (map f ss), h, more),
)

-- the second went over
pub over_second : (f : Record → Record) (rs ss : List Record) (room : ℕ) (old mid over new : List ℕ) → ArePutWithin room old mid (map f rs) true
    → ArePutWithin room mid over (map f ss) false → new ≡ take (length old) over → IsPutWithin room old new (map f (rs ++ ss)) false
over_second f rs ss room old mid over new k (front, rest, is, h, more) e =
    let all = then_all old mid over (map f rs) front k.0 h in (
      e ∙ stands_behind old over (map f rs ++ front) all,
      (
        map f rs ++ front,
        rest,
        over,
        map-append f rs ss ∙ ap (λ s. map f rs ++ s) is ∙ sym (append_assoc (map f rs) front rest),
        all,
        more,
      ),
    )
