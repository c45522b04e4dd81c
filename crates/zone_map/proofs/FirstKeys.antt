-- The first key from a name's least key on mostly says whether the name exists
use Rattle.std.proofs.Common.{◌≡◌, ◌&&◌, ◌||◌, not, Bool, true, false, cond, [], ◌∷◌, refl, sym, ap, ◌∙◌}
use Rattle.std.specs.Prelude.{Option, Some, None, find}
use Rattle.std.specs.List.Sorted.{IsStrictlySortedBy}
use Rattle.std.specs.Map.{keys_of}
use Rattle.std.specs.Option.{option_or}
use Rattle.zone_proto.specs.declared.rr_key.RrKey.{RrKey}
use Rattle.zone_proto.specs.Keys.{key, first_key, key_cmp}
use Rattle.zone_proto.specs.Names.{Name, is_at_or_above}
use Rattle.zone_proto.specs.Order.{is_upto}
use Rattle.zone_proto.specs.Sets.{RRset}
use Rattle.zone_map.specs.Zones.{Sets}
use Rattle.zone_map.specs.Upserts.{is_denial_type}
use Rattle.zone_map.specs.Walks.{first_key_from}
use Rattle.zone_map.specs.Wildcards.{exists}
use Rattle.zone_map.proofs.ExistingNames.{shown_below, exists_is_front}
use Rattle.zone_map.proofs.Neighbours.{from_key}

-- the key of the entry in front
abbrev pub front_key : Sets → Option RrKey
front_key [] = None
front_key (e ∷ m) = Some e.0

first_is_front : (k : RrKey) (m : Sets) → front_key (from_key k m) ≡ find (is_upto key_cmp k) (keys_of m)
first_is_front k [] = refl
first_is_front k (e ∷ m) = by (is_upto key_cmp k e.0) (first_is_front k m)
  where
    by : (b : Bool) → front_key (from_key k m) ≡ find (is_upto key_cmp k) (keys_of m)
        → front_key (cond (b && true) (e ∷ from_key k m) (from_key k m)) ≡ cond b (Some e.0) (find (is_upto key_cmp k) (keys_of m))
    by true ih = refl
    by false ih = ih

-- ---- a loop from the least key on

pub whole_first : (least : RrKey) (m : Sets) → least.record_type.0 ≡ 0 → front_key (from_key least m) ≡ first_key_from m least.name
whole_first least m type_zero = ap (λ t. front_key (from_key (key least.name t) m)) type_zero ∙ first_is_front (first_key least.name) m

-- the key of the first entry stays, whichever are read after it
module _ (s t : Sets) (e : RrKey × RRset) (before after whole : Option RrKey) (is : s ≡ e ∷ t) (noted : after ≡ option_or before (Some e.0)) (left : option_or before (front_key s) ≡ whole) where
  pub first_known : after ≡ whole
  first_known = noted ∙ ap (λ es. option_or before (front_key es)) (sym is) ∙ left

  pub first_stays : option_or after (front_key t) ≡ whole
  first_stays = ap (λ o. option_or o (front_key t)) noted ∙ by before ∙ ap (λ es. option_or before (front_key es)) (sym is) ∙ left
    where
      by : (o : Option RrKey) → option_or (option_or o (Some e.0)) (front_key t) ≡ option_or o (Some e.0)
      by None = refl
      by (Some k) = refl

-- ---- what it tells

module _ (n : Name) where
  none_shown : (es : Sets) → front_key es ≡ None → shown_below n es ≡ false
  none_shown [] h = refl
  none_shown (e ∷ es) h = cc

  unshown : (es : Sets) (k : RrKey) → front_key es ≡ Some k → is_at_or_above n k.name ≡ false → shown_below n es ≡ false
  unshown [] k h a = cc
  unshown (e ∷ es) k h a =
      let same : e.0 ≡ k = cc in
      ap (λ b. cond b (not (is_denial_type e.0.record_type.0) || shown_below n es) false) (ap (λ (x : RrKey). is_at_or_above n x.name) same ∙ a)

  shown : (es : Sets) (k : RrKey) → front_key es ≡ Some k → is_at_or_above n k.name ≡ true → is_denial_type k.record_type.0 ≡ false → shown_below n es ≡ true
  shown [] k h a d = cc
  shown (e ∷ es) k h a d =
      let same : e.0 ≡ k = cc in
      ap (λ b. cond b (not (is_denial_type e.0.record_type.0) || shown_below n es) false) (ap (λ (x : RrKey). is_at_or_above n x.name) same ∙ a)
      ∙ ap (λ b. not b || shown_below n es) (ap (λ (x : RrKey). is_denial_type x.record_type.0) same ∙ d)

  module _ (m : Sets) (sorted : IsStrictlySortedBy key_cmp (keys_of m)) where
    pub exists_without : None ≡ first_key_from m n → false ≡ exists m n
    exists_without h = sym (exists_is_front n m sorted ∙ none_shown (from_key (key n 0) m) (first_is_front (first_key n) m ∙ sym h))

    module _ (k : RrKey) (first : Some k ≡ first_key_from m n) where
      pub absent_by_first : is_at_or_above n k.name ≡ false → false ≡ exists m n
      absent_by_first a = sym (exists_is_front n m sorted ∙ unshown (from_key (key n 0) m) k (first_is_front (first_key n) m ∙ sym first) a)

      pub exists_by_first : is_at_or_above n k.name ≡ true → is_denial_type k.record_type.0 ≡ false → true ≡ exists m n
      exists_by_first a d = sym (exists_is_front n m sorted ∙ shown (from_key (key n 0) m) k (first_is_front (first_key n) m ∙ sym first) a d)
