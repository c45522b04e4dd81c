-- Records that are gathered for a message, group after group
use Rattle.std.proofs.Common.{◌≡◌, ◌⊎◌, inl, inr, ℕ, ◌+◌, ◌-◌, ◌<◌, ◌≤◌, List, [], ◌∷◌, ◌++◌, length, drop, take, map, refl, sym, ap, subst, ◌∙◌, append_assoc, append-nil, arith}
use Rattle.std.specs.Prelude.{min}
use Rattle.std.proofs.lemmas.Bool.{cases_lt}
use Rattle.std.proofs.lemmas.List.{drop-map, drop_all, drop_min, length-append, length-map, length-take-le, map-append, take-append-drop}
use Rattle.std.proofs.Math.Nat.{min-eq_left, min-eq_right, min-le_left, min-le_right}
use Rattle.zone_proto.specs.declared.record.Record.{Record}
use Rattle.zone_proto.specs.declared.rr_key.RrKey.{RrKey}
use Rattle.zone_proto.specs.Sets.{RRset}
use Rattle.zone_map.specs.Zones.{Sets}
use Rattle.message_writing.specs.declared.response.Group.{Group}
use Rattle.message_writing.specs.Responses.{records_of, records_together}
use Rattle.transfer_messages.specs.Gathering.{Gathers}
use Rattle.transfer_messages.specs.Transfers.{sets_records}
use Rattle.zone_server.specs.Transfers.{between, one_by_one}
use Rattle.transfer_messages.proofs.Lists.{drop_joined}

-- how many groups there are then
pub grown : (old new : List Group) (taken : List Record) → map records_of new ≡ map records_of old ++ one_by_one taken → length new ≡ length old + length taken
grown old new taken e =
    let f : Group → List Record = records_of in
    let one : Record → List Record = λ r. r ∷ [] in
    let news : length (map f new) ≡ length new = length-map new f in
    let olds : length (map f old) ≡ length old = length-map old f in
    let ones : length (map one taken) ≡ length taken = length-map taken one in
    let all : length (map f new) ≡ length (map f old) + length (map one taken) = ap length e ∙ length-append (map f old) (map one taken) in
    omega (arith, news, olds, ones, all)

-- nothing was gathered yet
pub none_gathered : (groups : List Group) (all : List Record) → Gathers groups groups all all
none_gathered groups all = record {
  taken = [];
  passed = [];
  parts = refl;
  put = sym (append-nil (map records_of groups));
  room = λ h. refl;
  full = λ h. refl;
}

module _ (a b c : List Group) (all xs ys : List Record) (g : Gathers a b all (xs ++ ys)) (h : Gathers b c xs []) where
  there_was_room : length b < 4096 → Gathers a c all ys
  there_was_room room =
      let none : g.passed ≡ [] = g.room room in
      let count : length b ≡ length a + length g.taken = grown a b g.taken g.put in
      record {
        taken = g.taken ++ h.taken;
        passed = h.passed;
        parts =
            g.parts ∙ ap (λ (x : List Record). g.taken ++ (x ++ (xs ++ ys))) none
            ∙ ap (λ (x : List Record). g.taken ++ (x ++ ys)) (h.parts ∙ ap (λ (x : List Record). h.taken ++ x) (append-nil h.passed))
            ∙ ap (λ (x : List Record). g.taken ++ x) (append_assoc h.taken h.passed ys) ∙ sym (append_assoc g.taken h.taken (h.passed ++ ys));
        put =
            h.put ∙ ap (λ (x : List (List Record)). x ++ one_by_one h.taken) g.put
            ∙ append_assoc (map records_of a) (one_by_one g.taken) (one_by_one h.taken)
            ∙ ap (λ (x : List (List Record)). map records_of a ++ x) (sym (map-append (λ (r : Record). r ∷ []) g.taken h.taken));
        room = h.room;
        full = λ many. absurd (omega (arith, many, count, room));
      }

  there_was_none : 4096 ≤ length b → Gathers a c all ys
  there_was_none many =
      let none : h.taken ≡ [] = h.full many in
      let count : length c ≡ length b + length h.taken = grown b c h.taken h.put in
      record {
        taken = g.taken;
        passed = g.passed ++ xs;
        parts = g.parts ∙ ap (λ (x : List Record). g.taken ++ x) (sym (append_assoc g.passed xs ys));
        put = h.put ∙ ap (λ (x : List Record). map records_of b ++ one_by_one x) none ∙ append-nil (map records_of b) ∙ g.put;
        room = λ few. absurd (omega (arith, few, count, many));
        full = g.full;
      }

  -- further ones were gathered
  pub gathered_more : Gathers a c all ys
  gathered_more = by (cases_lt (length b) 4096)
    where
      by : (length b < 4096) ⊎ (4096 ≤ length b) → Gathers a c all ys
      by (inl room) = there_was_room room
      by (inr many) = there_was_none many

-- those that are left were gathered
pub gathered_last : (a b c : List Group) (all xs : List Record) → Gathers a b all xs → Gathers b c xs [] → Gathers a c all []
gathered_last a b c all xs g h = gathered_more a b c all xs [] (subst (λ (x : List Record). Gathers a b all x) (sym (append-nil xs)) g) h

-- the first of joined records were gathered, without those that are skipped
pub gathered_then : (a b c : List Group) (all xs ys : List Record) (skip behind : ℕ) → Gathers a b all (drop skip (xs ++ ys)) → Gathers b c (drop skip xs) [] → behind ≡ skip - length xs → Gathers a c all (drop behind ys)
gathered_then a b c all xs ys skip behind g h e =
    let split : drop skip (xs ++ ys) ≡ drop skip xs ++ drop behind ys = drop_joined skip xs ys ∙ ap (λ (i : ℕ). drop skip xs ++ drop i ys) (sym e) in
    gathered_more a b c all (drop skip xs) (drop behind ys) (subst (λ (x : List Record). Gathers a b all x) split g) h

-- both parts of joined records were
pub gathered_two : (a b c : List Group) (xs ys : List Record) (skip behind : ℕ) → Gathers a b (drop skip xs) [] → Gathers b c (drop behind ys) [] → behind ≡ skip - length xs → Gathers a c (drop skip (xs ++ ys)) []
gathered_two a b c xs ys skip behind g h e =
    gathered_last a b c (drop skip (xs ++ ys)) (drop behind ys)
    (gathered_then a a b (drop skip (xs ++ ys)) xs ys skip behind (none_gathered a (drop skip (xs ++ ys))) g e) h

pub gathered_both : (a b c : List Group) (f : Record → Record) (xs ys : List Record) (skip behind : ℕ) → Gathers a b (drop skip (map f xs)) [] → Gathers b c (drop behind (map f ys)) [] → behind ≡ skip - length xs
    → Gathers a c (drop skip (map f (xs ++ ys))) []
gathered_both a b c f xs ys skip behind g h e =
    subst (λ (x : List Record). Gathers a c (drop skip x) []) (sym (map-append f xs ys))
    (gathered_two a b c (map f xs) (map f ys) skip behind g h (e ∙ ap (λ (n : ℕ). skip - n) (sym (length-map xs f))))

-- there are as many as are looked at
pub gathered_full : (a b : List Group) (all left : List Record) → Gathers a b all left → 4096 ≤ length b → Gathers a b all []
gathered_full a b all left g many = record {
  taken = g.taken;
  passed = g.passed ++ left;
  parts = g.parts ∙ ap (λ (x : List Record). g.taken ++ x) (sym (append-nil (g.passed ++ left)));
  put = g.put;
  room = λ few. absurd (omega (arith, few, many));
  full = g.full;
}

-- the first of some records were put there, as many as there was room for
pub gathered_records : (a b : List Group) (f : Record → Record) (rs rest first : List Record) (skip start room count : ℕ)
    → start ≡ min skip (length rs) → rest ≡ drop start rs → room ≡ 4096 - length a → count ≡ min room (length rest) → first ≡ take count rest
    → map records_of b ≡ map records_of a ++ one_by_one (map f first) → Gathers a b (drop skip (map f rs)) []
gathered_records a b f rs rest first skip start room count start_is rest_is room_is count_is first_is put =
    let begun : drop skip (map f rs) ≡ map f rest =
    drop-map f skip rs ∙ ap (map f) (sym (drop_min skip rs) ∙ ap (λ (i : ℕ). drop i rs) (sym start_is) ∙ sym rest_is) in
    let within : count ≤ length rest = subst (λ (n : ℕ). n ≤ length rest) (sym count_is) (min-le_right room (length rest)) in
    let below : count ≤ room = subst (λ (n : ℕ). n ≤ room) (sym count_is) (min-le_left room (length rest)) in
    let size : length (map f first) ≡ count = length-map first f ∙ ap length first_is ∙ length-take-le count rest within in
    let total : length b ≡ length a + length (map f first) = grown a b (map f first) put in
    record {
      taken = map f first;
      passed = map f (drop count rest);
      parts =
          begun ∙ ap (map f) (sym (take-append-drop count rest)) ∙ map-append f (take count rest) (drop count rest)
          ∙ ap (λ (x : List Record). map f x ++ map f (drop count rest)) (sym first_is)
          ∙ ap (λ (x : List Record). map f first ++ x) (sym (append-nil (map f (drop count rest))));
      put = put;
      room = λ few. ap (map f) (drop_all count rest (whole few size total (cases_lt room (length rest))));
      full = λ many. let none : count ≡ 0 = omega (arith, many, below, room_is) in ap (map f) (first_is ∙ ap (λ (i : ℕ). take i rest) none);
    }
  where
    whole : length b < 4096 → length (map f first) ≡ count → length b ≡ length a + length (map f first) → (room < length rest) ⊎ (length rest ≤ room) → length rest ≤ count
    whole few size total (inl more) =
        let all_room : count ≡ room = count_is ∙ min-eq_left (omega (arith, more)) in
        absurd (omega (arith, few, size, total, all_room, room_is))
    whole few size total (inr less) =
        let all_rest : count ≡ length rest = count_is ∙ min-eq_right less in
        omega (arith, all_rest)

-- ---- set after set

module _ (a b c : List Group) (all soa set : List Record) (sets rest : Sets) (skip behind : ℕ) where
  pub set_gathered : (e : RrKey × RRset) → sets ≡ e ∷ rest → set ≡ records_together (between e.1) → Gathers a b all (drop skip (sets_records sets ++ soa)) → Gathers b c (drop skip set) []
      → behind ≡ skip - length set → Gathers a c all (drop behind (sets_records rest ++ soa))
  set_gathered e is set_is g h count =
      let own : List Record = records_together (between e.1) in
      let path : sets_records sets ++ soa ≡ set ++ (sets_records rest ++ soa) =
      ap (λ (m : Sets). sets_records m ++ soa) is ∙ append_assoc own (sets_records rest) soa ∙ ap (λ (x : List Record). x ++ (sets_records rest ++ soa)) (sym set_is) in
      gathered_then a b c all set (sets_records rest ++ soa) skip behind (subst (λ (x : List Record). Gathers a b all (drop skip x)) path g) h count

  pub soa_gathered : sets ≡ [] → set ≡ soa → Gathers a b all (drop skip (sets_records sets ++ soa)) → Gathers b c (drop skip set) [] → Gathers a c all []
  soa_gathered none set_is g h =
      gathered_last a b c all (drop skip soa) (subst (λ (m : Sets). Gathers a b all (drop skip (sets_records m ++ soa))) none g)
      (subst (λ (x : List Record). Gathers b c (drop skip x) []) set_is h)

-- the SOA with which a transfer begins, and all behind it
pub gathered_opening : (a b c : List Group) (own soa : List Record) (sets m : Sets) (sent skip : ℕ) → own ≡ soa → sets ≡ m → Gathers a b (drop sent own) [] → Gathers b c (drop skip (sets_records sets ++ soa)) []
    → skip ≡ sent - length own → Gathers a c (drop sent (soa ++ (sets_records m ++ soa))) []
gathered_opening a b c own soa sets m sent skip own_is sets_is g h e =
    subst (λ (x : List Record). Gathers a c (drop sent (x ++ (sets_records m ++ soa))) []) own_is
    (gathered_two a b c own (sets_records m ++ soa) sent skip g (subst (λ (x : Sets). Gathers b c (drop skip (sets_records x ++ soa)) []) sets_is h) e)

-- from nothing on, at a place
pub in_place : (a b c : List Group) (left whole : List Record) → a ≡ [] → c ≡ b → left ≡ whole → Gathers a b left [] → Gathers [] c whole []
in_place a b c left whole e d f g =
    subst (λ (x : List Record). Gathers [] c x []) f (subst (λ (x : List Group). Gathers [] x left []) (sym d) (subst (λ (x : List Group). Gathers x b left []) e g))
