-- The owners of NSEC are read from a name back, up to the closest one
use Rattle.std.proofs.Common.{◌≡◌, ℕ, ◌≤◌, Bool, true, false, cond, List, [], ◌∷◌, ◌++◌, length, refl, sym, ap, ◌∙◌, subst, inl, inr}
use Rattle.std.specs.Prelude.{Option, Some, None, Result, Ok, Err, OnErr, filter, option_and_then}
use Rattle.std.specs.Option.{option_map_or}
use Rattle.std.proofs.lemmas.List.{append-nil, append_assoc}
use Rattle.zone_proto.specs.Names.{Name, name_cmp}
use Rattle.zone_proto.specs.Order.{is_upto, greatest}
use Rattle.zone_proto.specs.Sets.{RRset}
use Rattle.zone_proto.specs.Types.{NSEC}
use Rattle.zone_proto.proofs.Names.Tree.{name_order}
use Rattle.zone_map.specs.Counts.{one_more, counted_more}
use Rattle.zone_map.specs.DenialOwners.{denial_owners_upto}
use Rattle.zone_map.specs.Zones.{Sets, set_at, owners, IsZone}
use Rattle.zone_map.proofs.Lists.{owners_ascend}
use Rattle.zone_denial.specs.NsecCircle.{next_of}
use Rattle.zone_denial.specs.NsecDenial.{goes_past, says_past, closest_owner, closest_nsec}
use Rattle.zone_denial.specs.OwnersRead.{owners_read, GrewByAtMost}
use Rattle.zone_denial.proofs.Ascending.{Ascends, Ascends-filter, Ascends-from_sorted}
use Rattle.zone_denial.proofs.ReadBack.{filter_twice, from_greatest, NonePass, none_greatest, all_read, found_greatest, found_read, read_at_most}

-- owners are in canonical order, and those of a part of them
pub upto_ascends : (m : Sets) (x : Name) → IsZone m → Ascends name_cmp (denial_owners_upto m NSEC x)
upto_ascends m x zone = Ascends-filter name_cmp (λ o. is_upto name_cmp o x) (owners m NSEC) (Ascends-from_sorted name_cmp (owners m NSEC) (owners_ascend m NSEC zone.ordered))

-- the closest owner is the greatest of those that aren't after the name and whose next name is past it
closest_among : (m : Sets) (x : Name) → closest_owner m x ≡ greatest name_cmp (filter (says_past m x) (denial_owners_upto m NSEC x))
closest_among m x = ap (greatest name_cmp) (sym (filter_twice (λ o. is_upto name_cmp o x) (says_past m x) (owners m NSEC)))

pub read_among : (m : Sets) (x : Name) → owners_read m x ≡ from_greatest name_order (says_past m x) (denial_owners_upto m NSEC x)
read_among m x = ap (λ c. filter (λ o. option_map_or (λ closest. is_upto name_cmp closest o) c true) (denial_owners_upto m NSEC x)) (closest_among m x)

-- some owners are left, and the others were read and counted, and the next name of none of those is past the name
pub record AreRead (m : Sets) (x : Name) (left : List Name) (before now : ℕ) : Type 0 where
  pub zone : IsZone m
  pub read : List Name
  pub split : denial_owners_upto m NSEC x ≡ left ++ read
  pub none : NonePass name_order (says_past m x) read
  pub counted : now ≡ counted_more (length read) before

pub none_read : (m : Sets) (x : Name) (left : List Name) (before : ℕ) → IsZone m → left ≡ denial_owners_upto m NSEC x → AreRead m x left before before
none_read m x left before zone e = record { zone = zone; read = []; split = sym e ∙ sym (append-nil left); none = λ y i. absurd i; counted = refl }

module _ (m : Sets) (x : Name) (left : List Name) (before now : ℕ) (r : AreRead m x left before now) where
  -- where none is left, there is no closest one
  module _ (empty : left ≡ []) where
    all_are : denial_owners_upto m NSEC x ≡ r.read
    all_are = r.split ∙ ap (λ os. os ++ r.read) empty

    none_past : NonePass name_order (says_past m x) (denial_owners_upto m NSEC x)
    none_past = subst (NonePass name_order (says_past m x)) (sym all_are) r.none

    pub none_closest : None ≡ closest_nsec m x
    none_closest = sym (ap (option_and_then (λ o. set_at m o NSEC)) (closest_among m x ∙ none_greatest name_order (says_past m x) (denial_owners_upto m NSEC x) none_past))

    pub none_counted : now ≡ counted_more (length (owners_read m x)) before
    none_counted =
        r.counted ∙ ap (λ os. counted_more (length os) before) (sym (read_among m x ∙ all_read name_order (says_past m x) (denial_owners_upto m NSEC x) none_past ∙ all_are))

  module _ (front : List Name) (o : Name) (next : ℕ) (last : left ≡ front ++ o ∷ []) (counts : next ≡ one_more now) where
    split : denial_owners_upto m NSEC x ≡ front ++ o ∷ r.read
    split = r.split ∙ ap (λ os. os ++ r.read) last ∙ append_assoc front (o ∷ []) r.read

    ascends : Ascends name_cmp (front ++ o ∷ r.read)
    ascends = subst (Ascends name_cmp) split (upto_ascends m x r.zone)

    read_is : owners_read m x ≡ from_greatest name_order (says_past m x) (front ++ o ∷ r.read)
    read_is = read_among m x ∙ ap (from_greatest name_order (says_past m x)) split

    counted : next ≡ counted_more (length (o ∷ r.read)) before
    counted = counts ∙ ap one_more r.counted

    -- the last of those that are left is the closest one if its next name is past the name
    pub last_closest : says_past m x o ≡ true → set_at m o NSEC ≡ closest_nsec m x
    last_closest past =
        sym (ap (option_and_then (λ o. set_at m o NSEC)) (closest_among m x ∙ ap (λ os. greatest name_cmp (filter (says_past m x) os)) split
        ∙ found_greatest name_order (says_past m x) front r.read o ascends r.none past))

    pub last_counted : says_past m x o ≡ true → next ≡ counted_more (length (owners_read m x)) before
    last_counted past = counted ∙ ap (λ os. counted_more (length os) before) (sym (read_is ∙ found_read name_order (says_past m x) front r.read o ascends r.none past))

    -- and else it is read like those
    pub one_read : says_past m x o ≡ false → AreRead m x front before next
    one_read past = record { zone = r.zone; read = o ∷ r.read; split = split; none = none; counted = counted }
      where
        none : NonePass name_order (says_past m x) (o ∷ r.read)
        none y (inl e) = ap (says_past m x) (sym e) ∙ past
        none y (inr i) = r.none y i

    -- whether it is isn't known where lack of memory ends the search
    pub last_refused : GrewByAtMost (length (owners_read m x)) before next
    last_refused = record {
      reads = length (o ∷ r.read);
      at_most = let most = read_at_most name_order (says_past m x) front r.read o ascends r.none in subst (λ os. length (o ∷ r.read) ≤ length os) (sym read_is) most;
      counted = counted;
    }

-- what the set of an owner gives, whose next name is past the name or isn't
pub set_if : (m : Sets) (x o : Name) (s : RRset) → Some s ≡ cond (says_past m x o) (set_at m o NSEC) None → (says_past m x o ≡ true) × (set_at m o NSEC ≡ Some s)
set_if m x o s e = by (says_past m x o) refl e
  where
    by : (b : Bool) → says_past m x o ≡ b → Some s ≡ cond b (set_at m o NSEC) None → (says_past m x o ≡ true) × (set_at m o NSEC ≡ Some s)
    by true h e = (h, sym e)
    by false h e = cc

pub no_set_if : (m : Sets) (x o : Name) → None ≡ cond (says_past m x o) (set_at m o NSEC) None → says_past m x o ≡ false
no_set_if m x o e = by (says_past m x o) refl e
  where
    by : (b : Bool) → says_past m x o ≡ b → None ≡ cond b (set_at m o NSEC) None → says_past m x o ≡ false
    by true h e = ap (λ (s : Option RRset). option_map_or (goes_past o x) (option_and_then next_of s) false) (sym e)
    by false h e = h

-- what holds anyway holds of a refusal
pub where_refused : {T E P : Type 0} (r : Result T E) → P → OnErr r P
where_refused (Ok x) h = tt
where_refused (Err e) h = h
