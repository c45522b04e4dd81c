-- Which names exist: what the entries from a name's least key on say, and what isn't delegated below the closest encloser
use Rattle.std.proofs.Common.{◌≡◌, ℕ, ◌&&◌, ◌||◌, not, Bool, true, false, cond, [], ◌∷◌, drop, refl, sym, ap, ◌∙◌, true≢false, Ordering, Less, Equal, Greater}
use Rattle.std.specs.Prelude.{Option, Some, None, find, option_map, unwrap_or, ◌==◌}
use Rattle.std.specs.Ordering.{is_le}
use Rattle.std.specs.List.Sorted.{IsStrictlySortedBy}
use Rattle.std.specs.Map.{keys_of}
use Rattle.std.specs.Option.{option_or}
use Rattle.std.proofs.lemmas.Map.Keys.{sorted_head, sorted_tail}
use Rattle.zone_proto.specs.declared.rr_key.RrKey.{RrKey}
use Rattle.zone_proto.specs.Keys.{key, key_cmp}
use Rattle.zone_proto.specs.Names.{Name, name_cmp, name_eq, label_eq, is_at_or_above, is_root, suffixes, asterisk_label, wildcard_under}
use Rattle.zone_proto.specs.Sets.{RRset}
use Rattle.zone_proto.specs.Types.{NS, SOA, DS}
use Rattle.zone_proto.proofs.Members.{any_from_In, In-map}
use Rattle.zone_proto.proofs.Names.NameTree.{is_at_or_above_complete}
use Rattle.zone_map.specs.Zones.{Sets, owns, owns_at_or_below}
use Rattle.zone_map.specs.Upserts.{is_denial_type}
use Rattle.zone_map.specs.Direct.{is_delegated, referral_at, referral, exact, direct}
use Rattle.zone_map.specs.Walks.{referral_above, own_referral}
use Rattle.zone_map.specs.Wildcards.{exists, asked_wildcard}
use Rattle.zone_map.proofs.Owned.{has_entry}
use Rattle.zone_map.proofs.Neighbours.{from_key, at_or_after, earlier, before_not_below, none_below}
use Rattle.zone_map.proofs.Walks.{referral_split}

-- ---- what exists owns something, or has something below it

pub absent_where_unowned : (n : Name) (m : Sets) → owns_at_or_below m n ≡ false → exists m n ≡ false
absent_where_unowned n [] h = refl
absent_where_unowned n (e ∷ m) h = by (is_at_or_above n e.0.name) h (absent_where_unowned n m)
  where
    by : (b : Bool) → b || owns_at_or_below m n ≡ false → (owns_at_or_below m n ≡ false → exists m n ≡ false) → (b && not (is_denial_type e.0.record_type.0)) || exists m n ≡ false
    by true g ih = absurd (true≢false g)
    by false g ih = ih g

-- and a name that exists is there
pub owned_where_existing : (n : Name) (m : Sets) → exists m n ≡ true → owns_at_or_below m n ≡ true
owned_where_existing n m h = by (owns_at_or_below m n) refl
  where
    by : (b : Bool) → owns_at_or_below m n ≡ b → b ≡ true
    by true g = refl
    by false g = absurd (true≢false (sym h ∙ absent_where_unowned n m g))

-- a name that owns a type other than those of denial exists
pub owner_exists : (m : Sets) (n : Name) (t : ℕ) → owns m n t ≡ true → not (is_denial_type t) ≡ true → exists m n ≡ true
owner_exists m n t o k =
    let e = has_entry m n t o in
    any_from_In (λ (k : RrKey). is_at_or_above n k.name && not (is_denial_type k.record_type.0)) (key n t) (keys_of m) (In-map (λ (d : RrKey × RRset). d.0) (key n t, e.0) m e.1)
    (ap (λ b. b && not (is_denial_type t)) (is_at_or_above_complete n n ([], refl)) ∙ k)

-- ---- in a map in order, the entries from a name's least key on tell

-- of the entries in front that are of a name or of names below it, one isn't of a type of denial
abbrev pub shown_below : Name → Sets → Bool
shown_below n [] = false
shown_below n (e ∷ m) = cond (is_at_or_above n e.0.name) (not (is_denial_type e.0.record_type.0) || shown_below n m) false

pub exists_is_front : (n : Name) (m : Sets) → IsStrictlySortedBy key_cmp (keys_of m) → exists m n ≡ shown_below n (from_key (key n 0) m)
exists_is_front n [] s = refl
exists_is_front n (e ∷ m) s = by (name_cmp n e.0.name) refl (exists_is_front n m (sorted_tail key_cmp e.0 (keys_of m) s))
  where
    here : is_le (name_cmp n e.0.name) ≡ true → (b : Bool) → is_at_or_above n e.0.name ≡ b → exists m n ≡ shown_below n (from_key (key n 0) m)
        → (b && not (is_denial_type e.0.record_type.0)) || exists m n ≡ cond b (not (is_denial_type e.0.record_type.0) || shown_below n (from_key (key n 0) m)) false
    here h true g ih = ap (λ c. not (is_denial_type e.0.record_type.0) || c) ih
    here h false g ih = absent_where_unowned n m (none_below n e m h g (sorted_head key_cmp e.0 (keys_of m) s))

    first : is_le (name_cmp n e.0.name) ≡ true → exists m n ≡ shown_below n (from_key (key n 0) m) → exists (e ∷ m) n ≡ shown_below n (from_key (key n 0) (e ∷ m))
    first h ih =
        here h (is_at_or_above n e.0.name) refl ih
        ∙ ap (λ b. shown_below n (cond b (e ∷ from_key (key n 0) m) (from_key (key n 0) m))) (sym (at_or_after n e h))

    by : (o : Ordering) → name_cmp n e.0.name ≡ o → exists m n ≡ shown_below n (from_key (key n 0) m) → exists (e ∷ m) n ≡ shown_below n (from_key (key n 0) (e ∷ m))
    by Less h ih = first (ap is_le h) ih
    by Equal h ih = first (ap is_le h) ih
    by Greater h ih =
        ap (λ b. (b && not (is_denial_type e.0.record_type.0)) || exists m n) (before_not_below n e h)
        ∙ ih
        ∙ ap (λ b. shown_below n (cond b (e ∷ from_key (key n 0) m) (from_key (key n 0) m))) (sym (earlier n e h))

-- ---- above a name that doesn't exist, and up to its closest encloser, nothing is delegated

pub undelegated : (m : Sets) (a : Name) → exists m a ≡ false → is_delegated m a ≡ false
undelegated m a h = by (owns m a NS) refl
  where
    none : (b : Bool) → b && false ≡ false
    none true = refl
    none false = refl

    by : (b : Bool) → owns m a NS ≡ b → is_delegated m a ≡ false
    by true o = absurd (true≢false (sym (owner_exists m a NS o refl) ∙ h))
    by false o = ap (λ b. not (is_root a) && b) o ∙ none (not (is_root a))

pub above_encloser : (m : Sets) (n e : Name) → find (exists m) (suffixes n) ≡ Some e → referral_above m n ≡ referral_above m e
above_encloser m [] e h = by (exists m []) h
  where
    by : (b : Bool) → cond b (Some []) None ≡ Some e → referral_above m [] ≡ referral_above m e
    by true g = let same : [] ≡ e = cc in ap (referral_above m) same
    by false g = absurd cc
above_encloser m (l ∷ n) e h = by (exists m (l ∷ n)) refl h (above_encloser m n e)
  where
    by : (b : Bool) → exists m (l ∷ n) ≡ b → cond b (Some (l ∷ n)) (find (exists m) (suffixes n)) ≡ Some e
        → (find (exists m) (suffixes n) ≡ Some e → referral_above m n ≡ referral_above m e) → referral_above m (l ∷ n) ≡ referral_above m e
    by true x g ih = let same : l ∷ n ≡ e = cc in ap (referral_above m) same
    by false x g ih = ap (λ b. referral_at m (cond b (Some (l ∷ n)) (find (is_delegated m) (suffixes n)))) (undelegated m (l ∷ n) x) ∙ ih g

pub unsaid : (m : Sets) (n : Name) (t : ℕ) → exists m n ≡ false → own_referral m n t ≡ None
unsaid m n t h = ap (λ b. cond (b && not ((t == DS) && name_eq n n && not (owns m n SOA))) (Some (referral_at m (Some n))) None) (undelegated m n h)

first_none : (o p : Option RRset) → option_or o p ≡ None → o ≡ None
first_none None p h = refl
first_none (Some s) p h = absurd cc

-- what the names above the wildcard at the closest encloser say of the referral, where nothing is found at the name
-- itself
pub wildcard_unreferred : (m : Sets) (n s : Name) (t : ℕ) → direct m n t ≡ None → asked_wildcard m n ≡ Some s → referral_above m (drop 1 s) ≡ None
wildcard_unreferred m [] s t none is = absurd cc
wildcard_unreferred m (l ∷ n) s t none is = by (label_eq l asterisk_label) (exists m (l ∷ n)) refl is
  where
    above : exists m (l ∷ n) ≡ false → referral_above m n ≡ None
    above h =
        sym (referral_split m (l ∷ n) t ∙ ap (λ o. unwrap_or o (referral_above m n)) (unsaid m (l ∷ n) t h))
        ∙ first_none (referral m (l ∷ n) t) (exact m (l ∷ n) t) none

    of : exists m (l ∷ n) ≡ false → (o : Option Name) → find (exists m) (suffixes n) ≡ o → option_map wildcard_under o ≡ Some s → referral_above m (drop 1 s) ≡ None
    of h None f g = absurd cc
    of h (Some e) f g =
        let same : wildcard_under e ≡ s = cc in
        ap (λ x. referral_above m (drop 1 x)) (sym same) ∙ sym (above_encloser m n e f) ∙ above h

    by : (b x : Bool) → exists m (l ∷ n) ≡ x → cond (b || x) None (option_map wildcard_under (find (exists m) (suffixes n))) ≡ Some s → referral_above m (drop 1 s) ≡ None
    by true x h g = absurd cc
    by false true h g = absurd cc
    by false false h g = of h (find (exists m) (suffixes n)) refl g
