-- Lists of sets in which none repeats one that comes before it
use Rattle.std.proofs.Common.{◌≡◌, Bool, true, false, cond, ◌&&◌, ◌||◌, List, [], ◌∷◌, ◌++◌, refl, sym, ap, ◌∙◌, subst, ◌⊎◌, inl, inr, append_assoc}
use Rattle.std.specs.Prelude.{◌==◌}
use Rattle.std.specs.List.{list_any}
use Rattle.std.proofs.lemmas.List.{append-nil}
use Rattle.zone_proto.specs.Names.{lower, same_name}
use Rattle.zone_proto.specs.Sets.{RRset}
use Rattle.zone_proto.proofs.Members.{In, In-from_append, In-append_left, none_passes, and_right}
use Rattle.zone_lookup.specs.Runs.{with_new}
use Rattle.zone_response.specs.Sections.{is_signed, is_alike}
use Rattle.response_laws.specs.Repeats.{have_both, repeats, StandOnce}
use Rattle.response_laws.proofs.Leads.{same_in_lower}
use Rattle.response_laws.proofs.Said.{none_any}

-- ---- lists whose elements are new

module _ {X : Type 0} (same : X → X → Bool) where
  -- behind these elements, each of the others is
  abbrev pub Apart : List X → List X → Type 0
  Apart before [] = Unit {0}
  Apart before (x ∷ xs) = (list_any (λ y. same y x) before ≡ false) × Apart (before ++ x ∷ []) xs

  apart_both : (before a b : List X) → Apart before a → Apart (before ++ a) b → Apart before (a ++ b)
  apart_both before [] b h k = subst (λ l. Apart l b) (append-nil before) k
  apart_both before (x ∷ a) b h k = (h.0, apart_both (before ++ x ∷ []) a b h.1 (subst (λ l. Apart l b) (sym (append_assoc before (x ∷ []) a)) k))

  pub apart_new : (xs : List X) (x : X) → Apart [] xs → Apart [] (with_new same xs x)
  apart_new xs x h = by (list_any (λ y. same y x) xs) refl
    where
      by : (b : Bool) → list_any (λ y. same y x) xs ≡ b → Apart [] (cond b xs (xs ++ x ∷ []))
      by true e = h
      by false e = apart_both [] xs (x ∷ []) h (e, tt)

  pub apart_differ : (before xs : List X) → Apart before xs → (y x : X) → In y before → In x xs → same y x ≡ false
  apart_differ before [] h y x i j = absurd j
  apart_differ before (v ∷ xs) h y x i (inl e) = ap (same y) (sym e) ∙ by (same y v) refl
    where
      by : (b : Bool) → same y v ≡ b → b ≡ false
      by false f = refl
      by true f = absurd (none_passes (λ y. same y v) y before h.0 i f)
  apart_differ before (v ∷ xs) h y x i (inr j) = apart_differ (before ++ v ∷ []) xs h.1 y x (In-append_left y before (v ∷ []) i) j

-- ---- sets that repeat none

-- behind these sets, none of the others repeats one before it
abbrev pub Once : List RRset → List RRset → Type 0
Once = Apart (λ (r s : RRset). repeats s r)

pub once_both : (before a b : List RRset) → Once before a → Once (before ++ a) b → Once before (a ++ b)
once_both = apart_both (λ (r s : RRset). repeats s r)

once_at : (before front back : List RRset) (s : RRset) → Once before (front ++ s ∷ back) → list_any (repeats s) (before ++ front) ≡ false
once_at before [] back s h = ap (list_any (repeats s)) (append-nil before) ∙ h.0
once_at before (f ∷ front) back s h = ap (list_any (repeats s)) (sym (append_assoc before (f ∷ []) front)) ∙ once_at (before ++ f ∷ []) front back s h.1

pub stand_once : (sets all : List RRset) → sets ≡ all → Once [] all → StandOnce sets
stand_once sets all e h before back s f = once_at [] before back s (subst (Once []) (sym e ∙ f) h)

-- ---- sets of other owners or types

-- they repeat nothing
pub unlike : (s r : RRset) → is_alike s r ≡ false → repeats s r ≡ false
unlike s r e = λ i. e i && (have_both s.records r.records || is_signed s && is_signed r)

pub none_alike : (s : RRset) (sets : List RRset) → list_any (is_alike s) sets ≡ false → list_any (repeats s) sets ≡ false
none_alike s sets e = none_any (repeats s) sets (λ r i. unlike s r (by r i (is_alike s r) refl))
  where
    by : (r : RRset) → In r sets → (b : Bool) → is_alike s r ≡ b → b ≡ false
    by r i false f = refl
    by r i true f = absurd (none_passes (is_alike s) r sets e i f)

pub same_owners : (s r : RRset) → is_alike s r ≡ true → lower r.owner ≡ lower s.owner
same_owners s r e = same_in_lower r.owner s.owner (and_right (r.record_type == s.record_type) (same_name r.owner s.owner) e)

-- behind sets that none of them is like
once_behind : (before front sets : List RRset) → Once front sets → ((s r : RRset) → In s sets → In r before → is_alike s r ≡ false) → Once (before ++ front) sets
once_behind before front [] h k = tt
once_behind before front (s ∷ sets) h k =
    (none_any (repeats s) (before ++ front) (λ r i. by r (In-from_append r before front i)), subst (λ l. Once l sets) (sym (append_assoc before front (s ∷ []))) (once_behind before (front ++ s ∷ []) sets h.1 (λ v r i. k v r (inr i))))
  where
    repeated : (r : RRset) → In r front → (b : Bool) → repeats s r ≡ b → b ≡ false
    repeated r i false e = refl
    repeated r i true e = absurd (none_passes (repeats s) r front h.0 i e)

    by : (r : RRset) → In r before ⊎ In r front → repeats s r ≡ false
    by r (inl i) = unlike s r (k s r (inl refl) i)
    by r (inr i) = repeated r i (repeats s r) refl

pub once_after : (before sets : List RRset) → Once [] sets → ((s r : RRset) → In s sets → In r before → is_alike s r ≡ false) → Once before sets
once_after before sets h k = subst (λ l. Once l sets) (append-nil before) (once_behind before [] sets h k)
