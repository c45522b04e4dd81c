-- While the changes of an update are made, each set stays that the owner of the key may not change
use Rattle.std.proofs.Common.{◌≡◌, ◌⊎◌, ℕ, Bool, true, false, not, ◌||◌, ◌==◌, List, [], ◌∷◌, length, refl, sym, ap, ◌∙◌, subst, inl, inr, Result, Ok, Err}
use Rattle.std.specs.Prelude.{Some, None, if◌then◌else◌, is_some, unwrap_or, IsTrue}
use Rattle.std.specs.List.{list_all}
use Rattle.zone_proto.specs.declared.rr_key.RrKey.{RrKey}
use Rattle.zone_proto.specs.Data.{type_of}
use Rattle.zone_proto.specs.Keys.{key, key_eq}
use Rattle.zone_proto.specs.Names.{Name, lower}
use Rattle.zone_proto.proofs.Members.{In, In-from_filter, and_left, and_right}
use Rattle.zone_proto.proofs.Ordering.KeyOrder.{key_same}
use Rattle.zone_map.specs.Zones.{Sets, owns, set_at, types_at, without}
use Rattle.zone_map.proofs.Owned.{type_in, type_owned}
use Rattle.update_policy.specs.Policies.{permits}
use Rattle.update_policy.specs.declared.rule.Rule.{Rule}
use Rattle.zone_update.specs.Changes.{change_of, changes_of}
use Rattle.zone_update.specs.Entries.{◌>>=◌}
use Rattle.zone_update.specs.Processing.{added, deleted_name, deleted_record, deleted_set, goes, going, processed, without_types}
use Rattle.zone_update.specs.Updates.{Course, run}
use Rattle.zone_update.specs.declared.change.Change.{Change}
use Rattle.zone_update.specs.declared.change.Change.TheVariants.{Add, DeleteSet, DeleteName, DeleteRecord}
use Rattle.zone_update.specs.declared.entry.Entry.{Entry}
use Rattle.zone_update.specs.declared.refusal.Refusal.{Refusal}
use Rattle.update_permission.specs.Permissions.{deletes_name, is_each_permitted, is_permitted, may_go, type_about}
use Rattle.update_permission.proofs.About.{about, IsAbout}
use Rattle.update_permission.proofs.Apart.{by_addition, by_deletion, by_record_deletion, taken_out, DiffersAt}

pub mapped : {A B C : Type 0} → (A → C) → A ⊎ B → C ⊎ B
mapped f (inl a) = inl (f a)
mapped f (inr b) = inr b

all_pass : (p : ℕ → Bool) (ts : List ℕ) → list_all p ts ≡ true → (t : ℕ) → In t ts → p t ≡ true
all_pass p [] h t i = absurd i
all_pass p (u ∷ ts) h t (inl e) = ap p (sym e) ∙ and_left (p u) (list_all p ts) h
all_pass p (u ∷ ts) h t (inr i) = all_pass p ts (and_right (p u) (list_all p ts) h) t i

-- what there is only one of
taken : (xs ys : List Change) (r : Result (List Change) Refusal) → r ≡ Ok xs → r ≡ Ok ys → xs ≡ ys
taken xs ys r e f = cc

module _ (rules : List Rule) (requestor origin : Name) (m : Sets) where
  -- each set stands as it does in m, or may be changed
  abbrev pub Stays : Sets → Type 0
  Stays c = (n : Name) (t : ℕ) → (set_at c n t ≡ set_at m n t) ⊎ IsTrue (permits rules requestor n t)

  one_changed : (a : Name) (u : ℕ) (c d : Sets) → permits rules requestor a u ≡ true → DiffersAt a u c d → Stays c → Stays d
  one_changed a u c d may differs stays n t = by (key_eq (key n t) (key a u)) refl
    where
      by : (b : Bool) → key_eq (key n t) (key a u) ≡ b → (set_at d n t ≡ set_at m n t) ⊎ IsTrue (permits rules requestor n t)
      by true e = inr (ap (λ (k : RrKey). permits rules requestor k.name k.record_type.0) (key_same (key n t) (key a u) e) ∙ may)
      by false e = mapped (λ h. differs n t e ∙ h) (stays n t)

  -- ---- all sets of a name

  gone : (a : Name) (c : Sets) (ts : List ℕ) → ((t : ℕ) → In t ts → permits rules requestor a t ≡ true) → Stays c → Stays (without_types a c ts)
  gone a c [] may stays = stays
  gone a c (t ∷ ts) may stays =
      gone a (without c a t) ts (λ u i. may u (inr i)) (one_changed a t c (without c a t) (may t (inl refl)) (taken_out c a t) stays)

  -- what goes may go: what the name owned before may by the test, and what was changed since was permitted
  all_may : (a : Name) (c : Sets) → list_all (may_go rules requestor origin a) (types_at m a) ≡ true → Stays c
      → (t : ℕ) → In t (going origin a (types_at c a)) → permits rules requestor a t ≡ true
  all_may a c may stays t i = by (stays a t)
    where
      left : In t (types_at c a) × (goes origin a t ≡ true)
      left = In-from_filter (goes origin a) t (types_at c a) i

      by : (set_at c a t ≡ set_at m a t) ⊎ IsTrue (permits rules requestor a t) → permits rules requestor a t ≡ true
      by (inl same) =
          let owned : owns m a t ≡ true = ap is_some (sym same) ∙ type_owned c a t left.0 in
          sym (ap (λ b. not b || permits rules requestor a t) left.1) ∙ all_pass (may_go rules requestor origin a) (types_at m a) may t (type_in m a t owned)
      by (inr h) = h

  name_gone : (a : Name) (c : Sets) → list_all (may_go rules requestor origin a) (types_at m a) ≡ true → Stays c → Stays (unwrap_or (deleted_name c origin a) c)
  name_gone a c may stays = by (length (going origin a (types_at c a)) == 0)
    where
      by : (b : Bool) → Stays (unwrap_or (if b then None else Some (without_types a c (going origin a (types_at c a)))) c)
      by true = stays
      by false = gone a c (going origin a (types_at c a)) (all_may a c may stays) stays

  -- ---- each change

  step : (serial : ℕ) (c : Sets) (r : Entry) (d : Change) → IsAbout r d → is_permitted rules requestor origin m r ≡ true → Stays c → Stays (unwrap_or (processed serial c origin d) c)
  step serial c r d is may stays = by d is
    where
      of_one : deletes_name r ≡ false → permits rules requestor (lower r.name) (type_about r) ≡ true
      of_one e =
          sym (ap (λ b. if b then list_all (may_go rules requestor origin (lower r.name)) (types_at m (lower r.name)) else permits rules requestor (lower r.name) (type_about r)) e)
          ∙ may

      of_all : deletes_name r ≡ true → list_all (may_go rules requestor origin (lower r.name)) (types_at m (lower r.name)) ≡ true
      of_all e =
          sym (ap (λ b. if b then list_all (may_go rules requestor origin (lower r.name)) (types_at m (lower r.name)) else permits rules requestor (lower r.name) (type_about r)) e)
          ∙ may

      by : (d : Change) → IsAbout r d → Stays (unwrap_or (processed serial c origin d) c)
      by (Add x) (one, named, typed) =
          let same : permits rules requestor (lower x.name) (type_of x.rdata) ≡ permits rules requestor (lower r.name) (type_about r) = λ i. permits rules requestor (named i) (typed i) in
          one_changed (lower x.name) (type_of x.rdata) c (unwrap_or (added serial c x) c) (same ∙ of_one one) (by_addition serial c x) stays
      by (DeleteSet k) (one, same) =
          one_changed k.name k.record_type.0 c (unwrap_or (deleted_set c origin k) c)
          (ap (λ (j : RrKey). permits rules requestor j.name j.record_type.0) same ∙ of_one one) (by_deletion c origin k) stays
      by (DeleteName a) (all, name) = name_gone a c (ap (λ b. list_all (may_go rules requestor origin b) (types_at m b)) name ∙ of_all all) stays
      by (DeleteRecord a e) (one, named, typed) =
          let same : permits rules requestor a (type_of e) ≡ permits rules requestor (lower r.name) (type_about r) = λ i. permits rules requestor (named i) (typed i) in
          one_changed a (type_of e) c (unwrap_or (deleted_record serial c origin a e) c) (same ∙ of_one one) (by_record_deletion serial c origin a e) stays

  -- and all of them
  pub run_stays : (serial : ℕ) (rs : List Entry) (cs : List Change) (c : Course) → changes_of origin rs ≡ Ok cs → is_each_permitted rules requestor origin m rs ≡ true → Stays c.sets
      → Stays (run origin serial c cs).sets
  unfolding changes_of run
  run_stays serial [] cs c h may stays = subst (λ (xs : List Change). Stays (run origin serial c xs).sets) (taken [] cs (changes_of origin []) refl h) stays
  run_stays serial (r ∷ rs) cs c h may stays = by (change_of origin r) refl (changes_of origin rs) refl h (run_stays serial rs)
    where
      by : (o : Result Change Refusal) → change_of origin r ≡ o → (os : Result (List Change) Refusal) → changes_of origin rs ≡ os
          → (o >>= λ d. os >>= λ ds. Ok (d ∷ ds)) ≡ Ok cs
          → ((ds : List Change) (d : Course) → changes_of origin rs ≡ Ok ds → is_each_permitted rules requestor origin m rs ≡ true → Stays d.sets → Stays (run origin serial d ds).sets)
          → Stays (run origin serial c cs).sets
      by (Err e) p os q g rest = absurd cc
      by (Ok d) p (Err e) q g rest = absurd cc
      by (Ok d) p (Ok ds) q g rest =
          subst (λ (xs : List Change). Stays (run origin serial c xs).sets) (taken (d ∷ ds) cs (Ok (d ∷ ds)) refl g)
          (rest ds (record { sets = unwrap_or (processed serial c.sets origin d) c.sets; changed = c.changed || is_some (processed serial c.sets origin d) }) q
          (and_right (is_permitted rules requestor origin m r) (is_each_permitted rules requestor origin m rs) may)
          (step serial c.sets r d (about r origin d p) (and_left (is_permitted rules requestor origin m r) (is_each_permitted rules requestor origin m rs) may) stays))
