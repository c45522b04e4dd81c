-- The path of a query, name by name
use Rattle.std.proofs.Common.{◌≡◌, ℕ, suc, true, false, cond, List, [], ◌∷◌, ◌++◌, sym, ap, ◌∙◌, append_assoc}
use Rattle.std.specs.List.{list_any}
use Rattle.std.proofs.lemmas.List.{append-nil}
use Rattle.zone_proto.specs.Names.{Name, name_eq}
use Rattle.zone_proto.specs.Sets.{RRset}
use Rattle.zone_response.specs.Paths.{Path, ended, behind, unless_answered, next_behind, searched, path_from, path}
use Rattle.zone_response.specs.Queries.{Inquiry}
use Rattle.zone_response.specs.Steps.{End, unfollowed, Next, on, ends, step}

behind_both : (a b : List RRset) (n k : List Name) (p : Path) → behind (a ++ b) (n ++ k) p ≡ behind a n (behind b k p)
behind_both a b n k p = λ i. record { answers = append_assoc a b p.answers i; made = append_assoc n k p.made i; end = p.end }

behind_end : (a : List RRset) (n : List Name) (e : End) → behind a n (ended e) ≡ record { answers = a; made = n; end = e }
behind_end a n e = λ i. record { answers = append-nil a i; made = append-nil n i; end = e }

module _ (q : Inquiry) where
  seen_again : (k j : ℕ) (seen : List Name) (a : List RRset) (x : Name) → k ≡ suc j → list_any (name_eq x) seen ≡ true → path_from q k seen a x ≡ ended unfollowed
  seen_again k j seen a x e h =
      ap (λ i. path_from q i seen a x) e
      ∙ ap (λ b. cond b (ended unfollowed) (behind (step q a x).answers (step q a x).made (searched (path_from q j (seen ++ x ∷ []) (a ++ (step q a x).answers)) (next_behind q a x)))) h

  pub unseen : (k j : ℕ) (seen : List Name) (a : List RRset) (x : Name) → k ≡ suc j → list_any (name_eq x) seen ≡ false
      → path_from q k seen a x ≡ behind (step q a x).answers (step q a x).made (searched (path_from q j (seen ++ x ∷ []) (a ++ (step q a x).answers)) (next_behind q a x))
  unseen k j seen a x e h =
      ap (λ i. path_from q i seen a x) e
      ∙ ap (λ b. cond b (ended unfollowed) (behind (step q a x).answers (step q a x).made (searched (path_from q j (seen ++ x ∷ []) (a ++ (step q a x).answers)) (next_behind q a x)))) h

  pub begins : (a : List RRset) (o : List Name) (k : ℕ) (seen : List Name) (n x : Name) → a ≡ [] → o ≡ [] → k ≡ 8 → seen ≡ [] → x ≡ n → behind a o (path_from q k seen a x) ≡ path q n
  unfolding path
  begins a o k seen n x sets names all none e = λ i. behind (sets i) (names i) (path_from q (all i) (none i) (sets i) (e i))

  -- what is left of a path, behind the sets and the names so far, is the whole
  module _ (whole : Path) (a : List RRset) (n : List Name) (k : ℕ) (seen : List Name) (x : Name) (left : behind a n (path_from q k seen a x) ≡ whole) where
    ended_here : path_from q k seen a x ≡ ended unfollowed → record { answers = a; made = n; end = unfollowed } ≡ whole
    ended_here e = sym (behind_end a n unfollowed) ∙ sym (ap (behind a n) e) ∙ left

    pub none_left : k ≡ 0 → record { answers = a; made = n; end = unfollowed } ≡ whole
    none_left e = ended_here (ap (λ i. path_from q i seen a x) e)

    module _ (j : ℕ) (more : k ≡ suc j) where
      pub known : list_any (name_eq x) seen ≡ true → record { answers = a; made = n; end = unfollowed } ≡ whole
      known h = ended_here (seen_again k j seen a x more h)

      module _ (new : list_any (name_eq x) seen ≡ false) (b : List RRset) (o : List Name) (sets : b ≡ a ++ (step q a x).answers) (names : o ≡ n ++ (step q a x).made) where
        stepped : behind b o (searched (path_from q j (seen ++ x ∷ []) b) (next_behind q a x)) ≡ whole
        stepped =
            (λ i. behind (sets i) (names i) (searched (path_from q j (seen ++ x ∷ []) (sets i)) (next_behind q a x)))
            ∙ behind_both a (step q a x).answers n (step q a x).made (searched (path_from q j (seen ++ x ∷ []) (a ++ (step q a x).answers)) (next_behind q a x))
            ∙ sym (ap (behind a n) (unseen k j seen a x more new)) ∙ left

        -- what comes next, behind the sets that the step adds
        pub told : (n w : Next) → n ≡ unless_answered q.record_type b w → w ≡ (step q a x).next → n ≡ next_behind q a x
        told n w is next = is ∙ (λ i. unless_answered q.record_type (sets i) (next i))

        pub goes_on : (target : Name) (also : List Name) → on target ≡ next_behind q a x → also ≡ seen ++ x ∷ [] → behind b o (path_from q j also b target) ≡ whole
        goes_on target also next e =
            ap (λ s. behind b o (path_from q j s b target)) e
            ∙ ap (λ w. behind b o (searched (path_from q j (seen ++ x ∷ []) b) w)) next ∙ stepped

        pub comes_to : (e : End) → ends e ≡ next_behind q a x → record { answers = b; made = o; end = e } ≡ whole
        comes_to e next = sym (behind_end b o e) ∙ ap (λ w. behind b o (searched (path_from q j (seen ++ x ∷ []) b) w)) next ∙ stepped
