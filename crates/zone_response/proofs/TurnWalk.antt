-- The way from the origin down to a name, up to the first turn
use Rattle.std.proofs.Common.{◌≡◌, ℕ, ◌<◌, ◌≤◌, ◌&&◌, ◌||◌, Bool, true, false, cond, [], ◌∷◌, ◌++◌, length, refl, sym, ap, ◌∙◌, arith, length-append}
use Rattle.std.specs.Prelude.{Option, Some, None, option_map, ◌==◌}
use Rattle.std.specs.Option.{option_or}
use Rattle.zone_proto.specs.Names.{Name, name_eq, is_at_or_above, IsAbove, IsAtOrAbove}
use Rattle.zone_proto.specs.Sets.{RRset}
use Rattle.zone_proto.specs.Types.{NS, DS, DNAME}
use Rattle.zone_proto.proofs.Names.NameTree.{name_eq-Decides, is_at_or_above_sound, is_at_or_above_complete}
use Rattle.zone_map.specs.Zones.{Sets, set_at}
use Rattle.zone_response.specs.Descent.{Diversion, cut, renaming, cut_at, dname_at, diversion_at, diversion_by, diversion_down_to, diversion_above, diversion}
use Rattle.zone_response.specs.Neighbours.{NoLongerOwns}
use Rattle.zone_response.proofs.NextKeys.{above_from_shorter}

-- what is mapped of a value, or else of another one
pub mapped_or : {A B : Type 0} (f : A → B) (o p : Option A) → option_map f (option_or o p) ≡ option_or (option_map f o) (option_map f p)
mapped_or f None p = refl
mapped_or f (Some x) p = refl

pub or_none : {A : Type 0} (o : Option A) → option_or o None ≡ o
or_none None = refl
or_none (Some x) = refl

-- ---- names of the zone

-- how many labels a name has more than one above it
more_labels : (a x : Name) → is_at_or_above a x ≡ true → length a ≤ length x
more_labels a x h = let r = is_at_or_above_sound a x h in omega (arith, ap length r.1, length-append r.0 a)

pub other_size : (a b : Name) → (length a ≡ length b → ⊥) → name_eq a b ≡ false
other_size a b h = by (name_eq a b) refl
  where
    by : (c : Bool) → name_eq a b ≡ c → c ≡ false
    by true e = absurd (h (ap length ((name_eq-Decides a b).0 e)))
    by false e = refl

module _ (origin : Name) (m : Sets) (x : Name) (t : ℕ) where
  outside_at : (a : Name) → is_at_or_above origin a ≡ false → diversion_at origin m x t a ≡ None
  outside_at a h = ap (λ b. cond b (option_or (option_map cut (cut_at origin m x t a)) (option_map renaming (dname_at m x a))) None) h

  second : (b c : Bool) → b || c ≡ false → c ≡ false
  second true c h = cc
  second false c h = h

  -- above the origin nothing turns
  nothing_outside : (a : Name) → is_at_or_above origin a ≡ false → diversion_down_to origin m x t a ≡ None
  nothing_outside [] h = outside_at [] h
  nothing_outside (l ∷ a) h = λ i. option_or (nothing_outside a (second (name_eq origin (l ∷ a)) (is_at_or_above origin a) h) i) (outside_at (l ∷ a) h i)

  nothing_above : (a : Name) → length a ≤ length origin → diversion_above origin m x t a ≡ None
  nothing_above [] le = refl
  nothing_above (l ∷ a) le = nothing_outside a (by (is_at_or_above origin a) refl)
    where
      by : (b : Bool) → is_at_or_above origin a ≡ b → b ≡ false
      by true e = absurd (omega (arith, le, more_labels origin a e))
      by false e = refl

  -- ---- what an ancestor turns

  module _ (a : Name) (inside : is_at_or_above origin a ≡ true) (other : name_eq a x ≡ false) where
    or_not : (b c : Bool) → b || (false && c) ≡ b
    or_not true c = refl
    or_not false c = refl

    passed : diversion_at origin m x t a ≡ diversion_by (cond (name_eq a origin) None (set_at m a NS)) (set_at m a DNAME)
    passed =
        ap (λ b. cond b (option_or (option_map cut (cut_at origin m x t a)) (option_map renaming (dname_at m x a))) None) inside
        ∙ (λ i. option_or (option_map cut (cond (name_eq a origin || (other i && (t == DS))) None (set_at m a NS))) (option_map renaming (cond (other i) None (set_at m a DNAME))))
        ∙ ap (λ b. option_or (option_map cut (cond b None (set_at m a NS))) (option_map renaming (set_at m a DNAME))) (or_not (name_eq a origin) (t == DS))

  down_to : (a : Name) → diversion_down_to origin m x t a ≡ option_or (diversion_above origin m x t a) (diversion_at origin m x t a)
  down_to [] = by (diversion_at origin m x t [])
    where
      by : (o : Option Diversion) → o ≡ option_or None o
      by o = refl
  down_to (l ∷ a) = refl

  -- ---- names between two others, that own nothing

  turns_nothing : (a : Name) → ((u : ℕ) → set_at m a u ≡ None) → diversion_at origin m x t a ≡ None
  turns_nothing a none =
      (λ i. cond (is_at_or_above origin a)
      (option_or (option_map cut (cond (name_eq a origin || (name_eq a x && (t == DS))) None (none NS i))) (option_map renaming (cond (name_eq a x) None (none DNAME i)))) None)
      ∙ by (is_at_or_above origin a) (name_eq a origin || (name_eq a x && (t == DS))) (name_eq a x)
    where
      either : (b c : Bool) → option_or (option_map cut (cond b None None)) (option_map renaming (cond c None None)) ≡ None
      either true true = refl
      either true false = refl
      either false true = refl
      either false false = refl

      by : (a b c : Bool) → cond a (option_or (option_map cut (cond b None None)) (option_map renaming (cond c None None))) None ≡ None
      by true b c = either b c
      by false b c = refl

  nothing_between : (front c : Name) → ((a : Name) (u : ℕ) → IsAtOrAbove a (front ++ c) → length c < length a → set_at m a u ≡ None)
      → diversion_down_to origin m x t (front ++ c) ≡ diversion_down_to origin m x t c
  nothing_between [] c none = refl
  nothing_between (l ∷ front) c none =
      let longer : length c < length (l ∷ (front ++ c)) = omega (arith, length-append front c) in
      ap (option_or (diversion_down_to origin m x t (front ++ c))) (turns_nothing (l ∷ (front ++ c)) (λ u. none (l ∷ (front ++ c)) u ([], refl) longer))
      ∙ or_none (diversion_down_to origin m x t (front ++ c))
      ∙ nothing_between front c (λ a u w more. none a u (l ∷ w.0, ap (λ n. l ∷ n) w.1) more)

  -- from a name up to another one, where nothing between them owns a set
  pub up_to : (b c : Name) → IsAbove c b → NoLongerOwns m b (length c) → diversion_above origin m x t b ≡ diversion_down_to origin m x t c
  up_to b c w none =
      ap (diversion_above origin m x t) w.2
      ∙ nothing_between w.1 c (λ a u v more. none a u (w.0, v.0, w.2 ∙ ap (λ n. w.0 ∷ n) v.1) more)

  -- one step of a search up the ancestors: what was found before is below what is found now
  pub goes_up : (b c : Name) (found here next : Option Diversion) → is_at_or_above origin c ≡ true → length c < length x → IsAbove c b → NoLongerOwns m b (length c)
      → here ≡ diversion_by (cond (name_eq c origin) None (set_at m c NS)) (set_at m c DNAME) → next ≡ option_or here found
      → option_or (diversion_above origin m x t b) found ≡ option_or (diversion_above origin m x t c) next
  goes_up b c found here next inside shorter w none is joined =
      ap (λ o. option_or o found) (up_to b c w none ∙ down_to c ∙ ap (option_or (diversion_above origin m x t c)) (passed c inside (other_size c x (λ e. omega (arith, e))) ∙ sym is))
      ∙ by (diversion_above origin m x t c)
      ∙ ap (option_or (diversion_above origin m x t c)) (sym joined)
    where
      by : (o : Option Diversion) → option_or (option_or o here) found ≡ option_or o (option_or here found)
      by None = refl
      by (Some s) = refl

  -- at the origin there is no name left
  pub none_left : (b : Name) (found : Option Diversion) → length b ≤ length origin → option_or (diversion_above origin m x t b) found ≡ found
  none_left b found short = ap (λ o. option_or o found) (nothing_above b short)

  -- and where no name below the origin is left that owns a set, the origin's DNAME is before all that was found
  pub at_origin : (b : Name) (found here next : Option Diversion) → is_at_or_above origin b ≡ true → length origin < length b → length b ≤ length x → NoLongerOwns m b (length origin)
      → here ≡ diversion_by None (set_at m origin DNAME) → next ≡ option_or here found → next ≡ option_or (diversion_above origin m x t b) found
  at_origin b found here next inside longer short none is joined =
      sym
      (goes_up b origin found here next (is_at_or_above_complete origin origin ([], refl)) (omega arith) (above_from_shorter origin b (is_at_or_above_sound origin b inside) longer) none
      (is ∙ ap (λ e. diversion_by (cond e None (set_at m origin NS)) (set_at m origin DNAME)) (sym ((name_eq-Decides origin origin).1 refl))) joined
      ∙ none_left origin next (omega arith))

  -- ---- the whole way

  pub of_above : (s : Diversion) → Some s ≡ diversion_above origin m x t x → Some s ≡ diversion origin m x t
  of_above s e = sym (down_to x ∙ ap (λ o. option_or o (diversion_at origin m x t x)) (sym e))

  pub of_itself : None ≡ diversion_above origin m x t x → diversion_at origin m x t x ≡ diversion origin m x t
  of_itself e = sym (down_to x ∙ ap (λ o. option_or o (diversion_at origin m x t x)) (sym e))

  -- a name of the zone is a zone cut itself, or turns nothing on the way to it
  pub own_turn : (o : Option RRset) → is_at_or_above origin x ≡ true → o ≡ cut_at origin m x t x → option_map cut o ≡ diversion_at origin m x t x
  own_turn o inside e =
      sym
      (ap (λ b. cond b (option_or (option_map cut (cut_at origin m x t x)) (option_map renaming (dname_at m x x))) None) inside
      ∙ ap (λ b. option_or (option_map cut (cut_at origin m x t x)) (option_map renaming (cond b None (set_at m x DNAME)))) ((name_eq-Decides x x).1 refl)
      ∙ or_none (option_map cut (cut_at origin m x t x))
      ∙ ap (option_map cut) (sym e))

  -- DS of a child is the parent's
  pub of_digest : true ≡ (t == DS) → None ≡ cut_at origin m x t x
  of_digest e =
      sym
      ((λ i. cond (name_eq x origin || ((name_eq-Decides x x).1 refl i && sym e i)) None (set_at m x NS))
      ∙ by (name_eq x origin))
    where
      by : (b : Bool) → cond (b || true) None (set_at m x NS) ≡ None
      by true = refl
      by false = refl

  pub of_other : false ≡ (t == DS) → cond (name_eq x origin) None (set_at m x NS) ≡ cut_at origin m x t x
  of_other e = by (name_eq x origin) (name_eq x x) ∙ (λ i. cond (name_eq x origin || (name_eq x x && e i)) None (set_at m x NS))
    where
      by : (b c : Bool) → cond b None (set_at m x NS) ≡ cond (b || (c && false)) None (set_at m x NS)
      by true c = refl
      by false true = refl
      by false false = refl
