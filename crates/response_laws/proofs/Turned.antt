-- A name that nothing turns on the way down to it is one above which neither a cut nor a DNAME stands
use Rattle.std.proofs.Common.{◌≡◌, ℕ, Bool, true, false, cond, ◌&&◌, ◌||◌, [], ◌∷◌, ◌++◌, drop, refl, sym, ap, ◌∙◌, true≢false, ◌⊎◌, inl, inr}
use Rattle.std.specs.Prelude.{Option, Some, None, option_map, is_some, ◌==◌}
use Rattle.std.specs.Option.{option_or}
use Rattle.zone_proto.specs.Names.{Label, Name, name_cmp, name_eq, is_above, is_at_or_above, IsAtOrAbove, IsAbove}
use Rattle.zone_proto.specs.Sets.{RRset}
use Rattle.zone_proto.specs.Types.{NS, DS, DNAME}
use Rattle.zone_proto.proofs.Members.{In-from_any, and_left, and_right}
use Rattle.zone_proto.proofs.Names.NameTree.{name_eq-Decides, above_test, above_is_less, is_at_or_above_sound, is_at_or_above_complete}
use Rattle.zone_proto.proofs.Names.Tree.{name_order, above_cases}
use Rattle.zone_proto.proofs.Ordering.Orders.{irrefl}
use Rattle.zone_map.specs.Zones.{Sets, set_at, owns, owners}
use Rattle.zone_map.proofs.Owned.{owner_owned}
use Rattle.zone_denial.specs.Authority.{is_below_cut}
use Rattle.zone_denial.proofs.Chain.NsecBelow.{above_at, comparable}
use Rattle.zone_denial.proofs.Names.LongestAncestors.{above_above}
use Rattle.denial_laws.proofs.OwnTypes.{neither}
use Rattle.zone_response.specs.Queries.{Zone}
use Rattle.zone_response.specs.Descent.{Diversion, cut, renaming, cut_at, dname_at, diversion_at, diversion_down_to, diversion}
use Rattle.response_laws.specs.HashedSayings.{IsReached}

-- ---- the way down to a name

above_child : (a : Name) (l : Label) (n : Name) → IsAtOrAbove a (l ∷ n) → (a ≡ l ∷ n) ⊎ IsAtOrAbove a n
above_child a l n ([], e) = inl (sym e)
above_child a l n (k ∷ f, e) = inr (f, ap (drop 1) e)

above_parent : (a : Name) (l : Label) (n : Name) → IsAbove a (l ∷ n) → IsAtOrAbove a n
above_parent a l n (k, f, e) = (f, ap (drop 1) e)

above_root : (a : Name) → IsAbove a [] → ⊥
above_root a (l, f, e) = let p : [] ≡ l ∷ (f ++ a) = e in cc

module _ (origin : Name) (m : Sets) (x : Name) (t : ℕ) where
  abbrev at : Name → Option Diversion
  at = diversion_at origin m x t

  none_turns : (n : Name) → diversion_down_to origin m x t n ≡ None → (a : Name) → IsAtOrAbove a n → at a ≡ None
  none_turns [] e a ([], q) = ap at (sym q) ∙ e
  none_turns [] e a (l ∷ f, q) = let p : [] ≡ l ∷ (f ++ a) = q in cc
  none_turns (l ∷ n) e a u =
      let both = neither (diversion_down_to origin m x t n) (at (l ∷ n)) e in
      by both.1 (none_turns n both.0 a) (above_child a l n u)
    where
      by : at (l ∷ n) ≡ None → (IsAtOrAbove a n → at a ≡ None) → (a ≡ l ∷ n) ⊎ IsAtOrAbove a n → at a ≡ None
      by own above (inl q) = ap at q ∙ own
      by own above (inr v) = above v

  pub none_down_to : (n : Name) → ((a : Name) → IsAtOrAbove a n → at a ≡ None) → diversion_down_to origin m x t n ≡ None
  none_down_to [] h = h [] ([], refl)
  none_down_to (l ∷ n) h = λ i. option_or (none_down_to n (λ a u. h a (l ∷ u.0, ap (λ k. l ∷ k) u.1)) i) (h (l ∷ n) ([], refl) i)

  -- the name that turns, above which none does
  pub record IsFirstDiversion (n : Name) (w : Diversion) : Type 0 where
    pub name : Name
    pub above : IsAtOrAbove name n
    pub turns : diversion_at origin m x t name ≡ Some w
    pub first : (b : Name) → IsAbove b name → diversion_at origin m x t b ≡ None

  first_turn : (n : Name) (w : Diversion) → diversion_down_to origin m x t n ≡ Some w → IsFirstDiversion n w
  first_turn [] w e = record { name = []; above = ([], refl); turns = e; first = λ b u. absurd (above_root b u) }
  first_turn (l ∷ n) w e = by (first_turn n w) (diversion_down_to origin m x t n) refl e
    where
      by : (diversion_down_to origin m x t n ≡ Some w → IsFirstDiversion n w) → (o : Option Diversion) → diversion_down_to origin m x t n ≡ o → option_or o (at (l ∷ n)) ≡ Some w → IsFirstDiversion (l ∷ n) w
      by above None d q = record { name = l ∷ n; above = ([], refl); turns = q; first = λ b u. none_turns n d b (above_parent b l n u) }
      by above (Some v) d q =
          let f = above (d ∙ q) in
          record { name = f.name; above = (l ∷ f.above.0, ap (λ k. l ∷ k) f.above.1); turns = f.turns; first = f.first }

  pub turned_first : (w : Diversion) → diversion origin m x t ≡ Some w → IsFirstDiversion x w
  turned_first w e = first_turn x w e

  pub unturned : diversion origin m x t ≡ None → (a : Name) → IsAtOrAbove a x → diversion_at origin m x t a ≡ None
  unturned e a u = none_turns x e a u

  -- ---- at one name

  abbrev said_at : Name → Option Diversion
  said_at a = option_or (option_map cut (cut_at origin m x t a)) (option_map renaming (dname_at m x a))

  no_cut : (o : Option RRset) → option_map cut o ≡ None → o ≡ None
  no_cut None e = refl
  no_cut (Some s) e = absurd cc

  no_renaming : (o : Option RRset) → option_map renaming o ≡ None → o ≡ None
  no_renaming None e = refl
  no_renaming (Some s) e = absurd cc

  pub silent_at : (a : Name) → is_at_or_above origin a ≡ true → diversion_at origin m x t a ≡ None → (cut_at origin m x t a ≡ None) × (dname_at m x a ≡ None)
  silent_at a inside e =
      let both = neither (option_map cut (cut_at origin m x t a)) (option_map renaming (dname_at m x a)) (sym (ap (λ b. cond b (said_at a) None) inside) ∙ e) in
      (no_cut (cut_at origin m x t a) both.0, no_renaming (dname_at m x a) both.1)

  -- the NS set of a cut
  pub cut_set : (a : Name) (s : RRset) → diversion_at origin m x t a ≡ Some (cut s) → (is_at_or_above origin a ≡ true) × (set_at m a NS ≡ Some s)
  cut_set a s e = by (is_at_or_above origin a) refl e
    where
      of_cut : (o d : Option RRset) → option_or (option_map cut o) (option_map renaming d) ≡ Some (cut s) → o ≡ Some s
      of_cut (Some v) d q = cc
      of_cut None (Some v) q = absurd cc
      of_cut None None q = absurd cc

      asked : (b : Bool) → cond b None (set_at m a NS) ≡ Some s → set_at m a NS ≡ Some s
      asked true q = absurd cc
      asked false q = q

      by : (b : Bool) → is_at_or_above origin a ≡ b → cond b (said_at a) None ≡ Some (cut s) → (is_at_or_above origin a ≡ true) × (set_at m a NS ≡ Some s)
      by true i q = (i, asked (name_eq a origin || (name_eq a x && (t == DS))) (of_cut (cut_at origin m x t a) (dname_at m x a) q))
      by false i q = absurd cc

  -- the DNAME set of a name above x
  pub renaming_set : (a : Name) (s : RRset) → diversion_at origin m x t a ≡ Some (renaming s) → (name_eq a x ≡ false) × (set_at m a DNAME ≡ Some s)
  renaming_set a s e = by (is_at_or_above origin a) e
    where
      of_renaming : (o d : Option RRset) → option_or (option_map cut o) (option_map renaming d) ≡ Some (renaming s) → d ≡ Some s
      of_renaming (Some v) d q = absurd cc
      of_renaming None (Some v) q = cc
      of_renaming None None q = absurd cc

      asked : (b : Bool) → name_eq a x ≡ b → cond b None (set_at m a DNAME) ≡ Some s → (name_eq a x ≡ false) × (set_at m a DNAME ≡ Some s)
      asked true f q = absurd cc
      asked false f q = (f, q)

      by : (b : Bool) → cond b (said_at a) None ≡ Some (renaming s) → (name_eq a x ≡ false) × (set_at m a DNAME ≡ Some s)
      by true q = asked (name_eq a x) refl (of_renaming (cut_at origin m x t a) (dname_at m x a) q)
      by false q = absurd cc

  -- which is no zone cut
  pub renaming_uncut : (a : Name) (s : RRset) → diversion_at origin m x t a ≡ Some (renaming s) → (is_at_or_above origin a ≡ true) × (cut_at origin m x t a ≡ None)
  renaming_uncut a s e = by (is_at_or_above origin a) refl e
    where
      of_renaming : (o d : Option RRset) → option_or (option_map cut o) (option_map renaming d) ≡ Some (renaming s) → o ≡ None
      of_renaming (Some v) d q = absurd cc
      of_renaming None d q = refl

      by : (b : Bool) → is_at_or_above origin a ≡ b → cond b (said_at a) None ≡ Some (renaming s) → (is_at_or_above origin a ≡ true) × (cut_at origin m x t a ≡ None)
      by true i q = (i, of_renaming (cut_at origin m x t a) (dname_at m x a) q)
      by false i q = absurd cc

-- ---- names that are reached

lower_above : (b y x : Name) → IsAbove b y → IsAtOrAbove y x → IsAbove b x
lower_above b y x u v = by (above_cases y x v)
  where
    by : (y ≡ x) ⊎ IsAbove y x → IsAbove b x
    by (inl e) = (u.0, u.1, sym e ∙ u.2)
    by (inr w) = above_above b y x (above_at b y u) w

pub not_above : (b x : Name) → IsAbove b x → name_eq b x ≡ false
not_above b x u = by (name_eq b x) refl
  where
    by : (c : Bool) → name_eq b x ≡ c → c ≡ false
    by false e = refl
    by true e = absurd (irrefl name_order x (ap (λ n. name_cmp n x) (sym ((name_eq-Decides b x).0 e)) ∙ above_is_less b x u))

-- the owner of a DNAME set that turns a search turns nothing on the way down to itself
pub renaming_unturned : (origin : Name) (m : Sets) (x : Name) (t : ℕ) (s : RRset) (f : IsFirstDiversion origin m x t x (renaming s)) → diversion origin m f.name t ≡ None
renaming_unturned origin m x t s f = none_down_to origin m f.name t f.name (λ a u. at_each a (above_cases a f.name u))
  where
    n : Name
    n = f.name

    other : name_eq n x ≡ false
    other = (renaming_set origin m x t n s f.turns).0

    place : (is_at_or_above origin n ≡ true) × (cut_at origin m x t n ≡ None)
    place = renaming_uncut origin m x t n s f.turns

    -- what a name turns, by whether it is the one that is searched
    turns : Name → Bool → Option Diversion
    turns a b = cond (is_at_or_above origin a) (option_or (option_map cut (cond (name_eq a origin || (b && (t == DS))) None (set_at m a NS))) (option_map renaming (cond b None (set_at m a DNAME)))) None

    above : (a : Name) → IsAbove a n → diversion_at origin m n t a ≡ None
    above a u = ap (turns a) (not_above a n u ∙ sym (not_above a x (lower_above a n x u f.above))) ∙ f.first a u

    no_cut_at : (b c : Bool) (o : Option RRset) → cond (b || (false && c)) None o ≡ None → cond (b || c) None o ≡ None
    no_cut_at true c o e = refl
    no_cut_at false true o e = refl
    no_cut_at false false o e = e

    uncut : cut_at origin m n t n ≡ None
    uncut =
        by (name_eq n n) (sym (λ i. cond (name_eq n origin || (other i && (t == DS))) None (set_at m n NS)) ∙ place.1)
      where
        by : (b : Bool) → cond (name_eq n origin || (false && (t == DS))) None (set_at m n NS) ≡ None → cond (name_eq n origin || (b && (t == DS))) None (set_at m n NS) ≡ None
        by true e = no_cut_at (name_eq n origin) (t == DS) (set_at m n NS) e
        by false e = e

    here : diversion_at origin m n t n ≡ None
    here = λ i. cond (place.0 i) (option_or (option_map cut (uncut i)) (option_map renaming (cond ((name_eq-Decides n n).1 refl i) None (set_at m n DNAME)))) None

    at_each : (a : Name) → (a ≡ n) ⊎ IsAbove a n → diversion_at origin m n t a ≡ None
    at_each a (inl e) = ap (diversion_at origin m n t) e ∙ here
    at_each a (inr u) = above a u

module _ (z : Zone) (no_dname_above : (a : Name) → IsAbove a z.origin → owns z.sets a DNAME ≡ false) (x : Name) (t : ℕ) (y : Name) (up : IsAtOrAbove y x) (inside : is_at_or_above z.origin y ≡ true) (none : (b : Name) → IsAbove b y → diversion_at z.origin z.sets x t b ≡ None) where
  no_servers : (b : Name) → IsAbove b y → is_at_or_above z.origin b ≡ true → name_eq b z.origin ≡ false → owns z.sets b NS ≡ false
  no_servers b u i other =
      ap is_some
      (sym (λ k. cond (other k || (not_above b x (lower_above b y x u up) k && (t == DS))) None (set_at z.sets b NS))
      ∙ (silent_at z.origin z.sets x t b i (none b u)).0)

  no_renaming_at : (b : Name) → IsAbove b y → is_at_or_above z.origin b ≡ true → owns z.sets b DNAME ≡ false
  no_renaming_at b u i =
      ap is_some (sym (ap (λ c. cond c None (set_at z.sets b DNAME)) (not_above b x (lower_above b y x u up))) ∙ (silent_at z.origin z.sets x t b i (none b u)).1)

  pub reached : IsReached z.origin z.sets y
  reached = record {
    inside = inside;
    uncut = uncut (is_below_cut z.origin z.sets y) refl;
    no_dname = λ a u. no_dname a u (comparable_with a u);
  }
    where
      below_origin : (b : Name) → IsAbove z.origin b → name_eq b z.origin ≡ false
      below_origin b u = by (name_eq b z.origin) refl
        where
          by : (c : Bool) → name_eq b z.origin ≡ c → c ≡ false
          by false e = refl
          by true e = absurd (irrefl name_order z.origin (ap (name_cmp z.origin) (sym ((name_eq-Decides b z.origin).0 e)) ∙ above_is_less z.origin b u))

      uncut : (c : Bool) → is_below_cut z.origin z.sets y ≡ c → c ≡ false
      uncut false e = refl
      uncut true e =
          let r = In-from_any (λ a. is_above z.origin a && is_above a y) (owners z.sets NS) e in
          let over = (above_test z.origin r.0).0 (and_left (is_above z.origin r.0) (is_above r.0 y) r.2) in
          let under = (above_test r.0 y).0 (and_right (is_above z.origin r.0) (is_above r.0 y) r.2) in
          absurd
          (true≢false
          (sym (owner_owned z.sets r.0 NS r.1)
          ∙ no_servers r.0 under (is_at_or_above_complete z.origin r.0 (above_at z.origin r.0 over)) (below_origin r.0 over)))

      comparable_with : (a : Name) → IsAbove a y → IsAtOrAbove z.origin a ⊎ IsAtOrAbove a z.origin
      comparable_with a u =
          let v = is_at_or_above_sound z.origin y inside in
          let w = above_at a y u in
          comparable v.0 w.0 z.origin a (sym v.1 ∙ w.1)

      no_dname : (a : Name) → IsAbove a y → IsAtOrAbove z.origin a ⊎ IsAtOrAbove a z.origin → owns z.sets a DNAME ≡ false
      no_dname a u (inl v) = no_renaming_at a u (is_at_or_above_complete z.origin a v)
      no_dname a u (inr v) = by (above_cases a z.origin v)
        where
          by : (a ≡ z.origin) ⊎ IsAbove a z.origin → owns z.sets a DNAME ≡ false
          by (inl e) = no_renaming_at a u (is_at_or_above_complete z.origin a ([], e))
          by (inr w) = no_dname_above a w
