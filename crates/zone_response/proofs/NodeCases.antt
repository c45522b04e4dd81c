-- What a name has for a query, case by case
use Rattle.std.proofs.Common.{◌≡◌, ℕ, ◌||◌, Bool, true, false, cond, ◌==◌, refl, sym, ap, ◌∙◌}
use Rattle.std.specs.Prelude.{Option, Some, None, option_and_then}
use Rattle.zone_proto.specs.Names.{Name}
use Rattle.zone_proto.specs.Sets.{RRset}
use Rattle.zone_proto.specs.Types.{CNAME, RRSIG, NSEC3, ANY}
use Rattle.zone_map.specs.AnyTypes.{any_type}
use Rattle.zone_map.specs.Zones.{Sets, set_at}
use Rattle.zone_response.specs.Sections.{is_signed}
use Rattle.zone_response.specs.Nodes.{own, alias, at_node, first_of, asked_set, stand_in_set, chosen_type, if_signed}

module _ (m : Sets) (x : Name) (t : ℕ) where
  -- ---- the set that is asked for

  pub unasked : (t == NSEC3) ≡ true → None ≡ asked_set m x t
  unasked h = sym (ap (λ b. cond b None (option_and_then (if_signed t) (set_at m x (chosen_type m x t)))) h)

  pub any_asked : (t == NSEC3) ≡ false → ((t == ANY) || (t == RRSIG)) ≡ true → option_and_then (if_signed t) (set_at m x (any_type m x)) ≡ asked_set m x t
  any_asked h e =
      ap (λ b. option_and_then (if_signed t) (set_at m x (cond b (any_type m x) t))) (sym e)
      ∙ sym (ap (λ b. cond b None (option_and_then (if_signed t) (set_at m x (chosen_type m x t)))) h)

  -- a query of another type than these two is one for the type itself
  pub own_asked : (o : Option RRset) → (t == NSEC3) ≡ false → ((t == ANY) || (t == RRSIG)) ≡ false → o ≡ set_at m x t → o ≡ asked_set m x t
  own_asked o h e f =
      f ∙ whole (set_at m x t)
      ∙ ap (λ b. option_and_then (if_signed t) (set_at m x (cond b (any_type m x) t))) (sym e)
      ∙ sym (ap (λ b. cond b None (option_and_then (if_signed t) (set_at m x (chosen_type m x t)))) h)
    where
      second : (b c : Bool) → (b || c) ≡ false → c ≡ false
      second true c g = cc
      second false c g = g

      whole : (o : Option RRset) → o ≡ option_and_then (if_signed t) o
      whole None = refl
      whole (Some s) = ap (λ b. cond b (cond (is_signed s) (Some s) None) (Some s)) (sym (second (t == ANY) (t == RRSIG) e))

  -- ---- what comes first

  pub own_first : (s : RRset) → Some s ≡ asked_set m x t → own s ≡ at_node m x t
  own_first s e = ap (λ (o : Option RRset). first_of o (set_at m x CNAME) (stand_in_set m x t)) e

  pub alias_first : (s : RRset) → None ≡ asked_set m x t → Some s ≡ set_at m x CNAME → alias s ≡ at_node m x t
  alias_first s e f = λ i. first_of (e i) (f i) (stand_in_set m x t)

  pub stand_in_first : (o : Option RRset) → None ≡ asked_set m x t → None ≡ set_at m x CNAME → o ≡ stand_in_set m x t → first_of None None o ≡ at_node m x t
  stand_in_first o e f g = λ i. first_of (e i) (f i) (g i)
