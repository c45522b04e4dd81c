-- The sets that have other signatures than they are to have, put among others one by one
use Rattle.std.proofs.Common.{◌≡◌, ℕ, ◌||◌, Bool, true, false, List, refl, sym, ap, ◌∙◌, subst, true≢false}
use Rattle.std.specs.Prelude.{Option, Some, None, if◌then◌else◌, is_some, option_and_then}
use Rattle.std.specs.List.{flat_map, list_any}
use Rattle.std.specs.Map.{lookup}
use Rattle.std.specs.Option.{option_or}
use Rattle.zone_proto.specs.declared.record.Record.{Record}
use Rattle.zone_proto.specs.declared.rr_key.RrKey.{RrKey}
use Rattle.zone_proto.specs.Keys.{key, key_eq}
use Rattle.zone_proto.specs.Names.{Name}
use Rattle.zone_proto.specs.Sets.{RRset}
use Rattle.zone_proto.proofs.Ordering.KeyOrder.{key_same}
use Rattle.zone_map.specs.Zones.{Sets, put, set_at, IsStoredAt}
use Rattle.zone_map.proofs.Stored.{put_apart, put_found}
use Rattle.zone_signing.specs.Secured.{SetsBy}
use Rattle.update_in_place.specs.Parts.{is_among, keys_of_name}
use Rattle.update_in_place.proofs.Exchanged.{among_by, any_by}

-- ---- the keys of the sets of some names

module _ (m : Sets) (q : RrKey) where
  -- what is made of a set is told by whether its owner is one of the names
  pub made_among : (names : List Name) (f : RRset → Option RRset)
      → (if list_any (key_eq q) (flat_map (keys_of_name m) names) then option_and_then f (lookup (key_eq q) m) else None) ≡ (if is_among names q.name then option_and_then f (lookup (key_eq q) m) else None)
  made_among names f = by (lookup (key_eq q) m) refl (is_among names q.name) refl (list_any (key_eq q) (flat_map (keys_of_name m) names)) refl
    where
      by : (o : Option RRset) → lookup (key_eq q) m ≡ o → (b : Bool) → is_among names q.name ≡ b → (c : Bool) → list_any (key_eq q) (flat_map (keys_of_name m) names) ≡ c
          → (if c then option_and_then f o else None) ≡ (if b then option_and_then f o else None)
      by None e true h true g = refl
      by None e true h false g = refl
      by None e false h true g = refl
      by None e false h false g = refl
      by (Some s) e true h true g = refl
      by (Some s) e true h false g = let no : true ≡ false = sym (any_by m q names h (ap is_some e)) ∙ g in absurd (true≢false no)
      by (Some s) e false h true g = let no : true ≡ false = sym (among_by m q names g) ∙ h in absurd (true≢false no)
      by (Some s) e false h false g = refl

-- ---- one set after the other

pub one_more_due : (a b : Bool) (d o : Option RRset) → o ≡ (if b then d else None) → (if a then option_or d o else o) ≡ (if b || a then d else None)
one_more_due true true d o e = ap (option_or d) e ∙ twice d
  where
    twice : (d : Option RRset) → option_or d d ≡ d
    twice None = refl
    twice (Some s) = refl
one_more_due true false d o e = ap (option_or d) e ∙ alone d
  where
    alone : (d : Option RRset) → option_or d None ≡ d
    alone None = refl
    alone (Some s) = refl
one_more_due false true d o e = e
one_more_due false false d o e = e

module _ (d : SetsBy) (k : RrKey) (n : Name) (t : ℕ) where
  here : key_eq (key n t) k ≡ true → d n t ≡ d k.name k.record_type.0
  here e = ap (λ (q : RrKey). d q.name q.record_type.0) (key_same (key n t) k e)

  -- none is put
  pub none_due : (o : Option RRset) → d k.name k.record_type.0 ≡ None → o ≡ (if key_eq (key n t) k then option_or (d n t) o else o)
  none_due o h = by (key_eq (key n t) k) refl
    where
      by : (b : Bool) → key_eq (key n t) k ≡ b → o ≡ (if b then option_or (d n t) o else o)
      by true e = sym (ap (λ (p : Option RRset). option_or p o) (here e ∙ h))
      by false e = refl

  pub one_due : (old : Sets) (s : RRset) → d k.name k.record_type.0 ≡ Some s
      → set_at (put old k.name k.record_type.0 s) n t ≡ (if key_eq (key n t) k then option_or (d n t) (set_at old n t) else set_at old n t)
  one_due old s h = by (key_eq (key n t) k) refl
    where
      by : (b : Bool) → key_eq (key n t) k ≡ b → set_at (put old k.name k.record_type.0 s) n t ≡ (if b then option_or (d n t) (set_at old n t) else set_at old n t)
      by true e =
          subst (λ (q : RrKey). lookup (key_eq q) (put old k.name k.record_type.0 s) ≡ Some s) (sym (key_same (key n t) k e)) (put_found old k s)
          ∙ sym (ap (λ (p : Option RRset). option_or p (set_at old n t)) (here e ∙ h))
      by false e = put_apart old k (key n t) s e

-- a set with other signatures stands where it stood
pub stored_signed : (n : Name) (t : ℕ) (s : RRset) (made : List Record) → IsStoredAt n t s → IsStoredAt n t (record s { signatures = made })
stored_signed n t s made h = record { named = h.named; owner = h.owner; record_type = h.record_type; filled = h.filled; set = h.set }
