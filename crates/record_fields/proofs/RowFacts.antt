-- Octets that are read one part after the other
use Rattle.std.proofs.Common.{◌≡◌, ℕ, List, [], ◌∷◌, ◌++◌, Ok, Err, refl, sym, ap, ◌∙◌, append_assoc}
use Rattle.zone_proto.specs.Names.{Name}
use Rattle.record_fields.specs.declared.fault.Fault.{Fault}
use Rattle.record_fields.specs.declared.field.Field.{Field}
use Rattle.record_fields.specs.declared.field.Ending.{Ending}
use Rattle.record_fields.specs.declared.fault.ReadError.{ReadError}
use Rattle.record_fields.specs.declared.fault.ReadError.TheVariants as errors
use Rattle.record_fields.specs.Readings.{Fails, ◌>>=◌}
use Rattle.record_fields.specs.Fields.{Left, Reading}
use Rattle.record_fields.specs.Rows.{behind, next_field, next_fields}

pub behind_nothing : (r : Reading (List ℕ)) → behind [] r ≡ r
behind_nothing (Ok x) = refl
behind_nothing (Err f) = refl

-- two octets in front
pub two_first : (out : List ℕ) (a b : ℕ) (r : Reading (List ℕ)) → behind ((out ++ a ∷ []) ++ b ∷ []) r ≡ behind out (r >>= λ x. Ok (a ∷ b ∷ x.0, x.1))
two_first out a b (Ok x) = ap (λ (t : List ℕ). Ok (t, x.1)) (append_assoc (out ++ a ∷ []) (b ∷ []) x.0 ∙ append_assoc out (a ∷ []) (b ∷ x.0))
two_first out a b (Err f) = refl

pub one_first : (out : List ℕ) (a : ℕ) (r : Reading (List ℕ)) → behind (out ++ a ∷ []) r ≡ behind out (r >>= λ x. Ok (a ∷ x.0, x.1))
one_first out a (Ok x) = ap (λ (t : List ℕ). Ok (t, x.1)) (append_assoc out (a ∷ []) x.0)
one_first out a (Err f) = refl

further : (out first : List ℕ) (r : Reading (List ℕ)) → behind (out ++ first) r ≡ behind out (behind first r)
further out first (Ok x) = ap (λ (t : List ℕ). Ok (t, x.1)) (append_assoc out first x.0)
further out first (Err f) = refl

-- what was read, and what is left behind it
abbrev octets_of : Reading (List ℕ) → List ℕ
octets_of (Ok x) = x.0
octets_of (Err f) = []

abbrev left_or : Left → Reading (List ℕ) → Left
left_or l (Ok x) = x.1
left_or l (Err f) = l

-- one field more
pub field_more : (out new : List ℕ) (origin : Name) (f : Field) (fs : List Field) (e : Ending) (l left : Left) → behind out (next_field origin f l) ≡ Ok (new, left)
    → behind new (next_fields origin fs e left) ≡ behind out (next_fields origin (f ∷ fs) e l)
field_more out new origin f fs e l left h = by (next_field origin f l) h
  where
    by : (r : Reading (List ℕ)) → behind out r ≡ Ok (new, left)
        → behind new (next_fields origin fs e left) ≡ behind out (r >>= λ x. behind x.0 (next_fields origin fs e x.1))
    by (Ok x) g =
        let octets : out ++ x.0 ≡ new = ap octets_of g in
        let rest : x.1 ≡ left = ap (left_or left) g in
        ap (λ (t : List ℕ). behind t (next_fields origin fs e left)) (sym octets)
        ∙ ap (λ (m : Left). behind (out ++ x.0) (next_fields origin fs e m)) (sym rest)
        ∙ further out x.0 (next_fields origin fs e x.1)
    by (Err t) g = absurd (cc)

field_fault : (out : List ℕ) (origin : Name) (f : Field) (fs : List Field) (e : Ending) (l : Left) (t : Fault) → behind out (next_field origin f l) ≡ Err t
    → behind out (next_fields origin (f ∷ fs) e l) ≡ Err t
field_fault out origin f fs e l t h = by (next_field origin f l) h
  where
    by : (r : Reading (List ℕ)) → behind out r ≡ Err t → behind out (r >>= λ x. behind x.0 (next_fields origin fs e x.1)) ≡ Err t
    by (Ok x) g = absurd (cc)
    by (Err u) g = g

pub row_fails : (out : List ℕ) (origin : Name) (f : Field) (fs gs : List Field) (e : Ending) (l : Left) (all : Reading (List ℕ)) (answered : ReadError)
    → fs ≡ f ∷ gs → behind out (next_fields origin fs e l) ≡ all → Fails answered (behind out (next_field origin f l)) → Fails answered all
row_fails out origin f fs gs e l all errors.Memory is same h = tt
row_fails out origin f fs gs e l all (errors.Fault t) is same h =
    sym same ∙ ap (λ (hs : List Field). behind out (next_fields origin hs e l)) is ∙ field_fault out origin f gs e l t h
