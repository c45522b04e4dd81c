-- Sets with signatures behind those that they have
use Rattle.std.proofs.Common.{◌≡◌, ℕ, List, [], ◌∷◌, ◌++◌, refl, sym, ap, ◌∙◌, append_assoc}
use Rattle.std.specs.Prelude.{map}
use Rattle.zone_proto.specs.declared.record.Record.{Record}
use Rattle.zone_proto.specs.Sets.{RRset}
use Rattle.zone_builder.specs.declared.given.GivenRecord.{GivenRecord}
use Rattle.zone_builder.specs.Records.{records_of}
use Rattle.zone_builder.specs.Sets.{with_ttl}

-- a set with signatures, which get a TTL, behind those that it has
abbrev pub signing : ℕ → RRset → List GivenRecord → RRset
signing ttl s gs = record s { signatures = s.signatures ++ map (with_ttl ttl) (records_of gs) }

append_nil : (xs : List Record) → xs ++ [] ≡ xs
append_nil [] = refl
append_nil (x ∷ xs) = ap (◌∷◌ x) (append_nil xs)

-- one of them first
pub signing_one : (ttl : ℕ) (s t : RRset) (r : Record) (g : GivenRecord) (left all : List GivenRecord) → all ≡ g ∷ left → r ≡ with_ttl ttl g.record → t ≡ record s { signatures = s.signatures ++ r ∷ [] }
    → signing ttl t left ≡ signing ttl s all
signing_one ttl s t r g left all steps is made =
    ap (λ (x : RRset). signing ttl x left) made
    ∙ ap (λ xs. record s { signatures = xs }) (append_assoc s.signatures (r ∷ []) (map (with_ttl ttl) (records_of left)) ∙ ap (λ x. s.signatures ++ x ∷ map (with_ttl ttl) (records_of left)) is)
    ∙ ap (signing ttl s) (sym steps)

pub signing_none : (ttl : ℕ) (s : RRset) (left : List GivenRecord) → left ≡ [] → s ≡ signing ttl s left
signing_none ttl s left none = ap (λ xs. record s { signatures = xs }) (sym (append_nil s.signatures)) ∙ ap (signing ttl s) (sym none)
