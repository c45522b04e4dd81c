-- The set that a record is inserted into, and what it is after that
use Rattle.std.proofs.Common.{◌≡◌, ℕ, true, List, [], ◌∷◌, ◌++◌, refl, sym, ap, subst}
use Rattle.std.specs.Prelude.{Option, Some, None, IfSome, option_copied, unwrap_or}
use Rattle.std.specs.Borrow.{Bor}
use Rattle.std.proofs.lemmas.List.Sums.{fold-append}
use Rattle.zone_proto.specs.declared.rdata.RData.{RData}
use Rattle.zone_proto.specs.declared.rdata.RData.TheVariants as V
use Rattle.zone_proto.specs.declared.record.Record.{Record}
use Rattle.zone_proto.specs.Data.{type_of}
use Rattle.zone_proto.specs.Names.{Name, IsName, lower, same_name}
use Rattle.zone_proto.specs.Sets.{RRset, empty_set, inserted, inserted_by, with_records}
use Rattle.zone_map.specs.Zones.{IsStoredAt}
use Rattle.zone_map.proofs.Upserting.{same_from_lower, inserted_stored, IsSet-empty}
use Rattle.zone_denial.specs.Nsec3Sets.{with_taken, set_of}

-- the set that a record was inserted into, or a new one where there was none
abbrev pub set_taking : ℕ → Name → ℕ → Option RRset → Record → RRset
set_taking serial o u s r = with_taken serial (unwrap_or s (empty_set o u serial)) r

-- a set that has no records takes any
first_taken : (o : Name) (u serial : ℕ) (r : Record) (d : RData) → inserted_by d (empty_set o u serial) r serial ≡ Some (with_records (empty_set o u serial) (r ∷ []) r serial)
first_taken o u serial r (V.SOA a) = refl
first_taken o u serial r (V.CNAME a) = refl
first_taken o u serial r (V.ANAME a) = refl
first_taken o u serial r d = refl

module _ (r : Record) (serial : ℕ) where
  -- the set before, or a new one of the record's owner and type
  abbrev pub taking : Option RRset → RRset
  taking s = unwrap_or s (empty_set r.name (type_of r.rdata) serial)

  -- it is of the record's owner and type
  pub taking_owner : (s : Option RRset) → IfSome s (IsStoredAt (lower r.name) (type_of r.rdata)) → same_name r.name (taking s).owner ≡ true
  taking_owner None h = same_from_lower r.name r.name refl
  taking_owner (Some s) h = let there : IsStoredAt (lower r.name) (type_of r.rdata) s = h in same_from_lower r.name s.owner (sym there.owner)

  pub taking_kind : (s : Option RRset) → IfSome s (IsStoredAt (lower r.name) (type_of r.rdata)) → type_of r.rdata ≡ (taking s).record_type
  taking_kind None h = refl
  taking_kind (Some s) h = let there : IsStoredAt (lower r.name) (type_of r.rdata) s = h in sym there.record_type

  -- and may be there once it has the record
  pub taken_stored : IsName (lower r.name) → (s : Option RRset) → IfSome s (IsStoredAt (lower r.name) (type_of r.rdata)) → IsStoredAt (lower r.name) (type_of r.rdata) (with_taken serial (taking s) r)
  taken_stored named None h =
      let none = empty_set r.name (type_of r.rdata) serial in
      let first = first_taken r.name (type_of r.rdata) serial r r.rdata in
      subst (λ (o : Option RRset). IsStoredAt (lower r.name) (type_of r.rdata) (unwrap_or o none)) (sym first)
      (inserted_stored none r serial (with_records none (r ∷ []) r serial) named refl refl (IsSet-empty r.name (type_of r.rdata)) first)
  taken_stored named (Some s) h = by (inserted s r serial) refl
    where
      there : IsStoredAt (lower r.name) (type_of r.rdata) s
      there = h

      by : (o : Option RRset) → inserted s r serial ≡ o → IsStoredAt (lower r.name) (type_of r.rdata) (unwrap_or o s)
      by None e = there
      by (Some w) e = inserted_stored s r serial w named there.owner there.record_type there.set e

-- what holds of the set behind a reference, if there is one, holds of that set
pub of_copied : (P : RRset → Type 0) (b : Option (Bor RRset)) → IfSome b (λ s. P s.now) → IfSome (option_copied b) P
of_copied P None h = h
of_copied P (Some s) h = h

-- ---- a set of one more record

pub set_of-more : (o : Name) (u serial : ℕ) (rs : List Record) (r : Record) → set_of o u serial (rs ++ r ∷ []) ≡ Some (set_taking serial o u (set_of o u serial rs) r)
set_of-more o u serial [] r = refl
set_of-more o u serial (x ∷ rs) r = ap Some (fold-append (with_taken serial) (empty_set o u serial) (x ∷ rs) (r ∷ []))
