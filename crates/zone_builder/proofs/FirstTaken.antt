-- A set that takes records one after the other becomes what it is with the first of equal data
use Rattle.std.proofs.Common.{◌≡◌, ℕ, Bool, true, false, cond, ◌||◌, List, [], ◌∷◌, ◌++◌, refl, sym, ap, ◌∙◌, append_assoc, true≢false}
use Rattle.std.specs.Prelude.{Option, Some, None, map, fold, nat_lt, unwrap_or}
use Rattle.std.specs.List.{AllByRecursion}
use Rattle.std.proofs.lemmas.List.Folds.{list_any-append}
use Rattle.zone_proto.specs.declared.rdata.RData.{RData}
use Rattle.zone_proto.specs.declared.rdata.RData.TheVariants as V
use Rattle.zone_proto.specs.declared.record.Record.{Record}
use Rattle.zone_proto.specs.Data.{same_data, type_of}
use Rattle.zone_proto.specs.Sets.{RRset, appended, inserted_by, is_single, soa_inserted, first_serial, stores}
use Rattle.zone_proto.proofs.SetLaws.{new_stands_last}
use Rattle.zone_denial.specs.Nsec3Sets.{with_taken}
use Rattle.zone_builder.specs.declared.given.GivenRecord.{GivenRecord}
use Rattle.zone_builder.specs.Records.{records_of}
use Rattle.zone_builder.specs.Repeats.{appending, holds, new_behind, AreNew}
use Rattle.zone_builder.specs.Sets.{with_new, with_ttl}
use Rattle.zone_builder.proofs.Repeating.{data_of, holds_again}

-- data that a set has, which may have several, aren't taken
stored_refused : (d : RData) (s : RRset) (r : Record) (serial : ℕ) → is_single (type_of d) ≡ false → stores s.records d ≡ true → inserted_by d s r serial ≡ None
stored_refused (V.SOA a) s r serial many h = absurd (true≢false many)
stored_refused (V.CNAME a) s r serial many h = absurd (true≢false many)
stored_refused (V.ANAME a) s r serial many h = absurd (true≢false many)
stored_refused d s r serial many h = ap (λ b. cond b None (Some (appended s r serial))) h

-- a set that takes a record, with its TTL, whose data it has, or hasn't
module _ (serial : ℕ) (s : RRset) (r : Record) (many : is_single (type_of r.rdata) ≡ false) where
  taken_stored : stores s.records r.rdata ≡ true → with_taken serial s r ≡ s
  taken_stored h = ap (λ o. unwrap_or o s) (stored_refused r.rdata s r serial many h)

  taken_new : stores s.records r.rdata ≡ false → with_taken serial s r ≡ appending serial s r
  taken_new h = ap (λ o. unwrap_or o s) (new_stands_last s r.rdata r serial many h)

module _ (serial ttl : ℕ) where
  -- the same data stand among records of a set and among others
  abbrev pub Alike : List Record → List GivenRecord → Type 0
  Alike rs before = (d : RData) → stores rs d ≡ holds before d

  alike_push : (rs : List Record) (before : List GivenRecord) (g : GivenRecord) → Alike rs before → Alike (rs ++ with_ttl ttl g.record ∷ []) (before ++ g ∷ [])
  alike_push rs before g h d =
      list_any-append (λ (x : Record). same_data x.rdata d) rs (with_ttl ttl g.record ∷ [])
      ∙ ap (λ b. b || (same_data (data_of g) d || false)) (h d)
      ∙ sym (list_any-append (λ (x : GivenRecord). same_data x.record.rdata d) before (g ∷ []))

  alike_again : (rs : List Record) (before : List GivenRecord) (g : GivenRecord) → Alike rs before → holds before (data_of g) ≡ true → Alike rs (before ++ g ∷ [])
  alike_again rs before g h there d = h d ∙ holds_again before g there d

  -- the records that aren't there yet are new to the set
  pub are_new : (rs : List Record) (before gs : List GivenRecord) → Alike rs before → AreNew ttl rs (new_behind before gs)
  are_new rs before [] h = tt
  are_new rs before (g ∷ gs) h =
      by (holds before (data_of g)) refl (λ there. are_new rs (before ++ g ∷ []) gs (alike_again rs before g h there)) (are_new (rs ++ with_ttl ttl g.record ∷ []) (before ++ g ∷ []) gs (alike_push rs before g h))
    where
      more : List GivenRecord
      more = new_behind (before ++ g ∷ []) gs

      by : (b : Bool) → holds before (data_of g) ≡ b → (holds before (data_of g) ≡ true → AreNew ttl rs more) → AreNew ttl (rs ++ with_ttl ttl g.record ∷ []) more → AreNew ttl rs (cond b more (g ∷ more))
      by true e again new = again e
      by false e again new = (h (data_of g) ∙ e, new)

  -- a set with records taken, or put behind its others
  abbrev pub taking : RRset → List GivenRecord → RRset
  taking s gs = fold (with_taken serial) s (map (with_ttl ttl) (records_of gs))

  abbrev pub appending_all : RRset → List GivenRecord → RRset
  appending_all s gs = fold (appending serial) s (map (with_ttl ttl) (records_of gs))

  pub taken_first : (t : ℕ) → is_single t ≡ false → (s : RRset) (before gs : List GivenRecord) → Alike s.records before → AllByRecursion (λ (g : GivenRecord). type_of g.record.rdata ≡ t) gs
      → appending_all s (new_behind before gs) ≡ taking s gs
  taken_first t many s before [] h types = refl
  taken_first t many s before (g ∷ gs) h types =
      by (holds before (data_of g)) refl
      (λ there. taken_first t many s (before ++ g ∷ []) gs (alike_again s.records before g h there) types.1)
      (taken_first t many (appending serial s r) (before ++ g ∷ []) gs (alike_push s.records before g h) types.1)
    where
      r : Record
      r = with_ttl ttl g.record

      own : is_single (type_of r.rdata) ≡ false
      own = ap is_single types.0 ∙ many

      more : List GivenRecord
      more = new_behind (before ++ g ∷ []) gs

      by : (b : Bool) → holds before (data_of g) ≡ b → (holds before (data_of g) ≡ true → appending_all s more ≡ taking s gs) → appending_all (appending serial s r) more ≡ taking (appending serial s r) gs
          → appending_all s (cond b more (g ∷ more)) ≡ taking (with_taken serial s r) gs
      by true e again new = again e ∙ ap (λ x. taking x gs) (sym (taken_stored serial s r own (h (data_of g) ∙ e)))
      by false e again new = new ∙ ap (λ x. taking x gs) (sym (taken_new serial s r own (h (data_of g) ∙ e)))

  -- so are signatures
  pub signed_first : (rs : List Record) (before gs : List GivenRecord) → Alike rs before
      → rs ++ map (with_ttl ttl) (records_of (new_behind before gs)) ≡ fold with_new rs (map (with_ttl ttl) (records_of gs))
  signed_first rs before [] h = append_nil rs
    where
      append_nil : (xs : List Record) → xs ++ [] ≡ xs
      append_nil [] = refl
      append_nil (x ∷ xs) = ap (◌∷◌ x) (append_nil xs)
  signed_first rs before (g ∷ gs) h =
      by (holds before (data_of g)) refl
      (λ there. signed_first rs (before ++ g ∷ []) gs (alike_again rs before g h there))
      (signed_first (rs ++ r ∷ []) (before ++ g ∷ []) gs (alike_push rs before g h))
    where
      r : Record
      r = with_ttl ttl g.record

      more : List GivenRecord
      more = new_behind (before ++ g ∷ []) gs

      rest : List Record
      rest = map (with_ttl ttl) (records_of gs)

      by : (b : Bool) → holds before (data_of g) ≡ b → (holds before (data_of g) ≡ true → rs ++ map (with_ttl ttl) (records_of more) ≡ fold with_new rs rest)
          → (rs ++ r ∷ []) ++ map (with_ttl ttl) (records_of more) ≡ fold with_new (rs ++ r ∷ []) rest
          → rs ++ map (with_ttl ttl) (records_of (cond b more (g ∷ more))) ≡ fold with_new (with_new rs r) rest
      by true e again new = again e ∙ ap (λ b. fold with_new (cond b rs (rs ++ r ∷ [])) rest) (sym (h (data_of g) ∙ e))
      by false e again new = sym (append_assoc rs (r ∷ []) (map (with_ttl ttl) (records_of more))) ∙ new ∙ ap (λ b. fold with_new (cond b rs (rs ++ r ∷ [])) rest) (sym (h (data_of g) ∙ e))

-- ---- a set without signatures has none once it has taken records

module _ (s : RRset) (h : s.signatures ≡ []) where
  unless : (b : Bool) (w : RRset) → w.signatures ≡ [] → (unwrap_or (cond b None (Some w)) s).signatures ≡ []
  unless true w e = h
  unless false w e = e

  where_so : (b : Bool) (w : RRset) → w.signatures ≡ [] → (unwrap_or (cond b (Some w) None) s).signatures ≡ []
  where_so true w e = e
  where_so false w e = h

  by_serial : (old : Option ℕ) (new : ℕ) (r : Record) (serial : ℕ) → (unwrap_or (soa_inserted old new s r serial) s).signatures ≡ []
  by_serial None new r serial = refl
  by_serial (Some old) new r serial = where_so (nat_lt old new) _ refl

  taken_unsigned : (d : RData) (r : Record) (serial : ℕ) → (unwrap_or (inserted_by d s r serial) s).signatures ≡ []
  taken_unsigned (V.SOA a) r serial = by_serial (first_serial s.records) a.serial r serial
  taken_unsigned (V.CNAME a) r serial = refl
  taken_unsigned (V.ANAME a) r serial = refl
  taken_unsigned d r serial = unless (stores s.records d) _ refl

pub all_unsigned : (serial : ℕ) (rs : List Record) (s : RRset) → s.signatures ≡ [] → (fold (with_taken serial) s rs).signatures ≡ []
all_unsigned serial [] s h = h
all_unsigned serial (r ∷ rs) s h = all_unsigned serial rs (with_taken serial s r) (taken_unsigned s h r.rdata r serial)
