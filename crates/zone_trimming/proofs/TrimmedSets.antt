-- Sets of denial with trimmed lists are under the keys of those that they are made of
use Rattle.std.proofs.Common.{◌≡◌, ℕ, suc, ◌+◌, ◌<◌, arith, Bool, true, false, List, [], ◌∷◌, ◌++◌, length, get_or, take, map, refl, sym, ap, ◌∙◌, subst}
use Rattle.std.specs.Prelude.{if◌then◌else◌, nat_lt, fold, Option, Some, None, unwrap_or}
use Rattle.std.specs.List.{All}
use Rattle.std.proofs.Math.Seq.{take-suc}
use Rattle.std.proofs.lemmas.List.{map-append}
use Rattle.std.proofs.lemmas.List.Elements.{All-head, All-tail, All-get_or}
use Rattle.std.proofs.lemmas.List.Sums.{fold-append}
use Rattle.zone_proto.specs.declared.rdata.RData.{RData}
use Rattle.zone_proto.specs.declared.rdata.RData.TheVariants as V
use Rattle.zone_proto.specs.declared.record.Record.{Record}
use Rattle.zone_proto.specs.Data.{type_of}
use Rattle.zone_proto.specs.Names.{Name, IsName, lower}
use Rattle.zone_proto.specs.Sets.{RRset, empty_set, record_of, inserted, inserted_by, soa_inserted, first_serial, stores, replaced, appended, with_records}
use Rattle.zone_map.specs.Zones.{IsStoredAt}
use Rattle.zone_map.proofs.Upserting.{inserted_stored, IsSet-empty}
use Rattle.zone_denial.specs.Nsec3Sets.{with_taken}
use Rattle.zone_trimming.specs.Trimming.{trimmed_data, trimmed_set}

pub trimmed_type : (d : RData) → type_of (trimmed_data d) ≡ type_of d
trimmed_type (V.NSEC a) = refl
trimmed_type (V.NSEC3 a) = refl
trimmed_type (V.NSEC3PARAM a) = refl
trimmed_type (V.A a) = refl
trimmed_type (V.AAAA a) = refl
trimmed_type (V.NS a) = refl
trimmed_type (V.CNAME a) = refl
trimmed_type (V.ANAME a) = refl
trimmed_type (V.SOA a) = refl
trimmed_type (V.MX a) = refl
trimmed_type (V.SRV a) = refl
trimmed_type (V.DNSKEY a) = refl
trimmed_type (V.RRSIG a) = refl
trimmed_type (V.Other a) = refl

-- ---- a set keeps its owner and its type

module _ (w : RRset) (r : Record) (serial : ℕ) where
  abbrev Keeps : Option RRset → Type 0
  Keeps o = ((unwrap_or o w).owner ≡ w.owner) × ((unwrap_or o w).record_type ≡ w.record_type)

  if_newer : (b : Bool) → Keeps (if b then Some (replaced w r serial) else None)
  if_newer true = (refl, refl)
  if_newer false = (refl, refl)

  if_other : (b : Bool) → Keeps (if b then None else Some (appended w r serial))
  if_other true = (refl, refl)
  if_other false = (refl, refl)

  soa_keeps : (o : Option ℕ) (new : ℕ) → Keeps (soa_inserted o new w r serial)
  soa_keeps None new = (refl, refl)
  soa_keeps (Some old) new = if_newer (nat_lt old new)

  data_keeps : (d : RData) → Keeps (inserted_by d w r serial)
  data_keeps (V.SOA a) = soa_keeps (first_serial w.records) a.serial
  data_keeps (V.CNAME a) = (refl, refl)
  data_keeps (V.ANAME a) = (refl, refl)
  data_keeps d = if_other (stores w.records d)

  taken_keeps : Keeps (inserted w r serial)
  taken_keeps = data_keeps r.rdata

pub folded_keeps : (rs : List Record) (w : RRset) (serial : ℕ) → ((fold (with_taken serial) w rs).owner ≡ w.owner) × ((fold (with_taken serial) w rs).record_type ≡ w.record_type)
folded_keeps [] w serial = (refl, refl)
folded_keeps (r ∷ rs) w serial =
    let rest = folded_keeps rs (with_taken serial w r) serial in
    let one = taken_keeps w r serial in
    (rest.0 ∙ one.0, rest.1 ∙ one.1)

-- ---- it may stand where it stood

-- a set that has no records takes any
first_taken : (o : Name) (u serial : ℕ) (r : Record) (d : RData) → inserted_by d (empty_set o u serial) r serial ≡ Some (with_records (empty_set o u serial) (r ∷ []) r serial)
first_taken o u serial r (V.SOA a) = refl
first_taken o u serial r (V.CNAME a) = refl
first_taken o u serial r (V.ANAME a) = refl
first_taken o u serial r d = refl

module _ (n : Name) (t : ℕ) (s : RRset) (there : IsStoredAt n t s) where
  abbrev turned : Record → Record
  turned r = record_of s (trimmed_data r.rdata)

  -- a record that is put in, of the set's owner and type
  put_stored : (w v : RRset) (r : Record) → type_of r.rdata ≡ s.record_type → lower w.owner ≡ lower s.owner → w.record_type ≡ t → IsStoredAt n t w → inserted w (turned r) s.serial ≡ Some v → IsStoredAt n t v
  put_stored w v r kind owner type' is e =
      let k : type_of (trimmed_data r.rdata) ≡ t = trimmed_type r.rdata ∙ kind ∙ there.record_type in
      let made = inserted_stored w (turned r) s.serial v (subst IsName (sym there.owner) there.named) owner (type' ∙ sym k) is.set e in
      subst (λ (x : Name). IsStoredAt x t v) there.owner (subst (λ (u : ℕ). IsStoredAt (lower s.owner) u v) k made)

  taken_stored : (w : RRset) (r : Record) → type_of r.rdata ≡ s.record_type → IsStoredAt n t w → IsStoredAt n t (with_taken s.serial w (turned r))
  taken_stored w r kind is = by (inserted w (turned r) s.serial) refl
    where
      by : (o : Option RRset) → inserted w (turned r) s.serial ≡ o → IsStoredAt n t (unwrap_or o w)
      by None e = is
      by (Some v) e = put_stored w v r kind (is.owner ∙ sym there.owner) is.record_type is e

  first_stored : (r : Record) → type_of r.rdata ≡ s.record_type → IsStoredAt n t (with_taken s.serial (empty_set s.owner s.record_type s.serial) (turned r))
  first_stored r kind =
      let none = empty_set s.owner s.record_type s.serial in
      let v = with_records none (turned r ∷ []) (turned r) s.serial in
      let first = first_taken s.owner s.record_type s.serial (turned r) (trimmed_data r.rdata) in
      let k : type_of (trimmed_data r.rdata) ≡ s.record_type = trimmed_type r.rdata ∙ kind in
      let made = inserted_stored none (turned r) s.serial v (subst IsName (sym there.owner) there.named) refl (sym k) (IsSet-empty s.owner s.record_type) first in
      let own : IsStoredAt n t v = subst (λ (x : Name). IsStoredAt x t v) there.owner (subst (λ (u : ℕ). IsStoredAt (lower s.owner) u v) (k ∙ there.record_type) made) in
      subst (λ (o : Option RRset). IsStoredAt n t (unwrap_or o none)) (sym first) own

  rest_stored : (rs : List Record) (w : RRset) → All (λ (r : Record). type_of r.rdata ≡ s.record_type) rs → IsStoredAt n t w → IsStoredAt n t (fold (with_taken s.serial) w (map turned rs))
  rest_stored [] w kinds is = is
  rest_stored (r ∷ rs) w kinds is =
      let P : Record → Type 0 = λ (r : Record). type_of r.rdata ≡ s.record_type in
      rest_stored rs (with_taken s.serial w (turned r)) (All-tail P r rs kinds) (taken_stored w r (All-head P r rs kinds) is)

  pub stored_trimmed : IsStoredAt n t (trimmed_set s)
  stored_trimmed = by s.records refl there.set.types
    where
      by : (rs : List Record) → s.records ≡ rs → All (λ (r : Record). type_of r.rdata ≡ s.record_type) rs → IsStoredAt n t (fold (with_taken s.serial) (empty_set s.owner s.record_type s.serial) (map turned rs))
      by [] e kinds = absurd (there.filled e)
      by (r ∷ rs) e kinds =
          let P : Record → Type 0 = λ (r : Record). type_of r.rdata ≡ s.record_type in
          rest_stored rs (with_taken s.serial (empty_set s.owner s.record_type s.serial) (turned r)) (All-tail P r rs kinds) (first_stored r (All-head P r rs kinds))

-- ---- one record more

-- the set of denial that these records of a set make
abbrev pub made_of : RRset → List Record → RRset
made_of s rs = fold (with_taken s.serial) (empty_set s.owner s.record_type s.serial) (map (λ (r : Record). record_of s (trimmed_data r.rdata)) rs)

pub made_keeps : (s : RRset) (rs : List Record) → ((made_of s rs).owner ≡ s.owner) × ((made_of s rs).record_type ≡ s.record_type)
made_keeps s rs = folded_keeps (map (λ (r : Record). record_of s (trimmed_data r.rdata)) rs) (empty_set s.owner s.record_type s.serial) s.serial

pub kind_at : (s : RRset) (items : List Record) (i : ℕ) (x : Record) → items ≡ s.records → i < length items → x ≡ get_or items i x → All (λ (r : Record). type_of r.rdata ≡ s.record_type) s.records → type_of x.rdata ≡ s.record_type
kind_at s items i x same inside is kinds =
    let P : Record → Type 0 = λ (r : Record). type_of r.rdata ≡ s.record_type in
    ap (λ (r : Record). type_of r.rdata) is ∙ All-get_or P items i x inside (subst (λ (rs : List Record). All P rs) (sym same) kinds)

pub put_more : (s trimmed new : RRset) (items : List Record) (i : ℕ) (x given : Record) → items ≡ s.records → i < length items → x ≡ get_or items i x
    → given ≡ record_of s (trimmed_data x.rdata) → trimmed ≡ made_of s (take i s.records) → new ≡ with_taken s.serial trimmed given → new ≡ made_of s (take (i + 1) s.records)
put_more s trimmed new items i x given same inside is becomes so_far put =
    let f : Record → Record = λ (r : Record). record_of s (trimmed_data r.rdata) in
    let none = empty_set s.owner s.record_type s.serial in
    let next : i + 1 ≡ suc i = omega arith in
    let front : take (i + 1) s.records ≡ take i s.records ++ x ∷ [] =
    ap (λ (rs : List Record). take (i + 1) rs) (sym same) ∙ ap (λ k. take k items) next ∙ take-suc items i x inside ∙ ap (λ (r : Record). take i items ++ r ∷ []) (sym is) ∙ ap (λ (rs : List Record). take i rs ++ x ∷ []) same in
    put
    ∙ (λ j. with_taken s.serial (so_far j) (becomes j))
    ∙ sym (fold-append (with_taken s.serial) none (map f (take i s.records)) (f x ∷ []))
    ∙ ap (fold (with_taken s.serial) none) (sym (map-append f (take i s.records) (x ∷ [])))
    ∙ ap (λ (rs : List Record). made_of s rs) (sym front)
