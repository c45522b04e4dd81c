-- What holds of the records of a set that takes records one after the other, and which data it has then
use Rattle.std.proofs.Common.{◌≡◌, ℕ, Bool, true, false, cond, ◌||◌, if◌then◌else◌, List, [], ◌∷◌, ◌++◌, refl, ap, subst, ◌∙◌, true≢false, inl, inr}
use Rattle.std.specs.Prelude.{Option, Some, None, fold, nat_lt, unwrap_or}
use Rattle.std.specs.List.{AllByRecursion}
use Rattle.std.proofs.lemmas.List.Folds.{list_any-append}
use Rattle.zone_proto.specs.declared.rdata.RData.{RData}
use Rattle.zone_proto.specs.declared.rdata.RData.TheVariants as V
use Rattle.zone_proto.specs.declared.record.Record.{Record}
use Rattle.zone_proto.specs.Data.{same_data, type_of}
use Rattle.zone_proto.specs.DataEquality.{same_data_equiv}
use Rattle.zone_proto.specs.Sets.{RRset, appended, first_serial, inserted_by, is_single, replaced, soa_inserted, stores}
use Rattle.zone_proto.proofs.Members.{In, or_right}
use Rattle.zone_denial.specs.Nsec3Sets.{with_taken}
use Rattle.zone_builder.specs.Sets.{has_data, with_new}

-- ---- all elements of a list

pub from_in : {A : Type 0} (P : A → Type 0) (xs : List A) → ((x : A) → In x xs → P x) → AllByRecursion P xs
from_in P [] h = tt
from_in P (x ∷ xs) h = (h x (inl refl), from_in P xs (λ y i. h y (inr i)))

pub at_in : {A : Type 0} (P : A → Type 0) (xs : List A) → AllByRecursion P xs → (x : A) → In x xs → P x
at_in P [] h x i = absurd i
at_in P (y ∷ xs) h x (inl e) = subst P e h.0
at_in P (y ∷ xs) h x (inr i) = at_in P xs h.1 x i

push : {A : Type 0} (P : A → Type 0) (xs : List A) (x : A) → AllByRecursion P xs → P x → AllByRecursion P (xs ++ x ∷ [])
push P [] x h p = (p, tt)
push P (y ∷ xs) x h p = (h.0, push P xs x h.1 p)

-- ---- what holds of all records

module _ (P : Record → Type 0) (serial : ℕ) where
  soa_all : (old : Option ℕ) (new : ℕ) (s : RRset) (r : Record) → AllByRecursion P s.records → P r → AllByRecursion P (unwrap_or (soa_inserted old new s r serial) s).records
  soa_all None new s r h p = push P s.records r h p
  soa_all (Some old) new s r h p = by (nat_lt old new)
    where
      by : (b : Bool) → AllByRecursion P (unwrap_or (if b then Some (replaced s r serial) else None) s).records
      by true = (p, tt)
      by false = h

  taken_all : (d : RData) (s : RRset) (r : Record) → AllByRecursion P s.records → P r → AllByRecursion P (unwrap_or (inserted_by d s r serial) s).records
  taken_all (V.SOA a) s r h p = soa_all (first_serial s.records) a.serial s r h p
  taken_all (V.CNAME a) s r h p = (p, tt)
  taken_all (V.ANAME a) s r h p = (p, tt)
  taken_all d s r h p = by (stores s.records d)
    where
      by : (b : Bool) → AllByRecursion P (unwrap_or (if b then None else Some (appended s r serial)) s).records
      by true = h
      by false = push P s.records r h p

  pub folded_all : (rs : List Record) (s : RRset) → AllByRecursion P s.records → AllByRecursion P rs → AllByRecursion P (fold (with_taken serial) s rs).records
  folded_all [] s h p = h
  folded_all (r ∷ rs) s h p = folded_all rs (with_taken serial s r) (taken_all r.rdata s r h p.0) p.1

  -- it drops the signatures that it had
  soa_signed : (old : Option ℕ) (new : ℕ) (s : RRset) (r : Record) → AllByRecursion P s.signatures → AllByRecursion P (unwrap_or (soa_inserted old new s r serial) s).signatures
  soa_signed None new s r h = tt
  soa_signed (Some old) new s r h = by (nat_lt old new)
    where
      by : (b : Bool) → AllByRecursion P (unwrap_or (if b then Some (replaced s r serial) else None) s).signatures
      by true = tt
      by false = h

  taken_signed : (d : RData) (s : RRset) (r : Record) → AllByRecursion P s.signatures → AllByRecursion P (unwrap_or (inserted_by d s r serial) s).signatures
  taken_signed (V.SOA a) s r h = soa_signed (first_serial s.records) a.serial s r h
  taken_signed (V.CNAME a) s r h = tt
  taken_signed (V.ANAME a) s r h = tt
  taken_signed d s r h = by (stores s.records d)
    where
      by : (b : Bool) → AllByRecursion P (unwrap_or (if b then None else Some (appended s r serial)) s).signatures
      by true = h
      by false = tt

  pub folded_signed : (rs : List Record) (s : RRset) → AllByRecursion P s.signatures → AllByRecursion P (fold (with_taken serial) s rs).signatures
  folded_signed [] s h = h
  folded_signed (r ∷ rs) s h = folded_signed rs (with_taken serial s r) (taken_signed r.rdata s r h)

module _ (P : Record → Type 0) where
  pub news_all : (rs xs : List Record) → AllByRecursion P xs → AllByRecursion P rs → AllByRecursion P (fold with_new xs rs)
  news_all [] xs h p = h
  news_all (r ∷ rs) xs h p = news_all rs (with_new xs r) (by (has_data xs r.rdata)) p.1
    where
      by : (b : Bool) → AllByRecursion P (cond b xs (xs ++ r ∷ []))
      by true = h
      by false = push P xs r h p.0

-- ---- data of a type that may have more records than one

-- one more record has its own data
own_data : (xs : List Record) (r : Record) → stores (xs ++ r ∷ []) r.rdata ≡ true
own_data xs r =
    list_any-append (λ (x : Record). same_data x.rdata r.rdata) xs (r ∷ [])
    ∙ or_right (stores xs r.rdata) (same_data r.rdata r.rdata || false) (ap (λ b. b || false) (same_data_equiv.refl r.rdata))

more_data : (xs : List Record) (r : Record) (d : RData) → stores xs d ≡ true → stores (xs ++ r ∷ []) d ≡ true
more_data xs r d h =
    list_any-append (λ (x : Record). same_data x.rdata d) xs (r ∷ []) ∙ ap (λ b. b || (same_data r.rdata d || false)) h

module _ (serial : ℕ) where
  kept : (e d : RData) (s : RRset) (r : Record) → is_single (type_of e) ≡ false → stores s.records d ≡ true → stores (unwrap_or (inserted_by e s r serial) s).records d ≡ true
  kept (V.SOA a) d s r many h = absurd (true≢false many)
  kept (V.CNAME a) d s r many h = absurd (true≢false many)
  kept (V.ANAME a) d s r many h = absurd (true≢false many)
  kept e d s r many h = by (stores s.records e)
    where
      by : (b : Bool) → stores (unwrap_or (if b then None else Some (appended s r serial)) s).records d ≡ true
      by true = h
      by false = more_data s.records r d h

  took : (e : RData) (s : RRset) (r : Record) → is_single (type_of e) ≡ false → e ≡ r.rdata → stores (unwrap_or (inserted_by e s r serial) s).records r.rdata ≡ true
  took (V.SOA a) s r many same = absurd (true≢false many)
  took (V.CNAME a) s r many same = absurd (true≢false many)
  took (V.ANAME a) s r many same = absurd (true≢false many)
  took e s r many same = by (stores s.records e) refl
    where
      by : (b : Bool) → stores s.records e ≡ b → stores (unwrap_or (if b then None else Some (appended s r serial)) s).records r.rdata ≡ true
      by true h = subst (λ d. stores s.records d ≡ true) same h
      by false h = own_data s.records r

  pub folded_kept : (rs : List Record) (s : RRset) (d : RData) → AllByRecursion (λ (r : Record). is_single (type_of r.rdata) ≡ false) rs → stores s.records d ≡ true
      → stores (fold (with_taken serial) s rs).records d ≡ true
  folded_kept [] s d many h = h
  folded_kept (r ∷ rs) s d many h = folded_kept rs (with_taken serial s r) d many.1 (kept r.rdata d s r many.0 h)

  pub folded_has : (rs : List Record) (s : RRset) (r : Record) → AllByRecursion (λ (x : Record). is_single (type_of x.rdata) ≡ false) rs → In r rs
      → stores (fold (with_taken serial) s rs).records r.rdata ≡ true
  folded_has [] s r many i = absurd i
  folded_has (x ∷ rs) s r many (inl e) =
      folded_kept rs (with_taken serial s x) r.rdata many.1
      (subst (λ (y : Record). stores (with_taken serial s x).records y.rdata ≡ true) e (took x.rdata s x many.0 refl))
  folded_has (x ∷ rs) s r many (inr i) = folded_has rs (with_taken serial s x) r many.1 i

-- ---- signatures

new_kept : (xs : List Record) (x : Record) (d : RData) → has_data xs d ≡ true → has_data (with_new xs x) d ≡ true
new_kept xs x d h = by (has_data xs x.rdata)
  where
    by : (b : Bool) → has_data (cond b xs (xs ++ x ∷ [])) d ≡ true
    by true = h
    by false = more_data xs x d h

new_has : (xs : List Record) (x : Record) → has_data (with_new xs x) x.rdata ≡ true
new_has xs x = by (has_data xs x.rdata) refl
  where
    by : (b : Bool) → has_data xs x.rdata ≡ b → has_data (cond b xs (xs ++ x ∷ [])) x.rdata ≡ true
    by true h = h
    by false h = own_data xs x

news_kept : (rs xs : List Record) (d : RData) → has_data xs d ≡ true → has_data (fold with_new xs rs) d ≡ true
news_kept [] xs d h = h
news_kept (r ∷ rs) xs d h = news_kept rs (with_new xs r) d (new_kept xs r d h)

pub news_has : (rs xs : List Record) (r : Record) → In r rs → has_data (fold with_new xs rs) r.rdata ≡ true
news_has [] xs r i = absurd i
news_has (x ∷ rs) xs r (inl e) = news_kept rs (with_new xs x) r.rdata (subst (λ (y : Record). has_data (with_new xs x) y.rdata ≡ true) e (new_has xs x))
news_has (x ∷ rs) xs r (inr i) = news_has rs (with_new xs x) r i
