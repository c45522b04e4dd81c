-- Records that are sent of sets are grouped as these sets
use Rattle.std.proofs.Common.{◌≡◌, ◌≢◌, ℕ, ◌<◌, Bool, true, false, true≢false, ◌==◌, ◌&&◌, not, List, [], ◌∷◌, ◌++◌, length, refl, sym, ap, ◌∙◌, subst, get_or, arith, length-append, append_assoc, eq-eqb}
use Rattle.std.specs.Prelude.{Option, Some, None, map, if◌then◌else◌}
use Rattle.std.specs.List.{AllByRecursion, flat_map}
use Rattle.std.proofs.Math.Seq.{get_or-append_seam}
use Rattle.std.proofs.lemmas.List.{append-nil, get_or_append_left, map-append}
use Rattle.std.proofs.lemmas.List.Elements.{All-map, recursion_from_All}
use Rattle.std.proofs.lemmas.List.Folds.{list_any_none}
use Rattle.zone_proto.specs.Data.{same_data, type_of}
use Rattle.zone_proto.specs.Names.{Name, lower, same_name}
use Rattle.zone_proto.specs.Sets.{RRset, IsSet, appended, inserted, inserted_by, is_single, stores}
use Rattle.zone_proto.specs.Types.{IN, RRSIG, SOA}
use Rattle.zone_proto.specs.declared.rdata.RData.{RData}
use Rattle.zone_proto.specs.declared.rdata.RData.TheVariants as V
use Rattle.zone_proto.specs.declared.record.Record.{Record}
use Rattle.zone_map.proofs.Upserting.{same_from_lower}
use Rattle.message_reading.specs.Octets.{◌>>=◌}
use Rattle.message_writing.specs.Responses.{with_ttl}
use Rattle.shown_zones.specs.Shown.{shown_set, spelled}
use Rattle.shown_zones.proofs.Shows.{same_lower}
use Rattle.shown_zones.specs.Sending.{sent}
use Rattle.zone_journal.specs.Grouping.{all_sets, begun, continues, grouped, joined, sets_in, with_current, with_record}
use Rattle.zone_journal.specs.Writing.{IsSound}

not_true : (b : Bool) → (b ≡ true → ⊥) → b ≡ false
not_true true h = absurd (h refl)
not_true false h = refl

-- a set of which some records and some signatures are read
abbrev partly : Name → ℕ → ℕ → List Record → List Record → RRset
partly n t ttl rs sigs = record {
  owner = n;
  record_type = t;
  class = IN;
  ttl = ttl;
  serial = 0;
  records = map (with_ttl ttl) rs;
  signatures = map (with_ttl ttl) sigs;
}

-- ---- one more record of a set

inserted_more : (s : RRset) (r : Record) → is_single (type_of r.rdata) ≡ false → stores s.records r.rdata ≡ false → inserted s r 0 ≡ Some (appended s r 0)
inserted_more s r h absent = by r.rdata h absent
  where
    kept : (d : RData) → stores s.records d ≡ false → (if stores s.records d then None else Some (appended s r 0)) ≡ Some (appended s r 0)
    kept d e = ap (λ b. if b then None else Some (appended s r 0)) e

    by : (d : RData) → is_single (type_of d) ≡ false → stores s.records d ≡ false → inserted_by d s r 0 ≡ Some (appended s r 0)
    by (V.SOA a) h e = cc
    by (V.CNAME a) h e = cc
    by (V.ANAME a) h e = cc
    by (V.A a) h e = kept (V.A a) e
    by (V.AAAA a) h e = kept (V.AAAA a) e
    by (V.NS a) h e = kept (V.NS a) e
    by (V.MX a) h e = kept (V.MX a) e
    by (V.SRV a) h e = kept (V.SRV a) e
    by (V.DNSKEY a) h e = kept (V.DNSKEY a) e
    by (V.NSEC a) h e = kept (V.NSEC a) e
    by (V.NSEC3 a) h e = kept (V.NSEC3 a) e
    by (V.NSEC3PARAM a) h e = kept (V.NSEC3PARAM a) e
    by (V.RRSIG a) h e = kept (V.RRSIG a) e
    by (V.Other a) h e = kept (V.Other a) e

module _ (o n : Name) (t ttl : ℕ) (done : List RRset) where
  -- a record behind others of the same set
  record_more : (front : List Record) (x : Record) (rs : List Record) → front ≢ [] → lower n ≡ lower o → (t == RRSIG) ≡ false → IsSet o t (front ++ x ∷ rs)
      → with_record (done, Some (partly n t ttl front [])) (with_ttl ttl x) ≡ Some (done, Some (partly n t ttl (front ++ x ∷ []) []))
  record_more front x rs some spelling plain h =
      ap (λ b. if b then Some (done, Some (record p { signatures = p.signatures ++ with_ttl ttl x ∷ [] })) else (if continues p (with_ttl ttl x) then with_current done (joined p.signatures p (with_ttl ttl x)) else Some (done ++ p ∷ [], Some (begun (with_ttl ttl x)))))
      (ap (λ u. u == RRSIG) is_type ∙ plain)
      ∙ ap (λ b. if b then with_current done (inserted p (with_ttl ttl x) 0) else Some (done ++ p ∷ [], Some (begun (with_ttl ttl x)))) goes_on
      ∙ ap (with_current done) (inserted_more p (with_ttl ttl x) (ap is_single is_type ∙ several) absent)
      ∙ ap (λ ys. Some (done, Some (record (partly n t ttl front []) { records = ys }))) (sym (map-append (with_ttl ttl) front (x ∷ [])))
    where
      p : RRset
      p = partly n t ttl front []

      place : ℕ
      place = length front

      within : length front < length (front ++ x ∷ rs)
      within = omega (arith, length-append front (x ∷ rs))

      here : get_or (front ++ x ∷ rs) (length front) x ≡ x
      here = get_or-append_seam front x rs x

      is_type : type_of x.rdata ≡ t
      is_type = ap (λ (r : Record). type_of r.rdata) (sym here) ∙ h.types (length front) x within

      is_owner : same_name x.name n ≡ true
      is_owner =
          same_from_lower x.name n
          (same_lower x.name o (ap (λ (r : Record). same_name r.name o) (sym here) ∙ h.owners (length front) x within) ∙ sym spelling)

      filled : 0 < length front
      filled = by front some
        where
          by : (f : List Record) → f ≢ [] → 0 < length f
          by [] e = absurd (e refl)
          by (y ∷ f) e = omega arith

      several : is_single t ≡ false
      several = not_true (is_single t) (λ e. let few = h.single e in omega (arith, few, filled, length-append front (x ∷ rs)))

      no_soa : (t == SOA) ≡ false
      no_soa = by (t == SOA) refl
        where
          by : (b : Bool) → (t == SOA) ≡ b → b ≡ false
          by false e = refl
          by true e = absurd (true≢false (sym (ap (λ b. if b then true else is_single t) e) ∙ first (t == SOA) refl ∙ several))
            where
              first : (b : Bool) → (t == SOA) ≡ b → (if (t == SOA) then true else is_single t) ≡ is_single t
              first true f = cc
              first false f = cc

      goes_on : continues p (with_ttl ttl x) ≡ true
      goes_on = (λ i. not (is_type i == SOA) && (is_owner i && is_type i == t)) ∙ (λ i. not (no_soa i) && (true && eq-eqb t t refl i))

      absent : stores (map (with_ttl ttl) front) x.rdata ≡ false
      absent =
          list_any_none (λ (y : Record). same_data y.rdata x.rdata) (map (with_ttl ttl) front)
          (All-map (λ (y : Record). same_data y.rdata x.rdata ≡ false) (with_ttl ttl) front
          (λ k d lt.
          let one : get_or (front ++ x ∷ rs) k d ≡ get_or front k d = get_or_append_left front (x ∷ rs) d k lt in
          let two : get_or (front ++ x ∷ rs) (length front) d ≡ x = get_or-append_seam front x rs d in
          (λ i. same_data (sym one i).rdata (sym two i).rdata) ∙ h.differ k (length front) d lt within))

  records_more : (front rs rest : List Record) → front ≢ [] → lower n ≡ lower o → (t == RRSIG) ≡ false → IsSet o t (front ++ rs)
      → grouped (done, Some (partly n t ttl front [])) (map (with_ttl ttl) rs ++ rest) ≡ grouped (done, Some (partly n t ttl (front ++ rs) [])) rest
  unfolding grouped
  records_more front [] rest some spelling plain h = ap (λ f. grouped (done, Some (partly n t ttl f [])) rest) (sym (append-nil front))
  records_more front (x ∷ rs) rest some spelling plain h =
      let together : (front ++ x ∷ []) ++ rs ≡ front ++ x ∷ rs = append_assoc front (x ∷ []) rs in
      ap (λ g. g >>= λ m. grouped m (map (with_ttl ttl) rs ++ rest)) (record_more front x rs some spelling plain h)
      ∙ records_more (front ++ x ∷ []) rs rest (ends front x) spelling plain (subst (IsSet o t) (sym together) h)
      ∙ ap (λ f. grouped (done, Some (partly n t ttl f [])) rest) together
    where
      ends : (f : List Record) (y : Record) → f ++ y ∷ [] ≢ []
      ends [] y e = cc
      ends (z ∷ f) y e = cc

  -- ---- and its signatures

  signatures_more : (rs front sigs rest : List Record) → AllByRecursion (λ (r : Record). type_of r.rdata ≡ RRSIG) sigs
      → grouped (done, Some (partly n t ttl rs front)) (map (with_ttl ttl) sigs ++ rest) ≡ grouped (done, Some (partly n t ttl rs (front ++ sigs))) rest
  unfolding grouped
  signatures_more rs front [] rest h = ap (λ f. grouped (done, Some (partly n t ttl rs f)) rest) (sym (append-nil front))
  signatures_more rs front (x ∷ sigs) rest h =
      ap (λ b. (if b then Some (done, Some (record p { signatures = p.signatures ++ with_ttl ttl x ∷ [] })) else (if continues p (with_ttl ttl x) then with_current done (joined p.signatures p (with_ttl ttl x)) else Some (done ++ p ∷ [], Some (begun (with_ttl ttl x)))))
      >>= λ m. grouped m (map (with_ttl ttl) sigs ++ rest))
      (eq-eqb (type_of x.rdata) RRSIG h.0)
      ∙ ap (λ ys. grouped (done, Some (record (partly n t ttl rs front) { signatures = ys })) (map (with_ttl ttl) sigs ++ rest)) (sym (map-append (with_ttl ttl) front (x ∷ [])))
      ∙ signatures_more rs (front ++ x ∷ []) sigs rest h.1
      ∙ ap (λ f. grouped (done, Some (partly n t ttl rs f)) rest) (append_assoc front (x ∷ []) sigs)
    where
      p : RRset
      p = partly n t ttl rs front

-- ---- a set

-- a record of an owner and a type can't be one more of the set before it
abbrev pub Starts : Option RRset → Name → ℕ → Type 0
Starts None n t = Unit {0}
Starts (Some c) n t = (not (t == SOA) && (same_name n c.owner && t == c.record_type)) ≡ false

one_begun : (done : List RRset) (cur : Option RRset) (t : ℕ) (r : Record) → type_of r.rdata ≡ t → (t == RRSIG) ≡ false → Starts cur r.name t
    → with_record (done, cur) r ≡ Some (all_sets (done, cur), Some (begun r))
one_begun done None t r is plain h = ap (λ b. if b then None else Some (done, Some (begun r))) (ap (λ t. t == RRSIG) is ∙ plain)
one_begun done (Some c) t r is plain h =
    ap (λ b. if b then Some (done, Some (record c { signatures = c.signatures ++ r ∷ [] })) else (if continues c r then with_current done (joined c.signatures c r) else Some (done ++ c ∷ [], Some (begun r)))) (ap (λ t. t == RRSIG) is ∙ plain)
    ∙ ap (λ b. if b then with_current done (joined c.signatures c r) else Some (done ++ c ∷ [], Some (begun r)))
    ((λ i. not (is i == SOA) && (same_name r.name c.owner && is i == c.record_type)) ∙ h)

one_set : (done : List RRset) (cur : Option RRset) (s : RRset) (rest : List Record) → IsSound s → s.records ≢ [] → (s.record_type == RRSIG) ≡ false
    → Starts cur (spelled s.owner s.records) s.record_type
    → grouped (done, cur) (sent s ++ rest) ≡ grouped (all_sets (done, cur), Some (shown_set s)) rest
unfolding grouped
one_set done cur s rest sound some plain starts = by s.records sound.set some starts
  where
    by : (rs : List Record) → IsSet s.owner s.record_type rs → rs ≢ [] → Starts cur (spelled s.owner rs) s.record_type
        → grouped (done, cur) (map (with_ttl s.ttl) (rs ++ s.signatures) ++ rest)
        ≡ grouped (all_sets (done, cur), Some (partly (spelled s.owner rs) s.record_type s.ttl rs s.signatures)) rest
    by [] set some starts = absurd (some refl)
    by (r ∷ rs) set some starts =
        ap (λ g. g >>= λ m. grouped m (map (with_ttl s.ttl) (rs ++ s.signatures) ++ rest))
        (one_begun done cur s.record_type (with_ttl s.ttl r) (set.types 0 r (omega arith)) plain starts
        ∙ ap (λ t. Some (all_sets (done, cur), Some (partly r.name t s.ttl (r ∷ []) []))) (set.types 0 r (omega arith)))
        ∙ ap (λ xs. grouped (all_sets (done, cur), Some (partly r.name s.record_type s.ttl (r ∷ []) [])) xs)
        (ap (λ xs. xs ++ rest) (map-append (with_ttl s.ttl) rs s.signatures) ∙ append_assoc (map (with_ttl s.ttl) rs) (map (with_ttl s.ttl) s.signatures) rest)
        ∙ records_more s.owner r.name s.record_type s.ttl (all_sets (done, cur)) (r ∷ []) rs (map (with_ttl s.ttl) s.signatures ++ rest) (λ e. cc)
        (same_lower r.name s.owner (set.owners 0 r (omega arith))) plain set
        ∙ signatures_more s.owner r.name s.record_type s.ttl (all_sets (done, cur)) (r ∷ rs) [] s.signatures rest
        (recursion_from_All (λ (x : Record). type_of x.rdata ≡ RRSIG) s.signatures sound.signed)

-- ---- sets, one after the other

abbrev pub AreApart : Option RRset → List RRset → Type 0
AreApart cur [] = Unit {0}
AreApart cur (s ∷ ss) = (s.records ≢ []) × ((s.record_type == RRSIG) ≡ false) × Starts cur (spelled s.owner s.records) s.record_type × AreApart (Some (shown_set s)) ss

all_back : (ss : List RRset) (done : List RRset) (cur : Option RRset) → AllByRecursion IsSound ss → AreApart cur ss
    → (grouped (done, cur) (flat_map sent ss) >>= λ g. Some (all_sets g)) ≡ Some (all_sets (done, cur) ++ map shown_set ss)
unfolding grouped
all_back [] done cur sound apart = ap (λ xs. Some xs) (sym (append-nil (all_sets (done, cur))))
all_back (s ∷ ss) done cur sound apart =
    ap (λ o. o >>= λ g. Some (all_sets g)) (one_set done cur s (flat_map sent ss) sound.0 apart.0 apart.1 apart.2)
    ∙ all_back ss (all_sets (done, cur)) (Some (shown_set s)) sound.1 apart.3
    ∙ ap (λ xs. Some xs) (append_assoc (all_sets (done, cur)) (shown_set s ∷ []) (map shown_set ss))

pub sets_back : (ss : List RRset) → AllByRecursion IsSound ss → AreApart None ss → sets_in (flat_map sent ss) ≡ Some (map shown_set ss)
sets_back ss sound apart = all_back ss [] None sound apart
