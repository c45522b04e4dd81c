-- The NSEC3 sets that are in a zone, passed one after the other beside the names of a circle
use Rattle.std.proofs.Common.{◌≡◌, ℕ, suc, ◌<◌, ◌==◌, Bool, true, false, cond, List, [], ◌∷◌, ◌++◌, map, length, take, get_or, refl, sym, ap, ◌∙◌, subst, append_assoc, append-nil, eqb-true, eq-eqb, Decides, inl, inr, arith}
use Rattle.std.specs.Prelude.{Option, Some, None, filter}
use Rattle.std.specs.Cmp.Lexicographic.{pointwise}
use Rattle.std.specs.List.{AllByRecursion}
use Rattle.std.specs.Map.{keys_of, update, update_all}
use Rattle.std.specs.Ordering.{is_eq}
use Rattle.std.proofs.lemmas.List.{map-append, take_all}
use Rattle.std.proofs.lemmas.Slice.Eq.{slice_eq-Decides}
use Rattle.zone_proto.specs.declared.rdata.RData.TheVariants as V
use Rattle.zone_proto.specs.declared.rdata.denial.NSEC3PARAM.{NSEC3PARAM as Nsec3Parameters}
use Rattle.zone_proto.specs.declared.rdata.denial.NSEC3.{NSEC3 as Nsec3Data}
use Rattle.zone_proto.specs.declared.record_type.RecordType.{RecordType}
use Rattle.zone_proto.specs.declared.rr_key.RrKey.{RrKey}
use Rattle.zone_proto.specs.Faults.{fault_of}
use Rattle.zone_proto.specs.HashedOwners.{hashed_owner}
use Rattle.zone_proto.specs.Keys.{key, key_cmp, key_eq}
use Rattle.zone_proto.specs.Names.{Name, lower}
use Rattle.zone_proto.specs.Ranges.{IsOctet}
use Rattle.zone_proto.specs.Sets.{RRset}
use Rattle.zone_proto.specs.Types.{NSEC3}
use Rattle.zone_proto.proofs.Members.{In, In-map}
use Rattle.zone_map.specs.Standing.{renumbered, standing_at}
use Rattle.zone_map.specs.Zones.{Sets, last_at, IsStoredAt, IsZone}
use Rattle.zone_map.proofs.Putting.{keys_of-filter}
use Rattle.zone_denial.specs.declared.hashed_names.HashedName.{HashedName as HeldName}
use Rattle.zone_denial.specs.Covering.{next_around}
use Rattle.zone_denial.specs.HashedNames.{hashed, all_fit, circle_record, circle_set_at}
use Rattle.zone_denial.specs.Nsec3Circle.{nsec3_data}
use Rattle.zone_denial.specs.Nsec3Nodes.{types_of}
use Rattle.zone_denial.specs.Nsec3Sets.{hashed_cmp}
use Rattle.zone_denial.specs.OneRecordSets.{one_record_set}
use Rattle.zone_denial.specs.StandingSets.{standing_sets}
use Rattle.zone_denial.proofs.Ascending.{Ascends, Ascends-apart, Ascends-filter, Ascends-from_sorted}
use Rattle.zone_denial.proofs.Sets.CirclesMade.{CircleSoFar, CircleSoFar-empty, CircleSoFar-more, hashed_lower}
use Rattle.zone_denial.proofs.Sets.StandingSets.{renewed, keys_of-renewed, standing_first, standing_other, last_at-standing}
use Rattle.zone_denial.proofs.Sets.TakenRecords.{set_taking}
use Rattle.zone_denial.proofs.Sets.TypesJoined.{of_numbers}

-- ---- under the key of a set that stands, none comes before it

none_passed : (es : Sets) (f : RrKey → Option RRset) (q : RrKey) → f q ≡ None → ((e : RrKey × RRset) → In e es → key_eq e.0 q ≡ false) → update_all key_eq f es q ≡ None
none_passed [] f q none differ = none
none_passed (e ∷ es) f q none differ =
    none_passed es (update key_eq f e.0 (Some e.1)) q (ap (λ b. cond b (Some e.1) (f q)) (differ e (inl refl)) ∙ none) (λ d i. differ d (inr i))

standing_ascend : (m : Sets) → IsZone m → (type' serial : ℕ) → Ascends key_cmp (keys_of (standing_sets type' serial m))
standing_ascend m zone type' serial =
    let test = λ (k : RrKey). k.record_type.0 == type' in
    let keys = keys_of-renewed serial (filter (λ (e : RrKey × RRset). test e.0) m) ∙ keys_of-filter test m in
    subst (Ascends key_cmp) (sym keys) (Ascends-filter key_cmp test (keys_of m) (Ascends-from_sorted key_cmp (keys_of m) zone.ordered))

none_before : (m : Sets) → IsZone m → (type' serial : ℕ) (done rest : Sets) (e : RrKey × RRset) → done ++ e ∷ rest ≡ standing_sets type' serial m → last_at done e.0.name e.0.record_type.0 ≡ None
none_before m zone type' serial done rest e are =
    let rise = subst (λ (es : Sets). Ascends key_cmp (keys_of es)) (sym are) (standing_ascend m zone type' serial) in
    let parted = subst (Ascends key_cmp) (map-append (λ (d : RrKey × RRset). d.0) done (e ∷ rest)) rise in
    none_passed done (λ _. None) e.0 refl
    (λ d i. ap is_eq (Ascends-apart key_cmp (keys_of done) (keys_of (e ∷ rest)) parted d.0 e.0 (In-map (λ (x : RrKey × RRset). x.0) d done i) (inl refl)))

-- ---- passed one after the other

module _ (origin : Name) (parameters : Nsec3Parameters) (ttl : ℕ) (held : List HeldName) (all : Sets) where
  -- those passed are the sets of the first names, and with those that are left they are all
  abbrev pub CircleStands : Sets → ℕ → Type 0
  CircleStands left passed = (serial : ℕ) → (done : Sets) × (done ++ standing_sets NSEC3 serial left ≡ standing_sets NSEC3 serial all) × CircleSoFar origin parameters ttl serial held None (take passed held) done

  pub CircleStands-start : (left : Sets) → left ≡ all → CircleStands left 0
  CircleStands-start left is = λ serial. ([], ap (standing_sets NSEC3 serial) is, CircleSoFar-empty origin parameters ttl serial held None refl)

  pub CircleStands-other : (e : RrKey × RRset) (left rest : Sets) (passed : ℕ) → left ≡ e ∷ rest → (e.0.record_type.0 == NSEC3) ≡ false → CircleStands left passed → CircleStands rest passed
  CircleStands-other e left rest passed is test so_far = λ serial.
      let s = so_far serial in
      (s.0, ap (λ es. s.0 ++ es) (sym (standing_other NSEC3 serial e left rest is test)) ∙ s.1, s.2)

  module _ (e : RrKey × RRset) (left rest : Sets) (i : ℕ) (h : HeldName) (is : left ≡ e ∷ rest) (denies : (e.0.record_type.0 == NSEC3) ≡ true) (stored : IsStoredAt e.0.name e.0.record_type.0 e.1)
      (zone : IsZone all) (lt : i < length held) (own : h ≡ get_or held i h) (low : lower origin ≡ origin) (none : fault_of (hashed_owner origin h.digest) ≡ None) (octets : AllByRecursion IsOctet h.digest)
      (same : (serial : ℕ) → renumbered serial e.1 ≡ one_record_set NSEC3 ttl serial (hashed_owner origin h.digest) (V.NSEC3 (nsec3_data parameters (next_around hashed_cmp (map hashed held) (hashed h)).digest (types_of h.name.now))))
      (so_far : CircleStands left i) where
    abbrev owner : Name
    owner = hashed_owner origin h.digest

    own_key : e.0 ≡ key owner NSEC3
    own_key =
        let named : e.0.name ≡ owner = sym stored.owner ∙ ap (λ (s : RRset). lower s.owner) (same 0) ∙ hashed_lower origin h.digest low in
        let type' : e.0.record_type.0 ≡ NSEC3 = eqb-true e.0.record_type.0 NSEC3 denies in
        λ j. key (named j) (type' j)

    pub CircleStands-more : CircleStands rest (suc i)
    CircleStands-more = λ serial.
        let s = so_far serial in
        let first = standing_first NSEC3 serial e left rest is denies in
        let are : s.0 ++ renewed serial e ∷ standing_sets NSEC3 serial rest ≡ standing_sets NSEC3 serial all = ap (λ es. s.0 ++ es) (sym first) ∙ s.1 in
        let absent : last_at s.0 owner NSEC3 ≡ None = ap (λ (k : RrKey). last_at s.0 k.name k.record_type.0) (sym own_key) ∙ none_before all zone NSEC3 serial s.0 (standing_sets NSEC3 serial rest) (renewed serial e) are in
        let entry : renewed serial e ≡ (key (lower owner) NSEC3, set_taking serial owner NSEC3 None (circle_record origin parameters ttl held h)) = (λ j. ((own_key ∙ ap (λ n. key n NSEC3) (sym (hashed_lower origin h.digest low))) j, same serial j)) in
        let there : IsStoredAt e.0.name e.0.record_type.0 (renumbered serial e.1) = record { named = stored.named; owner = stored.owner; record_type = stored.record_type; filled = stored.filled; set = stored.set } in
        let more = CircleSoFar-more origin parameters ttl serial held None i h s.0 (renewed serial e) (circle_record origin parameters ttl held h) None low refl (sym absent) entry there lt own none octets s.2 in
        (s.0 ++ renewed serial e ∷ [], append_assoc s.0 (renewed serial e ∷ []) (standing_sets NSEC3 serial rest) ∙ are, more)

  -- ---- all passed

  whole : (left : Sets) (i : ℕ) → left ≡ [] → i ≡ length held → CircleStands left i → (serial : ℕ) → CircleSoFar origin parameters ttl serial held None held (standing_sets NSEC3 serial all)
  whole left i none length' so_far serial =
      let s = so_far serial in
      let sets : s.0 ≡ standing_sets NSEC3 serial all = sym (append-nil s.0) ∙ ap (λ (es : Sets). s.0 ++ standing_sets NSEC3 serial es) (sym none) ∙ s.1 in
      let names : take i held ≡ held = take_all i held (omega (arith, length')) in
      subst (λ (es : Sets). CircleSoFar origin parameters ttl serial held None held es) sets (subst (λ hs. CircleSoFar origin parameters ttl serial held None hs s.0) names s.2)

  pub CircleStands-fit : (left : Sets) (i : ℕ) → left ≡ [] → i ≡ length held → CircleStands left i → all_fit origin (map hashed held) ≡ true
  CircleStands-fit left i none length' so_far = (whole left i none length' so_far 0).fit

  pub CircleStands-end : (left : Sets) (i : ℕ) → IsZone all → left ≡ [] → i ≡ length held → CircleStands left i
      → (serial : ℕ) (n : Name) → standing_at all NSEC3 serial n NSEC3 ≡ circle_set_at origin parameters ttl held serial held n
  CircleStands-end left i zone none length' so_far serial n = sym (last_at-standing all zone NSEC3 serial n NSEC3) ∙ (whole left i none length' so_far serial).sets n NSEC3

-- ---- NSEC3 data by their parts

pub nsec3_data_is : (d : Nsec3Data) (p : Nsec3Parameters) (next : List ℕ) (ts : List RecordType) → d.algorithm ≡ p.algorithm → d.opt_out ≡ p.opt_out → d.iterations ≡ p.iterations → d.salt ≡ p.salt
    → d.next_hashed_owner_name ≡ next → d.types ≡ ts → d ≡ nsec3_data p next (map (λ t. t.0) ts)
nsec3_data_is d p next ts number out times salted follows listed = λ i. record {
  algorithm = number i;
  opt_out = out i;
  iterations = times i;
  salt = salted i;
  next_hashed_owner_name = follows i;
  types = (listed ∙ of_numbers ts) i;
}

-- types in lists that are equal are the same
type_Decides : (a b : RecordType) → Decides (a.0 == b.0) (a ≡ b)
type_Decides a b = (λ e i. record { 0 = eqb-true a.0 b.0 e i }, λ e. eq-eqb a.0 b.0 (λ i. (e i).0))

pub types_same : (ts us : List RecordType) (r : Bool) → r ≡ pointwise (λ (a b : RecordType). a.0 == b.0) ts us → r ≡ true → ts ≡ us
types_same ts us r is same = (slice_eq-Decides type_Decides ts us r is).0 same
