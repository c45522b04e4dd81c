-- A version that is sent whole is taken, and is what is held then
use Rattle.std.proofs.Common.{◌≡◌, ℕ, ◌==◌, Bool, true, false, true≢false, List, [], ◌∷◌, ◌++◌, refl, sym, ap, ◌∙◌, subst, eq-eqb}
use Rattle.std.specs.Prelude.{Option, Some, None, map, if◌then◌else◌}
use Rattle.std.specs.List.{flat_map, AllByRecursion}
use Rattle.std.specs.Map.{lookup}
use Rattle.std.proofs.lemmas.Bool.{eqb-true}
use Rattle.zone_proto.specs.Keys.{key, key_eq}
use Rattle.zone_proto.specs.Names.{Name, lower}
use Rattle.zone_proto.specs.Sets.{RRset}
use Rattle.zone_proto.specs.Types.{SOA}
use Rattle.zone_proto.specs.declared.record.Record.{Record}
use Rattle.zone_proto.specs.declared.rr_key.RrKey.{RrKey}
use Rattle.zone_proto.proofs.Ordering.KeyOrder.{key_itself, key_same}
use Rattle.zone_map.specs.Zones.{Sets, set_at}
use Rattle.zone_difference.proofs.Found.{each_found}
use Rattle.shown_zones.specs.Sending.{sent}
use Rattle.shown_zones.specs.Shown.{with_ttl}
use Rattle.transfer_reading.specs.Differences.{Held, held_of, records_at, set_key, with_last}
use Rattle.transfer_reading.specs.Laws.{AreOthers, TakesWholeZones}
use Rattle.transfer_reading.specs.Outcomes.{said_by}
use Rattle.transfer_reading.specs.Stages.{behind_all}
use Rattle.transfer_reading.specs.declared.asked.Asked.{Asked}
use Rattle.transfer_reading.specs.declared.stage.Stage.TheVariants.{Before, WholeZone}
use Rattle.incremental_laws.specs.Holding.{has_exactly, sent_if}
use Rattle.incremental_laws.specs.WholeZones.{sent_between, sent_zone, IsSentWhole, ZonesAreTaken, ZonesMakeTheVersion}
use Rattle.incremental_laws.proofs.HeldWhole.{hold_all, hold_each, records_if}
use Rattle.incremental_laws.proofs.SetsInTurn.{key_apart}
use Rattle.incremental_laws.proofs.StartRecords.{others_none}
use Rattle.incremental_laws.proofs.Taken.{all_others, begun, kept_others, IsBegun}

-- ---- a set between the two SOA records: that of the SOA, or another one

abbrev apex : Name → RrKey
apex o = key (lower o) SOA

-- the set of the SOA has its signatures there
soa_between : (s : RRset) → s.record_type ≡ SOA → sent_between s ≡ map (with_ttl s.ttl) s.signatures
soa_between s is = ap (λ (b : Bool). sent (if b then record s { records = [] } else s)) (eq-eqb s.record_type SOA is)

other_between : (s : RRset) → (s.record_type == SOA) ≡ false → sent_between s ≡ sent s
other_between s is = ap (λ (b : Bool). sent (if b then record s { records = [] } else s)) is

-- what is said of a set of a version between the two: it is the SOA's, or under another key and as it is
pub data IsBetween (o : Name) (soa : RRset) (k : RrKey) (s : RRset) : Type 0 where
  the_soa : k ≡ apex o → s ≡ soa → sent_between s ≡ map (with_ttl soa.ttl) soa.signatures → IsBetween o soa k s
  another : key_eq (apex o) k ≡ false → sent_between s ≡ sent s → IsBetween o soa k s

another_key : (o : Name) (k : RrKey) (t : ℕ) → t ≡ k.record_type.0 → (t == SOA) ≡ false → key_eq (apex o) k ≡ false
another_key o k t has e = by (key_eq (apex o) k) refl
  where
    by : (b : Bool) → key_eq (apex o) k ≡ b → b ≡ false
    by true g =
        let same : apex o ≡ k = key_same (apex o) k g in
        absurd (true≢false (sym (eq-eqb t SOA (has ∙ ap (λ (j : RrKey). j.record_type.0) (sym same))) ∙ e))
    by false g = refl

is_between : (a : Asked) (serial : ℕ) (z : Sets) (soa : RRset) → IsSentWhole a serial z soa → (k : RrKey) (s : RRset) → lookup (key_eq k) z ≡ Some s
    → IsBetween a.origin soa k s
is_between a serial z soa is k s found = by (s.record_type == SOA) refl
  where
    has_type : s.record_type ≡ k.record_type.0
    has_type = (is.version.zone.stored k.name k.record_type.0 s found).record_type

    by : (b : Bool) → (s.record_type == SOA) ≡ b → IsBetween a.origin soa k s
    by true e =
        let type : k.record_type.0 ≡ SOA = sym has_type ∙ eqb-true s.record_type SOA e in
        let at : set_at z k.name SOA ≡ Some s = ap (λ (t : ℕ). set_at z k.name t) (sym type) ∙ found in
        let named : k.name ≡ lower a.origin = is.alone k.name s at in
        let both : Some s ≡ Some soa = sym at ∙ ap (λ (n : Name). set_at z n SOA) named ∙ is.soa_is in
        let same : s ≡ soa = cc in
        the_soa (λ i. key (named i) (type i)) same
        (soa_between s (eqb-true s.record_type SOA e) ∙ ap (λ (t : RRset). map (with_ttl t.ttl) t.signatures) same)
    by false e = another (another_key a.origin k s.record_type has_type e) (other_between s e)

-- ---- it is taken

between_others : (a : Asked) (serial : ℕ) (z : Sets) (soa : RRset) → IsSentWhole a serial z soa → IsBegun a.origin serial soa
    → AreOthers a.origin (flat_map sent_between (map (λ e. e.1) z))
between_others a serial z soa is start =
    all_others a.origin sent_between z
    (each_found (λ k s. AreOthers a.origin (sent_between s)) z is.version.zone.ordered (λ k s found. by k s found (is_between a serial z soa is k s found)))
  where
    by : (k : RrKey) (s : RRset) → lookup (key_eq k) z ≡ Some s → IsBetween a.origin soa k s → AreOthers a.origin (sent_between s)
    by k s found (the_soa at same are) = subst (λ (rs : List Record). AreOthers a.origin rs) (sym (are ∙ start.signatures)) start.rest
    by k s found (another apart are) =
        let kept = is.version.kept k s found in
        subst (λ (rs : List Record). AreOthers a.origin rs) (sym are)
        (kept_others a.origin (sent s) kept.class kept.inside (others_none a.origin k (sent s) apart kept.keyed))

started : (a : Asked) (serial : ℕ) (z : Sets) (soa : RRset) → IsSentWhole a serial z soa → IsBegun a.origin serial soa
started a serial z soa is = begun a.origin serial z soa is.version is.soa_is

-- the records that are sent
parts : (a : Asked) (serial : ℕ) (z : Sets) (soa : RRset) (start : IsBegun a.origin serial soa)
    → sent_zone soa z ≡ start.soa ∷ flat_map sent_between (map (λ e. e.1) z) ++ start.soa ∷ []
parts a serial z soa start = λ i. start.alone i ++ (flat_map sent_between (map (λ e. e.1) z) ++ start.alone i)

pub zones_are_taken : TakesWholeZones → ZonesAreTaken
zones_are_taken takes a serial z soa is =
    let start = started a serial z soa is in
    ap (behind_all a Before) (parts a serial z soa start)
    ∙ takes.taken a serial start.soa start.soa (flat_map sent_between (map (λ e. e.1) z)) is.asked start.first (between_others a serial z soa is start) start.first

-- ---- it is what is held

between_keyed : (a : Asked) (serial : ℕ) (z : Sets) (soa : RRset) → IsSentWhole a serial z soa → IsBegun a.origin serial soa
    → AllByRecursion (λ (e : RrKey × RRset). AllByRecursion (λ (r : Record). set_key r ≡ e.0) (sent_between e.1)) z
between_keyed a serial z soa is start =
    each_found (λ k s. AllByRecursion (λ (r : Record). set_key r ≡ k) (sent_between s)) z is.version.zone.ordered
    (λ k s found. by k s found (is_between a serial z soa is k s found))
  where
    soa_keyed : AllByRecursion (λ (r : Record). set_key r ≡ apex a.origin) (start.soa ∷ start.others)
    soa_keyed = subst (λ (rs : List Record). AllByRecursion (λ (r : Record). set_key r ≡ apex a.origin) rs) start.are (is.version.kept (apex a.origin) soa is.soa_is).keyed

    by : (k : RrKey) (s : RRset) → lookup (key_eq k) z ≡ Some s → IsBetween a.origin soa k s → AllByRecursion (λ (r : Record). set_key r ≡ k) (sent_between s)
    by k s found (the_soa at same are) =
        subst (λ (rs : List Record). AllByRecursion (λ (r : Record). set_key r ≡ k) rs) (sym (are ∙ start.signatures))
        (subst (λ (j : RrKey). AllByRecursion (λ (r : Record). set_key r ≡ j) start.others) (sym at) soa_keyed.1)
    by k s found (another apart are) = subst (λ (rs : List Record). AllByRecursion (λ (r : Record). set_key r ≡ k) rs) (sym are) (is.version.kept k s found).keyed

-- the first record is under the key of the SOA
first_held : (o : Name) (x : Record) → set_key x ≡ apex o → (q : RrKey) → records_at (held_of (x ∷ [])) q ≡ (if key_eq q (apex o) then x ∷ [] else [])
first_held o x keyed q =
    let one = hold_all [] (apex o) (x ∷ []) [] (keyed, tt) in
    ap (λ (h : Held). records_at h q) one.1 ∙ by one.0 (key_eq q (apex o)) refl one.2 one.3
  where
    by : (n : Held) (b : Bool) → key_eq q (apex o) ≡ b → records_at n (apex o) ≡ x ∷ [] → ((j : RrKey) → key_eq j (apex o) ≡ false → records_at n j ≡ [])
        → records_at n q ≡ (if b then x ∷ [] else [])
    by n true g here stay = ap (records_at n) (key_same q (apex o) g) ∙ here
    by n false g here stay = stay q g

-- under each key is what is sent of its set
each_is : (a : Asked) (serial : ℕ) (z : Sets) (soa : RRset) → IsSentWhole a serial z soa → (start : IsBegun a.origin serial soa) → (q : RrKey)
    → (if key_eq q (apex a.origin) then start.soa ∷ [] else []) ++ records_if sent_between (lookup (key_eq q) z) ≡ sent_if (lookup (key_eq q) z)
each_is a serial z soa is start q = by (lookup (key_eq q) z) refl (key_eq q (apex a.origin)) refl
  where
    there : key_eq q (apex a.origin) ≡ true → lookup (key_eq q) z ≡ Some soa
    there g = ap (λ (k : RrKey). lookup (key_eq k) z) (key_same q (apex a.origin) g) ∙ is.soa_is

    set_is : (s : RRset) → IsBetween a.origin soa q s → (b : Bool) → key_eq q (apex a.origin) ≡ b → (if b then start.soa ∷ [] else []) ++ sent_between s ≡ sent s
    set_is s (the_soa at same are) true g =
        ap (λ (rs : List Record). start.soa ∷ rs) (are ∙ start.signatures) ∙ sym start.are ∙ ap sent (sym same)
    set_is s (the_soa at same are) false g =
        absurd (true≢false (sym (ap (λ (k : RrKey). key_eq k (apex a.origin)) at ∙ key_itself (apex a.origin)) ∙ g))
    set_is s (another apart are) true g = absurd (true≢false (sym g ∙ key_apart (apex a.origin) q apart))
    set_is s (another apart are) false g = are

    by : (o : Option RRset) → lookup (key_eq q) z ≡ o → (b : Bool) → key_eq q (apex a.origin) ≡ b
        → (if b then start.soa ∷ [] else []) ++ records_if sent_between o ≡ sent_if o
    by None e true g = let no : None ≡ Some soa = sym e ∙ there g in absurd cc
    by None e false g = refl
    by (Some s) e b g = set_is s (is_between a serial z soa is q s e) b g

pub zones_make_the_version : TakesWholeZones → ZonesMakeTheVersion
zones_make_the_version takes a serial z soa held is =
    let start = started a serial z soa is in
    let rest : List Record = flat_map sent_between (map (λ e. e.1) z) in (
      start.soa ∷ rest,
      ap (λ (rs : List Record). said_by WholeZone a.origin rs held) (parts a serial z soa start) ∙ takes.said a.origin start.soa start.soa rest held,
      λ q r. ap (λ (xs : List Record). has_exactly xs r)
          (hold_each sent_between (with_last [] start.soa) z is.version.zone.ordered (between_keyed a serial z soa is start) q
          ∙ ap (λ (xs : List Record). xs ++ records_if sent_between (lookup (key_eq q) z)) (first_held a.origin start.soa start.keyed q)
          ∙ each_is a serial z soa is start q),
    )
