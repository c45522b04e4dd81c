-- What is wrong with the sets of a zone is what is wrong with the first of its groups, whose keys ascend
use Rattle.std.proofs.Common.{◌≡◌, ◌==◌, ◌||◌, ℕ, Bool, true, false, cond, not, length, List, [], ◌∷◌, refl, sym, ap, ◌∙◌, ◌⊎◌, inl, inr, Less}
use Rattle.std.specs.Prelude.{Option, Some, None, filter, option_map}
use Rattle.std.specs.List.{AllByRecursion, find}
use Rattle.std.specs.List.Sorted.{IsStrictlySortedBy}
use Rattle.std.specs.Map.{lookup, keys_of}
use Rattle.std.specs.Option.{option_or, option_map_or}
use Rattle.std.specs.Ordering.{is_eq}
use Rattle.zone_proto.specs.declared.rr_key.RrKey.{RrKey}
use Rattle.zone_proto.specs.Keys.{key, key_cmp, key_eq}
use Rattle.zone_proto.specs.Names.{Name}
use Rattle.zone_proto.specs.Types.{SOA, CNAME, DNAME}
use Rattle.zone_proto.proofs.Ordering.KeyOrder.{key_same, key_itself}
use Rattle.zone_map.proofs.Stored.{all_above}
use Rattle.zone_proto.specs.Data.{same_data}
use Rattle.zone_proto.specs.Sets.{first_serial, is_single}
use Rattle.zone_builder.specs.declared.fault.LoadFault.{LoadFault}
use Rattle.zone_builder.specs.declared.fault.LoadFault.TheVariants as fault
use Rattle.zone_builder.specs.declared.given.GivenRecord.{GivenRecord}
use Rattle.zone_builder.specs.declared.groups.Group.{Group}
use Rattle.zone_builder.specs.Faults.{apex_fault, beside_fault, class_fault, count_fault, first_of, has_denials, has_other_data, iterations_fault, place_fault, soa_fault, set_fault, fault_at, records_fault, told_of, IsFirstSetFault, IsFault, IsFaultless}
use Rattle.zone_builder.specs.GroupFaults.{has_cname, group_apex_fault, group_fault, first_fault}
use Rattle.zone_builder.specs.Groups.{Groups, records_in, AreAlone}
use Rattle.zone_builder.specs.Records.{is_data_of, given_at, records_of}
use Rattle.zone_builder.specs.Repeats.{HaveOneData}
use Rattle.zone_builder.proofs.KeysFound.{absent}

-- ---- one fault after another

first_none : (a b : Option LoadFault) → option_or a b ≡ None → a ≡ None
first_none None b h = refl
first_none (Some x) b h = h

pub second_none : (a b : Option LoadFault) → option_or a b ≡ None → b ≡ None
second_none None b h = h
second_none (Some x) b h = absurd cc

-- ---- sets of one record

none_found : (p : GivenRecord → Bool) (gs : List GivenRecord) → find p gs ≡ None → AllByRecursion (λ (g : GivenRecord). p g ≡ false) gs
none_found p [] h = tt
none_found p (g ∷ gs) h = by (p g) refl h (none_found p gs)
  where
    by : (b : Bool) → p g ≡ b → cond b (Some g) (find p gs) ≡ None → (find p gs ≡ None → AllByRecursion (λ (x : GivenRecord). p x ≡ false) gs) → (p g ≡ false) × AllByRecursion (λ (x : GivenRecord). p x ≡ false) gs
    by true e h rest = absurd cc
    by false e h rest = (e, rest h)

not_other : (b : Bool) → not b ≡ false → b ≡ true
not_other true h = refl
not_other false h = sym h

one_data : (g : GivenRecord) (gs : List GivenRecord) → AllByRecursion (λ (x : GivenRecord). has_other_data g x ≡ false) gs → HaveOneData (g ∷ gs)
one_data g [] h = tt
one_data g (x ∷ xs) h = (not_other (same_data x.record.rdata g.record.rdata) h.0, one_data g xs h.1)

no_count : (t : ℕ) (g : GivenRecord) (gs : List GivenRecord) → is_single t ≡ true → count_fault t g gs ≡ None → find (has_other_data g) gs ≡ None
no_count t g gs one h = by (find (has_other_data g) gs) (ap (λ b. cond (b || (t == DNAME)) (option_map (λ (x : GivenRecord). fault.Second (told_of x)) (find (has_other_data g) gs)) None) (sym one) ∙ h)
  where
    by : (o : Option GivenRecord) → option_map (λ (x : GivenRecord). fault.Second (told_of x)) o ≡ None → o ≡ None
    by None k = refl
    by (Some x) k = absurd cc

-- where nothing is wrong with a set, and it may have one record, all have equal data
alone : (origin n : Name) (t : ℕ) (o : Bool) (gs : List GivenRecord) → set_fault origin n t o gs ≡ None → is_single t ≡ true → HaveOneData gs
alone origin n t o [] h one = tt
alone origin n t o (g ∷ gs) h one =
    one_data g gs (none_found (has_other_data g) gs (no_count t g gs one
    (first_none (count_fault t g gs) later (second_none (place_fault origin n t g) (option_or (count_fault t g gs) later) h))))
  where
    later : Option LoadFault
    later = option_or (iterations_fault (g ∷ gs)) (beside_fault t o g)

pub all_alone : (origin : Name) (groups es : List (RrKey × Group)) → first_fault origin groups es ≡ None → AreAlone es
all_alone origin groups [] h = tt
all_alone origin groups (e ∷ es) h = (
  alone origin e.0.name e.0.record_type.0 (has_cname groups e.0.name) e.1.records.items (first_none (group_fault origin groups e.0 e.1) (first_fault origin groups es) h),
  all_alone origin groups es (second_none (group_fault origin groups e.0 e.1) (first_fault origin groups es) h),
)

-- ---- the first of groups

module _ (origin : Name) (groups : Groups) where
  -- what is wrong with what is under a key
  abbrev pub fault_under : Option Group → RrKey → Option LoadFault
  fault_under o k = set_fault origin k.name k.record_type.0 (has_cname groups k.name) (option_map_or (λ (g : Group). g.records.items) o [])

  -- of all keys the first under which something is wrong
  pub record IsFirstIn (es : List (RrKey × Group)) (e : LoadFault) : Type 0 where
    pub at : RrKey
    pub here : fault_under (lookup (key_eq at) es) at ≡ Some e
    pub before : (q : RrKey) → key_cmp q at ≡ Less → fault_under (lookup (key_eq q) es) q ≡ None

  pub none_in : (es : List (RrKey × Group)) → first_fault origin groups es ≡ None → (q : RrKey) → fault_under (lookup (key_eq q) es) q ≡ None
  none_in [] h q = refl
  none_in (x ∷ es) h q = by (key_eq q x.0) refl (none_in es (second_none (group_fault origin groups x.0 x.1) (first_fault origin groups es) h) q)
    where
      by : (b : Bool) → key_eq q x.0 ≡ b → fault_under (lookup (key_eq q) es) q ≡ None → fault_under (cond b (Some x.1) (lookup (key_eq q) es)) q ≡ None
      by true e rest = ap (λ (k : RrKey). fault_under (Some x.1) k) (key_same q x.0 e) ∙ first_none (group_fault origin groups x.0 x.1) (first_fault origin groups es) h
      by false e rest = rest

  -- the first entry has a fault
  here_first : (x : RrKey × Group) (es : List (RrKey × Group)) → AllByRecursion (λ q. key_cmp x.0 q ≡ Less) (keys_of es) → (e : LoadFault) → group_fault origin groups x.0 x.1 ≡ Some e → IsFirstIn (x ∷ es) e
  here_first x es above e h = record {
    at = x.0;
    here = ap (λ b. fault_under (cond b (Some x.1) (lookup (key_eq x.0) es)) x.0) (key_itself x.0) ∙ h;
    before = λ q less.
        ap (λ b. fault_under (cond b (Some x.1) (lookup (key_eq q) es)) q) (ap is_eq less)
        ∙ ap (λ (o : Option Group). fault_under o q) (absent q es (all_above q x.0 (keys_of es) less above));
  }

  -- it has none, and a later one has the first
  later_first : (x : RrKey × Group) (es : List (RrKey × Group)) → AllByRecursion (λ q. key_cmp x.0 q ≡ Less) (keys_of es) → (e : LoadFault) → group_fault origin groups x.0 x.1 ≡ None → IsFirstIn es e
      → IsFirstIn (x ∷ es) e
  later_first x es above e h found = record {
    at = found.at;
    here = ap (λ b. fault_under (cond b (Some x.1) (lookup (key_eq found.at) es)) found.at) (other (key_eq found.at x.0) refl) ∙ found.here;
    before = λ q less. none q less (key_eq q x.0) refl;
  }
    where
      other : (b : Bool) → key_eq found.at x.0 ≡ b → b ≡ false
      other false q = refl
      other true q =
          let same : found.at ≡ x.0 = key_same found.at x.0 q in
          let nothing : lookup (key_eq found.at) es ≡ None = ap (λ (k : RrKey). lookup (key_eq k) es) same ∙ absent x.0 es above in
          let missed : None ≡ Some e = sym (ap (λ (o : Option Group). fault_under o found.at) nothing) ∙ found.here in
          absurd cc

      none : (q : RrKey) → key_cmp q found.at ≡ Less → (b : Bool) → key_eq q x.0 ≡ b → fault_under (cond b (Some x.1) (lookup (key_eq q) es)) q ≡ None
      none q less true k = ap (λ (p : RrKey). fault_under (Some x.1) p) (key_same q x.0 k) ∙ h
      none q less false k = found.before q less

  pub first_in : (es : List (RrKey × Group)) → IsStrictlySortedBy key_cmp (keys_of es) → (e : LoadFault) → first_fault origin groups es ≡ Some e → IsFirstIn es e
  unfolding IsStrictlySortedBy
  first_in [] sorted e h = absurd cc
  first_in (x ∷ es) sorted e h = by (group_fault origin groups x.0 x.1) refl h (first_in es sorted.1 e)
    where
      by : (o : Option LoadFault) → group_fault origin groups x.0 x.1 ≡ o → option_or o (first_fault origin groups es) ≡ Some e → (first_fault origin groups es ≡ Some e → IsFirstIn es e) → IsFirstIn (x ∷ es) e
      by (Some f) g i rest = here_first x es sorted.0 e (g ∙ i)
      by None g i rest = later_first x es sorted.0 e g (rest i)

-- ---- the groups of records

module _ (origin : Name) (gs : List GivenRecord) (groups : Groups) (own : (k : RrKey) → records_in groups k ≡ filter (is_data_of origin k) gs) where
  under_is_at : (k : RrKey) → fault_under origin groups (lookup (key_eq k) groups) k ≡ fault_at origin gs k.name k.record_type.0
  under_is_at k =
      ap (λ xs. set_fault origin k.name k.record_type.0 (has_cname groups k.name) xs) (own k)
      ∙ ap (λ (xs : List GivenRecord). set_fault origin k.name k.record_type.0 (not (length xs == 0)) (given_at origin gs k.name k.record_type.0)) (own (key k.name CNAME))

  pub sets_faultless : first_fault origin groups groups ≡ None → (n : Name) (t : ℕ) → fault_at origin gs n t ≡ None
  sets_faultless h n t = sym (under_is_at (key n t)) ∙ none_in origin groups groups h (key n t)

  pub first_set_fault : IsStrictlySortedBy key_cmp (keys_of groups) → records_fault origin gs ≡ None → (e : LoadFault) → first_fault origin groups groups ≡ Some e
      → IsFirstSetFault origin gs e
  first_set_fault sorted records e h = record {
    records = records;
    at = found.at;
    here = sym (under_is_at found.at) ∙ found.here;
    before = λ q less. sym (under_is_at q) ∙ found.before q less;
  }
    where
      found : IsFirstIn origin groups groups e
      found = first_in origin groups groups sorted e h

-- ---- why no zone is made

module _ (origin : Name) (gs : List GivenRecord) where
  module _ (classes : class_fault gs ≡ None) (serial : ℕ) (soa : first_serial (records_of (given_at origin gs origin SOA)) ≡ Some serial)
      (groups : Groups) (own : (k : RrKey) → records_in groups k ≡ filter (is_data_of origin k) gs) (denied : Bool) (told : denied ≡ has_denials origin gs) where
    -- nothing else can be wrong with the records than with what is at the origin
    pub records_wrong : records_fault origin gs ≡ group_apex_fault origin groups denied
    records_wrong =
        ap (λ o. option_or o (option_or (soa_fault origin gs) at_origin)) classes
        ∙ ap (λ (o : Option ℕ). option_or (option_map_or (λ serial. None) o (Some (fault.NoSoa origin))) at_origin) soa
        ∙ ap (λ b. apex_fault origin b (λ t. first_of (given_at origin gs origin t))) (sym told)
        ∙ sym (ap (apex_fault origin denied) (λ i t. first_of (own (key origin t) i)))
      where
        at_origin : Option LoadFault
        at_origin = apex_fault origin (has_denials origin gs) (λ t. first_of (given_at origin gs origin t))

  pub wrong_apex : (groups : Groups) (denied : Bool) → records_fault origin gs ≡ group_apex_fault origin groups denied
      → (e : LoadFault) → (e ≡ fault.Memory) ⊎ (group_apex_fault origin groups denied ≡ Some e) → IsFault origin gs e
  wrong_apex groups denied told e (inl h) = inl h
  wrong_apex groups denied told e (inr h) = inr (inl (told ∙ h))

  module _ (records : records_fault origin gs ≡ None) (groups : Groups) (own : (k : RrKey) → records_in groups k ≡ filter (is_data_of origin k) gs)
      (sorted : IsStrictlySortedBy key_cmp (keys_of groups)) where
    pub wrong_set : (e : LoadFault) → (e ≡ fault.Memory) ⊎ (first_fault origin groups groups ≡ Some e) → IsFault origin gs e
    wrong_set e (inl h) = inl h
    wrong_set e (inr h) = inr (inr (first_set_fault origin gs groups own sorted records e h))

    pub nothing_wrong : first_fault origin groups groups ≡ None → IsFaultless origin gs
    nothing_wrong h = record { records = records; sets = sets_faultless origin gs groups own h }
