-- The index of the owners of a zone's sets, while sets are put in and taken out, and what it tells
use Rattle.std.proofs.Common.{◌≡◌, ◌==◌, eqb-true, ℕ, ◌+◌, ◌≤◌, ◌&&◌, ◌||◌, not, Bool, true, false, cond, List, [], ◌∷◌, length, refl, sym, ap, ◌∙◌, true≢false, arith, Ordering, Less, Equal, Greater}
use Rattle.std.specs.Prelude.{Some, None}
use Rattle.std.specs.BTreeMap.{insert_entry}
use Rattle.std.specs.BTreeSet.{insert_key}
use Rattle.std.specs.List.{cons_option}
use Rattle.std.specs.List.Sorted.{IsStrictlySortedBy}
use Rattle.std.specs.Map.{keys_of, remove_entry}
use Rattle.std.specs.Ordering.{match_ordering}
use Rattle.zone_proto.specs.declared.rr_key.RrKey.{RrKey}
use Rattle.zone_proto.specs.Keys.{key_cmp, key_eq}
use Rattle.zone_proto.specs.Names.{Name, name_cmp, is_at_or_above}
use Rattle.zone_proto.specs.Sets.{RRset}
use Rattle.zone_proto.specs.Types.{NSEC, NSEC3}
use Rattle.zone_map.specs.Counts.{one_more_if}
use Rattle.zone_map.specs.DenialOwners.{Owners, Listed, owners_of, listed_of, none_deny, names_of_others, other_owners}
use Rattle.zone_map.specs.Upserts.{is_denial_type}
use Rattle.zone_map.specs.Wildcards.{exists}
use Rattle.zone_map.specs.Zones.{Sets, owners, owns_at_or_below}
use Rattle.zone_map.proofs.OtherOwners.{other_put, denial_put, denial_removed}
use Rattle.zone_map.proofs.OwnersKept.{differs, owner_put, owners_of_keys, none_put, none_removed}

-- ---- whether there are sets of denial

both : (a b : Bool) → a && b ≡ true → (a ≡ true) × (b ≡ true)
both true b h = (refl, h)
both false b h = absurd (true≢false (sym h))

nil_of : (xs : List Name) → (length xs == 0) ≡ true → xs ≡ []
nil_of [] h = refl
nil_of (x ∷ xs) h = let e : length (x ∷ xs) ≡ 0 = eqb-true (length (x ∷ xs)) 0 h in absurd (omega arith)

pub none_of_either : (o : Owners) → none_deny o ≡ true → (o.nsec ≡ []) × (o.nsec3 ≡ [])
none_of_either o h = let b = both (length o.nsec == 0) (length o.nsec3 == 0) h in (nil_of o.nsec b.0, nil_of o.nsec3 b.1)

none_where_nil : (o : Owners) → o.nsec ≡ [] → o.nsec3 ≡ [] → none_deny o ≡ true
none_where_nil o e f = λ i. (length (e i) == 0) && (length (f i) == 0)

some_inserted : (xs : List Name) (n : Name) → (length (insert_key name_cmp xs n) == 0) ≡ false
some_inserted xs n = by (length (insert_key name_cmp xs n) == 0) refl
  where
    more : (xs : List Name) → insert_key name_cmp xs n ≡ [] → ⊥
    more [] e = cc
    more (x ∷ xs) e = at (name_cmp n x) e
      where
        at : (o : Ordering) → match_ordering o (n ∷ x ∷ xs) (x ∷ xs) (x ∷ insert_key name_cmp xs n) ≡ [] → ⊥
        at Less e = cc
        at Equal e = cc
        at Greater e = cc

    by : (b : Bool) → (length (insert_key name_cmp xs n) == 0) ≡ b → b ≡ false
    by true h = absurd (more xs (nil_of (insert_key name_cmp xs n) h))
    by false h = refl

-- a set of denial is one
pub put_denies : (m : Sets) (k : RrKey) (v : RRset) → is_denial_type k.record_type.0 ≡ true → IsStrictlySortedBy key_cmp (keys_of m) → none_deny (owners_of (insert_entry key_cmp m k v)) ≡ false
put_denies m k v h s = by (k.record_type.0 == NSEC) refl (k.record_type.0 == NSEC3) refl h
  where
    after : (a : Bool) → a && false ≡ false
    after true = refl
    after false = refl

    there : (t : ℕ) → (k.record_type.0 == t) ≡ true → (length (owners (insert_entry key_cmp m k v) t) == 0) ≡ false
    there t e = ap (λ (ns : List Name). length ns == 0) (owner_put m k v t (eqb-true k.record_type.0 t e) s) ∙ some_inserted (owners m t) k.name

    by : (a : Bool) → (k.record_type.0 == NSEC) ≡ a → (b : Bool) → (k.record_type.0 == NSEC3) ≡ b → a || b ≡ true → none_deny (owners_of (insert_entry key_cmp m k v)) ≡ false
    by true e b f h = ap (λ c. c && (length (owners (insert_entry key_cmp m k v) NSEC3) == 0)) (there NSEC e)
    by false e true f h = ap (λ c. (length (owners (insert_entry key_cmp m k v) NSEC) == 0) && c) (there NSEC3 f) ∙ after (length (owners (insert_entry key_cmp m k v) NSEC) == 0)
    by false e false f h = absurd (true≢false (sym h))

unlisted : (b : Bool) (x : Name) (xs : List Name) → cons_option (cond b (Some x) None) xs ≡ [] → (b ≡ false) × (xs ≡ [])
unlisted true x xs h = cc
unlisted false x xs h = (refl, h)

none_left : (test : RrKey → Bool) (t : ℕ) (m : Sets) → owners m t ≡ [] → owners (remove_entry test m) t ≡ []
none_left test t [] h = refl
none_left test t (e ∷ m) h = by (test e.0) (unlisted (t == e.0.record_type.0) e.0.name (owners m t) h) (none_left test t m)
  where
    by : (b : Bool) → ((t == e.0.record_type.0) ≡ false) × (owners m t ≡ []) → (owners m t ≡ [] → owners (remove_entry test m) t ≡ []) → owners (cond b m (e ∷ remove_entry test m)) t ≡ []
    by true u ih = u.1
    by false u ih = λ i. cons_option (cond (u.0 i) (Some e.0.name) None) (ih u.1 i)

still_none : (k : RrKey) (m : Sets) → none_deny (owners_of m) ≡ true → none_deny (owners_of (remove_entry (key_eq k) m)) ≡ true
still_none k m h =
    let none = none_of_either (owners_of m) h in
    none_where_nil (owners_of (remove_entry (key_eq k) m)) (none_left (key_eq k) NSEC m none.0) (none_left (key_eq k) NSEC3 m none.1)

-- ---- the type of a key

not_nsec : (t : ℕ) → is_denial_type t ≡ false → (t == NSEC) ≡ false
not_nsec t h = by (t == NSEC) (t == NSEC3) h
  where
    by : (a b : Bool) → a || b ≡ false → a ≡ false
    by true b h = h
    by false b h = refl

not_nsec3 : (t : ℕ) → is_denial_type t ≡ false → (t == NSEC3) ≡ false
not_nsec3 t h = by (t == NSEC) (t == NSEC3) h
  where
    by : (a b : Bool) → a || b ≡ false → b ≡ false
    by true b h = absurd (true≢false h)
    by false b h = h

-- ---- a set that is put in

pub denial_listed : (m : Sets) (k : RrKey) (v : RRset) → is_denial_type k.record_type.0 ≡ true → IsStrictlySortedBy key_cmp (keys_of m) → (d : Owners) (names : List Name)
    → d ≡ owners_of (insert_entry key_cmp m k v) → names ≡ other_owners m → record { denials = d; others = names } ≡ listed_of (insert_entry key_cmp m k v)
denial_listed m k v h s d names is are =
    let others : names ≡ cond (none_deny (owners_of (insert_entry key_cmp m k v))) [] (other_owners (insert_entry key_cmp m k v)) =
    are ∙ sym (denial_put m k v h) ∙ sym (ap (λ b. cond b [] (other_owners (insert_entry key_cmp m k v))) (put_denies m k v h s)) in
    λ i. record { denials = is i; others = others i }

-- where there are sets of denial, the others are listed
pub others_of : (m : Sets) (listed : Listed) → listed ≡ listed_of m → none_deny listed.denials ≡ false → listed.others ≡ other_owners m
others_of m listed is some = ap (λ (l : Listed). l.others) is ∙ ap (λ b. cond b [] (other_owners m)) (sym (ap (λ (l : Listed). none_deny l.denials) is) ∙ some)

pub other_listed : (m : Sets) (k : RrKey) (v : RRset) → is_denial_type k.record_type.0 ≡ false → IsStrictlySortedBy key_cmp (keys_of m) → (old new : Listed) → old ≡ listed_of m
    → new.denials ≡ old.denials → new.others ≡ cond (none_deny old.denials) old.others (insert_key name_cmp old.others k.name) → new ≡ listed_of (insert_entry key_cmp m k v)
other_listed m k v h s old new is same more =
    let denials : new.denials ≡ owners_of (insert_entry key_cmp m k v) =
    same ∙ none_put m k v old.denials (not_nsec k.record_type.0 h) (not_nsec3 k.record_type.0 h) (ap (λ (l : Listed). l.denials) is) in
    let others : new.others ≡ cond (none_deny (owners_of (insert_entry key_cmp m k v))) [] (other_owners (insert_entry key_cmp m k v)) =
    more ∙ by (none_deny old.denials) refl ∙ ap (λ (o : Owners). cond (none_deny o) [] (other_owners (insert_entry key_cmp m k v))) (sym same ∙ denials) in
    λ i. record { denials = denials i; others = others i }
  where
    by : (b : Bool) → none_deny old.denials ≡ b → cond b old.others (insert_key name_cmp old.others k.name) ≡ cond b [] (other_owners (insert_entry key_cmp m k v))
    by true e = ap (λ (l : Listed). l.others) is ∙ ap (λ b. cond b [] (other_owners m)) (sym (ap (λ (l : Listed). none_deny l.denials) is) ∙ e)
    by false e = ap (λ ns. insert_key name_cmp ns k.name) (others_of m old is e) ∙ other_put m k v h s

-- ---- a set that is taken out

pub denial_unlisted : (m : Sets) (k : RrKey) → is_denial_type k.record_type.0 ≡ true → (old : Listed) (d : Owners) → old ≡ listed_of m → d ≡ owners_of (remove_entry (key_eq k) m) → none_deny d ≡ false
    → record { denials = d; others = old.others } ≡ listed_of (remove_entry (key_eq k) m)
denial_unlisted m k h old d is are some =
    let left : none_deny (owners_of (remove_entry (key_eq k) m)) ≡ false = ap none_deny (sym are) ∙ some in
    let others : old.others ≡ cond (none_deny (owners_of (remove_entry (key_eq k) m))) [] (other_owners (remove_entry (key_eq k) m)) =
    others_of m old is (ap (λ (l : Listed). none_deny l.denials) is ∙ by (none_deny (owners_of m)) refl left)
    ∙ sym (denial_removed m k h)
    ∙ sym (ap (λ b. cond b [] (other_owners (remove_entry (key_eq k) m))) left) in
    λ i. record { denials = are i; others = others i }
  where
    by : (b : Bool) → none_deny (owners_of m) ≡ b → none_deny (owners_of (remove_entry (key_eq k) m)) ≡ false → b ≡ false
    by true e f = absurd (true≢false (sym (still_none k m e) ∙ f))
    by false e f = refl

pub none_listed : (n : Sets) (d : Owners) (names : List Name) → d ≡ owners_of n → none_deny d ≡ true → names ≡ [] → record { denials = d; others = names } ≡ listed_of n
none_listed n d names are none nil =
    let others : names ≡ cond (none_deny (owners_of n)) [] (other_owners n) = nil ∙ sym (ap (λ b. cond b [] (other_owners n)) (ap none_deny (sym are) ∙ none)) in
    λ i. record { denials = are i; others = others i }

pub some_listed : (n : Sets) (d : Owners) (names : List Name) → d ≡ owners_of n → none_deny d ≡ false → names ≡ other_owners n → record { denials = d; others = names } ≡ listed_of n
some_listed n d names are some is =
    let others : names ≡ cond (none_deny (owners_of n)) [] (other_owners n) = is ∙ sym (ap (λ b. cond b [] (other_owners n)) (ap none_deny (sym are) ∙ some)) in
    λ i. record { denials = are i; others = others i }

-- the owners of sets of denial stay, where another set is taken out
pub denials_stay : (m : Sets) (k : RrKey) → is_denial_type k.record_type.0 ≡ false → (old : Listed) → old ≡ listed_of m → old.denials ≡ owners_of (remove_entry (key_eq k) m)
denials_stay m k h old is = none_removed m k old.denials (not_nsec k.record_type.0 h) (not_nsec3 k.record_type.0 h) (ap (λ (l : Listed). l.denials) is)

pub unlisted_where_none : (m : Sets) (listed : Listed) → listed ≡ listed_of m → none_deny listed.denials ≡ true → listed.others ≡ []
unlisted_where_none m listed is none = ap (λ (l : Listed). l.others) is ∙ ap (λ b. cond b [] (other_owners m)) (sym (ap (λ (l : Listed). none_deny l.denials) is) ∙ none)

-- ---- other changes

-- maps of the same keys have the same owners
pub index_of_keys : (m n : Sets) (listed : Listed) → keys_of n ≡ keys_of m → listed ≡ listed_of m → listed ≡ listed_of n
index_of_keys m n listed e h =
    let owners : owners_of m ≡ owners_of n = λ i. record { nsec = sym (owners_of_keys m n NSEC e) i; nsec3 = sym (owners_of_keys m n NSEC3 e) i } in
    h ∙ (λ i. record { denials = owners i; others = cond (none_deny (owners i)) [] (names_of_others (sym e i)) })

-- ---- what it tells

-- without sets of denial, each name that is there exists
plain_exists : (n : Name) (m : Sets) → owners m NSEC ≡ [] → owners m NSEC3 ≡ [] → owns_at_or_below m n ≡ exists m n
plain_exists n [] e f = refl
plain_exists n (d ∷ m) e f =
    let a = unlisted (NSEC == d.0.record_type.0) d.0.name (owners m NSEC) e in
    let b = unlisted (NSEC3 == d.0.record_type.0) d.0.name (owners m NSEC3) f in
    (λ i. whole (is_at_or_above n d.0.name) i || plain_exists n m a.1 b.1 i)
    ∙ (λ i. (is_at_or_above n d.0.name && not (sym (differs NSEC d.0.record_type.0 a.0) i || sym (differs NSEC3 d.0.record_type.0 b.0) i)) || exists m n)
  where
    whole : (b : Bool) → b ≡ b && true
    whole true = refl
    whole false = refl

pub exists_plain : (m : Sets) (n : Name) (listed : Listed) → listed ≡ listed_of m → none_deny listed.denials ≡ true → owns_at_or_below m n ≡ exists m n
exists_plain m n listed is none =
    let either = none_of_either (owners_of m) (sym (ap (λ (l : Listed). none_deny l.denials) is) ∙ none) in
    plain_exists n m either.0 either.1

-- ---- how much is read

pub at_most_one : (b : Bool) (n after : ℕ) → after ≡ one_more_if b n → after ≤ n + 1
at_most_one true n after e = omega arith
at_most_one false n after e = omega arith
