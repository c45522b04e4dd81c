-- An insertion keeps CNAMEs standing alone
use Rattle.std.proofs.Common.{◌≡◌, ℕ, ◌==◌, ◌&&◌, ◌||◌, not, Bool, true, false, cond, List, [], ◌∷◌, refl, sym, ap, ◌∙◌, subst, true≢false, eqb-true, inl, inr, ◌⊎◌}
use Rattle.std.specs.Prelude.{Option, Some, None, Result, Ok, Err, OnOk, OnErr, is_some, unwrap_or, option_map, option_and_then}
use Rattle.std.specs.Bool.{beq}
use Rattle.zone_proto.specs.declared.record.Record.{Record}
use Rattle.zone_proto.specs.declared.rr_key.RrKey.{RrKey}
use Rattle.zone_proto.specs.Data.{type_of}
use Rattle.zone_proto.specs.Keys.{key, key_eq}
use Rattle.zone_proto.specs.Names.{Name, lower}
use Rattle.zone_proto.specs.Sets.{RRset, inserted}
use Rattle.zone_proto.specs.Types.{CNAME}
use Rattle.zone_proto.proofs.Ordering.KeyOrder.{key_same}
use Rattle.zone_proto.proofs.Members.{none_passes}
use Rattle.zone_map.specs.Zones.{Sets, owns, types_at, put}
use Rattle.zone_map.specs.Upserts.{is_denial_type, clash, clashes, upserted, all_upserted, with_record, set_for, CnamesStandAlone}
use Rattle.zone_proto.specs.declared.error.ProtoError.{ProtoError}
use Rattle.zone_map.proofs.Owned.{type_in}
use Rattle.zone_map.proofs.Stored.{put_apart}

-- ---- what a map owns that has a set put into it

-- an owned key is the one that was put, or was owned before
owned_after : (m : Sets) (a n : Name) (u t : ℕ) (v : RRset) → owns (put m a u v) n t ≡ true → (key n t ≡ key a u) ⊎ (owns m n t ≡ true)
owned_after m a n u t v h = by (key_eq (key n t) (key a u)) refl
  where
    by : (b : Bool) → key_eq (key n t) (key a u) ≡ b → (key n t ≡ key a u) ⊎ (owns m n t ≡ true)
    by true e = inl (key_same (key n t) (key a u) e)
    by false e = inr (sym (ap is_some (put_apart m (key a u) (key n t) v e)) ∙ h)

-- ---- types that don't clash

-- a type that doesn't stand against a CNAME is CNAME or one of denial
beside_cname : (t : ℕ) → clash CNAME t ≡ false → (t ≡ CNAME) ⊎ (is_denial_type t ≡ true)
beside_cname t h = by (t == CNAME) refl (is_denial_type t) refl
  where
    by : (c : Bool) → (t == CNAME) ≡ c → (d : Bool) → is_denial_type t ≡ d → (t ≡ CNAME) ⊎ (is_denial_type t ≡ true)
    by true e d f = inl (eqb-true t CNAME e)
    by false e true f = inr f
    by false e false f = absurd (true≢false (sym (ap (λ c. not (beq true c) && not (is_denial_type t)) e ∙ ap not f) ∙ h))

-- and so is one that a CNAME doesn't stand against
beside_by_cname : (t : ℕ) → clash t CNAME ≡ false → (t ≡ CNAME) ⊎ (is_denial_type t ≡ true)
beside_by_cname t h = by (t == CNAME) refl (is_denial_type t) refl
  where
    by : (c : Bool) → (t == CNAME) ≡ c → (d : Bool) → is_denial_type t ≡ d → (t ≡ CNAME) ⊎ (is_denial_type t ≡ true)
    by true e d f = inl (eqb-true t CNAME e)
    by false e true f = inr f
    by false e false f = absurd (true≢false (sym (ap (λ c. not (beq c true) && not (is_denial_type t || false)) e ∙ ap (λ d. not (d || false)) f) ∙ h))

unclashing : (m : Sets) (n : Name) (t u : ℕ) → clashes m n t ≡ false → owns m n u ≡ true → clash t u ≡ false
unclashing m n t u h o = by (clash t u) refl
  where
    by : (b : Bool) → clash t u ≡ b → b ≡ false
    by true e = absurd (none_passes (clash t) u (types_at m n) h (type_in m n u o) e)
    by false e = refl

-- ---- the law

put_alone : (m : Sets) (a : Name) (u : ℕ) (v : RRset) → clashes m a u ≡ false → CnamesStandAlone m → CnamesStandAlone (put m a u v)
put_alone m a u v free given = record { alone = λ n t c o. by n t (owned_after m a n u CNAME v c) (owned_after m a n u t v o) }
  where
    by : (n : Name) (t : ℕ) → (key n CNAME ≡ key a u) ⊎ (owns m n CNAME ≡ true) → (key n t ≡ key a u) ⊎ (owns m n t ≡ true) → (t ≡ CNAME) ⊎ (is_denial_type t ≡ true)
    by n t (inl e) (inl f) = inl (ap (λ (k : RrKey). k.record_type.0) f ∙ sym (ap (λ (k : RrKey). k.record_type.0) e))
    by n t (inl e) (inr f) =
        beside_cname t
        (ap (λ w. clash w t) (ap (λ (k : RrKey). k.record_type.0) e)
        ∙ unclashing m a u t free (subst (λ w. owns m w t ≡ true) (ap (λ (k : RrKey). k.name) e) f))
    by n t (inr e) (inl f) =
        beside_by_cname t
        (ap (λ w. clash w CNAME) (ap (λ (k : RrKey). k.record_type.0) f)
        ∙ unclashing m a u CNAME free (subst (λ w. owns m w CNAME ≡ true) (ap (λ (k : RrKey). k.name) f) e))
    by n t (inr e) (inr f) = given.alone n t e f

-- an insertion where nothing clashes, with the map as it was where the record isn't taken
pub record_alone : (m : Sets) (r : Record) (serial : ℕ) → clashes m (lower r.name) (type_of r.rdata) ≡ false → CnamesStandAlone m → CnamesStandAlone (unwrap_or (with_record m r serial) m)
record_alone m r serial free alone = by (inserted (set_for m r serial) r serial)
  where
    by : (o : Option RRset) → CnamesStandAlone (unwrap_or (option_map (put m (lower r.name) (type_of r.rdata)) o) m)
    by None = alone
    by (Some w) = put_alone m (lower r.name) (type_of r.rdata) w free alone

-- the same after a call that may find no memory
pub alone_after : (m m' : Sets) (r : Record) (serial : ℕ) (res : Result Bool ProtoError) → clashes m (lower r.name) (type_of r.rdata) ≡ false
    → OnOk res (m' ≡ unwrap_or (with_record m r serial) m) → OnErr res (m' ≡ m) → CnamesStandAlone m → CnamesStandAlone m'
alone_after m m' r serial (Ok b) free h g alone = subst CnamesStandAlone (sym h) (record_alone m r serial free alone)
alone_after m m' r serial (Err e) free h g alone = subst CnamesStandAlone (sym g) alone

-- an insertion into a zone
pub upserted_alone : (m : Sets) (class : ℕ) (r : Record) (serial : ℕ) (n : Sets) → upserted m class r serial ≡ Some n → CnamesStandAlone m → CnamesStandAlone n
upserted_alone m class r serial n e alone = by (clashes m (lower r.name) (type_of r.rdata)) refl
  where
    nothing : (b : Bool) (x : Option Sets) → cond (b && false) x None ≡ None
    nothing true x = refl
    nothing false x = refl

    taken : (b : Bool) → cond (b && true) (with_record m r serial) None ≡ Some n → with_record m r serial ≡ Some n
    taken true h = h
    taken false h = absurd cc

    by : (b : Bool) → clashes m (lower r.name) (type_of r.rdata) ≡ b → CnamesStandAlone n
    by true h =
        let none : upserted m class r serial ≡ None =
        ap (λ c. cond ((r.dns_class.0 == class) && not c) (with_record m r serial) None) h ∙ nothing (r.dns_class.0 == class) (with_record m r serial) in
        absurd (true≢false (sym (ap is_some (sym none ∙ e))))
    by false h =
        let some = taken (r.dns_class.0 == class) (sym (ap (λ c. cond ((r.dns_class.0 == class) && not c) (with_record m r serial) None) h) ∙ e) in
        subst CnamesStandAlone (ap (λ o. unwrap_or o m) some) (record_alone m r serial h alone)

pub all_alone : (m : Sets) (class : ℕ) (rs : List Record) (serial : ℕ) (n : Sets) → all_upserted m class rs serial ≡ Some n → CnamesStandAlone m → CnamesStandAlone n
all_alone m class [] serial n e alone =
    let same : m ≡ n = cc in
    subst CnamesStandAlone same alone
all_alone m class (r ∷ rs) serial n e alone = by (upserted m class r serial) refl e (λ k h a. all_alone k class rs serial n h a)
  where
    by : (o : Option Sets) → upserted m class r serial ≡ o → option_and_then (λ k. all_upserted k class rs serial) o ≡ Some n
        → ((k : Sets) → all_upserted k class rs serial ≡ Some n → CnamesStandAlone k → CnamesStandAlone n) → CnamesStandAlone n
    by None f h more = absurd cc
    by (Some k) f h more = more k h (upserted_alone m class r serial k f alone)

pub nothing_owned : CnamesStandAlone []
nothing_owned = record { alone = λ n t c o. absurd (true≢false (sym c)) }
