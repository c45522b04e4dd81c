-- The sets of a zone stay those of a zone while they get new signatures
use Rattle.std.proofs.Common.{◌≡◌, ℕ, ◌+◌, ◌-◌, ◌<◌, ◌≤◌, Bool, true, false, cond, List, [], ◌∷◌, ◌++◌, length, take, drop, refl, sym, ap, ◌∙◌, subst, arith}
use Rattle.std.specs.Prelude.{Option, Some, None, if◌then◌else◌, nat_le}
use Rattle.std.specs.Cmp.{eq_by_cmp_equiv}
use Rattle.std.specs.List.Sorted.{IsStrictlySortedBy}
use Rattle.std.specs.Map.{lookup, set_value, keys_of}
use Rattle.std.specs.Map.Calls.{RetainsPairs}
use Rattle.std.proofs.lemmas.Bool.Decides.{nat_tests}
use Rattle.std.proofs.lemmas.Grind.{common_steps}
use Rattle.std.proofs.lemmas.List.{length-append, length-take, length-drop, drop_all, nil_from_length}
use Rattle.std.proofs.lemmas.Map.{lookup-none}
use Rattle.std.proofs.lemmas.Map.Entries.{none_past_head}
use Rattle.std.proofs.lemmas.Map.Keys.{sorted_tail, IsDistinct-from_sorted}
use Rattle.std.proofs.Math.Seq.{take-append_seam, drop-append_seam}
use Rattle.zone_proto.specs.declared.record.Record.{Record}
use Rattle.zone_proto.specs.declared.rr_key.RrKey.{RrKey}
use Rattle.zone_proto.specs.Keys.{key, key_cmp, key_eq}
use Rattle.zone_proto.specs.Names.{Name}
use Rattle.zone_proto.specs.Sets.{RRset}
use Rattle.zone_proto.specs.Stepping.{stepped, stepped_records}
use Rattle.zone_proto.proofs.Ordering.KeyLaws.{key_cmp_total}
use Rattle.zone_proto.proofs.Stepped.{IsSet-stepped_set}
use Rattle.zone_map.specs.Renewals.{with_signatures, stepped_under, IsHanded, AreHanded}
use Rattle.zone_map.specs.Zones.{Sets, set_at, IsStoredAt, IsZone}

-- sets under the same keys, each of which stands where the one before stood
abbrev pub StandAs : Sets → Sets → Type 0
StandAs [] [] = Unit {0}
StandAs (e ∷ es) (f ∷ fs) = (f.0 ≡ e.0) × ((n : Name) (t : ℕ) → IsStoredAt n t e.1 → IsStoredAt n t f.1) × StandAs es fs
StandAs es fs = ⊥

pub keys_of-standing : (es fs : Sets) → StandAs es fs → keys_of fs ≡ keys_of es
keys_of-standing [] [] stand = refl
keys_of-standing (e ∷ es) (f ∷ fs) (same, here, rest) = ap (λ k. k ∷ keys_of fs) same ∙ ap (λ ks. e.0 ∷ ks) (keys_of-standing es fs rest)
keys_of-standing [] (f ∷ fs) stand = absurd stand
keys_of-standing (e ∷ es) [] stand = absurd stand

-- what is found under a key was found there, and is there if that was there
found_standing : (n : Name) (t : ℕ) (es fs : Sets) (s : RRset) → StandAs es fs → set_at fs n t ≡ Some s
    → (before : RRset) × (set_at es n t ≡ Some before) × (IsStoredAt n t before → IsStoredAt n t s)
found_standing n t [] [] s stand h = absurd cc
found_standing n t [] (f ∷ fs) s stand h = absurd stand
found_standing n t (e ∷ es) [] s stand h = absurd stand
found_standing n t (e ∷ es) (f ∷ fs) s (same, here, rest) h =
    by (key_eq (key n t) e.0) (sym (ap (λ k. cond (key_eq (key n t) k) (Some f.1) (set_at fs n t)) same) ∙ h) (found_standing n t es fs s rest)
  where
    by : (b : Bool) → cond b (Some f.1) (set_at fs n t) ≡ Some s
        → (set_at fs n t ≡ Some s → (before : RRset) × (set_at es n t ≡ Some before) × (IsStoredAt n t before → IsStoredAt n t s))
        → (before : RRset) × (cond b (Some e.1) (set_at es n t) ≡ Some before) × (IsStoredAt n t before → IsStoredAt n t s)
    by true g i = (e.1, refl, λ stands. subst (IsStoredAt n t) (some g) (here n t stands))
      where
        some : {a b : RRset} → Some a ≡ Some b → a ≡ b
        some e = cc
    by false g i = i g

pub IsZone-standing : (es fs : Sets) → StandAs es fs → IsZone es → IsZone fs
IsZone-standing es fs stand zone =
    record {
      ordered = subst (IsStrictlySortedBy key_cmp) (sym (keys_of-standing es fs stand)) zone.ordered;
      stored = λ n t s h. let before = found_standing n t es fs s stand h in before.2 (zone.stored n t before.0 before.1);
    }

StandAs-itself : (es : Sets) → StandAs es es
StandAs-itself [] = tt
StandAs-itself (e ∷ es) = (refl, λ n t h. h, StandAs-itself es)

-- a set whose serial is stepped stays under its key
pub IsStoredAt-stepped : (n : Name) (t : ℕ) (s : RRset) → IsStoredAt n t s → IsStoredAt n t (stepped s)
IsStoredAt-stepped n t s h = record { named = h.named; owner = h.owner; record_type = h.record_type; filled = by s.records h.filled; set = IsSet-stepped_set s.owner s.record_type s.records h.set }
  where
    by : (rs : List Record) → (rs ≡ [] → ⊥) → stepped_records rs ≡ [] → ⊥
    by [] f e = f refl
    by (r ∷ rs) f e = cc

StandAs-stepped_under : (apex : RrKey) (es : Sets) → StandAs es (stepped_under apex es)
StandAs-stepped_under apex [] = tt
StandAs-stepped_under apex (e ∷ es) = (refl, by (key_eq apex e.0), StandAs-stepped_under apex es)
  where
    by : (b : Bool) (n : Name) (t : ℕ) → IsStoredAt n t e.1 → IsStoredAt n t (if b then stepped e.1 else e.1)
    by true n t h = IsStoredAt-stepped n t e.1 h
    by false n t h = h

-- and so does one that gets new signatures
StandAs-with_signatures : (es : Sets) (made : List (List Record)) → StandAs es (with_signatures es made)
StandAs-with_signatures [] made = tt
StandAs-with_signatures (e ∷ es) [] = StandAs-itself (e ∷ es)
StandAs-with_signatures (e ∷ es) (x ∷ made) =
    (refl, λ n t h. record { named = h.named; owner = h.owner; record_type = h.record_type; filled = h.filled; set = h.set }, StandAs-with_signatures es made)

pub IsZone-with_signatures : (es : Sets) (made : List (List Record)) → IsZone es → IsZone (with_signatures es made)
IsZone-with_signatures es made = IsZone-standing es (with_signatures es made) (StandAs-with_signatures es made)

pub IsZone-stepped_under : (apex : RrKey) (es : Sets) → IsZone es → IsZone (stepped_under apex es)
IsZone-stepped_under apex es = IsZone-standing es (stepped_under apex es) (StandAs-stepped_under apex es)

-- the keys are what they were
pub keys_renewed : (apex : RrKey) (es : Sets) (made : List (List Record)) → keys_of (stepped_under apex (with_signatures es made)) ≡ keys_of es
keys_renewed apex es made = keys_of-standing (with_signatures es made) (stepped_under apex (with_signatures es made)) (StandAs-stepped_under apex (with_signatures es made)) ∙ keys_of-standing es (with_signatures es made) (StandAs-with_signatures es made)

-- where no set is under `apex`, none is stepped
pub stepped_none : (apex : RrKey) (es : Sets) → lookup (key_eq apex) es ≡ None → stepped_under apex es ≡ es
stepped_none apex [] h = refl
stepped_none apex (e ∷ es) h = by (key_eq apex e.0) h (stepped_none apex es)
  where
    by : (b : Bool) → cond b (Some e.1) (lookup (key_eq apex) es) ≡ None → (lookup (key_eq apex) es ≡ None → stepped_under apex es ≡ es)
        → (e.0, if b then stepped e.1 else e.1) ∷ stepped_under apex es ≡ e ∷ es
    by true g i = absurd cc
    by false g i = ap (λ (rest : Sets). e ∷ rest) (i g)

-- else the set there is, and no other, as no key appears twice
pub stepped_one : (apex : RrKey) (es : Sets) (s : RRset) → IsStrictlySortedBy key_cmp (keys_of es) → lookup (key_eq apex) es ≡ Some s → set_value (key_eq apex) es (stepped s) ≡ stepped_under apex es
stepped_one apex [] s sorted h = refl
stepped_one apex (e ∷ es) s sorted h = by (key_eq apex e.0) refl h (λ g. stepped_one apex es s (sorted_tail key_cmp e.0 (keys_of es) sorted) g)
  where
    by : (b : Bool) → key_eq apex e.0 ≡ b → cond b (Some e.1) (lookup (key_eq apex) es) ≡ Some s
        → (lookup (key_eq apex) es ≡ Some s → set_value (key_eq apex) es (stepped s) ≡ stepped_under apex es)
        → cond b ((e.0, stepped s) ∷ es) (e ∷ set_value (key_eq apex) es (stepped s)) ≡ (e.0, if b then stepped e.1 else e.1) ∷ stepped_under apex es
    by true k g i =
        let same : s ≡ e.1 = cc in
        let others = none_past_head (eq_by_cmp_equiv key_cmp_total) apex e es (IsDistinct-from_sorted key_cmp _ sorted) k in
        ap (λ (v : RRset). (e.0, stepped v) ∷ es) same
        ∙ ap (λ (rest : Sets). (e.0, stepped e.1) ∷ rest) (sym (stepped_none apex es (lookup-none (key_eq apex) es others)))
    by false k g i = ap (λ (rest : Sets). e ∷ rest) (i g)

-- what is in a list behind a part stays there when the part is exchanged
behind_exchanged : (own part rest given : List Record) (start : ℕ) → drop start given ≡ part ++ rest → length part ≡ length own
    → drop (start + length own) (take start given ++ own ++ drop (start + length own) given) ≡ rest
behind_exchanged own part rest given start is same = by (nat_le (start + length own) (length given)) refl
  where
    long : length given - start ≡ length own + length rest
    long = sym (length-drop start given) ∙ ap length is ∙ length-append part rest ∙ ap (λ n. n + length rest) same

    by : (b : Bool) → nat_le (start + length own) (length given) ≡ b → drop (start + length own) (take start given ++ own ++ drop (start + length own) given) ≡ rest
    by true t =
        let fits : start + length own ≤ length given = grind (arith, nat_tests) in
        let left : drop (length own) (drop start given) ≡ rest = ap (λ xs. drop (length own) xs) is ∙ ap (λ n. drop n (part ++ rest)) (sym same) ∙ drop-append_seam part rest in
        let kept : drop (start + length own) (take start given ++ own ++ drop (start + length own) given) ≡ drop (length own) (drop start given) = grind (arith, common_steps) in
        kept ∙ left
    by false t =
        let short : length given < start + length own = grind (arith, nat_tests) in
        let nothing : length rest ≡ 0 = omega (arith, long) in
        let all : length (take start given ++ own ++ drop (start + length own) given) ≤ start + length own = simp (length-append, length-take, length-drop) (omega (arith, long)) in
        drop_all (start + length own) _ all ∙ sym (nil_from_length rest nothing)

-- a set that is handed a part in exchange for what it has gets its signatures, and what follows the part is left
pub part_exchanged : (s after : RRset) (signatures part rest given given_after : List Record) (start next : ℕ) → drop start given ≡ part ++ rest → IsHanded s signatures None part
    → (length s.signatures ≤ length (drop start given) → after ≡ record s { signatures = take (length s.signatures) (drop start given) })
    → (length s.signatures ≤ length (drop start given) → given_after ≡ take start given ++ s.signatures ++ drop (start + length s.signatures) given)
    → (length s.signatures ≤ length (drop start given) → next ≡ start + length s.signatures)
    → (after ≡ record s { signatures = signatures }) × (drop next given_after ≡ rest)
part_exchanged s after signatures part rest given given_after start next is (whole, as_many) set others behind =
    let same : length part ≡ length s.signatures = ap length whole ∙ as_many in
    let enough : length s.signatures ≤ length (drop start given) = omega (arith, ap length is ∙ length-append part rest) in
    let front : take (length s.signatures) (drop start given) ≡ signatures =
    ap (λ xs. take (length s.signatures) xs) is ∙ ap (λ n. take n (part ++ rest)) (sym same) ∙ take-append_seam part rest ∙ whole in (
      set enough ∙ ap (λ xs. record s { signatures = xs }) front,
      ap (λ n. drop n given_after) (behind enough) ∙ ap (λ xs. drop (start + length s.signatures) xs) (others enough) ∙ behind_exchanged s.signatures part rest given start is same,
    )

-- a pass over a map that puts the signatures handed to each set into it
module _ {F : Type 0} (T : F → RrKey → RRset → Bool → RRset → F → Type 0) (lists : F → List (Option (List Record))) (exchanged : F → List Record)
    (steps : (f : F) (k : RrKey) (v : RRset) (b : Bool) (w : RRset) (f' : F) → T f k v b w f' → (signatures part rest : List Record) (list : Option (List Record)) (left : List (Option (List Record)))
    → lists f ≡ list ∷ left → exchanged f ≡ part ++ rest → IsHanded v signatures list part
    → (b ≡ true) × (w ≡ record v { signatures = signatures }) × (lists f' ≡ left) × (exchanged f' ≡ rest)) where
  pub signatures_put : (f : F) (es kept : Sets) (made : List (List Record)) (ls : List (Option (List Record))) (rs : List Record) → lists f ≡ ls → exchanged f ≡ rs → AreHanded es made ls rs
      → RetainsPairs T f es kept → kept ≡ with_signatures es made
  signatures_put f [] kept made ls rs l r handed h = h
  signatures_put f (e ∷ es) kept [] ls rs l r handed h = absurd handed
  signatures_put f (e ∷ es) kept (x ∷ made) [] rs l r handed h = absurd handed
  signatures_put f (e ∷ es) kept (x ∷ made) (list ∷ ls) rs l r (part, rest, is, handed, others_handed) (b, w, f', others, t, more, k) =
      let s = steps f e.0 e.1 b w f' t x part rest list ls l (r ∙ is) handed in
      let i = signatures_put f' es others made ls rest s.2 s.3 others_handed more in
      k ∙ ap (λ (c : Bool). cond c ((e.0, w) ∷ others) others) s.0
      ∙ ap (λ (y : RRset). (e.0, y) ∷ others) s.1
      ∙ ap (λ (ys : Sets). (e.0, record e.1 { signatures = x }) ∷ ys) i
