-- Sets taken out of what is held, or given, one after the other
use Rattle.std.proofs.Common.{◌≡◌, Bool, true, false, cond, List, [], ◌∷◌, ◌++◌, refl, sym, ap, ◌∙◌, subst, append_assoc, Less}
use Rattle.std.specs.Prelude.{Option, Some, None, is_some, map}
use Rattle.std.specs.Cmp.{eq_by_cmp_equiv}
use Rattle.std.specs.List.{flat_map, AllByRecursion}
use Rattle.std.specs.Map.{lookup, keys_of}
use Rattle.std.specs.Ordering.{is_eq}
use Rattle.std.proofs.lemmas.Map.Keys.{sorted_head, sorted_tail}
use Rattle.zone_proto.specs.Keys.{key_cmp, key_eq}
use Rattle.zone_proto.specs.Names.{Name}
use Rattle.zone_proto.specs.Sets.{RRset}
use Rattle.zone_proto.specs.declared.record.Record.{Record}
use Rattle.zone_proto.specs.declared.rr_key.RrKey.{RrKey}
use Rattle.zone_proto.proofs.Ordering.KeyLaws.{key_cmp_total}
use Rattle.zone_proto.proofs.Ordering.KeyOrder.{key_same}
use Rattle.zone_map.specs.Zones.{Sets}
use Rattle.zone_difference.proofs.Found.{none_found, InOrder}
use Rattle.shown_zones.specs.Sending.{sent}
use Rattle.transfer_reading.specs.Differences.{Held, changed, records_at, set_key}
use Rattle.transfer_reading.specs.Stages.{serial_at}
use Rattle.incremental_laws.specs.Holding.{has_exactly, SameRecords}
use Rattle.incremental_laws.specs.Versions.{AreDifferent}
use Rattle.incremental_laws.proofs.Lists.{apart_none}
use Rattle.incremental_laws.proofs.OneSet.{give_all, take_all, StayApart}

-- different records of one key, of which none is the SOA record of the zone
pub record AreOther (o : Name) (k : RrKey) (rs : List Record) : Type 0 where
  pub none : AllByRecursion (λ (r : Record). serial_at o r ≡ None) rs
  pub keyed : AllByRecursion (λ (r : Record). set_key r ≡ k) rs
  pub different : AreDifferent rs

abbrev pub sent_all : Sets → List Record
sent_all es = flat_map sent (map (λ e. e.1) es)

pub key_apart : (k q : RrKey) → key_eq k q ≡ false → key_eq q k ≡ false
key_apart k q f = (eq_by_cmp_equiv key_cmp_total).symm q k ∙ f

-- ---- taken out

still_same : (k : RrKey) (h n : Held) (es : Sets) → AllByRecursion (λ q. key_cmp k q ≡ Less) (keys_of es) → StayApart h n k
    → AllByRecursion (λ (e : RrKey × RRset). SameRecords (records_at h e.0) (sent e.1)) es
    → AllByRecursion (λ (e : RrKey × RRset). SameRecords (records_at n e.0) (sent e.1)) es
still_same k h n [] above stay like = tt
still_same k h n (e ∷ es) above stay like = (
  λ r. ap (λ xs. has_exactly xs r) (stay e.0 (key_apart k e.0 (ap is_eq above.0))) ∙ like.0 r,
  still_same k h n es above.1 stay like.1,
)

either_way : (b : Bool) (xs : List Record) → cond b xs xs ≡ xs
either_way true xs = refl
either_way false xs = refl

left_then : (n h : Held) (e : RrKey × RRset) (es : Sets) (q : RrKey) → records_at n e.0 ≡ [] → StayApart h n e.0
    → cond (is_some (lookup (key_eq q) es)) [] (records_at n q) ≡ cond (is_some (lookup (key_eq q) (e ∷ es))) [] (records_at h q)
left_then n h e es q none stay = by (key_eq q e.0) refl
  where
    by : (b : Bool) → key_eq q e.0 ≡ b
        → cond (is_some (lookup (key_eq q) es)) [] (records_at n q) ≡ cond (is_some (cond b (Some e.1) (lookup (key_eq q) es))) [] (records_at h q)
    by true g =
        ap (λ k. cond (is_some (lookup (key_eq q) es)) [] (records_at n k)) (key_same q e.0 g)
        ∙ ap (cond (is_some (lookup (key_eq q) es)) []) none
        ∙ either_way (is_some (lookup (key_eq q) es)) []
    by false g = ap (cond (is_some (lookup (key_eq q) es)) []) (stay q g)

pub take_each : (o : Name) (h : Held) (es : Sets) (more : List Record) → InOrder es → AllByRecursion (λ (e : RrKey × RRset). AreOther o e.0 (sent e.1)) es
    → AllByRecursion (λ (e : RrKey × RRset). SameRecords (records_at h e.0) (sent e.1)) es
    → (n : Held) × (changed o false h (sent_all es ++ more) ≡ changed o false n more)
    × ((q : RrKey) → records_at n q ≡ cond (is_some (lookup (key_eq q) es)) [] (records_at h q))
take_each o h [] more ordered other like = (h, refl, λ q. refl)
take_each o h (e ∷ es) more ordered other like =
    let one = take_all o h e.0 (sent e.1) (sent_all es ++ more) other.0.none other.0.keyed other.0.different like.0 in
    let rest = take_each o one.0 es more (sorted_tail key_cmp e.0 (keys_of es) ordered) other.1
    (still_same e.0 h one.0 es (sorted_head key_cmp e.0 (keys_of es) ordered) one.3 like.1) in (
      rest.0,
      ap (changed o false h) (append_assoc (sent e.1) (sent_all es) more) ∙ one.1 ∙ rest.1,
      λ q. rest.2 q ∙ left_then one.0 h e es q one.2 one.3,
    )

-- ---- given

still_none : (k : RrKey) (h n : Held) (es : Sets) → AllByRecursion (λ q. key_cmp k q ≡ Less) (keys_of es) → StayApart h n k
    → AllByRecursion (λ (e : RrKey × RRset). records_at h e.0 ≡ []) es → AllByRecursion (λ (e : RrKey × RRset). records_at n e.0 ≡ []) es
still_none k h n [] above stay none = tt
still_none k h n (e ∷ es) above stay none = (stay e.0 (key_apart k e.0 (ap is_eq above.0)) ∙ none.0, still_none k h n es above.1 stay none.1)

-- the records of a set that is given, in place of others
abbrev pub given_if : Option RRset → List Record → List Record
given_if None rs = rs
given_if (Some s) rs = sent s

given_then : (n h : Held) (e : RrKey × RRset) (es : Sets) (q : RrKey) → AllByRecursion (λ j. key_cmp e.0 j ≡ Less) (keys_of es) → records_at n e.0 ≡ sent e.1
    → StayApart h n e.0 → given_if (lookup (key_eq q) es) (records_at n q) ≡ given_if (lookup (key_eq q) (e ∷ es)) (records_at h q)
given_then n h e es q above here stay = by (key_eq q e.0) refl
  where
    by : (b : Bool) → key_eq q e.0 ≡ b → given_if (lookup (key_eq q) es) (records_at n q) ≡ given_if (cond b (Some e.1) (lookup (key_eq q) es)) (records_at h q)
    by true g =
        let same : q ≡ e.0 = key_same q e.0 g in
        let none : lookup (key_eq q) es ≡ None = none_found q es (subst (λ (k : RrKey). AllByRecursion (λ j. key_cmp k j ≡ Less) (keys_of es)) (sym same) above) in
        ap (λ x. given_if x (records_at n q)) none ∙ ap (records_at n) same ∙ here
    by false g = ap (given_if (lookup (key_eq q) es)) (stay q g)

pub give_each : (o : Name) (h : Held) (es : Sets) (more : List Record) → InOrder es → AllByRecursion (λ (e : RrKey × RRset). AreOther o e.0 (sent e.1)) es
    → AllByRecursion (λ (e : RrKey × RRset). records_at h e.0 ≡ []) es
    → (n : Held) × (changed o true h (sent_all es ++ more) ≡ changed o true n more)
    × ((q : RrKey) → records_at n q ≡ given_if (lookup (key_eq q) es) (records_at h q))
give_each o h [] more ordered other none = (h, refl, λ q. refl)
give_each o h (e ∷ es) more ordered other none =
    let one = give_all o h e.0 [] (sent e.1) (sent_all es ++ more) other.0.none other.0.keyed other.0.different (apart_none (sent e.1)) none.0 in
    let rest = give_each o one.0 es more (sorted_tail key_cmp e.0 (keys_of es) ordered) other.1
    (still_none e.0 h one.0 es (sorted_head key_cmp e.0 (keys_of es) ordered) one.3 none.1) in (
      rest.0,
      ap (changed o true h) (append_assoc (sent e.1) (sent_all es) more) ∙ one.1 ∙ rest.1,
      λ q. rest.2 q ∙ given_then one.0 h e es q (sorted_head key_cmp e.0 (keys_of es) ordered) one.2 one.3,
    )
