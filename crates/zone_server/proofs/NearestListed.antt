-- Which zone of a list is nearest to a name, by the nearest of their origins
use Rattle.std.proofs.Common.{◌≡◌, ℕ, ◌+◌, ◌<◌, ◌≤◌, map, get_or, take, drop, subst, Bool, true, false, List, ◌∷◌, ◌++◌, length, refl, sym, ap, ◌∙◌, ◌⊎◌, inl, inr, arith, true≢false}
use Rattle.std.specs.Prelude.{Option, Some, All}
use Rattle.std.specs.BTreeMap.{BTreeMap, get}
use Rattle.std.proofs.lemmas.List.{drop_more, get_or-drop, get_or-map, get_or-take, length-take, length-drop, map-append, take-append-drop}
use Rattle.std.proofs.lemmas.List.Elements.{All-map}
use Rattle.std.proofs.lemmas.Map.Views.{All-found, btree_map_get_iff}
use Rattle.zone_proto.specs.Names.{Name, name_cmp, is_at_or_above}
use Rattle.zone_proto.specs.NameLaws.{exact_names}
use Rattle.zone_proto.specs.declared.rdata.signing.RRSIG.{RRSIG}
use Rattle.zone_proto.specs.Signing.{SignedPart}
use Rattle.zone_proto.proofs.Members.{In, In-Contains, Contains-In, In-append_right, In-from_append}
use Rattle.zone_proto.proofs.Names.Tree.{name_order}
use Rattle.zone_origins.specs.Nearest as nearest
use Rattle.zone_response.specs.Queries.{Zone, zone_of}
use Rattle.zone_response.specs.declared.question.ServedZone.{ServedZone}
use Rattle.zone_server.specs.ListedZones.{origins, place_of, AreFirstPlaces}
use Rattle.zone_server.specs.ServedZones.{may_answer_for, IsNearest}
use Rattle.zone_server.proofs.FirstPlaces.{as_many, first_within, has_place, stands, HasPlace, StandsAt}

all_in : {X : Type 0} (P : X → Type 0) (xs : List X) (x : X) → All P xs → In x xs → P x
all_in P xs x h i = let c = In-Contains x xs i in subst P c.2 (h c.0 x c.1)

module _ {S H : Type 0} (zs : List (ServedZone S H)) (places : BTreeMap Name ℕ) (h : AreFirstPlaces zs places) where
  origin_at : (k : ℕ) (d : ServedZone S H) (e : Name) → k < length zs → get_or (origins zs) k e ≡ (get_or zs k d).origin.now
  origin_at k d e within = get_or-map (λ (z : ServedZone S H). z.origin.now) zs k d e within

  -- the entry of a zone's origin
  pub record HasEntry (n : Name) (k : ℕ) : Type 0 where
    pub place : ℕ
    pub among : In (n, place) places.entries
    pub no_later : place ≤ k

  entry_of : (k : ℕ) (d : ServedZone S H) → k < length zs → HasEntry (get_or zs k d).origin.now k
  entry_of k d within =
      let s : HasPlace (origins zs) (get_or (origins zs) k d.origin.now) k = has_place (origins zs) k d.origin.now (omega (arith, within, as_many zs)) in
      let same : get_or (origins zs) k d.origin.now ≡ (get_or zs k d).origin.now = origin_at k d d.origin.now within in
      let n = (get_or zs k d).origin.now in
      let found : place_of (origins zs) n ≡ Some s.place = subst (λ (m : Name). place_of (origins zs) m ≡ Some s.place) same s.found in
      record {
        place = s.place;
        among = Contains-In (n, s.place) places.entries ((btree_map_get_iff name_order.total exact_names places h.ordered n s.place).0 (h.first n ∙ found));
        no_later = s.no_later;
      }

  -- ---- the nearest origin

  module _ (x : Name) (e : Name × ℕ) (near : nearest.IsNearest x places.entries e) where
    under_origin : get name_cmp places e.0 ≡ Some e.1
    under_origin =
        all_in (λ (y : Name × ℕ). get name_cmp places y.0 ≡ Some y.1) places.entries e (All-found name_order.total places h.ordered)
        (subst (In e) (sym near.stands) (In-append_right e near.front (e ∷ near.rest) (inl refl)))

    pub nearest_within : e.1 < length zs
    nearest_within = first_within zs places e.0 e.1 h under_origin

    own_origin : (z : ServedZone S H) → z ≡ get_or zs e.1 z → z.origin.now ≡ e.0
    own_origin z is =
        let s : StandsAt (origins zs) e.0 e.1 = stands (origins zs) e.0 e.1 (sym (h.first e.0) ∙ under_origin) in
        ap (λ (w : ServedZone S H). w.origin.now) is ∙ sym (origin_at e.1 z z.origin.now nearest_within) ∙ s.is z.origin.now

    -- an origin at or above the name is no longer than the nearest, and shorter where its zone stands before that of the nearest
    record IsShorter (m : Name) (k : ℕ) : Type 0 where
      at_most : length m ≤ length e.0
      before : k < e.1 → length m < length e.0

    shorter : (m : Name) (j k : ℕ) → j ≤ k → is_at_or_above m x ≡ true → In (m, j) places.entries → IsShorter m k
    shorter m j k later above among = by (In-from_append (m, j) near.front (e ∷ near.rest) (subst (In (m, j)) near.stands among))
      where
        less : length m < length e.0 → IsShorter m k
        less l = record { at_most = omega (arith, l); before = λ q. l }

        same : ◌≡◌ {A = Name × ℕ} e (m, j) → IsShorter m k
        same is =
            let name : e.0 ≡ m = ap (λ (y : Name × ℕ). y.0) is in
            let place : e.1 ≡ j = ap (λ (y : Name × ℕ). y.1) is in
            let long : length e.0 ≡ length m = ap length name in
            record { at_most = omega arith; before = λ q. absurd (omega (arith, q, place, later)) }

        by : In (m, j) near.front ⊎ In (m, j) (e ∷ near.rest) → IsShorter m k
        by (inl f) = less (all_in (λ (y : Name × ℕ). is_at_or_above y.0 x ≡ true → length y.0 < length e.0) near.front (m, j) near.before f above)
        by (inr (inl is)) = same is
        by (inr (inr r)) = absurd (true≢false (sym above ∙ all_in (λ (y : Name × ℕ). is_at_or_above y.0 x ≡ false) near.rest (m, j) near.behind r))

    at : (k : ℕ) (d : ServedZone S H) → k < length zs → is_at_or_above (get_or zs k d).origin.now x ≡ true → IsShorter (get_or zs k d).origin.now k
    at k d within above = let s : HasEntry (get_or zs k d).origin.now k = entry_of k d within in shorter (get_or zs k d).origin.now s.place k s.no_later above s.among

  -- ---- the nearest zone

  module _ (signature_of : S → SignedPart → ℕ → ℕ → Option RRSIG) (digest_of : H → ℕ → List ℕ → Name → ℕ → Option (List ℕ)) (x : Name) where
    abbrev kept : ServedZone S H → Zone
    kept = zone_of signature_of digest_of

    abbrev may : Zone → Bool
    may = may_answer_for false x

    -- the zone at the place of the nearest origin is the nearest
    pub nearest_zone : (e : Name × ℕ) (z : ServedZone S H) → nearest.IsNearest x places.entries e → z ≡ get_or zs e.1 z → IsNearest may (map kept zs) (kept z)
    nearest_zone e z near is = record {
      front = map kept (take e.1 zs);
      rest = map kept (drop (e.1 + 1) zs);
      stands =
          ap (map kept) (sym (take-append-drop e.1 zs) ∙ ap (λ ys. take e.1 zs ++ ys) (drop_more zs e.1 z within ∙ ap (λ w. w ∷ drop (e.1 + 1) zs) (sym is)))
          ∙ map-append kept (take e.1 zs) (z ∷ drop (e.1 + 1) zs);
      answers = ap (λ m. is_at_or_above m x) own ∙ near.above;
      before = All-map (λ (y : Zone). may y ≡ true → length y.origin < length z.origin.now) kept (take e.1 zs) (λ k d less above. earlier k d less above);
      behind = All-map (λ (y : Zone). may y ≡ true → length y.origin ≤ length z.origin.now) kept (drop (e.1 + 1) zs) (λ k d less above. later k d less above);
    }
      where
        within : e.1 < length zs
        within = nearest_within x e near

        own : z.origin.now ≡ e.0
        own = own_origin x e near z is

        long : length e.0 ≡ length z.origin.now
        long = ap length (sym own)

        earlier : (k : ℕ) (d : ServedZone S H) → k < length (take e.1 zs) → may (kept (get_or (take e.1 zs) k d)) ≡ true → length (kept (get_or (take e.1 zs) k d)).origin < length z.origin.now
        earlier k d less above =
            let front : k < e.1 = omega (arith, length-take e.1 zs) in
            let same : get_or (take e.1 zs) k d ≡ get_or zs k d = get_or-take e.1 zs k d front in
            let s : IsShorter x e near (get_or zs k d).origin.now k = at x e near k d (omega (arith, within)) (subst (λ (w : ServedZone S H). may (kept w) ≡ true) same above) in
            subst (λ (w : ServedZone S H). length w.origin.now < length z.origin.now) (sym same) (omega (arith, s.before front, long))

        later : (k : ℕ) (d : ServedZone S H) → k < length (drop (e.1 + 1) zs) → may (kept (get_or (drop (e.1 + 1) zs) k d)) ≡ true → length (kept (get_or (drop (e.1 + 1) zs) k d)).origin ≤ length z.origin.now
        later k d less above =
            let same : get_or (drop (e.1 + 1) zs) k d ≡ get_or zs (e.1 + 1 + k) d = get_or-drop (e.1 + 1) zs k d in
            let s : IsShorter x e near (get_or zs (e.1 + 1 + k) d).origin.now (e.1 + 1 + k) = at x e near (e.1 + 1 + k) d (omega (arith, length-drop (e.1 + 1) zs)) (subst (λ (w : ServedZone S H). may (kept w) ≡ true) same above) in
            subst (λ (w : ServedZone S H). length w.origin.now ≤ length z.origin.now) (sym same) (omega (arith, s.at_most, long))

    -- no zone may answer where no origin is at or above the name
    pub no_zone : All (λ (y : Name × ℕ). is_at_or_above y.0 x ≡ false) places.entries → All (λ (z : Zone). may z ≡ false) (map kept zs)
    no_zone none =
        All-map (λ (z : Zone). may z ≡ false) kept zs
        (λ k d within.
        let s : HasEntry (get_or zs k d).origin.now k = entry_of k d within in
        all_in (λ (y : Name × ℕ). is_at_or_above y.0 x ≡ false) places.entries ((get_or zs k d).origin.now, s.place) none s.among)
