-- No set of an additional section repeats one that comes before it: its sets are the addresses of several hosts, of two
-- types
use Rattle.std.proofs.Common.{◌≡◌, Bool, true, false, cond, ◌&&◌, List, [], ◌∷◌, ◌++◌, map, refl, sym, ap, ◌∙◌, subst, ◌⊎◌, inl, inr, true≢false}
use Rattle.std.specs.Prelude.{Option, Some, None, ◌==◌, fold, flat_map, take}
use Rattle.std.specs.List.{list_any, cons_option}
use Rattle.std.specs.Option.{option_map_or}
use Rattle.zone_proto.specs.declared.record.Record.{Record}
use Rattle.zone_proto.specs.Names.{Name, lower, name_eq, same_name, is_at_or_above}
use Rattle.zone_proto.specs.Sets.{RRset}
use Rattle.zone_proto.specs.Types.{A, AAAA, NS}
use Rattle.zone_proto.proofs.Members.{In, In-from_append, In-append_right, In-from_flat_map}
use Rattle.zone_proto.proofs.Names.NameTree.{name_eq-Decides}
use Rattle.zone_lookup.specs.Flattening.{last_set}
use Rattle.zone_map.specs.Zones.{Sets, set_at, IsZone}
use Rattle.zone_response.specs.declared.response.Part.{Part}
use Rattle.zone_response.specs.declared.response.Part.TheVariants as part
use Rattle.zone_response.specs.Additional.{host_of, with_host, hosts, addresses, diverted_host, host_sets, beside, sibling_sets, sibling_glue, glue_of, glue}
use Rattle.zone_response.specs.Queries.{Inquiry}
use Rattle.zone_response.specs.Responses.{additional_sets, glue_at}
use Rattle.zone_response.specs.Sections.{as_it_is, part_for, is_alike}
use Rattle.zone_response.specs.Steps.{End, complete, referred, missing, outside, unfollowed, too_long, failed}
use Rattle.zone_response.specs.Descent.{Diversion, cut, renaming, diversion}
use Rattle.response_laws.specs.Repeats.{repeats}
use Rattle.response_laws.proofs.Leads.{sent_owner, sent_type}
use Rattle.response_laws.proofs.Once.{Once, once_both, unlike, same_owners, once_after, Apart, apart_new, apart_differ}
use Rattle.response_laws.proofs.Said.{none_any}

-- ---- hosts, each once

with_host_apart : (names : List Name) (r : Record) → Apart name_eq [] names → Apart name_eq [] (with_host names r)
with_host_apart names r h = by (host_of r.rdata)
  where
    by : (o : Option Name) → Apart name_eq [] (option_map_or (λ n. cond (list_any (λ y. name_eq y n) names) names (names ++ n ∷ [])) o names)
    by None = h
    by (Some n) = apart_new name_eq names n h

all_hosts_apart : (rs : List Record) (names : List Name) → Apart name_eq [] names → Apart name_eq [] (fold with_host names rs)
all_hosts_apart [] names h = h
all_hosts_apart (r ∷ rs) names h = all_hosts_apart rs (with_host names r) (with_host_apart names r h)

hosts_apart : (s : RRset) → Apart name_eq [] (hosts s)
hosts_apart s = all_hosts_apart (take 64 s.records) [] tt

-- ---- the addresses of one host

-- sets of this owner, each once
record AreOfHost (h : Name) (sets : List RRset) : Type 0 where
  once : Once [] sets
  owned : (s : RRset) → In s sets → lower s.owner ≡ h

none_of : (h : Name) → AreOfHost h []
none_of h = record { once = tt; owned = λ s i. absurd i }

module _ (m : Sets) (zone : IsZone m) (h : Name) (p : Part) where
  owner_of : (t : _) (v : RRset) → set_at m h t ≡ Some v → lower (as_it_is p v).owner ≡ h
  owner_of t v e = ap lower (sent_owner p v.ttl v) ∙ (zone.stored h t v e).owner

  type_of : (t : _) (v : RRset) → set_at m h t ≡ Some v → (as_it_is p v).record_type ≡ t
  type_of t v e = sent_type p v.ttl v ∙ (zone.stored h t v e).record_type

  alone : (t : _) (v : RRset) → set_at m h t ≡ Some v → AreOfHost h (as_it_is p v ∷ [])
  alone t v e = record { once = (refl, tt); owned = by }
    where
      by : (s : RRset) → In s (as_it_is p v ∷ []) → lower s.owner ≡ h
      by s (inl f) = ap (λ (s : RRset). lower s.owner) (sym f) ∙ owner_of t v e
      by s (inr i) = absurd i

  both : (v w : RRset) → set_at m h A ≡ Some v → set_at m h AAAA ≡ Some w → AreOfHost h (as_it_is p v ∷ as_it_is p w ∷ [])
  both v w e f = record { once = (refl, (none_any (repeats (as_it_is p w)) (as_it_is p v ∷ []) (λ s i. unlike (as_it_is p w) s (other s i)), tt)); owned = by }
    where
      other : (s : RRset) → In s (as_it_is p v ∷ []) → is_alike (as_it_is p w) s ≡ false
      other s (inl g) = λ i. ((ap (λ (s : RRset). s.record_type) (sym g) ∙ type_of A v e) i == type_of AAAA w f i) && same_name s.owner (as_it_is p w).owner
      other s (inr i) = absurd i

      by : (s : RRset) → In s (as_it_is p v ∷ as_it_is p w ∷ []) → lower s.owner ≡ h
      by s (inl g) = ap (λ (s : RRset). lower s.owner) (sym g) ∙ owner_of A v e
      by s (inr (inl g)) = ap (λ (s : RRset). lower s.owner) (sym g) ∙ owner_of AAAA w f
      by s (inr (inr i)) = absurd i

  addresses_once : AreOfHost h (map (as_it_is p) (addresses m h))
  addresses_once = by (set_at m h A) refl (set_at m h AAAA) refl
    where
      by : (a : Option RRset) → set_at m h A ≡ a → (b : Option RRset) → set_at m h AAAA ≡ b → AreOfHost h (map (as_it_is p) (cons_option a (cons_option b [])))
      by None e None f = none_of h
      by (Some v) e None f = alone A v e
      by None e (Some w) f = alone AAAA w f
      by (Some v) e (Some w) f = both v w e f

module _ (origin : Name) (m : Sets) (zone : IsZone m) (signed : Bool) where
  turned_once : (below : Bool) (h : Name) (o : Option Diversion) → AreOfHost h (diverted_host m signed below h o)
  turned_once below h None = addresses_once m zone h (part_for signed)
  turned_once true h (Some (cut c)) = addresses_once m zone h part.Records
  turned_once false h (Some (cut c)) = none_of h
  turned_once below h (Some (renaming d)) = none_of h

  host_once : (below : Bool) (h : Name) → AreOfHost h (host_sets origin m signed below h)
  host_once below h = by (is_at_or_above origin h)
    where
      by : (b : Bool) → AreOfHost h (cond b (diverted_host m signed below h (diversion origin m h A)) [])
      by true = turned_once below h (diversion origin m h A)
      by false = none_of h

  sibling_once : (child h : Name) → AreOfHost h (sibling_sets origin m signed child h)
  sibling_once child h = by (is_at_or_above child h)
    where
      by : (b : Bool) → AreOfHost h (cond b [] (host_sets origin m signed true h))
      by true = none_of h
      by false = host_once true h

  glue_once : (child h : Name) → AreOfHost h (glue_of m child h)
  glue_once child h = by (is_at_or_above child h)
    where
      by : (b : Bool) → AreOfHost h (cond b (map (as_it_is part.Records) (addresses m h)) [])
      by true = addresses_once m zone h part.Records
      by false = none_of h

-- ---- of several

nothing_in : (l : List RRset) (s : RRset) → l ≡ [] → In s l → ⊥
nothing_in l s e i = subst (In s) e i

module _ (sets_of : Name → List RRset) (each : (h : Name) → AreOfHost h (sets_of h)) where
  -- behind sets of other hosts
  all_once : (passed names : List Name) (before : List RRset) → Apart name_eq passed names → ((h : Name) → In h names → (r : RRset) → In r before → lower r.owner ≡ h → sets_of h ≡ []) → Once before (flat_map sets_of names)
  all_once passed [] before apart others = tt
  all_once passed (h ∷ names) before apart others = once_both before (sets_of h) (flat_map sets_of names) here (all_once (passed ++ h ∷ []) names (before ++ sets_of h) apart.1 later)
    where
      unlike_any : (s r : RRset) → In s (sets_of h) → In r before → (b : Bool) → is_alike s r ≡ b → b ≡ false
      unlike_any s r i j false e = refl
      unlike_any s r i j true e = absurd (nothing_in (sets_of h) s (others h (inl refl) r j (same_owners s r e ∙ (each h).owned s i)) i)

      here : Once before (sets_of h)
      here = once_after before (sets_of h) (each h).once (λ s r i j. unlike_any s r i j (is_alike s r) refl)

      other_host : (n : Name) → In n names → h ≡ n → ⊥
      other_host n i e = true≢false (sym ((name_eq-Decides h n).1 e) ∙ apart_differ name_eq (passed ++ h ∷ []) names apart.1 h n (In-append_right h passed (h ∷ []) (inl refl)) i)

      later : (n : Name) → In n names → (r : RRset) → In r (before ++ sets_of h) → lower r.owner ≡ n → sets_of n ≡ []
      later n i r j e = by (In-from_append r before (sets_of h) j)
        where
          by : In r before ⊎ In r (sets_of h) → sets_of n ≡ []
          by (inl k) = others n (inr i) r k e
          by (inr k) = absurd (other_host n i (sym ((each h).owned r k) ∙ e))

-- ---- the section

module _ (q : Inquiry) (zone : IsZone q.sets) where
  abbrev m : Sets
  m = q.sets

  beside_once : (s : RRset) → Once [] (beside q.origin m q.signed s)
  beside_once s = all_once (host_sets q.origin m q.signed (s.record_type == NS)) (host_once q.origin m zone q.signed (s.record_type == NS)) [] (hosts s) [] (hosts_apart s) (λ h i r j. absurd j)

  last_once : (o : Option RRset) → Once [] (option_map_or (beside q.origin m q.signed) o [])
  last_once None = tt
  last_once (Some s) = beside_once s

  referral_once : (c : RRset) → Once [] (glue m c ++ sibling_glue q.origin m q.signed c)
  referral_once c =
      once_both [] (glue m c) (sibling_glue q.origin m q.signed c) (all_once (glue_of m child) (glue_once q.origin m zone q.signed child) [] (hosts c) [] (hosts_apart c) (λ h i r j. absurd j))
      (all_once (sibling_sets q.origin m q.signed child) (sibling_once q.origin m zone q.signed child) [] (hosts c) (glue m c) (hosts_apart c) elsewhere)
    where
      child : Name
      child = lower c.owner

      -- a host whose addresses are glue isn't one that stands elsewhere
      in_child : (h : Name) (b : Bool) → is_at_or_above child h ≡ b → (r : RRset) → In r (cond b (map (as_it_is part.Records) (addresses m h)) []) → sibling_sets q.origin m q.signed child h ≡ []
      in_child h true e r i = ap (λ b. cond b [] (host_sets q.origin m q.signed true h)) e
      in_child h false e r i = absurd i

      elsewhere : (h : Name) → In h (hosts c) → (r : RRset) → In r (glue m c) → lower r.owner ≡ h → sibling_sets q.origin m q.signed child h ≡ []
      elsewhere h i r j e =
          let v = In-from_flat_map (glue_of m child) r (hosts c) j in
          let same : v.0 ≡ h = sym ((glue_once q.origin m zone q.signed child v.0).owned r v.2) ∙ e in
          subst (λ h. sibling_sets q.origin m q.signed child h ≡ []) same (in_child v.0 (is_at_or_above child v.0) refl r v.2)

  pub additionals_once : (answers : List RRset) (e : End) → Once [] (glue_at m e ++ additional_sets q answers e)
  additionals_once answers complete = last_once (last_set answers)
  additionals_once answers (referred c) = referral_once c
  additionals_once answers (missing x wildcard_name there) = tt
  additionals_once answers (outside x) = tt
  additionals_once answers unfollowed = tt
  additionals_once answers too_long = tt
  additionals_once answers failed = tt
