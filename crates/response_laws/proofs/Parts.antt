-- What a response is made of, where it is more than a code
use Rattle.std.proofs.Common.{◌≡◌, ℕ, Bool, true, false, cond, not, ◌||◌, List, [], ◌∷◌, ◌++◌, map, refl, sym, ap, ◌∙◌, subst, true≢false, eq-eqb, ◌⊎◌, inl, inr, append_assoc}
use Rattle.std.specs.Prelude.{Option, Some, None, min, fold, option_and_then, option_to_list, ◌==◌}
use Rattle.std.specs.Option.{option_map_or}
use Rattle.std.proofs.lemmas.List.{append-nil}
use Rattle.zone_proto.specs.declared.nx_proof_kind.NxProofKind.TheVariants as kind
use Rattle.zone_proto.specs.declared.response_code.ResponseCode.{ResponseCode}
use Rattle.zone_proto.specs.declared.response_code.ResponseCode.TheVariants as code
use Rattle.zone_proto.specs.Names.{Name, lower, is_at_or_above}
use Rattle.zone_proto.specs.Sets.{RRset}
use Rattle.zone_proto.specs.Types.{IN, SOA, NSEC}
use Rattle.zone_proto.proofs.Members.{In, In-from_append, In-append_left, In-append_right}
use Rattle.zone_map.specs.Zones.{Sets, set_at, IsZone}
use Rattle.zone_denial.specs.NsecDenial.{closest_nsec}
use Rattle.zone_response.specs.declared.response.Part.TheVariants as part
use Rattle.zone_response.specs.Denials.{wildcard_proof, wildcard_proof_by, denial, denial_by, end_proof, with_wildcard_proof, proofs}
use Rattle.zone_response.specs.Paths.{Path, path}
use Rattle.zone_response.specs.Queries.{Zone, Query, inquiry}
use Rattle.zone_response.specs.QueryTypes.{is_no_data}
use Rattle.zone_response.specs.Responses.{additional_sets, glue_at, bare, is_authority, code_at, negative_ttl, ds_at, end_sets, authority_sets, lacks_proofs, fails, refusal, refused, without_soa as no_soa, failing, unprovable as unproven, answered, outcome_proven, outcome_along, outcome_of, IsResponse, IsResponseTo, IsResponseBy}
use Rattle.zone_response.specs.Sections.{Sections, sent}
use Rattle.zone_response.specs.Steps.{End, referred, missing, failed}
use Rattle.response_laws.specs.Failures.{without_soa, at_fault, unprovable, WhyAlone}
use Rattle.response_laws.proofs.DenialTypes.{IsDenial, AreDenials, proofs_are_denials}
use Rattle.response_laws.proofs.Faults.{fault_of}
use Rattle.response_laws.proofs.NsecSets.{AreOwnersNsec, closest_sets, closest_owners, is_closest}
use Rattle.response_laws.proofs.Hashings.{unhashed}
use Rattle.response_laws.proofs.OwnerSets.{all_of, owners_of_all, kept_in_all, more_in_all}

-- the path of a query
abbrev pub path_of : Zone → Query → Path
path_of z q = path (inquiry z q) q.name

-- the names of which a response says something: those for which a wildcard answered; the name without the set that is
-- asked for, and the wildcard that was asked for it; and a child without DS
abbrev pub told_at : Option RRset → End → List Name
told_at ds (missing x wildcard_name there) = x ∷ option_to_list wildcard_name
told_at None (referred c) = lower c.owner ∷ []
told_at (Some ds) (referred c) = []
told_at ds _ = []

abbrev pub told_names : Zone → Query → End → List Name
told_names z q e = (path_of z q).made ++ told_at (ds_at z.sets e) e

-- a set that proves something, as it is sent
abbrev pub as_proof : ℕ → RRset → RRset
as_proof ttl s = sent part.Signed (min s.ttl ttl) s

-- these sets prove what a search says
abbrev pub ProofsOf : Zone → Path → List RRset → Type 0
ProofsOf z p sets = proofs z (ds_at z.sets p.end) p.made p.end ≡ sets

-- the parts of a response
pub record IsMadeOf (z : Zone) (q : Query) (r : Sections) : Type 0 where
  pub soa : RRset
  pub stands : set_at z.sets z.origin SOA ≡ Some soa
  pub inside : is_at_or_above z.origin q.name ≡ true
  pub passes : fails (path_of z q).end ≡ false
  pub authoritative : r.authoritative ≡ is_authority (path_of z q).end (path_of z q).answers
  pub code : r.code ≡ code_at (path_of z q).end
  pub answers : r.answers ≡ (path_of z q).answers
  pub additionals : r.additionals ≡ additional_sets (inquiry z q) (path_of z q).answers (path_of z q).end
  pub glue : r.glue ≡ glue_at z.sets (path_of z q).end
  -- the sets of denial, with DNSSEC those that prove what is said; where NSEC denies they are those of its denials, and the closest ones of these names are among them
  pub proofs : List RRset
  pub authorities : r.authorities ≡ end_sets (ds_at z.sets (path_of z q).end) q.signed soa (path_of z q).end ++ map (as_proof (negative_ttl soa)) proofs
  pub denials : AreDenials z.denials proofs
  pub given : q.signed ≡ true → ProofsOf z (path_of z q) proofs
  pub unproved : q.signed ≡ false → proofs ≡ []
  pub owners : z.nx_proof_kind ≡ Some kind.Nsec → AreOwnersNsec z.denials proofs
  pub is_stated : z.nx_proof_kind ≡ Some kind.Nsec → q.signed ≡ true → (x : Name) (s : RRset) → In x (told_names z q (path_of z q).end) → closest_nsec z.denials x ≡ Some s → In s proofs

-- a response is a code alone, for which there is a reason, or made of these parts
pub data HowAnswered (z : Zone) (q : Query) (r : Sections) : Type 0 where
  by_code_alone : (c : ResponseCode) → WhyAlone z q c → r ≡ bare c → HowAnswered z q r
  by_parts : IsMadeOf z q r → HowAnswered z q r

same_code : (a b : ResponseCode) → Some a ≡ Some b → a ≡ b
same_code a b e = cc

-- a query that is refused has a reason for it
refusal_why : (z : Zone) (q : Query) (c : ResponseCode) → refusal z.origin q ≡ Some c → WhyAlone z q c
refusal_why z q c = by (q.class == IN) refl (is_at_or_above z.origin q.name) refl (is_no_data q.record_type) refl
  where
    is : (k : ResponseCode) → WhyAlone z q k → Some k ≡ Some c → WhyAlone z q c
    is k why e = subst (WhyAlone z q) (same_code k c e) why

    by : (k : Bool) → (q.class == IN) ≡ k → (i : Bool) → is_at_or_above z.origin q.name ≡ i → (n : Bool) → is_no_data q.record_type ≡ n
        → cond (not k || not i) (Some code.Refused) (cond n (Some code.NotImp) None) ≡ Some c → WhyAlone z q c
    by false e i f n g = is code.Refused (inl (λ same. true≢false (sym (eq-eqb q.class IN same) ∙ e)))
    by true e false f n g = is code.Refused (inr f)
    by true e true f true g = is code.NotImp g
    by true e true f false g = λ p. absurd cc

-- and one that isn't asks for a name of the zone
not_refused : (z : Zone) (q : Query) → refusal z.origin q ≡ None → is_at_or_above z.origin q.name ≡ true
not_refused z q = by (q.class == IN) (is_at_or_above z.origin q.name) (is_no_data q.record_type)
  where
    by : (k i n : Bool) → cond (not k || not i) (Some code.Refused) (cond n (Some code.NotImp) None) ≡ None → i ≡ true
    by k true n e = refl
    by true false n e = absurd cc
    by false false n e = absurd cc

-- a search fails at its end alone
pub fails_at : (e : End) → fails e ≡ true → e ≡ failed
fails_at failed h = refl
fails_at _ h = absurd (true≢false (sym h))

-- ---- the sets of the proofs, where a zone denies by NSEC

-- they are in it, and the closest ones of these names are among them
pub record AreProofs (m : Sets) (names : List Name) (sets : List RRset) : Type 0 where
  pub owners : AreOwnersNsec m sets
  pub is_stated : (x : Name) (s : RRset) → In x names → closest_nsec m x ≡ Some s → In s sets

module _ (z : Zone) (zone : IsZone z.denials) (nsec : z.nx_proof_kind ≡ Some kind.Nsec) where
  abbrev m : Sets
  m = z.denials

  wildcard_proof_is : (x : Name) → wildcard_proof z x ≡ closest_sets m zone x
  wildcard_proof_is x = ap (λ k. wildcard_proof_by z k x) nsec

  denial_is : (x : Name) (wildcard_name : Option Name) → denial z x wildcard_name ≡ closest_sets m zone x ++ option_to_list (option_and_then (closest_nsec m) wildcard_name)
  denial_is x wildcard_name = ap (λ k. denial_by z k x wildcard_name) nsec

  -- those of the names for which a wildcard answered, behind others
  wildcards_from : (made before : List Name) (sets : List RRset) → AreOwnersNsec m sets → ((x : Name) (s : RRset) → In x before → closest_nsec m x ≡ Some s → In s sets)
      → AreProofs m (before ++ made) (fold (with_wildcard_proof z) sets made)
  wildcards_from [] before sets h k = record { owners = h; is_stated = λ x s i. k x s (subst (In x) (append-nil before) i) }
  wildcards_from (y ∷ made) before sets h k =
      subst (λ (names : List Name). AreProofs m names (fold (with_wildcard_proof z) sets (y ∷ made))) (append_assoc before (y ∷ []) made)
      (subst (λ (start : List RRset). AreProofs m ((before ++ y ∷ []) ++ made) (fold (with_wildcard_proof z) start made)) (sym (ap (all_of sets) (wildcard_proof_is y)))
      (wildcards_from made (before ++ y ∷ []) (all_of sets (closest_sets m zone y)) (owners_of_all NSEC m sets (closest_sets m zone y) h (closest_owners m zone y)) call_concludes))
    where
      call_concludes : (x : Name) (s : RRset) → In x (before ++ y ∷ []) → closest_nsec m x ≡ Some s → In s (all_of sets (closest_sets m zone y))
      call_concludes x s i e = by (In-from_append x before (y ∷ []) i)
        where
          by : In x before ⊎ In x (y ∷ []) → In s (all_of sets (closest_sets m zone y))
          by (inl u) = kept_in_all NSEC m sets (closest_sets m zone y) s (k x s u e)
          by (inr (inl q)) = more_in_all NSEC m sets (closest_sets m zone y) s h (closest_owners m zone y) (is_closest m zone y s (ap (closest_nsec m) q ∙ e))
          by (inr (inr u)) = absurd u

  -- those of what the end says
  none_proved : AreProofs m [] []
  none_proved = record { owners = λ s i. absurd i; is_stated = λ x s i. absurd i }

  closest_proved : (x : Name) (wildcard_name : Option Name) → AreProofs m (x ∷ option_to_list wildcard_name) (closest_sets m zone x ++ option_to_list (option_and_then (closest_nsec m) wildcard_name))
  closest_proved x wildcard_name = record {
    owners = λ s i. either s wildcard_name (In-from_append s (closest_sets m zone x) (option_to_list (option_and_then (closest_nsec m) wildcard_name)) i);
    is_stated = λ y s i e. call_concludes wildcard_name y s i e;
  }
    where
      either : (s : RRset) (wildcard_name : Option Name) → In s (closest_sets m zone x) ⊎ In s (option_to_list (option_and_then (closest_nsec m) wildcard_name)) → set_at m (lower s.owner) NSEC ≡ Some s
      either s wildcard_name (inl i) = closest_owners m zone x s i
      either s (Some w) (inr i) = closest_owners m zone w s i
      either s None (inr i) = absurd i

      call_concludes : (wildcard_name : Option Name) (y : Name) (s : RRset) → In y (x ∷ option_to_list wildcard_name) → closest_nsec m y ≡ Some s → In s (closest_sets m zone x ++ option_to_list (option_and_then (closest_nsec m) wildcard_name))
      call_concludes wildcard_name y s (inl q) e = In-append_left s (closest_sets m zone x) (option_to_list (option_and_then (closest_nsec m) wildcard_name)) (is_closest m zone x s (ap (closest_nsec m) q ∙ e))
      call_concludes (Some w) y s (inr (inl q)) e = In-append_right s (closest_sets m zone x) (closest_sets m zone w) (is_closest m zone w s (ap (closest_nsec m) q ∙ e))
      call_concludes (Some w) y s (inr (inr i)) e = absurd i
      call_concludes None y s (inr i) e = absurd i

  denied : (x : Name) (wildcard_name : Option Name) → AreProofs m (x ∷ option_to_list wildcard_name) (denial z x wildcard_name)
  denied x wildcard_name = subst (AreProofs m (x ∷ option_to_list wildcard_name)) (sym (denial_is x wildcard_name)) (closest_proved x wildcard_name)

  ends_proved : (ds : Option RRset) (e : End) → AreProofs m (told_at ds e) (end_proof z ds e)
  ends_proved ds (missing x wildcard_name there) = denied x wildcard_name
  ends_proved None (referred c) = denied (lower c.owner) None
  ends_proved (Some s) (referred c) = none_proved
  ends_proved ds _ = none_proved

  pub proofs_are : (ds : Option RRset) (made : List Name) (e : End) → AreProofs m (made ++ told_at ds e) (proofs z ds made e)
  proofs_are ds made e =
      let wildcards = wildcards_from made [] [] (λ s i. absurd i) (λ x s i. absurd i) in
      let end = ends_proved ds e in
      record {
        owners = owners_of_all NSEC m (fold (with_wildcard_proof z) [] made) (end_proof z ds e) wildcards.owners end.owners;
        is_stated = λ x s i c. by wildcards end x s c (In-from_append x made (told_at ds e) i);
      }
    where
      by : (wildcards : AreProofs m made (fold (with_wildcard_proof z) [] made)) (end : AreProofs m (told_at ds e) (end_proof z ds e)) (x : Name) (s : RRset) → closest_nsec m x ≡ Some s
          → In x made ⊎ In x (told_at ds e) → In s (all_of (fold (with_wildcard_proof z) [] made) (end_proof z ds e))
      by wildcards end x s c (inl i) = kept_in_all NSEC m (fold (with_wildcard_proof z) [] made) (end_proof z ds e) s (wildcards.is_stated x s i c)
      by wildcards end x s c (inr i) = more_in_all NSEC m (fold (with_wildcard_proof z) [] made) (end_proof z ds e) s wildcards.owners end.owners (end.is_stated x s i c)

-- what holds of each set of a list holds where the list is asked for, and else of none
each_asked : (P : RRset → Type 0) (sets : List RRset) (b : Bool) → ((s : RRset) → In s sets → P s) → (s : RRset) → In s (cond b sets []) → P s
each_asked P sets true h s i = h s i
each_asked P sets false h s i = absurd i

-- of a search that doesn't fail
module _ (z : Zone) (q : Query) (r : Sections) (zone : IsZone z.denials) (inside : is_at_or_above z.origin q.name ≡ true) (soa : RRset) (e : set_at z.sets z.origin SOA ≡ Some soa) where
  abbrev p : Path
  p = path (inquiry z q) q.name

  abbrev ds : Option RRset
  ds = ds_at z.sets p.end

  -- all that prove what it says
  abbrev all : List RRset
  all = proofs z ds p.made p.end

  pub made_of : fails p.end ≡ false → IsResponseBy (inquiry z q) p (authority_sets z q.signed soa p.made p.end) r → IsMadeOf z q r
  made_of passes is = record {
    soa = soa;
    stands = e;
    inside = inside;
    passes = passes;
    authoritative = is.authoritative;
    code = is.code;
    answers = is.answers;
    additionals = is.additionals;
    glue = is.glue;
    proofs = cond q.signed all [];
    authorities = is.authorities;
    denials = each_asked (IsDenial z.denials) all q.signed (proofs_are_denials z zone ds p.made p.end);
    given = λ k. sym (ap (λ b. cond b all []) k);
    unproved = λ k. ap (λ b. cond b all []) k;
    owners = λ n. each_asked (λ s. set_at z.denials (lower s.owner) NSEC ≡ Some s) all q.signed (proofs_are z zone n ds p.made p.end).owners;
    is_stated = λ n k x s i c. subst (In s) (sym (ap (λ b. cond b all []) k)) ((proofs_are z zone n ds p.made p.end).is_stated x s i c);
  }

pub how_answered : (z : Zone) (q : Query) (r : Sections) → IsZone z.denials → IsResponse z q r → HowAnswered z q r
how_answered z q r zone = by (refusal z.origin q) refl
  where
    proven : is_at_or_above z.origin q.name ≡ true → (soa : RRset) → set_at z.sets z.origin SOA ≡ Some soa → fails (path_of z q).end ≡ false → (b : Bool) → lacks_proofs z q.signed (path_of z q).made (path_of z q).end ≡ b
        → IsResponseTo (inquiry z q) (cond b unproven (answered (path_of z q) (authority_sets z q.signed soa (path_of z q).made (path_of z q).end))) r → HowAnswered z q r
    proven inside soa e f true g is = let w = unhashed z q g in by_code_alone code.ServFail (unprovable w.0 w.1 w.2) is
    proven inside soa e f false g is = by_parts (made_of z q r zone inside soa e f is)

    along : is_at_or_above z.origin q.name ≡ true → (soa : RRset) → set_at z.sets z.origin SOA ≡ Some soa → (b : Bool) → fails (path_of z q).end ≡ b → IsResponseTo (inquiry z q) (cond b failing (outcome_proven z q.signed soa (path_of z q))) r → HowAnswered z q r
    along inside soa e true f is = let at = fails_at (path_of z q).end f in by_code_alone code.ServFail (at_fault at (fault_of (inquiry z q) q.name at)) is
    along inside soa e false f is = proven inside soa e f (lacks_proofs z q.signed (path_of z q).made (path_of z q).end) refl is

    found : is_at_or_above z.origin q.name ≡ true → (o : Option RRset) → set_at z.sets z.origin SOA ≡ o → IsResponseTo (inquiry z q) (option_map_or (λ soa. outcome_along z q.signed soa (path_of z q)) o no_soa) r → HowAnswered z q r
    found inside None e is = by_code_alone code.ServFail (without_soa e) is
    found inside (Some soa) e is = along inside soa e (fails (path_of z q).end) refl is

    by : (o : Option ResponseCode) → refusal z.origin q ≡ o → IsResponseTo (inquiry z q) (option_map_or refused o (outcome_of z (inquiry z q) q.name)) r → HowAnswered z q r
    by (Some c) e is = by_code_alone c (refusal_why z q c e) is
    by None e is = found (not_refused z q e) (set_at z.sets z.origin SOA) refl is
