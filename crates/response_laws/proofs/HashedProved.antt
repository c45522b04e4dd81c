-- What a response has of NSEC3 records, and that they prove that a wildcard may answer
use Rattle.std.proofs.Common.{◌≡◌, ◌<◌, ℕ, suc, Bool, true, false, cond, ◌||◌, List, length, refl, sym, ap, ◌∙◌, subst, true≢false, ◌⊎◌, inl, inr, arith}
use Rattle.std.proofs.lemmas.List.{length-append}
use Rattle.std.specs.Prelude.{Option, Some, None, option_map, ◌==◌}
use Rattle.std.specs.List.{Contains}
use Rattle.zone_proto.specs.declared.rdata.denial.NSEC3PARAM.{NSEC3PARAM as Nsec3Parameters}
use Rattle.zone_proto.specs.Names.{Name, lower, IsAtOrAbove, IsAbove, wildcard_under, is_at_or_above}
use Rattle.zone_proto.specs.Sets.{RRset}
use Rattle.zone_proto.specs.Types.{CNAME, RRSIG, NSEC, NSEC3}
use Rattle.zone_proto.proofs.Members.{In, In-Contains, Contains-In}
use Rattle.zone_proto.proofs.Names.NameTree.{is_at_or_above_sound}
use Rattle.zone_map.specs.Wildcards.{exists, renamed, closest_encloser as found_encloser}
use Rattle.zone_map.specs.Zones.{Sets, set_at, owns, IsZone}
use Rattle.zone_denial.specs.Authority.{is_below_cut}
use Rattle.zone_denial.specs.Chains.{chain_sets, is_below_dname}
use Rattle.zone_denial.specs.Nsec3Denial.{next_closer}
use Rattle.zone_denial.specs.Nsec3Zones.{IsHashedOn}
use Rattle.zone_denial.specs.WildcardLaws.{OwnsNone}
use Rattle.zone_denial.proofs.Chains.ChainSets.{one_kind}
use Rattle.zone_denial.proofs.Chains.Nsec3Names.{is_named, in_named, IsEnclosed}
use Rattle.zone_denial.proofs.Chain.NsecBelow.{above_through}
use Rattle.zone_denial.proofs.Hashed.Nsec3Enclosers.{next_closer_is, below_ancestor}
use Rattle.zone_denial.proofs.Names.LongestAncestors.{longest_is}
use Rattle.zone_proto.proofs.Names.Tree.{above_cases}
use Rattle.denial_validation.specs.Judgement.{nsec3_proof}
use Rattle.denial_validation.specs.Nsec3Proofs.{proves_no_data, proves_wildcard_answer}
use Rattle.denial_validation.specs.Nsec3Records.{Nsec3Record, read_nsec3}
use Rattle.denial_laws.specs.Nsec3Calls.{call_concludes}
use Rattle.denial_laws.specs.Nsec3Chains.{IsInNsec3ScopeOfChain, IsOptOutSoundOn}
use Rattle.denial_laws.specs.Nsec3Scope.{read_nsec3_sets, AreNsec3OfZone}
use Rattle.denial_laws.specs.Nsec3Soundness.{IsNsec3SoundOn}
use Rattle.denial_laws.proofs.Chains.Nsec3LeftOut.{nsec3_opt_out_sound}
use Rattle.denial_laws.proofs.Chains.Nsec3Readings.{record_of}
use Rattle.denial_laws.proofs.Chains.Nsec3Shown.{IsCovering}
use Rattle.denial_laws.proofs.Chains.Nsec3Soundness.{nsec3_records_sound}
use Rattle.denial_laws.proofs.Nsec3Readings.{from_read}
use Rattle.zone_response.specs.HashedDenials.{wildcard_sets}
use Rattle.zone_response.specs.Queries.{Zone, Query, inquiry}
use Rattle.zone_response.specs.Responses.{negative_ttl, ds_at, end_sets}
use Rattle.zone_response.specs.Sections.{Sections}
use Rattle.zone_response.specs.Wildcards.{source_of_synthesis}
use Rattle.zone_response.specs.Steps.{End}
use Rattle.response_laws.specs.Contents.{Origin}
use Rattle.response_laws.specs.HashedSayings.{zone_hash, DeniesByNsec3, HashesDistinctly, IsReached, shown_nsec3, IsHashedFoundByWildcard, IsLacking, shown_records}
use Rattle.response_laws.specs.ProvedSayings.{IsAliasData}
use Rattle.response_laws.specs.Sayings.{Saying, data_of, name_error, no_data, referral, saying, name_of}
use Rattle.response_laws.proofs.Answers.{IsMadeFound, ByWildcardOf, path_answers}
use Rattle.response_laws.proofs.HashedCalls.{told_is}
use Rattle.response_laws.proofs.HashedLacks.{lacking, lacking_named}
use Rattle.response_laws.proofs.HashedNames.{there_named, absent_off, existing_above, encloser_over}
use Rattle.response_laws.proofs.HashedParts.{zone_owner, AreHashedProofs, hashed_proofs}
use Rattle.response_laws.proofs.HashedTold.{IsHashedName, away, below, enclosed, answer_proved}
use Rattle.response_laws.proofs.HashedShown.{cover_shown}
use Rattle.response_laws.proofs.LentSets.{owns_kept, exists_kept, encloser_kept, reached_kept, unreferred_kept}
use Rattle.response_laws.proofs.Origins.{origin_by}
use Rattle.response_laws.proofs.Parts.{path_of, IsMadeOf}
use Rattle.response_laws.proofs.ReadSets.{nsec3_reader, read_of_zone, read_proof}
use Rattle.response_laws.proofs.Said.{Said, says_nothing, says_data, says_referral, says_missing, said}
use Rattle.response_laws.proofs.SaidNames.{same_saying, reached_unturned, reached_cut, authorities_are, authority_of, alias_said}
use Rattle.response_laws.proofs.SentSets.{IsSentSet, authority_part}

pub same_name : (a b : Name) → Some a ≡ Some b → a ≡ b
same_name a b e = cc

module _ (z : Zone) (parameters : Nsec3Parameters) (q : Query) (r : Sections) (d : DeniesByNsec3 z parameters) (signed : q.signed ≡ true) (h : IsMadeOf z q r) where
  abbrev o : Name
  o = z.origin

  -- the sets that deny
  abbrev m : Sets
  m = z.denials

  abbrev t : ℕ
  t = q.record_type

  abbrev hash : Name → Option (List ℕ)
  hash = zone_hash z parameters

  abbrev names : List Name
  names = d.names

  abbrev on_chain : Name → Bool
  on_chain = is_named d.names

  abbrev zone : IsZone z.sets
  zone = d.zone

  abbrev ends : End
  ends = (path_of z q).end

  abbrev rs : List Nsec3Record
  rs = shown_nsec3 r

  -- what denies has no sets of NSEC
  pub no_nsec : OwnsNone z.denials NSEC
  no_nsec = subst (λ m. OwnsNone m NSEC) (sym (d.denials ∙ ap (λ k. chain_sets k z.sets) d.kind)) ((one_kind z.sets d.zone).nsec3 parameters.algorithm parameters.salt parameters.iterations d.flag)

  pub all : AreHashedProofs z d.chain.zone parameters d.flag d.kind (ds_at z.sets (path_of z q).end) (path_of z q).made (path_of z q).end h.proofs
  all = hashed_proofs z d.chain.zone parameters d.flag d.kind (ds_at z.sets ends) (path_of z q).made ends h.proofs (h.given signed)

  -- ---- the sets

  authority_is : (s : RRset) → In s r.authorities → IsSentSet z.denials (authority_part s) s
  authority_is = authority_of z q r zone signed h d.denials NSEC3 refl all.owners

  pub authorities_proved : (s : RRset) → Contains r.authorities s → IsSentSet z.denials (authority_part s) s
  authorities_proved s c = authority_is s (Contains-In s r.authorities c)

  pub records_proved : AreNsec3OfZone z.denials (shown_nsec3 r)
  records_proved = read_of_zone read_nsec3 NSEC3 nsec3_reader m d.chain.zone r.authorities authority_is

  pub sound_proved : (x : Name) → IsInNsec3ScopeOfChain z.origin z.sets z.denials (zone_hash z parameters) parameters d.names x → IsNsec3SoundOn z.origin z.denials (zone_hash z parameters) d.names x (shown_nsec3 r)
  sound_proved x j = nsec3_records_sound o z.sets m hash parameters names rs x j records_proved

  pub opt_out_sound_proved : (x : Name) → HashesDistinctly z parameters d.names x → IsOptOutSoundOn z.origin z.denials (zone_hash z parameters) parameters.opt_out d.names x (shown_nsec3 r)
  opt_out_sound_proved x apart = nsec3_opt_out_sound o z.sets m hash parameters names rs x d.chain apart records_proved

  pub parameters_found_proved : (x : Name) (t : ℕ) → HashesDistinctly z parameters d.names x → call_concludes z.digest_of z.origin (shown_records r) x t ≡ nsec3_proof z.origin (zone_hash z parameters) (shown_nsec3 r) x t
  parameters_found_proved x u apart = told_is m d.chain.zone o z.digest_of parameters names d.chain r.authorities authority_is x u apart

  pub data_sound_proved : (x : Name) (t : ℕ) → HashesDistinctly z parameters d.names x → proves_no_data z.origin (zone_hash z parameters) (shown_nsec3 r) x t ≡ true → IsLacking z d.names x t
  data_sound_proved x u apart p =
      let k = lacking o z.sets m hash parameters names rs records_proved d.chain x apart u p in
      record { named = In-Contains x names (lacking_named o z.sets m hash parameters names rs records_proved d.chain x apart u p); none = k.0; no_alias = sym (owns_kept z d.denials x CNAME refl) ∙ k.1 }

  -- what a denial shows is shown
  pub shown_of : (own : List RRset) → ((s : RRset) → In s own → In s h.proofs) → (n : Nsec3Record) → In n (read_nsec3_sets own) → In n (shown_nsec3 r)
  shown_of own among n i =
      let s = from_read own n i in
      subst (λ (sets : List RRset). In n (read_nsec3_sets sets)) (sym (authorities_are z q r zone signed h))
      (read_proof read_nsec3 NSEC3 nsec3_reader (negative_ttl h.soa) h.proofs s.0 n (among s.0 s.1) s.2 (end_sets (ds_at z.sets ends) true h.soa ends))

  pub hashed_name : (x : Name) → IsReached z.origin z.sets x → HashesDistinctly z parameters d.names x → IsHashedName z.origin z.sets z.denials (zone_hash z parameters) parameters d.names x
  hashed_name x k apart = record { zone = d.chain; one_kind = no_nsec; unreferred = unreferred_kept z d.denials d.top; reached = reached_kept z d.denials x k; apart = apart }

  pub judged_name : (x : Name) → IsReached z.origin z.sets x → HashesDistinctly z parameters d.names x → parameters.opt_out ≡ false → owns z.denials x NSEC3 ≡ false → IsInNsec3ScopeOfChain z.origin z.sets z.denials (zone_hash z parameters) parameters d.names x
  judged_name x k apart all_in none =
      let there = reached_kept z d.denials x k in
      record {
        zone = d.chain;
        all_in = all_in;
        one_kind = no_nsec;
        apart = apart;
        inside = there.inside;
        uncut = there.uncut;
        no_dname = there.no_dname;
        unreferred = unreferred_kept z d.denials d.top;
        no_hashed_owner = none;
      }

  -- ---- of whom something is said

  pub reached_proved : (w : Saying) → saying q r ≡ Some w → IsReached z.origin z.sets (name_of w) ⊎ IsAliasData z q r w
  reached_proved w e = by (said z zone q r h)
    where
      of : (v : Saying) → saying q r ≡ Some v → IsReached o z.sets (name_of v) → IsReached z.origin z.sets (name_of w) ⊎ IsAliasData z q r w
      of v f k = inl (subst (λ u. IsReached o z.sets (name_of u)) (same_saying v w (saying q r) f e) k)

      either : (there : Bool) (y : Name) → IsReached o z.sets y → IsReached o z.sets (name_of (cond there (no_data y) (name_error y)))
      either true y k = k
      either false y k = k

      by : Said z q r → IsReached z.origin z.sets (name_of w) ⊎ IsAliasData z q r w
      by (says_nothing f) = let p : None ≡ Some w = sym f ∙ e in absurd cc
      by (says_data y sets f g (inl u)) = of (data_of y) f (reached_unturned z q d.top.no_dname y u)
      by (says_data y sets f g (inr a)) = inr (alias_said z q r zone signed h y sets w (same_saying w (data_of y) (saying q r) e f) g a)
      by (says_referral y c f g u) = of (referral (lower c.owner)) f (reached_cut z q d.top.no_dname zone y c u).reached
      by (says_missing y wildcard_name there f g u k) = of (cond there (no_data y) (name_error y)) f (either there y (reached_unturned z q d.top.no_dname y u))

  -- ---- the wildcard at the closest encloser of a name

  pub record IsAsked (x w : Name) : Type 0 where
    pub encloser : Name
    pub found : found_encloser z.sets x ≡ Some encloser
    pub is : wildcard_under encloser ≡ w

  pub asked_wildcard : (x w : Name) → source_of_synthesis z.sets x ≡ Some w → IsAsked x w
  asked_wildcard x w e = by (found_encloser z.sets x) refl e
    where
      by : (p : Option Name) → found_encloser z.sets x ≡ p → option_map wildcard_under p ≡ Some w → IsAsked x w
      by None f g = absurd cc
      by (Some a) f g = record { encloser = a; found = f; is = same_name (wildcard_under a) w g }

  -- without opt-out a name that exists is one of the chain's
  pub there_on : (x : Name) → is_at_or_above z.origin x ≡ true → is_below_cut z.origin z.denials x ≡ false → is_below_dname z.denials x ≡ false → parameters.opt_out ≡ false → exists z.sets x ≡ true → is_named d.names x ≡ true
  there_on x inside uncut plain all_in e = there_named o z.sets m hash parameters names d.chain no_nsec all_in x (is_at_or_above_sound o x inside) uncut plain (exists_kept z d.denials x ∙ e)

  pub off : (x : Name) → exists z.sets x ≡ false → is_named d.names x ≡ false
  off x absent = absent_off o z.sets m hash parameters names d.chain no_nsec x (exists_kept z d.denials x ∙ absent)

  -- ---- an answer of a wildcard

  wildcard_proved : (y e : Name) → In y (path_of z q).made → IsReached o z.sets y → exists z.sets y ≡ false → found_encloser z.sets y ≡ Some e → HashesDistinctly z parameters names y → proves_wildcard_answer o hash rs y e ≡ true
  wildcard_proved y e i k absent there apart =
      answer_proved j rs records_proved away_y n.0 e c.0 n.2.is_encloser over above c.1 between cover.0 cover.1 (shown_of (wildcard_sets o m (zone_owner z parameters) y e) (all.wildcards y i e there) (record_of j.zone j.apart cover.0) cover.2)
    where
      j : IsHashedName o z.sets m hash parameters names y
      j = hashed_name y k apart

      away_y : on_chain y ≡ false
      away_y = off y absent

      n : (a : Name) × (c : Name) × IsEnclosed names y a c
      n = enclosed j away_y

      lent : found_encloser m y ≡ Some e
      lent = encloser_kept z d.denials y ∙ there

      above : IsAbove e y
      above = existing_above o z.sets m hash parameters names d.chain no_nsec y (below j away_y) n.0 n.2.is_encloser e lent

      over : IsAtOrAbove n.0 e
      over = encloser_over o z.sets m hash parameters names d.chain no_nsec y (below j away_y) n.0 n.2.is_encloser e lent

      -- the name next closer to the wildcard's encloser
      c : (c : Name) × (next_closer y e ≡ Some c) × IsAtOrAbove c y × (length c ≡ suc (length e))
      c = next_closer_is y e above

      between : IsHashedOn names y c.0
      between = inr (n.0, n.2.is_encloser, inl (c.2, above_through n.0 e c.0 over (below_ancestor y e c.0 above c.2 c.3)))

      -- isn't one of the chain's, since it is longer than the encloser there
      off_chain : In c.0 names → ⊥
      off_chain v = by (above_cases c.0 y c.2)
        where
          longer : IsAtOrAbove n.0 e → length c.0 ≡ suc (length e) → length n.0 < length c.0
          longer (f, q) h = omega (arith, ap length q, length-append f n.0, h)

          by : (c.0 ≡ y) ⊎ IsAbove c.0 y → ⊥
          by (inl q) = away j y away_y (subst (λ w. In w names) q v)
          by (inr u) = true≢false (sym (in_named names c.0 v) ∙ (longest_is on_chain y n.0 n.2.is_encloser).longest c.0 u (longer over c.3))

      cover : (k : Name) × IsCovering j.zone j.apart c.0 k × In (record_of j.zone j.apart k) (read_nsec3_sets (wildcard_sets o m (zone_owner z parameters) y e))
      cover = cover_shown j.zone j.apart e c.0 c.1 between off_chain

  -- of a wildcard's set under a name for which the wildcard answered
  by_wildcard_proved : (y : Name) → In y (path_of z q).made → (u : ℕ) (found : RRset) → IsMadeFound (inquiry z q) y u found → IsHashedFoundByWildcard z parameters d.names (shown_nsec3 r) y u found
  by_wildcard_proved y i u found k =
      let w = asked_wildcard y k.wildcard_name k.made.wildcard_name in
      record {
        encloser = w.encloser;
        stored = k.stored;
        stands = ap (λ n. set_at z.sets n u) w.is ∙ k.stands;
        made = k.is ∙ (λ i. renamed (signed i || (t == RRSIG)) (sym w.is i) y k.stored);
        proved = wildcard_proved y w.encloser i (reached_unturned z q d.top.no_dname y k.made.unturned) k.made.absent w.found;
      }

  pub answers_proved : (s : RRset) → Contains r.answers s → Origin (inquiry z q) r.answers (IsHashedFoundByWildcard z parameters d.names (shown_nsec3 r)) s
  answers_proved s c =
      origin_by (inquiry z q) r.answers s (ByWildcardOf (inquiry z q) (path_of z q).made) (IsHashedFoundByWildcard z parameters d.names (shown_nsec3 r)) (λ y u found k. by_wildcard_proved y k.0 u found k.1)
      (subst (λ all. Origin (inquiry z q) all (ByWildcardOf (inquiry z q) (path_of z q).made) s) (sym h.answers)
      (path_answers (inquiry z q) zone q.name s (subst (In s) h.answers (Contains-In s r.answers c))))
