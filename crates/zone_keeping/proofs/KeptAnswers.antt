-- A plan with standing signatures, once what is left blank is answered
use Rattle.std.proofs.Common.{◌≡◌, ℕ, suc, ◌+◌, Bool, true, false, cond, List, [], ◌∷◌, ◌++◌, length, drop, refl, sym, ap, ◌∙◌, subst, length-append}
use Rattle.std.specs.Prelude.{Option, Some, None, is_some, option_map, option_and_then, unwrap_or, filter_map, map}
use Rattle.std.specs.List.{cons_option, All}
use Rattle.std.specs.Map.{lookup}
use Rattle.std.proofs.Math.Seq.{drop-append_seam}
use Rattle.std.proofs.lemmas.List.Elements.{All-head, All-tail}
use Rattle.zone_proto.specs.declared.rdata.RData.TheVariants as V
use Rattle.zone_proto.specs.declared.rdata.signing.DNSKEY.{DNSKEY}
use Rattle.zone_proto.specs.declared.rdata.signing.RRSIG.{RRSIG}
use Rattle.zone_proto.specs.declared.record.Record.{Record}
use Rattle.zone_proto.specs.declared.rr_key.RrKey.{RrKey}
use Rattle.zone_proto.specs.Names.{lower}
use Rattle.zone_proto.specs.Sets.{RRset, record_of}
use Rattle.zone_proto.specs.Signing.{SignedPart, signed_part}
use Rattle.zone_map.specs.Renewals.{with_signatures}
use Rattle.zone_map.specs.Zones.{Sets, set_at, AreStored, IsStoredAt}
use Rattle.zone_signing.specs.Signatures.{signatures}
use Rattle.zone_planning.specs.declared.signer.PlanSigner.{PlanSigner}
use Rattle.zone_planning.specs.Answering.{plans, ArePlanned}
use Rattle.zone_planning.specs.Blank.{is_planned, blank_of, single}
use Rattle.zone_planning.specs.Filling.{filled_first, filled_list, filled, numbers_in, blanks}
use Rattle.zone_signing.specs.Secured.{signed}
use Rattle.zone_keeping.specs.declared.span.Span.{Span}
use Rattle.zone_keeping.specs.Fitting.{first_fit}
use Rattle.zone_keeping.specs.Keeping.{standing_in, standing, kept_data, kept_record, kept_list, kept_lists, kept, keeping, answer_left, answers_left}
use Rattle.zone_keeping.specs.Usable.{key_for}
use Rattle.zone_keeping.proofs.Fits.{standing_made}

-- what stands in the place of a blank signature isn't blank
stands_made : (span : Span) (key : Option DNSKEY) (old : Option RRset) (part : SignedPart) (blank r : RRSIG) → standing_in span key old part blank ≡ Some r → single r.signature ≡ None
stands_made span None old part blank r h = absurd cc
stands_made span (Some key) None part blank r h = absurd cc
stands_made span (Some key) (Some o) part blank r h = standing_made span key part o blank r h

module _ (octets_of : PlanSigner → SignedPart → List ℕ) (span : Span) (usable : List (Option DNSKEY)) (old : Sets) (now : ℕ) where
  -- the blank signature of a signer
  abbrev blank : PlanSigner → RRset → RRSIG
  blank x s = blank_of x (signed_part s) now

  -- whether a signer signs a set
  abbrev signs : PlanSigner → RRset → Bool
  signs x s = is_planned x s.owner s.record_type

  -- what stands in its place
  abbrev stands : PlanSigner → RRset → Option RRSIG
  stands x s = standing span usable old (signed_part s) (blank x s)

  -- the signatures of a set as they are planned, with those that stand
  abbrev kept_plan : List PlanSigner → RRset → List Record
  kept_plan signers s = map (kept_record span usable (set_at old (lower s.owner) s.record_type) (signed_part s)) (signatures plans now signers s)

  -- the signature of a set by what stands, or by a signer's octets
  abbrev made : PlanSigner → RRset → Option RRSIG → RRSIG
  made x s o = unwrap_or o (record (blank x s) { signature = octets_of x (signed_part s) })

  -- a signer's place in a set's list, as it is filled
  place_filled : (s : RRset) (x : PlanSigner) (rs : List Record) (signatures : List Record) (ss others : List (List ℕ)) (o : Option RRSIG)
      → ((r : RRSIG) → o ≡ Some r → single r.signature ≡ None) → filled_list rs (ss ++ others) ≡ signatures
      → filled_list (record_of s (V.RRSIG (unwrap_or o (blank x s))) ∷ rs) (cons_option (cond (is_some o) None (Some (octets_of x (signed_part s)))) ss ++ others)
      ≡ record_of s (V.RRSIG (made x s o)) ∷ signatures
  place_filled s x rs signatures ss others None h ih = ap (λ (l : List Record). record_of s (V.RRSIG (record (blank x s) { signature = octets_of x (signed_part s) })) ∷ l) ih
  place_filled s x rs signatures ss others (Some r) h ih =
      let one = record_of s (V.RRSIG r) in
      ap (λ (n : Option ℕ). cond (is_some n) (filled_first one (ss ++ others) ∷ filled_list rs (drop 1 (ss ++ others))) (one ∷ filled_list rs (ss ++ others))) (h r refl)
      ∙ ap (λ (l : List Record). one ∷ l) ih

  stands_so : (s : RRset) (x : PlanSigner) (r : RRSIG) → stands x s ≡ Some r → single r.signature ≡ None
  stands_so s x r h = stands_made span (key_for usable (V.RRSIG (blank x s))) (set_at old (lower s.owner) s.record_type) (signed_part s) (blank x s) r h

  -- the signatures of a set, filled with the answers of its signers, with any others behind these
  list_kept : (s : RRset) (signers : List PlanSigner) (others : List (List ℕ))
      → filled_list (kept_plan signers s) (filter_map (answer_left octets_of span usable old now s) signers ++ others) ≡ signatures (keeping octets_of span usable old) now signers s
  list_kept s [] others = refl
  list_kept s (x ∷ xs) others = by (signs x s) (list_kept s xs others)
    where
      by : (b : Bool) → filled_list (kept_plan xs s) (filter_map (answer_left octets_of span usable old now s) xs ++ others) ≡ signatures (keeping octets_of span usable old) now xs s
          → filled_list
          (map (kept_record span usable (set_at old (lower s.owner) s.record_type) (signed_part s))
          (cons_option (option_map (λ (r : RRSIG). record_of s (V.RRSIG r)) (cond b (Some (blank x s)) None)) (signatures plans now xs s)))
          (cons_option
          (option_and_then (λ (r : RRSIG). cond (is_some (standing span usable old (signed_part s) r)) None (Some (octets_of x (signed_part s)))) (cond b (Some (blank x s)) None))
          (filter_map (answer_left octets_of span usable old now s) xs)
          ++ others)
          ≡ cons_option
          (option_map (λ (r : RRSIG). record_of s (V.RRSIG r))
          (option_map (λ (r : RRSIG). unwrap_or (standing span usable old (signed_part s) r) (record r { signature = octets_of x (signed_part s) })) (cond b (Some (blank x s)) None)))
          (signatures (keeping octets_of span usable old) now xs s)
      by false h = h
      by true h =
          place_filled s x (kept_plan xs s) (signatures (keeping octets_of span usable old) now xs s) (filter_map (answer_left octets_of span usable old now s) xs) others (stands x s) (stands_so s x) h

  -- a signer's place is asked for if nothing stands there
  place_asked : (s : RRset) (x : PlanSigner) (rs : List Record) (ss : List (List ℕ)) (o : Option RRSIG) → ((r : RRSIG) → o ≡ Some r → single r.signature ≡ None)
      → length (numbers_in rs) ≡ length ss
      → length (numbers_in (record_of s (V.RRSIG (unwrap_or o (blank x s))) ∷ rs)) ≡ length (cons_option (cond (is_some o) None (Some (octets_of x (signed_part s)))) ss)
  place_asked s x rs ss None h ih = ap (λ (n : ℕ). suc n) ih
  place_asked s x rs ss (Some r) h ih = ap (λ (n : Option ℕ). length (cons_option n (numbers_in rs))) (h r refl) ∙ ih

  as_many : (s : RRset) (signers : List PlanSigner) → length (numbers_in (kept_plan signers s)) ≡ length (filter_map (answer_left octets_of span usable old now s) signers)
  as_many s [] = refl
  as_many s (x ∷ xs) = by (signs x s) (as_many s xs)
    where
      by : (b : Bool) → length (numbers_in (kept_plan xs s)) ≡ length (filter_map (answer_left octets_of span usable old now s) xs)
          → length
          (numbers_in
          (map (kept_record span usable (set_at old (lower s.owner) s.record_type) (signed_part s))
          (cons_option (option_map (λ (r : RRSIG). record_of s (V.RRSIG r)) (cond b (Some (blank x s)) None)) (signatures plans now xs s))))
          ≡ length
          (cons_option
          (option_and_then (λ (r : RRSIG). cond (is_some (standing span usable old (signed_part s) r)) None (Some (octets_of x (signed_part s)))) (cond b (Some (blank x s)) None))
          (filter_map (answer_left octets_of span usable old now s) xs))
      by false h = h
      by true h = place_asked s x (kept_plan xs s) (filter_map (answer_left octets_of span usable old now s) xs) (stands x s) (stands_so s x) h

  -- ---- all sets

  -- the sets of a zone, each signed so
  abbrev pub all_kept : List PlanSigner → Sets → Sets
  all_kept signers [] = []
  all_kept signers (e ∷ es) = (e.0, signed (keeping octets_of span usable old) now signers e.1) ∷ all_kept signers es

  -- what a set's signatures become, by its own owner and type
  kept_own : (signers : List PlanSigner) (e : RrKey × RRset) → e.1.signatures ≡ signatures plans now signers e.1 → IsStoredAt e.0.name e.0.record_type.0 e.1
      → kept_list span usable (set_at old e.0.name e.0.record_type.0) e.1 ≡ kept_plan signers e.1
  kept_own signers e planned stored =
      λ i. map (kept_record span usable (set_at old (sym stored.owner i) (sym stored.record_type i)) (signed_part e.1)) (planned i)

  pub all_answered : (signers : List PlanSigner) (m : Sets) → ArePlanned now signers m → AreStored m
      → with_signatures (kept span usable old m) (filled (kept span usable old m) (answers_left octets_of span usable old now signers m)) ≡ all_kept signers m
  all_answered signers [] h stored = refl
  all_answered signers (e ∷ es) h stored =
      let P : RrKey × RRset → Type 0 = λ e. IsStoredAt e.0.name e.0.record_type.0 e.1 in
      let own = filter_map (answer_left octets_of span usable old now e.1) signers in
      let rest = answers_left octets_of span usable old now signers es in
      let list = kept_list span usable (set_at old e.0.name e.0.record_type.0) e.1 in
      let so : list ≡ kept_plan signers e.1 = kept_own signers e h.0 (All-head P e es stored) in
      let count : length (numbers_in list) ≡ length own = ap (λ (rs : List Record). length (numbers_in rs)) so ∙ as_many e.1 signers in
      let others : drop (length (numbers_in list)) (own ++ rest) ≡ rest = ap (λ (k : ℕ). drop k (own ++ rest)) count ∙ drop-append_seam own rest in
      let mine : filled_list list (own ++ rest) ≡ signatures (keeping octets_of span usable old) now signers e.1 =
      (λ i. filled_list (so i) (own ++ rest)) ∙ list_kept e.1 signers rest in
      let theirs : with_signatures (kept span usable old es) (filled (kept span usable old es) (drop (length (numbers_in list)) (own ++ rest))) ≡ all_kept signers es =
      ap (λ (ss : List (List ℕ)). with_signatures (kept span usable old es) (filled (kept span usable old es) ss)) others ∙ all_answered signers es h.1 (All-tail P e es stored) in
      λ i. (e.0, record e.1 { signatures = mine i }) ∷ theirs i

  pub all_asked : (signers : List PlanSigner) (m : Sets) → ArePlanned now signers m → AreStored m
      → length (answers_left octets_of span usable old now signers m) ≡ length (blanks (kept span usable old m))
  all_asked signers [] h stored = refl
  all_asked signers (e ∷ es) h stored =
      let P : RrKey × RRset → Type 0 = λ e. IsStoredAt e.0.name e.0.record_type.0 e.1 in
      let own = filter_map (answer_left octets_of span usable old now e.1) signers in
      let list = kept_list span usable (set_at old e.0.name e.0.record_type.0) e.1 in
      let count : length (numbers_in list) ≡ length own =
      ap (λ (rs : List Record). length (numbers_in rs)) (kept_own signers e h.0 (All-head P e es stored)) ∙ as_many e.1 signers in
      length-append own (answers_left octets_of span usable old now signers es)
      ∙ (λ i. sym count i + all_asked signers es h.1 (All-tail P e es stored) i)
      ∙ sym (length-append (numbers_in list) (blanks (kept span usable old es)))
