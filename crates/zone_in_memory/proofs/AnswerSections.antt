-- What a found set is answered with
use Rattle.std.proofs.Common.{◌≡◌, ℕ, zero, suc, ◌-◌, ◌<◌, arith, length, ◌==◌, not, ◌&&◌, Bool, true, false, cond, List, [], ◌∷◌, refl, sym, ap, ◌∙◌, eqb-true, subst}
use Rattle.std.specs.Prelude.{Option, Some, None, slice_get}
use Rattle.zone_proto.specs.declared.record.Record.{Record}
use Rattle.zone_proto.specs.Names.{Name}
use Rattle.zone_proto.specs.Sets.{RRset}
use Rattle.zone_handler.specs.declared.auth_lookup.AuthLookup.{AuthLookup}
use Rattle.zone_handler.specs.declared.auth_lookup.AuthLookup.TheVariants as answer
use Rattle.zone_handler.specs.declared.lookup_records.LookupRecords.{LookupRecords}
use Rattle.zone_handler.specs.declared.lookup_records.LookupRecords.TheVariants as section
use Rattle.zone_handler.specs.Answers.{KeepsMany}
use Rattle.lookup_types.specs.declared.lookup_options.LookupOptions.{LookupOptions}
use Rattle.zone_map.specs.Zones.{Sets}
use Rattle.zone_map.specs.Chains.{chain}
use Rattle.zone_lookup.specs.Flattening.{last_set, stands_for_addresses, flattened, alone, beside}
use Rattle.zone_lookup.specs.Replies.{one_set, chained, answered, is_followed, answer_sets, answer_section, AreFrom, IsAnswer}
use Rattle.zone_in_memory.specs.KeptReplies.{KeepsAdditionals, HasSections, SaysAnswer}

module _ (sign : RRset → List Record) (m : Sets) (n : Name) (t : ℕ) (options : LookupOptions) where
  -- a set alone
  pub alone_answers : (s : RRset) (a : AuthLookup) → is_followed t s ≡ false
      → (more : List RRset) × AreFrom m options.dnssec_ok n t (Some s) more × HasSections options (one_set (alone sign t s (last_set more))) (beside t (Some s) more) a → SaysAnswer options (IsAnswer sign m options.dnssec_ok n t s) a
  alone_answers s a h (more, from, has) =
      let e : answer_sets m options.dnssec_ok n t s ≡ s ∷ [] = ap (λ b. cond b (chain m options.dnssec_ok n s t) (s ∷ [])) h in
      let f : answer_section sign m options.dnssec_ok n t s more ≡ one_set (alone sign t s (last_set more)) = ap (λ b. cond b (chained (chain m options.dnssec_ok n s t)) (one_set (alone sign t s (last_set more)))) h in (
        one_set (alone sign t s (last_set more)),
        beside t (Some s) more,
        record {
          more = more;
          found = subst (λ ss. AreFrom m options.dnssec_ok n t (last_set ss) more) (sym e) from;
          sections =
              ap (λ ss. answered ss (beside t (Some s) more)) (sym f)
              ∙ ap (λ ss. answered (answer_section sign m options.dnssec_ok n t s more) (beside t (last_set ss) more)) (sym e);
        },
        has,
      )

  -- a chain
  pub chain_answers : (s : RRset) (a : AuthLookup) → is_followed t s ≡ true
      → (more : List RRset) × AreFrom m options.dnssec_ok n t (last_set (chain m options.dnssec_ok n s t)) more × HasSections options (chained (chain m options.dnssec_ok n s t)) (beside t (last_set (chain m options.dnssec_ok n s t)) more) a
      → SaysAnswer options (IsAnswer sign m options.dnssec_ok n t s) a
  chain_answers s a h (more, from, has) =
      let sets = chain m options.dnssec_ok n s t in
      let e : answer_sets m options.dnssec_ok n t s ≡ sets = ap (λ b. cond b sets (s ∷ [])) h in
      let f : answer_section sign m options.dnssec_ok n t s more ≡ chained sets = ap (λ b. cond b (chained sets) (one_set (alone sign t s (last_set more)))) h in (
        chained sets,
        beside t (last_set sets) more,
        record {
          more = more;
          found = subst (λ ss. AreFrom m options.dnssec_ok n t (last_set ss) more) (sym e) from;
          sections =
              ap (λ section. answered section (beside t (last_set sets) more)) (sym f)
              ∙ ap (λ ss. answered (answer_section sign m options.dnssec_ok n t s more) (beside t (last_set ss) more)) (sym e);
        },
        has,
      )

-- ---- ANAME sets

got : (xs : List RRset) (i : ℕ) → i < length xs → slice_get xs i ≡ None → ⊥
got [] i h e = absurd (omega (arith, h))
got (x ∷ xs) zero h e = cc
got (x ∷ xs) (suc i) h e = got xs i (omega (arith, h)) e

-- where there is no last set there is none
no_last : (xs : List RRset) → last_set xs ≡ None → xs ≡ []
no_last [] e = refl
no_last (x ∷ xs) e = absurd (got (x ∷ xs) (length (x ∷ xs) - 1) (omega arith) e)

pub no_length : (xs : List RRset) → (length xs == 0) ≡ true → xs ≡ []
no_length [] e = refl
no_length (x ∷ xs) e = absurd (let k = eqb-true (length (x ∷ xs)) 0 e in omega (arith, k))

module _ (sign : RRset → List Record) (t : ℕ) (s : RRset) (more : List RRset) where
  -- a set that isn't flattened stays, and nothing comes before the additional sets
  pub stays_alone : stands_for_addresses t s ≡ false → alone sign t s (last_set more) ≡ s
  stays_alone h = by (last_set more)
    where
      by : (o : Option RRset) → alone sign t s o ≡ s
      by None = refl
      by (Some l) = ap (λ b. cond b (flattened sign s t l) s) h

  pub nothing_before : stands_for_addresses t s ≡ false → beside t (Some s) more ≡ more
  nothing_before h = ap (λ b. cond (b && not (length more == 0)) (s ∷ more) more) h

  -- nor is one without additional sets
  pub stays_without : last_set more ≡ None → alone sign t s (last_set more) ≡ s
  stays_without h = ap (alone sign t s) h

  pub nothing_beside : more ≡ [] → beside t (Some s) more ≡ more
  nothing_beside h = ap (beside t (Some s)) h ∙ both (stands_for_addresses t s) ∙ sym h
    where
      both : (b : Bool) → cond (b && false) (s ∷ []) [] ≡ []
      both true = refl
      both false = refl

  pub none_beside : last_set more ≡ None → beside t (Some s) more ≡ more
  none_beside h = nothing_beside (no_last more h)

  -- any other is flattened, and comes first among the additional sets
  pub is_flattened : (l : RRset) → last_set more ≡ Some l → stands_for_addresses t s ≡ true → alone sign t s (last_set more) ≡ flattened sign s t l
  is_flattened l e h = ap (alone sign t s) e ∙ ap (λ b. cond b (flattened sign s t l) s) h

  pub stands_first : stands_for_addresses t s ≡ true → (length more == 0) ≡ false → beside t (Some s) more ≡ s ∷ more
  stands_first h e = ap (λ b. cond (b && not (length more == 0)) (s ∷ more) more) h ∙ ap (λ b. cond (not b) (s ∷ more) more) e

  pub some_left : (l : RRset) → last_set more ≡ Some l → (length more == 0) ≡ false
  some_left l e = by more e
    where
      by : (xs : List RRset) → last_set xs ≡ Some l → (length xs == 0) ≡ false
      by [] e = absurd cc
      by (x ∷ xs) e = unless (length (x ∷ xs) == 0) refl
        where
          unless : (b : Bool) → (length (x ∷ xs) == 0) ≡ b → (length (x ∷ xs) == 0) ≡ false
          unless true q = absurd (let k = eqb-true (length (x ∷ xs)) 0 q in omega (arith, k))
          unless false q = q

-- an answer of one set, with additional sets
pub has_one : (options : LookupOptions) (set shown : RRset) (listed more : List RRset) (additionals : Option LookupRecords) (a : AuthLookup) → a ≡ answer.Records (section.Records options set) additionals → shown ≡ set → listed ≡ more
    → KeepsAdditionals options more additionals → HasSections options (one_set shown) listed a
has_one options set shown listed more additionals a e p q l =
    (section.Records options set, additionals, e, sym (ap (section.Records options) p), subst (λ x. KeepsAdditionals options x additionals) (sym q) l)

-- an answer of several
pub has_many : (options : LookupOptions) (sets listed more : List RRset) (s : LookupRecords) (additionals : Option LookupRecords) (a : AuthLookup) → a ≡ answer.Records s additionals → KeepsMany options sets s → listed ≡ more
    → KeepsAdditionals options more additionals → HasSections options (chained sets) listed a
has_many options sets listed more s additionals a e r q l = (s, additionals, e, r, subst (λ x. KeepsAdditionals options x additionals) (sym q) l)
