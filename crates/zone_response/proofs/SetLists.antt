-- Lists of sets that are lent or are sent
use Rattle.std.proofs.Common.{Bor, ◌≡◌, ℕ, zero, suc, ◌||◌, ◌-◌, ◌<◌, Bool, true, false, cond, List, [], ◌∷◌, ◌++◌, map, filter, length, get_or, refl, sym, ap, ◌∙◌, ◌⊎◌, inl, inr, append_assoc, arith}
use Rattle.std.specs.Prelude.{Option, Some, None, slice_get, option_map, option_to_list}
use Rattle.std.specs.List.{list_any, cons_option}
use Rattle.std.proofs.lemmas.List.{length-map, map-append}
use Rattle.std.proofs.lemmas.Option.{slice_get-map}
use Rattle.zone_proto.specs.declared.record.Record.{Record}
use Rattle.zone_proto.specs.Names.{same_name}
use Rattle.zone_proto.specs.Sets.{RRset}
use Rattle.zone_lookup.specs.Flattening.{last_set}
use Rattle.zone_lookup.specs.Runs.{with_new}
use Rattle.zone_response.specs.declared.response.Sent.{Sent}
use Rattle.zone_response.specs.Denials.{same_owner}
use Rattle.zone_response.specs.declared.response.Part.{Part}
use Rattle.zone_response.specs.declared.response.Part.TheVariants as part
use Rattle.zone_response.specs.Sections.{covers, is_signed, with_ttl, sent, sent_set}

-- ---- sets that are lent, by their owners

owner_listed : (sets : List (Bor RRset)) (s : RRset) → list_any (λ (y : RRset). same_owner y s) (map (λ (b : Bor RRset). b.now) sets) ≡ list_any (λ (b : Bor RRset). same_name b.now.owner s.owner) sets
owner_listed [] s = refl
owner_listed (b ∷ sets) s = ap (λ c. same_name b.now.owner s.owner || c) (owner_listed sets s)

module _ (sets : List (Bor RRset)) (s : Bor RRset) where
  with_test : (b : Bool) → list_any (λ (y : Bor RRset). same_name y.now.owner s.now.owner) sets ≡ b
      → cond b (map (λ (b : Bor RRset). b.now) sets) (map (λ (b : Bor RRset). b.now) sets ++ s.now ∷ []) ≡ with_new same_owner (map (λ (b : Bor RRset). b.now) sets) s.now
  with_test b e = sym (ap (λ c. cond c (map (λ (b : Bor RRset). b.now) sets) (map (λ (b : Bor RRset). b.now) sets ++ s.now ∷ [])) (owner_listed sets s.now ∙ e))

  pub listed_already : list_any (λ (y : Bor RRset). same_name y.now.owner s.now.owner) sets ≡ true → map (λ (b : Bor RRset). b.now) sets ≡ with_new same_owner (map (λ (b : Bor RRset). b.now) sets) s.now
  listed_already e = with_test true e

  pub listed_last : (new : List (Bor RRset)) → list_any (λ (y : Bor RRset). same_name y.now.owner s.now.owner) sets ≡ false → new ≡ sets ++ s ∷ []
      → map (λ (b : Bor RRset). b.now) new ≡ with_new same_owner (map (λ (b : Bor RRset). b.now) sets) s.now
  listed_last new e is = ap (map (λ (b : Bor RRset). b.now)) is ∙ map-append (λ (b : Bor RRset). b.now) sets (s ∷ []) ∙ with_test false e

-- ---- sets that are sent

-- the last one
pub last_sent : (sets : List Sent) → last_set (map sent_set sets) ≡ option_map sent_set (slice_get sets (length sets - 1))
last_sent sets = ap (λ k. slice_get (map sent_set sets) (k - 1)) (length-map sets sent_set) ∙ slice_get-map sent_set sets (length sets - 1)

-- two that may be there
pub both_sent : (f : RRset → RRset) (xs ys zs : List RRset) (a b : Option RRset) → ys ≡ xs ++ map f (option_to_list a) → zs ≡ ys ++ map f (option_to_list b) → zs ≡ xs ++ map f (cons_option a (cons_option b []))
both_sent f xs ys zs a b e g =
    g ∙ ap (λ l. l ++ map f (option_to_list b)) e ∙ append_assoc xs (map f (option_to_list a)) (map f (option_to_list b)) ∙ ap (λ l. xs ++ l) (by a b)
  where
    by : (a b : Option RRset) → map f (option_to_list a) ++ map f (option_to_list b) ≡ map f (cons_option a (cons_option b []))
    by None None = refl
    by None (Some y) = refl
    by (Some x) None = refl
    by (Some x) (Some y) = refl

-- ---- a set that passes a test

any_or : (b : Bool) → b || true ≡ true
any_or true = refl
any_or false = refl

pub passes_among : (p : RRset → Bool) (sets : List Sent) (i : ℕ) (item : Sent) → i < length sets → item ≡ get_or sets i item → p (sent_set item) ≡ true → list_any p (map sent_set sets) ≡ true
passes_among p [] i item lt e h = absurd (omega (arith, lt))
passes_among p (x ∷ sets) zero item lt e h = ap (λ b. b || list_any p (map sent_set sets)) (ap (λ (y : Sent). p (sent_set y)) (sym e) ∙ h)
passes_among p (x ∷ sets) (suc i) item lt e h = ap (λ b. p (sent_set x) || b) (passes_among p sets i item (omega (arith, lt)) e h) ∙ any_or (p (sent_set x))

-- ---- signatures that are sent

-- a set that is sent with its signatures has one that covers its type, if the set has
module _ (ttl : ℕ) (s : RRset) where
  abbrev covers_type : Record → Bool
  covers_type r = covers s.record_type r.rdata

  kept : (rs : List Record) → list_any covers_type (map (with_ttl ttl) (filter covers_type rs)) ≡ list_any covers_type rs
  kept [] = refl
  kept (r ∷ rs) = by (covers_type r) refl (kept rs)
    where
      by : (b : Bool) → covers_type r ≡ b → list_any covers_type (map (with_ttl ttl) (filter covers_type rs)) ≡ list_any covers_type rs
          → list_any covers_type (map (with_ttl ttl) (cond b (r ∷ filter covers_type rs) (filter covers_type rs))) ≡ b || list_any covers_type rs
      by true e rest = λ i. e i || list_any covers_type (map (with_ttl ttl) (filter covers_type rs))
      by false e rest = rest

  pub signed_out : (p : Part) → (p ≡ part.Signed) ⊎ (p ≡ part.Signatures) → is_signed s ≡ is_signed (sent p ttl s)
  signed_out p (inl e) = sym (ap (λ p. is_signed (sent p ttl s)) e ∙ kept s.signatures)
  signed_out p (inr e) = sym (ap (λ p. is_signed (sent p ttl s)) e ∙ kept s.signatures)
