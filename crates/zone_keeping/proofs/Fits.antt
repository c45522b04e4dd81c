-- A signature that fits is one that stood, and the first of those that do
use Rattle.std.proofs.Common.{◌≡◌, ℕ, arith, Bool, true, false, cond, List, [], ◌∷◌, ◌++◌, refl, sym, ap, ◌∙◌}
use Rattle.std.specs.Prelude.{◌&&◌, not, Option, Some, None, Contains, length, ◌==◌}
use Rattle.std.specs.Option.{option_or}
use Rattle.std.specs.Str.{bytes_eq}
use Rattle.std.proofs.lemmas.List.Elements.{Contains-append_right}
use Rattle.std.proofs.lemmas.Slice.Eq.{bytes_eq-Decides}
use Rattle.zone_proto.specs.declared.rdata.RData.{RData}
use Rattle.zone_proto.specs.declared.rdata.RData.TheVariants as V
use Rattle.zone_proto.specs.declared.rdata.signing.DNSKEY.{DNSKEY}
use Rattle.zone_proto.specs.declared.rdata.signing.RRSIG.{RRSIG}
use Rattle.zone_proto.specs.declared.record.Record.{Record}
use Rattle.zone_proto.specs.Sets.{RRset}
use Rattle.zone_proto.specs.Signing.{SignedPart}
use Rattle.zone_planning.specs.Blank.{single}
use Rattle.zone_planning.specs.Filling.{is_as_long}
use Rattle.zone_planning.specs.SignedData.{signed_data}
use Rattle.zone_keeping.specs.declared.span.Span.{Span}
use Rattle.zone_keeping.specs.Fitting.{holds, is_alike, is_made, is_same, set_of, fits, fitting, first_fit}
use Rattle.zone_keeping.specs.KeepingLaws.{IsStanding}

both_true : (a b : Bool) → (a && b) ≡ true → (a ≡ true) × (b ≡ true)
both_true true b h = (refl, h)
both_true false b h = cc

-- what a signature that fits is
pub record IsFit (span : Span) (key : DNSKEY) (part : SignedPart) (old : RRset) (blank r : RRSIG) : Type 0 where
  pub alike : is_alike blank r ≡ true
  pub held : holds span r ≡ true
  pub made : is_made key r ≡ true
  pub same : is_same part old r ≡ true

fit_parts : (span : Span) (key : DNSKEY) (part : SignedPart) (old : RRset) (blank r : RRSIG) → fits span key part old blank r ≡ true → IsFit span key part old blank r
fit_parts span key part old blank r h =
    let first = both_true (is_alike blank r) (holds span r && (is_made key r && is_same part old r)) h in
    let second = both_true (holds span r) (is_made key r && is_same part old r) first.1 in
    let third = both_true (is_made key r) (is_same part old r) second.1 in
    record { alike = first.0; held = second.0; made = third.0; same = third.1 }

module _ (span : Span) (key : DNSKEY) (part : SignedPart) (old : RRset) (blank : RRSIG) where
  -- the record of a signature that is found
  record IsFound (rs : List Record) (r : RRSIG) : Type 0 where
    pub stood : (s : Record) × Contains rs s × (s.rdata ≡ V.RRSIG r)
    pub fit : IsFit span key part old blank r

  one : (d : RData) (r : RRSIG) → fitting span key part old blank d ≡ Some r → (d ≡ V.RRSIG r) × IsFit span key part old blank r
  one (V.RRSIG q) r h = by (fits span key part old blank q) refl h
    where
      by : (b : Bool) → fits span key part old blank q ≡ b → cond b (Some q) None ≡ Some r → (V.RRSIG q ≡ V.RRSIG r) × IsFit span key part old blank r
      by true e h = let same : q ≡ r = cc in (ap (λ (x : RRSIG). V.RRSIG x) same, fit_parts span key part old blank r (ap (fits span key part old blank) (sym same) ∙ e))
      by false e h = absurd cc
  one (V.A a) r h = absurd cc
  one (V.AAAA a) r h = absurd cc
  one (V.NS a) r h = absurd cc
  one (V.CNAME a) r h = absurd cc
  one (V.ANAME a) r h = absurd cc
  one (V.SOA a) r h = absurd cc
  one (V.MX a) r h = absurd cc
  one (V.SRV a) r h = absurd cc
  one (V.DNSKEY a) r h = absurd cc
  one (V.NSEC a) r h = absurd cc
  one (V.NSEC3 a) r h = absurd cc
  one (V.NSEC3PARAM a) r h = absurd cc
  one (V.Other a) r h = absurd cc

  found : (rs : List Record) (r : RRSIG) → first_fit span key part old blank rs ≡ Some r → IsFound rs r
  found [] r h = absurd cc
  found (s ∷ rs) r h = by (fitting span key part old blank s.rdata) refl h (found rs r)
    where
      by : (o : Option RRSIG) → fitting span key part old blank s.rdata ≡ o → option_or o (first_fit span key part old blank rs) ≡ Some r
          → (first_fit span key part old blank rs ≡ Some r → IsFound rs r) → IsFound (s ∷ rs) r
      by None e h ih =
          let rest = ih h in
          record { stood = (rest.stood.0, Contains-append_right (s ∷ []) rs rest.stood.0 rest.stood.1, rest.stood.2); fit = rest.fit }
      by (Some q) e h ih =
          let same : fitting span key part old blank s.rdata ≡ Some r = e ∙ h in
          let it = one s.rdata r same in
          record { stood = (s, (0, omega arith, refl), it.0); fit = it.1 }

pub standing_found : (span : Span) (key : DNSKEY) (part : SignedPart) (old : RRset) (blank r : RRSIG) → first_fit span key part old blank old.signatures ≡ Some r → IsStanding span key part old blank r
standing_found span key part old blank r h =
    let it = found span key part old blank old.signatures r h in
    record {
      stood = it.stood;
      alike = it.fit.alike;
      held = it.fit.held;
      made = it.fit.made;
      octets = (bytes_eq-Decides (signed_data r (set_of part)) (signed_data r old)).0 it.fit.same;
    }

-- it isn't blank
pub standing_made : (span : Span) (key : DNSKEY) (part : SignedPart) (old : RRset) (blank r : RRSIG) → first_fit span key part old blank old.signatures ≡ Some r → single r.signature ≡ None
standing_made span key part old blank r h =
    by r.signature ((both_true (not (length r.signature == 1)) (is_as_long key r.signature) ((found span key part old blank old.signatures r h).fit.made)).0)
  where
    by : (octets : List ℕ) → not (length octets == 1) ≡ true → single octets ≡ None
    by [] e = refl
    by (x ∷ []) e = absurd cc
    by (x ∷ y ∷ xs) e = refl
