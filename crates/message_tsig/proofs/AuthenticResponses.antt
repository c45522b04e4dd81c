-- A message of a response that is found signed is authentic: its MAC is the one that the standard defines, under the key of the request,
-- its error is 0, and the moment is within its fudge
use Rattle.std.proofs.Common.{◌≡◌, ℕ, Bool, true, false, cond, List, refl, sym, ap, ◌∙◌, arith}
use Rattle.std.specs.Prelude.{Option, Some, None, nat_lt}
use Rattle.std.proofs.lemmas.Bool.Decides.{nat_tests}
use Rattle.message_tsig.specs.declared.key.Key.{Key}
use Rattle.message_tsig.specs.declared.place.Place.{Place}
use Rattle.message_tsig.specs.declared.place.Place.TheVariants.{Absent, Misplaced, Last}
use Rattle.message_tsig.specs.declared.response_checker.CheckedResponse.{CheckedResponse as Kept}
use Rattle.message_tsig.specs.declared.response_checker.CheckedResponse.TheVariants as kept
use Rattle.message_tsig.specs.declared.response_checker.ResponseFault.{ResponseFault}
use Rattle.message_tsig.specs.declared.response_checker.ResponseFault.TheVariants as faults
use Rattle.message_tsig.specs.declared.tsig.Tsig.{Tsig}
use Rattle.message_tsig.specs.declared.verdict.TsigError.TheVariants as errors
use Rattle.message_tsig.specs.declared.verdict.Verdict.{Verdict}
use Rattle.message_tsig.specs.declared.verdict.Verdict.TheVariants.{Right, Malformed, Wrong}
use Rattle.message_tsig.specs.Checkings.{Checking}
use Rattle.message_tsig.specs.Keys.{names_key}
use Rattle.message_tsig.specs.Places.{place_of, without}
use Rattle.message_tsig.specs.Responses.{checked_text, found_by_place, found_by_tsig, found_by_verdict, found_kept, found_of, found_unverified, IsAuthenticResponse, IsAuthenticResponseIfSigned, is_refusal, may_be_unsigned, refused, refused_unsigned, signed, unsigned, wrong}
use Rattle.message_tsig.specs.Texts.{short_at}
use Rattle.message_tsig.specs.Tsigs.{tsig_at}
use Rattle.message_tsig.specs.Verdicts.{mac_under, verdict_of}
use Rattle.message_tsig.proofs.Authentic.{IsRight, right_is}

same_tsig : (u t : Tsig) (m rest : List ℕ) → signed u m ≡ signed t rest → u ≡ t
same_tsig u t m rest e = cc

same_rest : (u t : Tsig) (m rest : List ℕ) → signed u m ≡ signed t rest → m ≡ rest
same_rest u t m rest e = cc

no_error_is : (n : ℕ) → nat_lt 0 n ≡ false → n ≡ 0
no_error_is n e = grind (arith, nat_tests)

-- what is not right is not signed
unverified_is : (u : Tsig) (m : List ℕ) (fault : ResponseFault) (t : Tsig) (rest : List ℕ) (b : Bool) → cond b (refused_unsigned u) (wrong fault) ≡ signed t rest → ⊥
unverified_is u m fault t rest true e = cc
unverified_is u m fault t rest false e = cc

module _ (k : Key) (now : ℕ) (c : Checking) (message : List ℕ) (t : Tsig) (rest : List ℕ) where
  found : (offset : ℕ) (u : Tsig) → place_of message ≡ Last offset → tsig_at offset message ≡ Some u → names_key u k ≡ true → u.error ≡ 0
      → IsRight k now u (checked_text c u (without (short_at 10 message) offset message))
      → signed u (without (short_at 10 message) offset message) ≡ signed t rest → IsAuthenticResponse k now c message t rest
  found offset u placed read named clean right e =
      let m : List ℕ = without (short_at 10 message) offset message in
      let ut : u ≡ t = same_tsig u t m rest e in
      let mr : m ≡ rest = same_rest u t m rest e in
      let times : u.time ≡ t.time = ap (λ (x : Tsig). x.time) ut in
      let fudges : u.fudge ≡ t.fudge = ap (λ (x : Tsig). x.fudge) ut in
      record {
        offset = offset;
        last = placed;
        tsig = read ∙ ap (λ (x : Tsig). Some x) ut;
        rest_is = sym mr;
        key = ap (λ (x : Tsig). names_key x k) (sym ut) ∙ named;
        mac = ap (λ (x : Tsig). x.mac) (sym ut) ∙ right.mac ∙ ap (λ (x : Tsig). mac_under k (checked_text c x m)) ut
            ∙ ap (λ (x : List ℕ). mac_under k (checked_text c t x)) mr;
        not_late = omega (arith, right.not_late, times, fudges);
        not_early = omega (arith, right.not_early, times, fudges);
        no_error = ap (λ (x : Tsig). x.error) (sym ut) ∙ clean;
      }

  at_error : (offset : ℕ) (u : Tsig) (b : Bool) → place_of message ≡ Last offset → tsig_at offset message ≡ Some u → names_key u k ≡ true
      → nat_lt 0 u.error ≡ b → IsRight k now u (checked_text c u (without (short_at 10 message) offset message))
      → cond b (refused u) (signed u (without (short_at 10 message) offset message)) ≡ signed t rest → IsAuthenticResponse k now c message t rest
  at_error offset u true placed read named error right e = absurd cc
  at_error offset u false placed read named error right e = found offset u placed read named (no_error_is u.error error) right e

  at_verdict : (offset : ℕ) (u : Tsig) (v : Verdict) → place_of message ≡ Last offset → tsig_at offset message ≡ Some u → names_key u k ≡ true
      → verdict_of k now u (checked_text c u (without (short_at 10 message) offset message)) ≡ v
      → found_by_verdict u (without (short_at 10 message) offset message) v ≡ signed t rest → IsAuthenticResponse k now c message t rest
  at_verdict offset u Right placed read named v e =
      at_error offset u (nat_lt 0 u.error) placed read named refl (right_is k now u (checked_text c u (without (short_at 10 message) offset message)) v) e
  at_verdict offset u Malformed placed read named v e =
      let m : List ℕ = without (short_at 10 message) offset message in
      absurd (unverified_is u m faults.Malformed t rest (is_refusal u m) e)
  at_verdict offset u (Wrong r) placed read named v e =
      let m : List ℕ = without (short_at 10 message) offset message in
      absurd (unverified_is u m (faults.Tsig r) t rest (is_refusal u m) e)

  at_key : (offset : ℕ) (u : Tsig) (b : Bool) → place_of message ≡ Last offset → tsig_at offset message ≡ Some u → names_key u k ≡ b
      → cond b (found_by_verdict u (without (short_at 10 message) offset message) (verdict_of k now u (checked_text c u (without (short_at 10 message) offset message))))
      (found_unverified u (without (short_at 10 message) offset message) (faults.Tsig errors.BadKey)) ≡ signed t rest → IsAuthenticResponse k now c message t rest
  at_key offset u true placed read named e =
      at_verdict offset u (verdict_of k now u (checked_text c u (without (short_at 10 message) offset message))) placed read named refl e
  at_key offset u false placed read named e =
      let m : List ℕ = without (short_at 10 message) offset message in
      absurd (unverified_is u m (faults.Tsig errors.BadKey) t rest (is_refusal u m) e)

  at_tsig : (offset : ℕ) (o : Option Tsig) → place_of message ≡ Last offset → tsig_at offset message ≡ o
      → found_by_tsig k now c o (without (short_at 10 message) offset message) ≡ signed t rest → IsAuthenticResponse k now c message t rest
  at_tsig offset None placed read e = absurd cc
  at_tsig offset (Some u) placed read e = at_key offset u (names_key u k) placed read refl e

  at_absent : (b : Bool) → cond b unsigned (wrong faults.Missing) ≡ signed t rest → ⊥
  at_absent true e = cc
  at_absent false e = cc

  at_place : (p : Place) → place_of message ≡ p → found_by_place k now c message p ≡ signed t rest → IsAuthenticResponse k now c message t rest
  at_place Absent placed e = absurd (at_absent (may_be_unsigned c) e)
  at_place Misplaced placed e = absurd cc
  at_place (Last offset) placed e = at_tsig offset (tsig_at offset message) placed refl e

  signed_is : found_of k now c message ≡ signed t rest → IsAuthenticResponse k now c message t rest
  unfolding found_of
  signed_is e = at_place (place_of message) refl e

-- what is found signed is authentic, as the program keeps it
pub found_is_authentic : (k : Key) (now : ℕ) (c : Checking) (message : List ℕ) (o : Kept) → found_kept o ≡ found_of k now c message
    → IsAuthenticResponseIfSigned k now c message o
found_is_authentic k now c message (kept.Signed t m) e = signed_is k now c message t m.items (sym e)
found_is_authentic k now c message kept.Unsigned e = tt
found_is_authentic k now c message (kept.Refused t) e = tt
found_is_authentic k now c message (kept.RefusedUnsigned t) e = tt
found_is_authentic k now c message (kept.Wrong f) e = tt
