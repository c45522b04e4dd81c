-- A message that is found signed is authentic: its MAC is the one that the standard defines, under a key of the server, and the
-- moment is within its fudge
use Rattle.std.proofs.Common.{◌≡◌, ℕ, ◌+◌, ◌≤◌, Bool, true, false, cond, List, refl, sym, ap, ◌∙◌, arith}
use Rattle.std.specs.Prelude.{Option, Some, None, ◌&&◌, nat_le}
use Rattle.std.specs.Cmp.Lexicographic.{bytes_decides}
use Rattle.std.proofs.lemmas.Bool.{leb-true}
use Rattle.zone_proto.specs.Names.{label_eq}
use Rattle.message_reading.specs.declared.header.Header.{Header}
use Rattle.message_reading.specs.Headers.{header_of}
use Rattle.message_tsig.specs.declared.key.Key.{Key}
use Rattle.message_tsig.specs.declared.checking.Checked.{Checked as Kept}
use Rattle.message_tsig.specs.declared.checking.Checked.TheVariants as kept
use Rattle.message_tsig.specs.declared.place.Place.{Place}
use Rattle.message_tsig.specs.declared.place.Place.TheVariants.{Absent, Misplaced, Last}
use Rattle.message_tsig.specs.declared.tsig.Tsig.{Tsig}
use Rattle.message_tsig.specs.declared.verdict.TsigError.TheVariants.{BadKey, BadSig, BadTime, BadTrunc}
use Rattle.message_tsig.specs.declared.verdict.Verdict.{Verdict}
use Rattle.message_tsig.specs.declared.verdict.Verdict.TheVariants.{Right, Malformed, Wrong}
use Rattle.message_tsig.specs.Keys.{key_for}
use Rattle.message_tsig.specs.Checking.{unsigned, signed, by_header, by_key, by_place, by_tsig, by_verdict, checked_kept, checked_of, IsAuthentic, IsAuthenticIfSigned}
use Rattle.message_tsig.specs.Places.{place_of, without}
use Rattle.message_tsig.specs.Texts.{short_at}
use Rattle.message_tsig.specs.Tsigs.{request_text, tsig_at}
use Rattle.message_tsig.specs.Verdicts.{begins_with, by_length, by_mac, by_time, is_mac_length, is_within, mac_under, verdict_of}

both_first : (a b : Bool) → (a && b) ≡ true → a ≡ true
both_first true b e = refl
both_first false b e = absurd cc

both_second : (a b : Bool) → (a && b) ≡ true → b ≡ true
both_second true b e = e
both_second false b e = absurd cc

-- ---- a verdict

-- what a right TSIG is
pub record IsRight (k : Key) (now : ℕ) (t : Tsig) (text : List ℕ) : Type 0 where
  pub mac : t.mac ≡ mac_under k text
  pub not_late : now ≤ t.time + t.fudge
  pub not_early : t.time ≤ now + t.fudge

pub right_is : (k : Key) (now : ℕ) (t : Tsig) (text : List ℕ) → verdict_of k now t text ≡ Right → IsRight k now t text
right_is k now t text e = by_its_length (is_mac_length k t) e
  where
    whole : (b : Bool) → label_eq t.mac (mac_under k text) ≡ b → is_within now t ≡ true → cond b Right (Wrong BadTrunc) ≡ Right → IsRight k now t text
    whole true coded near q = record {
      mac = (bytes_decides t.mac (mac_under k text)).0 coded;
      not_late = leb-true now (t.time + t.fudge) (both_first (nat_le now (t.time + t.fudge)) (nat_le t.time (now + t.fudge)) near);
      not_early = leb-true t.time (now + t.fudge) (both_second (nat_le now (t.time + t.fudge)) (nat_le t.time (now + t.fudge)) near);
    }
    whole false coded near q = absurd cc

    near : (b : Bool) → is_within now t ≡ b → cond b (by_length t (mac_under k text)) (Wrong BadTime) ≡ Right → IsRight k now t text
    near true p q = whole (label_eq t.mac (mac_under k text)) refl p q
    near false p q = absurd cc

    begun : (b : Bool) → cond b (by_time now t (mac_under k text)) (Wrong BadSig) ≡ Right → IsRight k now t text
    begun true q = near (is_within now t) refl q
    begun false q = absurd cc

    by_its_length : (b : Bool) → cond b (by_mac now t (mac_under k text)) Malformed ≡ Right → IsRight k now t text
    by_its_length true q = begun (begins_with t.mac (mac_under k text)) q
    by_its_length false q = absurd cc

-- ---- a request

-- what is said to be signed is
same_tsig : (u t : Tsig) (j k : Key) (m rest : List ℕ) → signed u j m ≡ signed t k rest → u ≡ t
same_tsig u t j k m rest e = cc

same_key : (u t : Tsig) (j k : Key) (m rest : List ℕ) → signed u j m ≡ signed t k rest → j ≡ k
same_key u t j k m rest e = cc

same_rest : (u t : Tsig) (j k : Key) (m rest : List ℕ) → signed u j m ≡ signed t k rest → m ≡ rest
same_rest u t j k m rest e = cc

module _ (keys : List Key) (now : ℕ) (message : List ℕ) (t : Tsig) (k : Key) (rest : List ℕ) where
  found : (offset : ℕ) (u : Tsig) (j : Key) → place_of message ≡ Last offset → tsig_at offset message ≡ Some u → key_for u keys ≡ Some j
      → IsRight j now u (request_text u (without (short_at 10 message) offset message))
      → signed u j (without (short_at 10 message) offset message) ≡ signed t k rest → IsAuthentic keys now message t k rest
  found offset u j placed read named right e =
      let m : List ℕ = without (short_at 10 message) offset message in
      let ut : u ≡ t = same_tsig u t j k m rest e in
      let jk : j ≡ k = same_key u t j k m rest e in
      let mr : m ≡ rest = same_rest u t j k m rest e in
      let times : u.time ≡ t.time = ap (λ (x : Tsig). x.time) ut in
      let fudges : u.fudge ≡ t.fudge = ap (λ (x : Tsig). x.fudge) ut in
      record {
        offset = offset;
        last = placed;
        tsig = read ∙ ap (λ (x : Tsig). Some x) ut;
        rest_is = sym mr;
        key = ap (λ (x : Tsig). key_for x keys) (sym ut) ∙ named ∙ ap (λ (x : Key). Some x) jk;
        mac = ap (λ (x : Tsig). x.mac) (sym ut) ∙ right.mac ∙ ap (λ (x : Key). mac_under x (request_text u m)) jk
            ∙ ap (λ (x : Tsig). mac_under k (request_text x m)) ut ∙ ap (λ (x : List ℕ). mac_under k (request_text t x)) mr;
        not_late = omega (arith, right.not_late, times, fudges);
        not_early = omega (arith, right.not_early, times, fudges);
      }

  at_verdict : (offset : ℕ) (u : Tsig) (j : Key) (v : Verdict) → place_of message ≡ Last offset → tsig_at offset message ≡ Some u → key_for u keys ≡ Some j
      → verdict_of j now u (request_text u (without (short_at 10 message) offset message)) ≡ v
      → by_verdict u j (without (short_at 10 message) offset message) v ≡ signed t k rest → IsAuthentic keys now message t k rest
  at_verdict offset u j Right placed read named v e =
      found offset u j placed read named (right_is j now u (request_text u (without (short_at 10 message) offset message)) v) e
  at_verdict offset u j Malformed placed read named v e = absurd cc
  at_verdict offset u j (Wrong BadSig) placed read named v e = absurd cc
  at_verdict offset u j (Wrong BadKey) placed read named v e = absurd cc
  at_verdict offset u j (Wrong BadTime) placed read named v e = absurd cc
  at_verdict offset u j (Wrong BadTrunc) placed read named v e = absurd cc

  at_key : (offset : ℕ) (u : Tsig) (o : Option Key) → place_of message ≡ Last offset → tsig_at offset message ≡ Some u → key_for u keys ≡ o
      → by_key now u o (without (short_at 10 message) offset message) ≡ signed t k rest → IsAuthentic keys now message t k rest
  at_key offset u None placed read named e = absurd cc
  at_key offset u (Some j) placed read named e =
      at_verdict offset u j (verdict_of j now u (request_text u (without (short_at 10 message) offset message))) placed read named refl e

  at_tsig : (offset : ℕ) (o : Option Tsig) → place_of message ≡ Last offset → tsig_at offset message ≡ o
      → by_tsig keys now o (without (short_at 10 message) offset message) ≡ signed t k rest → IsAuthentic keys now message t k rest
  at_tsig offset None placed read e = absurd cc
  at_tsig offset (Some u) placed read e = at_key offset u (key_for u keys) placed read refl e

  at_place : (p : Place) → place_of message ≡ p → by_place keys now message p ≡ signed t k rest → IsAuthentic keys now message t k rest
  at_place Absent placed e = absurd cc
  at_place Misplaced placed e = absurd cc
  at_place (Last offset) placed e = at_tsig offset (tsig_at offset message) placed refl e

  at_header : (o : Option (Header × List ℕ)) → by_header keys now message o ≡ signed t k rest → IsAuthentic keys now message t k rest
  at_header None e = absurd cc
  at_header (Some h) e = by h.0.is_response e
    where
      by : (b : Bool) → cond b unsigned (by_place keys now message (place_of message)) ≡ signed t k rest → IsAuthentic keys now message t k rest
      by true q = absurd cc
      by false q = at_place (place_of message) refl q

  signed_is : checked_of keys now message ≡ signed t k rest → IsAuthentic keys now message t k rest
  unfolding checked_of
  signed_is e = at_header (header_of message) e

-- what is found signed is authentic, as the program keeps it
pub signed_is_authentic : (keys : List Key) (now : ℕ) (message : List ℕ) (o : Kept) → checked_kept o ≡ checked_of keys now message → IsAuthenticIfSigned keys now message o
signed_is_authentic keys now message kept.Unsigned e = tt
signed_is_authentic keys now message kept.Malformed e = tt
signed_is_authentic keys now message (kept.Refused t r k m) e = tt
signed_is_authentic keys now message (kept.Signed t k m) e = signed_is keys now message t k.now m.items (sym e)
