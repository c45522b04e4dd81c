-- Whether a TSIG is right (RFC 8945 section 5.2): the checks of its MAC and of its moment, in their order
use Rattle.std.specs.Prelude.{ℕ, ◌+◌, ◌/◌, ◌&&◌, Bool, List, length, take, max, nat_le, if◌then◌else◌}
use Rattle.zone_proto.specs.Names.{label_eq}
use Rattle.message_hmac.specs.Algorithms.{mac_by, size_by}
use Rattle.message_tsig.specs.declared.key.Key.{Key}
use Rattle.message_tsig.specs.declared.tsig.Tsig.{Tsig}
use Rattle.message_tsig.specs.declared.verdict.TsigError.TheVariants as errors
use Rattle.message_tsig.specs.declared.verdict.Verdict.{Verdict}
use Rattle.message_tsig.specs.declared.verdict.Verdict.TheVariants as verdicts

-- the MAC of a text under a key
abbrev pub mac_under : Key → List ℕ → List ℕ
mac_under k text = mac_by k.algorithm k.secret text

-- a MAC has at most as many octets as the digest, and 10 and half of them at least (section 5.2.2.1)
abbrev pub is_mac_length : Key → Tsig → Bool
is_mac_length k t = nat_le (max 10 (size_by k.algorithm / 2)) (length t.mac) && nat_le (length t.mac) (size_by k.algorithm)

-- octets are the first ones of others
abbrev pub begins_with : List ℕ → List ℕ → Bool
begins_with front whole = label_eq front (take (length front) whole)

-- a moment is as near to the one of the TSIG as it allows (section 5.2.3)
abbrev pub is_within : ℕ → Tsig → Bool
is_within now t = nat_le now (t.time + t.fudge) && nat_le t.time (now + t.fudge)

-- a whole MAC is asked for (section 5.2.4)
abbrev pub by_length : Tsig → List ℕ → Verdict
by_length t mac = if label_eq t.mac mac then verdicts.Right else verdicts.Wrong errors.BadTrunc

abbrev pub by_time : ℕ → Tsig → List ℕ → Verdict
by_time now t mac = if is_within now t then by_length t mac else verdicts.Wrong errors.BadTime

abbrev pub by_mac : ℕ → Tsig → List ℕ → Verdict
by_mac now t mac = if begins_with t.mac mac then by_time now t mac else verdicts.Wrong errors.BadSig

-- what is found of a TSIG under a key at a moment, whose MAC is to be that of a text
abbrev pub verdict_of : Key → ℕ → Tsig → List ℕ → Verdict
verdict_of k now t text = if is_mac_length k t then by_mac now t (mac_under k text) else verdicts.Malformed
