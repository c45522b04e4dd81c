-- Keys read one after the other
use Rattle.std.proofs.Common.{◌≡◌, ℕ, List, [], ◌∷◌, ◌++◌, refl, sym, ap, ◌∙◌, append_assoc}
use Rattle.std.proofs.lemmas.List.{append-nil}
use Rattle.std.specs.Prelude.{Option, Some, None, option_and_then, option_map}
use Rattle.zone_proto.specs.declared.rdata.signing.DNSKEY.{DNSKEY}
use Rattle.zone_planning.specs.Filling.{signatures_text}
use Rattle.zone_planning.proofs.Apart.{signatures_apart}
use Rattle.held_plans.specs.Keys.{AreKeys, AreNoKeys, key_in, keys_in}

-- the keys of texts behind others
abbrev pub behind : List DNSKEY → List (List ℕ) → Option (List DNSKEY)
behind ks texts = option_map (λ (more : List DNSKEY). ks ++ more) (keys_in texts)

pub none_behind : (texts : List (List ℕ)) → behind [] texts ≡ keys_in texts
none_behind texts = by (keys_in texts)
  where
    by : (o : Option (List DNSKEY)) → option_map (λ (more : List DNSKEY). [] ++ more) o ≡ o
    by None = refl
    by (Some ks) = refl

pub all_behind : (ks : List DNSKEY) → behind ks [] ≡ Some ks
all_behind ks = ap Some (append-nil ks)

-- one more
pub one_behind : (ks : List DNSKEY) (text : List ℕ) (texts : List (List ℕ)) (k : DNSKEY) → key_in text ≡ Some k → behind (ks ++ k ∷ []) texts ≡ behind ks (text ∷ texts)
one_behind ks text texts k is =
    by (keys_in texts)
    ∙ ap (λ (o : Option DNSKEY). option_map (λ (more : List DNSKEY). ks ++ more) (option_and_then (λ (j : DNSKEY). option_map (λ (js : List DNSKEY). j ∷ js) (keys_in texts)) o)) (sym is)
  where
    by : (o : Option (List DNSKEY)) → option_map (λ (more : List DNSKEY). (ks ++ k ∷ []) ++ more) o
        ≡ option_map (λ (more : List DNSKEY). ks ++ more) (option_map (λ (js : List DNSKEY). k ∷ js) o)
    by None = refl
    by (Some js) = ap Some (append_assoc ks (k ∷ []) js)

-- where one is none, all are none
pub none_of : (ks : List DNSKEY) (text : List ℕ) (texts : List (List ℕ)) → key_in text ≡ None → behind ks (text ∷ texts) ≡ None
none_of ks text texts is =
    ap (λ (o : Option DNSKEY). option_map (λ (more : List DNSKEY). ks ++ more) (option_and_then (λ (j : DNSKEY). option_map (λ (js : List DNSKEY). j ∷ js) (keys_in texts)) o)) is

-- ---- what octets are

pub are_keys : (texts : List (List ℕ)) (octets : List ℕ) (keys : List DNSKEY) → signatures_text texts ≡ octets → keys_in texts ≡ Some keys → AreKeys octets keys
are_keys texts octets keys text is = (texts, text, is)

pub are_none : (texts : List (List ℕ)) (octets : List ℕ) → signatures_text texts ≡ octets → keys_in texts ≡ None → AreNoKeys octets
are_none texts octets text none others same = ap keys_in (signatures_apart others texts (same ∙ sym text)) ∙ none

pub none_read : (octets : List ℕ) → ((texts : List (List ℕ)) → signatures_text texts ≡ octets → ⊥) → AreNoKeys octets
none_read octets wrong texts same = absurd (wrong texts same)
