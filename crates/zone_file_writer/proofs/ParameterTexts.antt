-- The words of parameters, put behind a text one after the other, and read one after the other
use Rattle.std.proofs.Common.{◌≡◌, ◌<◌, ℕ, zero, suc, ◌+◌, List, [], ◌∷◌, ◌++◌, map, length, Bool, true, false, cond, Option, Some, None, Result, Ok, Err, refl, sym, ap, arith, append_assoc, append-nil}
use Rattle.std.specs.Prelude.{option_map}
use Rattle.message_reading.specs.Octets.{◌>>=◌}
use Rattle.service_parameters.specs.declared.fault.ParameterFault.{ParameterFault}
use Rattle.service_parameters.specs.Parameters.{KeyValue}
use Rattle.zone_file_writer.specs.Parameters.{are_read, front_printed, if_read, item_behind, item_of, items_text, parameter_front, parameter_text, printed_behind, read_of, read_texts, signed_item, texts_within, with_printed}
use Rattle.zone_file_writer.specs.Rows.{behind_spaces, ended}
use Rattle.zone_file_writer.specs.Words.{PrintedWord, Bare}
use Rattle.zone_file_writer.proofs.RowTexts.{same_rest, same_text}

-- a text with the words of the octets that are left, if all are read as octets
abbrev pub printed_from : List ℕ → ℕ → List KeyValue → List ℕ → List ℕ → Option (List ℕ)
printed_from os n ps text rest = ended text (texts_within n rest >>= if_read os ps)

joined_text : (text t : List ℕ) (ws : List PrintedWord) → text ++ behind_spaces (Bare t ∷ ws) ≡ (text ++ 32 ∷ t) ++ behind_spaces ws
joined_text text t ws = sym (append_assoc text (32 ∷ t) (behind_spaces ws))

word_read : (os text t : List ℕ) (ps qs : List KeyValue) (ts : List (List ℕ)) → with_printed ps t ≡ Ok qs
    → ended text (if_read os ps (t ∷ ts)) ≡ ended (text ++ 32 ∷ t) (if_read os qs ts)
word_read os text t ps qs ts h = rw h (by (are_read os (read_texts qs ts)))
  where
    by : (b : Bool) → ended text (cond b (Some (map Bare (t ∷ ts))) None) ≡ ended (text ++ 32 ∷ t) (cond b (Some (map Bare ts)) None)
    by true = ap (λ (x : List ℕ). Some x) (joined_text text t (map Bare ts))
    by false = refl

-- what stands behind the parameter at the front
abbrev Front : Type 0
Front = List KeyValue × List ℕ × List ℕ

abbrev front_or : Front → Option Front → Front
front_or d None = d
front_or d (Some x) = x

pub parameter_more : (os text new : List ℕ) (m n : ℕ) (ps qs : List KeyValue) (rest behind : List ℕ) → m ≡ n + 1 → 0 < length rest
    → Some (qs, new, behind) ≡ front_printed ps text rest → printed_from os n qs new behind ≡ printed_from os m ps text rest
parameter_more os text new m n ps qs [] behind e some front = absurd (omega arith)
parameter_more os text new zero n ps qs (b ∷ rest) behind e some front = absurd (omega (arith, e))
parameter_more os text new (suc m) n ps qs (b ∷ rest) behind e some front =
    let same : n ≡ m = omega (arith, e) in rw same (by (parameter_front (b ∷ rest)) front)
  where
    within : (t : List ℕ) (rs : List KeyValue) → with_printed ps t ≡ Ok rs → (o : Option (List (List ℕ)))
        → ended (text ++ 32 ∷ t) (o >>= if_read os rs) ≡ ended text (option_map (λ ts. t ∷ ts) o >>= if_read os ps)
    within t rs e None = refl
    within t rs e (Some ts) = sym (word_read os text t ps rs ts e)

    at : (p : KeyValue × List ℕ) (r : Result (List KeyValue) ParameterFault) → with_printed ps (parameter_text p.0) ≡ r
        → ◌≡◌ {A = Option Front} (Some (qs, new, behind)) (read_of r >>= λ rs. Some (rs, text ++ 32 ∷ parameter_text p.0, p.1))
        → printed_from os m qs new behind ≡ ended text (option_map (λ ts. parameter_text p.0 ∷ ts) (texts_within m p.1) >>= if_read os ps)
    at p (Err f) e g = absurd (cc)
    at p (Ok rs) e g =
        let d : Front = (qs, new, behind) in
        let parameters_are : qs ≡ rs = ap (λ (o : Option Front). (front_or d o).0) g in
        let text_is : new ≡ text ++ 32 ∷ parameter_text p.0 = ap (λ (o : Option Front). (front_or d o).1) g in
        let rest_is : behind ≡ p.1 = ap (λ (o : Option Front). (front_or d o).2) g in
        rw (parameters_are, text_is, rest_is) (within (parameter_text p.0) rs e (texts_within m p.1))

    by : (o : Option (KeyValue × List ℕ)) → Some (qs, new, behind) ≡ (o >>= printed_behind ps text)
        → printed_from os m qs new behind ≡ ended text ((o >>= λ p. option_map (λ ts. parameter_text p.0 ∷ ts) (texts_within m p.1)) >>= if_read os ps)
    by None g = absurd (cc)
    by (Some p) g = at p (with_printed ps (parameter_text p.0)) refl g

pub parameter_stuck : (os text : List ℕ) (n : ℕ) (ps : List KeyValue) (rest : List ℕ) → 0 < length rest → None ≡ front_printed ps text rest → printed_from os n ps text rest ≡ None
parameter_stuck os text n ps [] some front = absurd (omega arith)
parameter_stuck os text zero ps (b ∷ rest) some front = refl
parameter_stuck os text (suc n) ps (b ∷ rest) some front = by (parameter_front (b ∷ rest)) front
  where
    at : (p : KeyValue × List ℕ) (r : Result (List KeyValue) ParameterFault) → with_printed ps (parameter_text p.0) ≡ r
        → ◌≡◌ {A = Option Front} None (read_of r >>= λ rs. Some (rs, text ++ 32 ∷ parameter_text p.0, p.1)) → (o : Option (List (List ℕ)))
        → ended text (option_map (λ ts. parameter_text p.0 ∷ ts) o >>= if_read os ps) ≡ None
    at p (Ok rs) e g o = absurd (cc)
    at p (Err f) e g None = refl
    at p (Err f) e g (Some ts) = rw e refl

    by : (o : Option (KeyValue × List ℕ)) → None ≡ (o >>= printed_behind ps text)
        → ended text ((o >>= λ p. option_map (λ ts. parameter_text p.0 ∷ ts) (texts_within n p.1)) >>= if_read os ps) ≡ None
    by None g = refl
    by (Some p) g = at p (with_printed ps (parameter_text p.0)) refl g (texts_within n p.1)

pub last_read : (os text : List ℕ) (n : ℕ) (ps : List KeyValue) (rest : List ℕ) (is : Bool) → length rest ≡ 0 → is ≡ are_read os (Ok ps)
    → cond is (Some text) None ≡ printed_from os n ps text rest
last_read os text n ps (b ∷ rest) is none h = absurd (omega arith)
last_read os text n ps [] is none h = rw (sym h) (by is)
  where
    by : (b : Bool) → cond b (Some text) None ≡ ended text (cond b (Some []) None)
    by true = ap (λ (x : List ℕ). Some x) (sym (append-nil text))
    by false = refl

pub not_all : (os text : List ℕ) (n : ℕ) (ps : List KeyValue) (rest : List ℕ) → 0 < length rest → n ≡ 0 → printed_from os n ps text rest ≡ None
not_all os text n ps [] some e = absurd (omega arith)
not_all os text n ps (b ∷ rest) some e = rw e refl

pub skipped : (os text : List ℕ) (m n : ℕ) (ps : List KeyValue) (rest : List ℕ) → length rest ≡ 0 → printed_from os m ps text rest ≡ printed_from os n ps text rest
skipped os text m n ps [] none = refl
skipped os text m n ps (b ∷ rest) none = absurd (omega arith)

-- ---- items

pub item_more : (text new : List ℕ) (m n k sign : ℕ) (rest behind : List ℕ) → m ≡ n + 1
    → item_behind text sign (item_of k rest) ≡ Some (new, behind)
    → new ++ items_text n k 44 behind ≡ text ++ items_text m k sign rest
item_more text new zero n k sign rest behind e h = absurd (omega (arith, e))
item_more text new (suc m) n k sign rest behind e h = let same : n ≡ m = omega (arith, e) in rw same (by (item_of k rest) h)
  where
    by : (o : Option (List ℕ × List ℕ)) → item_behind text sign o ≡ Some (new, behind)
        → new ++ items_text m k 44 behind ≡ text ++ signed_item sign o (items_text m k 44)
    by None g = absurd (cc)
    by (Some x) g =
        let text_is : new ≡ text ++ (sign ∷ x.0) = same_text new behind (text ++ (sign ∷ x.0)) x.1 (sym g) in
        let rest_is : behind ≡ x.1 = same_rest new behind (text ++ (sign ∷ x.0)) x.1 (sym g) in
        rw (text_is, rest_is) (append_assoc text (sign ∷ x.0) (items_text m k 44 x.1))

pub item_none : (text : List ℕ) (n k sign : ℕ) (rest : List ℕ) → item_of k rest ≡ None → text ≡ text ++ items_text n k sign rest
item_none text zero k sign rest h = sym (append-nil text)
item_none text (suc n) k sign rest h = rw h (sym (append-nil text))

pub items_end : (text : List ℕ) (n k sign : ℕ) (rest : List ℕ) → n ≡ 0 → text ≡ text ++ items_text n k sign rest
items_end text n k sign rest e = rw e (sym (append-nil text))
