-- Octets in canonical form are read as the data in canonical form
use Rattle.std.proofs.Common.{◌≡◌, ℕ, zero, suc, ◌≤◌, Bool, true, false, cond, List, [], ◌∷◌, ◌++◌, length, map, take, drop, Option, Some, None, refl, sym, ap, ◌∙◌, subst, arith, true≢false, eqb-true}
use Rattle.std.proofs.Math.Seq.{drop-nil}
use Rattle.std.specs.Prelude.{◌==◌, ◌||◌, nat_le, nat_lt}
use Rattle.std.specs.Char.{to_ascii_lowercase}
use Rattle.std.proofs.lemmas.Bool.Decides.{nat_tests}
use Rattle.std.proofs.lemmas.List.{map-append, length-map, length-take-le, take-map, drop-map, drop_at}
use mathlib.Core.Bool.{Bool-set}
use Rattle.zone_proto.specs.Names.{Name, IsName, lower, wire_form, wire_length}
use Rattle.zone_proto.specs.Types.{has_own_case}
use Rattle.zone_proto.specs.declared.rdata.RData.{RData}
use Rattle.zone_proto.specs.declared.rdata.RData.TheVariants as V
use Rattle.zone_proto.specs.declared.rdata.other.OtherData.{OtherData}
use Rattle.zone_proto.specs.declared.rdata.mail_exchange.MX.{MX as MxData}
use Rattle.zone_proto.specs.declared.rdata.start_of_authority.SOA.{SOA as SoaData}
use Rattle.zone_proto.proofs.Names.Lower.{IsLowerName-lower, wire_length-lower}
use Rattle.message_reading.specs.DataForms.{data_of, data_by, plain_data_of}
use Rattle.message_reading.specs.MessageNames.{name_within, name_of, if_short, label_then, pointed, lead}
use Rattle.message_reading.specs.Octets.{◌>>=◌, octets_of, past}
use Rattle.message_reading.specs.OtherForms.{is_name, is_two_names, is_numbered_name, form_of, in_form, names_of, with_names}
use Rattle.message_writing.specs.DataText.{AreTimers, IsInForm, short_text, timers_text}
use Rattle.message_writing.specs.KnownNames.{cut_text}
use Rattle.message_writing.proofs.AllBack.{data_back}
use Rattle.message_writing.proofs.CutTexts.{wire_cut}
use Rattle.message_writing.proofs.DataBack.{ns_back, cname_back, soa_back, mx_back}
use Rattle.message_writing.proofs.Fields.{nothing_more, uncut}
use Rattle.message_writing.proofs.NameSteps.{Found, nothing_within}
use Rattle.message_writing.proofs.OthersBack.{other_data}
use Rattle.message_writing.proofs.Steps.{bind_some, octets_back}
use Rattle.std.proofs.lemmas.Option.{cond_some}
use Rattle.std.proofs.lemmas.Bool.{leb-true}
use Rattle.zone_planning.specs.Canonical.{canonical_soa, canonical_octets, is_names, is_numbered_names, names_from, with_names_lowered, lowered_from}
use Rattle.zone_planning.specs.ReadBack.{canonical_data, CanonicalOctetsReadBack}

-- ---- types with a case of their own

lower_valid : (n : Name) → IsName n → IsName (lower n)
lower_valid n valid = (IsLowerName-lower n valid).name

name_back : (n : Name) → IsName n → plain_data_of 2 (wire_form n) ≡ Some (V.NS n)
name_back n valid = ap (plain_data_of 2) (sym (wire_cut n)) ∙ ns_back [] (length n) None n (uncut [] n) valid [] [] nothing_more 0 (omega arith)

alias_back : (n : Name) → IsName n → plain_data_of 5 (wire_form n) ≡ Some (V.CNAME n)
alias_back n valid = ap (plain_data_of 5) (sym (wire_cut n)) ∙ cname_back [] (length n) None n (uncut [] n) valid [] [] nothing_more 0 (omega arith)

start_back : (s : SoaData) → IsName s.mname → IsName s.rname → AreTimers s → plain_data_of 6 (wire_form s.mname ++ (wire_form s.rname ++ timers_text s)) ≡ Some (V.SOA s)
start_back s m r timers =
    ap (λ (x : List ℕ). plain_data_of 6 (x ++ (wire_form s.rname ++ timers_text s))) (sym (wire_cut s.mname))
    ∙ ap (λ (x : List ℕ). plain_data_of 6 (cut_text (length s.mname) None s.mname ++ (x ++ timers_text s))) (sym (wire_cut s.rname))
    ∙ soa_back [] (length s.mname) (length s.rname) None None s (uncut [] s.mname) (uncut [] s.rname) m r timers [] [] nothing_more 0 (omega arith)

mail_back : (d : MxData) → IsName d.exchange → plain_data_of 15 (short_text d.preference ++ wire_form d.exchange) ≡ Some (V.MX d)
mail_back d valid =
    ap (λ (x : List ℕ). plain_data_of 15 (short_text d.preference ++ x)) (sym (wire_cut d.exchange))
    ∙ mx_back [] (length d.exchange) None d (uncut [] d.exchange) valid [] [] nothing_more 0 (omega arith)

-- ---- names in octets of other types, in lower case

some_is : {A : Type 0} {x y : A} → Some x ≡ Some y → x ≡ y
some_is e = cc

abbrev low : List ℕ → List ℕ
low = map to_ascii_lowercase

-- the tests of the first octet of a label are the same in lower case, and a length is no letter
same_end : (b : ℕ) → (to_ascii_lowercase b == 0) ≡ (b == 0)
same_end b = grind (arith, nat_tests)

same_label : (b : ℕ) → nat_lt (to_ascii_lowercase b) 64 ≡ nat_lt b 64
same_label b = grind (arith, nat_tests)

same_reserved : (b : ℕ) → nat_lt (to_ascii_lowercase b) 192 ≡ nat_lt b 192
same_reserved b = grind (arith, nat_tests)

length_low : (b : ℕ) → nat_lt b 64 ≡ true → to_ascii_lowercase b ≡ b
length_low b h = grind (arith, nat_tests)

octets_low : (n : ℕ) (octets : List ℕ) (x : List ℕ × List ℕ) → octets_of n octets ≡ Some x → (octets_of n (low octets) ≡ Some (low x.0, low x.1)) × (length x.0 ≡ n)
octets_low n octets x e =
    let g = cond_some (nat_le n (length octets)) (take n octets, drop n octets) x e in
    let enough : n ≤ length octets = leb-true n (length octets) g.0 in
    let long : nat_le n (length (low octets)) ≡ true = ap (nat_le n) (length-map octets to_ascii_lowercase) ∙ g.0 in (
      (λ i. cond (long i) (Some (take-map to_ascii_lowercase n octets i, drop-map to_ascii_lowercase n octets i)) None)
          ∙ ap (λ (y : List ℕ × List ℕ). Some (low y.0, low y.1)) g.1,
      ap (λ (y : List ℕ × List ℕ). length y.0) (sym g.1) ∙ length-take-le n octets enough,
    )

-- what was read, in lower case
abbrev low_found : Found → Found
low_found f = (lower f.0, low f.1)

pub record ReadLow (k at : ℕ) (octets : List ℕ) (f : Found) : Type 0 where
  pub name : name_within k [] at (low octets) ≡ Some (low_found f)
  pub wire : low (wire_form f.0) ≡ wire_form (lower f.0)

no_pointer : (k at b : ℕ) (rest : List ℕ) (f : Found) → pointed (name_within k []) [] at b rest ≡ Some f → ⊥
no_pointer k at b rest f e =
    let first = bind_some (lead at b rest) (λ to. name_within k [] to.0 (drop to.0 []) >>= λ n. Some (n.0, to.1)) f e in
    let second = bind_some (name_within k [] first.0.0 (drop first.0.0 [])) (λ n. Some (n.0, first.0.1)) f first.2 in
    nothing_within k [] first.0.0 second.0 (ap (name_within k [] first.0.0) (sym (drop-nil first.0.0)) ∙ second.1)

-- a label, and then a name that is read in lower case too
label_low : (k at at' b : ℕ) (rest : List ℕ) (f : Found) → ((octets : List ℕ) (g : Found) → name_within k [] at octets ≡ Some g → ReadLow k at' octets g) → nat_lt b 64 ≡ true
    → label_then (name_within k [] at) b rest ≡ Some f
    → (label_then (name_within k [] at') (to_ascii_lowercase b) (low rest) ≡ Some (low_found f)) × (low (wire_form f.0) ≡ wire_form (lower f.0))
label_low k at at' b rest f reads short h =
    let name : ℕ → List ℕ → Option Found = name_within k [] in
    let first = bind_some (octets_of b rest) (λ label. name at label.1 >>= λ n. Some (label.0 ∷ n.0, n.1)) f h in
    let second = bind_some (name at first.0.1) (λ n. Some (first.0.0 ∷ n.0, n.1)) f first.2 in
    let front = octets_low b rest first.0 first.1 in
    let ih = reads first.0.1 second.0 second.1 in
    let made : Found = (first.0.0 ∷ second.0.0, second.0.1) in
    let found : made ≡ f = some_is second.2 in
    let read : label_then (name at') b (low rest) ≡ Some (low_found made) =
    ap (λ (o : Option (List ℕ × List ℕ)). o >>= λ label. name at' label.1 >>= λ n. Some (label.0 ∷ n.0, n.1)) front.0
    ∙ ap (λ (o : Option Found). o >>= λ n. Some (low first.0.0 ∷ n.0, n.1)) ih.name in (
      ap (λ c. label_then (name at') c (low rest)) (length_low b short) ∙ read ∙ ap (λ (g : Found). Some (low_found g)) found,
      subst (λ (g : Found). low (wire_form g.0) ≡ wire_form (lower g.0)) found
          (λ i.
          (ap to_ascii_lowercase front.1 ∙ length_low b short ∙ sym front.1 ∙ sym (length-map first.0.0 to_ascii_lowercase)) i
          ∷ (map-append to_ascii_lowercase first.0.0 (wire_form second.0.0) ∙ ap (λ z. low first.0.0 ++ z) ih.wire) i),
    )

within_low : (k at at' : ℕ) (octets : List ℕ) (f : Found) → name_within k [] at octets ≡ Some f → ReadLow k at' octets f
unfolding name_within
within_low zero at at' octets f e = absurd cc
within_low (suc k) at at' [] f e = absurd cc
within_low (suc k) at at' (b ∷ rest) f e =
    by (λ octets g. within_low k at at' octets g) (b == 0) (nat_lt b 64) (nat_lt b 192) (same_end b) (same_label b) refl (same_reserved b) e
  where
    by : ((octets : List ℕ) (g : Found) → name_within k [] at octets ≡ Some g → ReadLow k at' octets g)
        → (end short reserved : Bool) → (to_ascii_lowercase b == 0) ≡ end → nat_lt (to_ascii_lowercase b) 64 ≡ short → nat_lt b 64 ≡ short → nat_lt (to_ascii_lowercase b) 192 ≡ reserved
        → cond end (Some ([], rest)) (cond short (label_then (name_within k [] at) b rest) (cond reserved None (pointed (name_within k []) [] at b rest))) ≡ Some f
        → ReadLow (suc k) at' (b ∷ rest) f
    by reads true s r p q t u h =
        let made : Found = ([], rest) in
        let found : made ≡ f = some_is h in
        record {
          name = rw p (ap (λ (g : Found). Some (low_found g)) found);
          wire = subst (λ (g : Found). low (wire_form g.0) ≡ wire_form (lower g.0)) found refl;
        }
    by reads false true r p q t u h = let l = label_low k at at' b rest f reads t h in record { name = rw (p, q) l.0; wire = l.1 }
    by reads false false true p q t u h = absurd cc
    by reads false false false p q t u h = absurd (no_pointer k at b rest f h)

names_low : (count : ℕ) (place place' : List ℕ → ℕ) (octets plain : List ℕ) → names_of count [] place octets ≡ Some plain → names_of count [] place' (low octets) ≡ Some (low plain)
unfolding names_of name_of
names_low zero place place' [] plain e = let none : [] ≡ plain = some_is e in ap (λ (x : List ℕ). Some (low x)) none
names_low zero place place' (b ∷ octets) plain e = absurd cc
names_low (suc count) place place' octets plain e =
    let first = bind_some (name_of [] (place octets) octets) (λ name. names_of count [] place name.1 >>= λ more. Some (wire_form name.0 ++ more)) plain e in
    let second = bind_some (names_of count [] place first.0.1) (λ more. Some (wire_form first.0.0 ++ more)) plain first.2 in
    let within = bind_some (name_within 256 [] (place octets) octets) if_short first.0 first.1 in
    let read = within_low 256 (place octets) (place' (low octets)) octets within.0 within.1 in
    let short = cond_some (nat_le (wire_length within.0.0) 255) within.0 first.0 within.2 in
    let still : nat_le (wire_length (lower within.0.0)) 255 ≡ true = ap (λ n. nat_le n 255) (wire_length-lower within.0.0) ∙ short.0 in
    let others = names_low count place place' first.0.1 second.0 second.1 in
    let name : name_of [] (place' (low octets)) (low octets) ≡ Some (low_found first.0) =
    rw read.name (rw still (ap (λ (g : Found). Some (low_found g)) short.1)) in
    let wire : low (wire_form first.0.0) ≡ wire_form (lower first.0.0) = subst (λ (g : Found). low (wire_form g.0) ≡ wire_form (lower g.0)) short.1 read.wire in
    let plain_is : wire_form first.0.0 ++ second.0 ≡ plain = some_is second.2 in
    rw (name, others) (ap (λ (x : List ℕ). Some x) (ap (λ z. z ++ low second.0) (sym wire) ∙ sym (map-append to_ascii_lowercase (wire_form first.0.0) second.0) ∙ ap low plain_is))

-- ---- data of other types in canonical form

either : (p q : Bool) (P : Type 0) → p || q ≡ true → (p ≡ true → P) → (q ≡ true → P) → P
either true q P e f g = f refl
either false q P e f g = g e

in_names : (t : ℕ) → is_name t ≡ true → is_names t ≡ true
in_names t e = by (t == 3) (t == 4) (t == 7) (t == 8) (t == 9) (t == 12) (t == 14 || (t == 17 || t == 39)) e
  where
    by : (a b c d e f g : Bool) → a || (b || (c || (d || (e || f)))) ≡ true → a || (b || (c || (d || (e || (f || g))))) ≡ true
    by true b c d e f g h = refl
    by false true c d e f g h = refl
    by false false true d e f g h = refl
    by false false false true e f g h = refl
    by false false false false true f g h = refl
    by false false false false false true g h = refl
    by false false false false false false g h = absurd cc

two_in_names : (t : ℕ) → is_two_names t ≡ true → is_names t ≡ true
two_in_names t e = either (t == 14) (t == 17) (is_names t ≡ true) e (λ h. ap is_names (eqb-true t 14 h)) (λ h. ap is_names (eqb-true t 17 h))

numbered_in_names : (t : ℕ) → is_numbered_name t ≡ true → (is_names t ≡ false) × (is_numbered_names t ≡ true)
numbered_in_names t e =
    either (t == 18) (t == 21) ((is_names t ≡ false) × (is_numbered_names t ≡ true)) e
    (λ h. (ap is_names (eqb-true t 18 h), ap is_numbered_names (eqb-true t 18 h)))
    (λ h. (ap is_names (eqb-true t 21 h), ap is_numbered_names (eqb-true t 21 h)))

-- of data in which a sender may compress names, the names begin where those that are put in lower case do
form_begins : (t : ℕ) (octets : List ℕ) (form : ℕ × ℕ) → form_of t ≡ Some form → names_from t octets ≡ Some form.0
form_begins t octets form e = by (is_name t) refl (is_two_names t) refl (is_numbered_name t) refl e
  where
    by : (a : Bool) → is_name t ≡ a → (b : Bool) → is_two_names t ≡ b → (c : Bool) → is_numbered_name t ≡ c
        → cond a (Some (0, 1)) (cond b (Some (0, 2)) (cond c (Some (2, 1)) None)) ≡ Some form → names_from t octets ≡ Some form.0
    by true p b q c r h = let is : (0, 1) ≡ form = some_is h in rw (in_names t p) (ap (λ (f : ℕ × ℕ). Some f.0) is)
    by false p true q c r h = let is : (0, 2) ≡ form = some_is h in rw (two_in_names t q) (ap (λ (f : ℕ × ℕ). Some f.0) is)
    by false p false q true r h =
        let is : (2, 1) ≡ form = some_is h in
        let g = numbered_in_names t r in
        rw (g.0, g.1) (ap (λ (f : ℕ × ℕ). Some f.0) is)
    by false p false q false r h = absurd cc

-- octets of a form, in lower case behind its front
form_low : (form : ℕ × ℕ) (octets : List ℕ) → in_form (Some form) [] 0 octets ≡ Some octets → in_form (Some form) [] 0 (lowered_from form.0 octets) ≡ Some (lowered_from form.0 octets)
form_low form octets e =
    let first = bind_some (octets_of form.0 octets) (λ front. with_names front.0 form.1 [] (past 0 octets) front.1) octets e in
    let second = bind_some (names_of form.1 [] (past 0 octets) first.0.1) (λ names. Some (first.0.0 ++ names)) octets first.2 in
    let g = cond_some (nat_le form.0 (length octets)) (take form.0 octets, drop form.0 octets) first.0 first.1 in
    let enough : form.0 ≤ length octets = leb-true form.0 (length octets) g.0 in
    let front : take form.0 octets ≡ first.0.0 = ap (λ (x : List ℕ × List ℕ). x.0) g.1 in
    let behind : drop form.0 octets ≡ first.0.1 = ap (λ (x : List ℕ × List ℕ). x.1) g.1 in
    let together : first.0.0 ++ second.0 ≡ octets = some_is second.2 in
    let count : length (take form.0 octets) ≡ form.0 = length-take-le form.0 octets enough in
    let names_are : second.0 ≡ drop form.0 octets =
    sym (drop_at first.0.0 second.0 form.0 (ap length (sym front) ∙ count)) ∙ ap (drop form.0) together in
    let low_octets : List ℕ = lowered_from form.0 octets in
    let read : octets_of form.0 low_octets ≡ Some (take form.0 octets, low (drop form.0 octets)) =
    ap (λ (n : ℕ). octets_of n low_octets) (sym count) ∙ octets_back (take form.0 octets) (low (drop form.0 octets)) in
    let names : names_of form.1 [] (past 0 low_octets) (low (drop form.0 octets)) ≡ Some (low (drop form.0 octets)) =
    names_low form.1 (past 0 octets) (past 0 low_octets) (drop form.0 octets) (drop form.0 octets)
    (ap (names_of form.1 [] (past 0 octets)) behind ∙ second.1 ∙ ap (λ (x : List ℕ). Some x) names_are) in
    rw (read, names) refl

-- octets of a type without a case of its own are read as these where they are of its form
other_is : (d : OtherData) → in_form (form_of d.record_type.0) [] 0 d.octets ≡ Some d.octets → plain_data_of d.record_type.0 d.octets ≡ Some (V.Other d)
unfolding data_of
other_is d e = by (has_own_case d.record_type.0) refl d.other
  where
    by : (b : Bool) (own : has_own_case d.record_type.0 ≡ b) → b ≡ false → data_by d.record_type.0 [] 0 d.octets b own ≡ Some (V.Other d)
    by true own f = absurd (true≢false f)
    by false own f =
        ap (λ (o : Option (List ℕ)). o >>= λ s. Some (V.Other (other_data d.record_type s own))) e
        ∙ λ i. Some (V.Other (other_data d.record_type d.octets (Bool-set (has_own_case d.record_type.0) false own d.other i)))

other_from : (d : OtherData) → plain_data_of d.record_type.0 d.octets ≡ Some (V.Other d) → in_form (form_of d.record_type.0) [] 0 d.octets ≡ Some d.octets
unfolding data_of
other_from d e = by (has_own_case d.record_type.0) refl d.other e
  where
    octets_in : Option RData → List ℕ
    octets_in None = []
    octets_in (Some (V.Other o)) = o.octets
    octets_in (Some _) = []

    by : (b : Bool) (own : has_own_case d.record_type.0 ≡ b) → b ≡ false → data_by d.record_type.0 [] 0 d.octets b own ≡ Some (V.Other d)
        → in_form (form_of d.record_type.0) [] 0 d.octets ≡ Some d.octets
    by true own f h = absurd (true≢false f)
    by false own f h =
        let plain = bind_some (in_form (form_of d.record_type.0) [] 0 d.octets) (λ s. Some (V.Other (other_data d.record_type s own))) (V.Other d) h in
        plain.1 ∙ ap (λ (x : List ℕ). Some x) (ap octets_in plain.2)

other_back : (d : OtherData) → IsInForm d → plain_data_of d.record_type.0 (canonical_octets (V.Other d)) ≡ Some (canonical_data (V.Other d))
other_back d w = other_is (record d { octets = canonical_octets (V.Other d) }) (by (form_of d.record_type.0) refl (other_from d w.1))
  where
    by : (o : Option (ℕ × ℕ)) → form_of d.record_type.0 ≡ o → in_form o [] 0 d.octets ≡ Some d.octets
        → in_form o [] 0 (canonical_octets (V.Other d)) ≡ Some (canonical_octets (V.Other d))
    by None e h = refl
    by (Some form) e h =
        let is : with_names_lowered (names_from d.record_type.0 d.octets) d.octets ≡ lowered_from form.0 d.octets =
        ap (λ (o : Option ℕ). with_names_lowered o d.octets) (form_begins d.record_type.0 d.octets form e) in
        rw is (form_low form d.octets h)

-- ---- all

pub canonical_back : CanonicalOctetsReadBack
canonical_back (V.NS n) w s h = name_back (lower n) (lower_valid n h)
canonical_back (V.CNAME n) w s h = alias_back (lower n) (lower_valid n h)
canonical_back (V.SOA a) w s h =
    start_back (canonical_soa a) (lower_valid a.mname h.0) (lower_valid a.rname h.1) (record { refresh = s.refresh; retry = s.retry; expire = s.expire })
canonical_back (V.MX d) w s h = mail_back (record d { exchange = lower d.exchange }) (lower_valid d.exchange h)
canonical_back (V.SRV d) w s h = data_back [] (record { labels = 0; pointer = None; fingerprint = record { sum = 0; scale = 1 } }) (record { labels = 0; pointer = None; fingerprint = record { sum = 0; scale = 1 } }) (V.SRV (record d { target = lower d.target })) tt (lower_valid d.target s) tt [] [] nothing_more 0 (omega arith)
canonical_back (V.Other d) w s h = other_back d w.1
canonical_back (V.A a) w s h = data_back [] (record { labels = 0; pointer = None; fingerprint = record { sum = 0; scale = 1 } }) (record { labels = 0; pointer = None; fingerprint = record { sum = 0; scale = 1 } }) (V.A a) w s tt [] [] nothing_more 0 (omega arith)
canonical_back (V.AAAA a) w s h = data_back [] (record { labels = 0; pointer = None; fingerprint = record { sum = 0; scale = 1 } }) (record { labels = 0; pointer = None; fingerprint = record { sum = 0; scale = 1 } }) (V.AAAA a) w s tt [] [] nothing_more 0 (omega arith)
canonical_back (V.ANAME n) w s h = data_back [] (record { labels = 0; pointer = None; fingerprint = record { sum = 0; scale = 1 } }) (record { labels = 0; pointer = None; fingerprint = record { sum = 0; scale = 1 } }) (V.ANAME n) w s tt [] [] nothing_more 0 (omega arith)
canonical_back (V.DNSKEY d) w s h = data_back [] (record { labels = 0; pointer = None; fingerprint = record { sum = 0; scale = 1 } }) (record { labels = 0; pointer = None; fingerprint = record { sum = 0; scale = 1 } }) (V.DNSKEY d) w s tt [] [] nothing_more 0 (omega arith)
canonical_back (V.NSEC d) w s h = data_back [] (record { labels = 0; pointer = None; fingerprint = record { sum = 0; scale = 1 } }) (record { labels = 0; pointer = None; fingerprint = record { sum = 0; scale = 1 } }) (V.NSEC d) w s tt [] [] nothing_more 0 (omega arith)
canonical_back (V.NSEC3 d) w s h = data_back [] (record { labels = 0; pointer = None; fingerprint = record { sum = 0; scale = 1 } }) (record { labels = 0; pointer = None; fingerprint = record { sum = 0; scale = 1 } }) (V.NSEC3 d) w s tt [] [] nothing_more 0 (omega arith)
canonical_back (V.NSEC3PARAM d) w s h = data_back [] (record { labels = 0; pointer = None; fingerprint = record { sum = 0; scale = 1 } }) (record { labels = 0; pointer = None; fingerprint = record { sum = 0; scale = 1 } }) (V.NSEC3PARAM d) w s tt [] [] nothing_more 0 (omega arith)
canonical_back (V.RRSIG d) w s h = data_back [] (record { labels = 0; pointer = None; fingerprint = record { sum = 0; scale = 1 } }) (record { labels = 0; pointer = None; fingerprint = record { sum = 0; scale = 1 } }) (V.RRSIG d) w s tt [] [] nothing_more 0 (omega arith)
