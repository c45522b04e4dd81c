-- What is printed of names, numbers and octets are texts of words.
use Rattle.std.proofs.Common.{◌≡◌, ◌<◌, ◌^◌, ℕ, zero, suc, ◌+◌, ◌/◌, ◌%◌, nat_lt, length, take, drop, List, [], ◌∷◌, ◌++◌, map, Bool, true, false, cond, ◌&&◌, ◌||◌, ◌==◌, Some, unwrap_or, refl, sym, ap, ◌∙◌, subst, arith, codes}
use Rattle.std.specs.Prelude.{nat_le}
use Rattle.std.specs.List.{list_all, flat_map, AllByRecursion}
use Rattle.std.proofs.lemmas.Bool.Decides.{leb_tells, nat_tests}
use Rattle.std.specs.Char.{digit_char, digit_value, is_ascii_alphanumeric}
use Rattle.std.specs.Fmt.{decimal}
use Rattle.std.specs.Str.Parse.{AllDigits}
use Rattle.std.proofs.lemmas.Fmt.{decimal_is_IsNumeral}
use Rattle.zone_proto.specs.Names.{Name, Label, IsName, IsLabel}
use Rattle.zone_proto.specs.Ranges.{IsOctet}
use Rattle.zone_proto.specs.TextForm.{three_digits}
use Rattle.zone_proto.specs.Text.{is_plain, octet_text, label_text, name_text}
use Rattle.zone_proto.specs.TypeText.{Word, word_of, type_words, type_text}
use Rattle.line_text.specs.Parts.{joined}
use Rattle.line_text.specs.Hex.{hex_of_octet, hex_text}
use Rattle.line_text.specs.Addresses.{ipv4_text}
use Rattle.line_text.proofs.PrintedWords.{and_both}
use Rattle.zone_tokens.specs.Addresses.{ipv6_of_word}
use Rattle.zone_file_writer.specs.Addresses.{address_text, behind_colons, group_text, groups_of, groups_text, longest_run, without_run}
use Rattle.zone_file_writer.proofs.Ipv6Back.{address_back, are_groups}
use Rattle.zone_file_writer.specs.Moments.{day_of_month, moment_text, month_of, two_digits, year_of}
use Rattle.zone_file_writer.specs.Others.{hex_digit, hex_digits, hex_octet}
use Rattle.zone_file_writer.specs.Strings.{escaped, escaped_octet}
use Rattle.zone_file_writer.specs.Words.{further_words, type_word}
use Rattle.zone_file_writer.proofs.Lines.{IsOrdinary, IsInQuotes, IsInWord, IsBareText}

-- an octet that has no meaning of its own
pub record IsHarmless (b : ℕ) : Type 0 where
  pub ordinary : IsOrdinary b
  pub backslash : (b == 92) ≡ false

pub harmless : (b : ℕ) → 41 < b → (b == 59) ≡ false → (b == 92) ≡ false → IsHarmless b
harmless b h semicolon backslash =
    let space : (b == 32) ≡ false = grind (arith, nat_tests) in
    let tab : (b == 9) ≡ false = grind (arith, nat_tests) in
    let carriage : (b == 13) ≡ false = grind (arith, nat_tests) in
    let feed : (b == 10) ≡ false = grind (arith, nat_tests) in
    let opens : (b == 40) ≡ false = grind (arith, nat_tests) in
    let closes : (b == 41) ≡ false = grind (arith, nat_tests) in
    let quoted : (b == 34) ≡ false = grind (arith, nat_tests) in
    record {
      ordinary = record {
        space = space;
        tab = tab;
        comment = semicolon;
        feed = feed;
        carriage = carriage;
        opens = opens;
        closes = closes;
        quoted = quoted;
      };
      backslash = backslash;
    }

pub harmless_in_word : (b : ℕ) (t : List ℕ) → IsHarmless b → IsInWord false t → IsInWord false (b ∷ t)
harmless_in_word b t h more = (h.ordinary, subst (λ (e : Bool). IsInWord e t) (sym h.backslash) more)

pub in_word_append : (s t : List ℕ) (e : Bool) → IsInWord e s → IsInWord false t → IsInWord e (s ++ t)
in_word_append [] t false h more = more
in_word_append [] t true h more = absurd h
in_word_append (b ∷ s) t false h more = (h.0, in_word_append s t (b == 92) h.1 more)
in_word_append (b ∷ s) t true h more = (h.0, h.1, in_word_append s t false h.2 more)

pub word_text : (t : List ℕ) → 0 < length t → IsInWord false t → IsBareText t
word_text [] some h = absurd (omega arith)
word_text (b ∷ t) some h = h

pub in_word : (t : List ℕ) → IsBareText t → IsInWord false t
in_word [] h = absurd h
in_word (b ∷ t) h = h

-- ---- digits

pub digit_harmless : (d : ℕ) → d < 10 → IsHarmless (48 + d)
digit_harmless d h = harmless (48 + d) (omega arith) (grind (arith, nat_tests)) (grind (arith, nat_tests))

pub value_harmless : (c : ℕ) → digit_value c < 10 → IsHarmless c
value_harmless c h = harmless c (grind (arith, nat_tests, leb_tells)) (grind (arith, nat_tests, leb_tells)) (grind (arith, nat_tests, leb_tells))

digits_in_word : (ds : List ℕ) → AllDigits 10 ds → IsInWord false ds
digits_in_word [] h = tt
digits_in_word (c ∷ cs) h = harmless_in_word c cs (value_harmless c h.0) (digits_in_word cs h.1)

pub decimal_text : (n : ℕ) → n < 2 ^ 64 → IsBareText (decimal n)
decimal_text n h = let written = decimal_is_IsNumeral n h in word_text (decimal n) written.0.0 (digits_in_word (decimal n) written.0.1)

-- ---- names

plain_harmless : (b : ℕ) → is_plain b ≡ true → IsHarmless b
plain_harmless b h = harmless b (grind (arith, nat_tests, leb_tells)) (grind (arith, nat_tests, leb_tells)) (grind (arith, nat_tests, leb_tells))

no_feed : (d : ℕ) → ((48 + d) == 10) ≡ false
no_feed d = grind (arith, nat_tests)

no_carriage : (d : ℕ) → ((48 + d) == 13) ≡ false
no_carriage d = grind (arith, nat_tests)

-- an octet that is known, and has no meaning but perhaps that of a backslash
pub ordinary : (b : ℕ) → 41 < b → (b == 59) ≡ false → IsOrdinary b
ordinary b h semicolon = record {
  space = grind (arith, nat_tests);
  tab = grind (arith, nat_tests);
  comment = semicolon;
  feed = grind (arith, nat_tests);
  carriage = grind (arith, nat_tests);
  opens = grind (arith, nat_tests);
  closes = grind (arith, nat_tests);
  quoted = grind (arith, nat_tests);
}

pub backslash_ordinary : IsOrdinary 92
backslash_ordinary = ordinary 92 (omega arith) refl

digits_three : (b : ℕ) → b < 256 → IsInWord false (92 ∷ three_digits b)
digits_three b h = (
  backslash_ordinary,
  (
    no_feed (b / 100),
    no_carriage (b / 100),
    harmless_in_word (48 + b / 10 % 10) ((48 + b % 10) ∷ []) (digit_harmless (b / 10 % 10) (omega arith))
        (harmless_in_word (48 + b % 10) [] (digit_harmless (b % 10) (omega arith)) tt),
  ),
)

octet_in_word : (b : ℕ) → b < 256 → IsInWord false (octet_text b)
octet_in_word b h = by (is_plain b) refl
  where
    by : (p : Bool) → is_plain b ≡ p → IsInWord false (cond p (b ∷ []) (92 ∷ three_digits b))
    by true e = harmless_in_word b [] (plain_harmless b e) tt
    by false e = digits_three b h

octets_in_word : (l : Label) → AllByRecursion IsOctet l → IsInWord false (flat_map octet_text l)
octets_in_word [] h = tt
octets_in_word (b ∷ l) h = in_word_append (octet_text b) (flat_map octet_text l) false (octet_in_word b h.0) (octets_in_word l h.1)

pub dot_harmless : IsHarmless 46
dot_harmless = harmless 46 (omega arith) refl refl

labels_in_word : (ls : Name) → AllByRecursion IsLabel ls → IsInWord false (flat_map label_text ls)
labels_in_word [] h = tt
labels_in_word (l ∷ ls) h =
    in_word_append (label_text l) (flat_map label_text ls) false
    (in_word_append (flat_map octet_text l) (46 ∷ []) false (octets_in_word l h.0.octets) (harmless_in_word 46 [] dot_harmless tt))
    (labels_in_word ls h.1)

some_text : (v w : List ℕ) → 0 < length ((v ++ 46 ∷ []) ++ w)
some_text [] w = omega arith
some_text (b ∷ v) w = omega arith

pub name_is_text : (n : Name) → IsName n → IsBareText (name_text n)
name_is_text [] h = harmless_in_word 46 [] dot_harmless tt
name_is_text (l ∷ ls) h = word_text (flat_map label_text (l ∷ ls)) (some_text (flat_map octet_text l) (flat_map label_text ls)) (labels_in_word (l ∷ ls) h.labels)

-- ---- types, and other words of plain octets

pub plain_in_word : (t : List ℕ) → list_all is_plain t ≡ true → IsInWord false t
plain_in_word [] h = tt
plain_in_word (b ∷ t) h = by (is_plain b) refl h (plain_in_word t)
  where
    by : (p : Bool) → is_plain b ≡ p → (p && list_all is_plain t) ≡ true → (list_all is_plain t ≡ true → IsInWord false t) → IsInWord false (b ∷ t)
    by true e g more = harmless_in_word b t (plain_harmless b e) (more g)
    by false e g more = absurd (grind arith)

abbrev is_plain_word : List ℕ → Bool
is_plain_word [] = false
is_plain_word (b ∷ t) = list_all is_plain (b ∷ t)

plain_word : (t : List ℕ) → is_plain_word t ≡ true → IsBareText t
plain_word [] h = absurd (cc)
plain_word (b ∷ t) h = plain_in_word (b ∷ t) h

listed_word : (t : ℕ) (other : List ℕ) (ws : List Word) → list_all (λ w. is_plain_word w.text) ws ≡ true → IsBareText other → IsBareText (unwrap_or (word_of t ws) other)
listed_word t other [] all h = h
listed_word t other (w ∷ ws) all h = by (is_plain_word w.text) refl all (listed_word t other ws)
  where
    by : (p : Bool) → is_plain_word w.text ≡ p → (p && list_all (λ v. is_plain_word v.text) ws) ≡ true
        → (list_all (λ v. is_plain_word v.text) ws ≡ true → IsBareText other → IsBareText (unwrap_or (word_of t ws) other))
        → IsBareText (unwrap_or (cond (t == w.number) (Some w.text) (word_of t ws)) other)
    by true e g more = this (t == w.number) (plain_word w.text e) (more g h)
      where
        this : (b : Bool) → IsBareText w.text → IsBareText (unwrap_or (word_of t ws) other) → IsBareText (unwrap_or (cond b (Some w.text) (word_of t ws)) other)
        this true word rest = word
        this false word rest = rest
    by false e g more = absurd (grind arith)

known_is_text : (t : ℕ) → t < 65536 → IsBareText (type_text t)
known_is_text t h =
    listed_word t (codes "TYPE" ++ decimal t) type_words refl
    (in_word_append (codes "TYPE") (decimal t) false (plain_in_word (codes "TYPE") refl) (in_word (decimal t) (decimal_text t (omega arith))))

pub type_is_text : (t : ℕ) → t < 65536 → IsBareText (type_word t)
type_is_text t h = listed_word t (type_text t) further_words refl (known_is_text t h)

-- ---- addresses

abbrev pub AllInWord : List (List ℕ) → Type 0
AllInWord [] = Unit {0}
AllInWord (p ∷ ps) = IsInWord false p × AllInWord ps

pub joined_in_word : (s : ℕ) (ps : List (List ℕ)) → IsHarmless s → AllInWord ps → IsInWord false (joined s ps)
joined_in_word s [] h all = tt
joined_in_word s (p ∷ []) h all = all.0
joined_in_word s (p ∷ q ∷ ps) h all = in_word_append p (s ∷ joined s (q ∷ ps)) false all.0 (harmless_in_word s (joined s (q ∷ ps)) h (joined_in_word s (q ∷ ps) h all.1))

decimals_in_word : (bs : List ℕ) → AllByRecursion (λ b. b < 256) bs → AllInWord (map decimal bs)
decimals_in_word [] h = tt
decimals_in_word (b ∷ bs) h = (in_word (decimal b) (decimal_text b (omega (arith, h.0))), decimals_in_word bs h.1)

some_joined : (s : ℕ) (p : List ℕ) (ps : List (List ℕ)) → 0 < length p → 0 < length (joined s (p ∷ ps))
some_joined s p [] h = h
some_joined s [] (q ∷ ps) h = absurd (omega arith)
some_joined s (b ∷ p) (q ∷ ps) h = omega arith

pub ipv4_is_text : (bs : List ℕ) → length bs ≡ 4 → AllByRecursion (λ b. b < 256) bs → IsBareText (ipv4_text bs)
ipv4_is_text [] l h = absurd (omega arith)
ipv4_is_text (b ∷ bs) l h =
    word_text (ipv4_text (b ∷ bs)) (some_joined 46 (decimal b) (map decimal bs) (decimal_is_IsNumeral b (omega (arith, h.0))).0.0)
    (joined_in_word 46 (decimal b ∷ map decimal bs) dot_harmless (decimals_in_word (b ∷ bs) h))

pub digit_char_harmless : (d : ℕ) → d < 32 → IsHarmless (digit_char d)
digit_char_harmless d h = by (nat_lt d 10) refl
  where
    by : (p : Bool) → nat_lt d 10 ≡ p → IsHarmless (cond p (48 + d) (87 + d))
    by true e = digit_harmless d (grind (arith, leb_tells))
    by false e = harmless (87 + d) (omega arith) (grind (arith, nat_tests, leb_tells)) (grind (arith, nat_tests, leb_tells))

pub hex_in_word : (b : ℕ) → b < 256 → IsInWord false (hex_of_octet b)
hex_in_word b h =
    harmless_in_word (digit_char (b / 16)) (digit_char (b % 16) ∷ []) (digit_char_harmless (b / 16) (omega arith))
    (harmless_in_word (digit_char (b % 16)) [] (digit_char_harmless (b % 16) (omega arith)) tt)

digit_and : (d : ℕ) (t : List ℕ) → d < 16 → IsInWord false t → IsInWord false (digit_char d ∷ t)
digit_and d t h more = harmless_in_word (digit_char d) t (digit_char_harmless d (omega arith)) more

group_in_word : (g : ℕ) → g < 65536 → IsInWord false (group_text g)
group_in_word g h = by (nat_lt g 16) refl (nat_lt g 256) refl (nat_lt g 4096) refl
  where
    by : (a : Bool) → nat_lt g 16 ≡ a → (b : Bool) → nat_lt g 256 ≡ b → (c : Bool) → nat_lt g 4096 ≡ c
        → IsInWord false (cond a (digit_char g ∷ []) (cond b (digit_char (g / 16) ∷ digit_char (g % 16) ∷ [])
        (cond c (digit_char (g / 256) ∷ digit_char (g / 16 % 16) ∷ digit_char (g % 16) ∷ [])
        (digit_char (g / 4096) ∷ digit_char (g / 256 % 16) ∷ digit_char (g / 16 % 16) ∷ digit_char (g % 16) ∷ []))))
    by true e b f c k = digit_and g [] (grind (arith, leb_tells)) tt
    by false e true f c k =
        let most : g < 256 = grind (arith, leb_tells) in
        digit_and (g / 16) (digit_char (g % 16) ∷ []) (omega arith) (digit_and (g % 16) [] (omega arith) tt)
    by false e false f true k =
        let most : g < 4096 = grind (arith, leb_tells) in
        digit_and (g / 256) (digit_char (g / 16 % 16) ∷ digit_char (g % 16) ∷ []) (omega arith)
        (digit_and (g / 16 % 16) (digit_char (g % 16) ∷ []) (omega arith) (digit_and (g % 16) [] (omega arith) tt))
    by false e false f false k =
        digit_and (g / 4096) (digit_char (g / 256 % 16) ∷ digit_char (g / 16 % 16) ∷ digit_char (g % 16) ∷ []) (omega arith)
        (digit_and (g / 256 % 16) (digit_char (g / 16 % 16) ∷ digit_char (g % 16) ∷ []) (omega arith)
        (digit_and (g / 16 % 16) (digit_char (g % 16) ∷ []) (omega arith) (digit_and (g % 16) [] (omega arith) tt)))

pub colon_harmless : IsHarmless 58
colon_harmless = harmless 58 (omega arith) refl refl

colons_in_word : (gs : List ℕ) → AllByRecursion (λ g. g < 65536) gs → IsInWord false (behind_colons gs)
colons_in_word [] h = tt
colons_in_word (g ∷ gs) h =
    harmless_in_word 58 (group_text g ++ behind_colons gs) colon_harmless (in_word_append (group_text g) (behind_colons gs) false (group_in_word g h.0) (colons_in_word gs h.1))

groups_in_word : (gs : List ℕ) → AllByRecursion (λ g. g < 65536) gs → IsInWord false (groups_text gs)
groups_in_word [] h = tt
groups_in_word (g ∷ gs) h = in_word_append (group_text g) (behind_colons gs) false (group_in_word g h.0) (colons_in_word gs h.1)

front_groups : (n : ℕ) (gs : List ℕ) → AllByRecursion (λ g. g < 65536) gs → AllByRecursion (λ g. g < 65536) (take n gs)
front_groups zero gs h = tt
front_groups (suc n) [] h = tt
front_groups (suc n) (g ∷ gs) h = (h.0, front_groups n gs h.1)

back_groups : (n : ℕ) (gs : List ℕ) → AllByRecursion (λ g. g < 65536) gs → AllByRecursion (λ g. g < 65536) (drop n gs)
back_groups zero gs h = h
back_groups (suc n) [] h = tt
back_groups (suc n) (g ∷ gs) h = back_groups n gs h.1

run_in_word : (gs : List ℕ) (run : ℕ × ℕ) → AllByRecursion (λ g. g < 65536) gs → IsInWord false (without_run gs run)
run_in_word gs run h = by (nat_lt run.1 2)
  where
    by : (b : Bool) → IsInWord false (cond b (groups_text gs) (groups_text (take run.0 gs) ++ 58 ∷ 58 ∷ groups_text (drop (run.0 + run.1) gs)))
    by true = groups_in_word gs h
    by false =
        let back : List ℕ = groups_text (drop (run.0 + run.1) gs) in
        in_word_append (groups_text (take run.0 gs)) (58 ∷ 58 ∷ back) false (groups_in_word (take run.0 gs) (front_groups run.0 gs h))
        (harmless_in_word 58 (58 ∷ back) colon_harmless (harmless_in_word 58 back colon_harmless (groups_in_word (drop (run.0 + run.1) gs) (back_groups (run.0 + run.1) gs h))))

-- it is read, so it has an octet
pub address_is_text : (bs : List ℕ) → length bs ≡ 16 → AllByRecursion (λ b. b < 256) bs → IsBareText (address_text bs)
address_is_text bs l h = by (address_text bs) (address_back bs l h) (run_in_word (groups_of bs) (longest_run (groups_of bs)) (are_groups bs h))
  where
    by : (t : List ℕ) → ipv6_of_word t ≡ Some bs → IsInWord false t → IsBareText t
    by [] e more = absurd (cc)
    by (b ∷ t) e more = more

-- ---- octets in hex

hexes_in_word : (bs : List ℕ) → AllByRecursion (λ b. b < 256) bs → IsInWord false (flat_map hex_of_octet bs)
hexes_in_word [] h = tt
hexes_in_word (b ∷ bs) h = in_word_append (hex_of_octet b) (flat_map hex_of_octet bs) false (hex_in_word b h.0) (hexes_in_word bs h.1)

pub dash_harmless : IsHarmless 45
dash_harmless = harmless 45 (omega arith) refl refl

pub hex_is_text : (bs : List ℕ) → AllByRecursion (λ b. b < 256) bs → IsBareText (hex_text bs)
hex_is_text [] h = harmless_in_word 45 [] dash_harmless tt
hex_is_text (b ∷ bs) h = word_text (hex_text (b ∷ bs)) (omega arith) (hexes_in_word (b ∷ bs) h)

pub hex_digit_harmless : (d : ℕ) → d < 16 → IsHarmless (hex_digit d)
hex_digit_harmless d h = by (nat_lt d 10) refl
  where
    by : (p : Bool) → nat_lt d 10 ≡ p → IsHarmless (cond p (48 + d) (55 + d))
    by true e = digit_harmless d (grind (arith, leb_tells))
    by false e = harmless (55 + d) (grind (arith, leb_tells)) (grind (arith, nat_tests, leb_tells)) (grind (arith, nat_tests, leb_tells))

hex_and : (b : ℕ) (t : List ℕ) → b < 256 → IsInWord false t → IsInWord false (hex_octet b ++ t)
hex_and b t h more =
    harmless_in_word (hex_digit (b / 16)) (hex_digit (b % 16) ∷ t) (hex_digit_harmless (b / 16) (omega arith))
    (harmless_in_word (hex_digit (b % 16)) t (hex_digit_harmless (b % 16) (omega arith)) more)

hex_digits_in_word : (bs : List ℕ) → AllByRecursion (λ b. b < 256) bs → IsInWord false (hex_digits bs)
hex_digits_in_word [] h = tt
hex_digits_in_word (b ∷ bs) h = hex_and b (hex_digits bs) h.0 (hex_digits_in_word bs h.1)

-- of one octet at least
pub digits_are_text : (b : ℕ) (bs : List ℕ) → AllByRecursion (λ b. b < 256) (b ∷ bs) → IsBareText (hex_digits (b ∷ bs))
digits_are_text b bs h = hex_digits_in_word (b ∷ bs) h

-- behind `0x`
pub access_point_is_text : (b : ℕ) (bs : List ℕ) → AllByRecursion (λ b. b < 256) (b ∷ bs) → IsBareText (48 ∷ 120 ∷ hex_digits (b ∷ bs))
access_point_is_text b bs h =
    harmless_in_word 48 (120 ∷ hex_digits (b ∷ bs)) (harmless 48 (omega arith) refl refl)
    (harmless_in_word 120 (hex_digits (b ∷ bs)) (harmless 120 (omega arith) refl refl) (hex_digits_in_word (b ∷ bs) h))

-- ---- dates

two_and : (n : ℕ) (t : List ℕ) → IsInWord false t → IsInWord false (two_digits n ++ t)
two_and n t more =
    harmless_in_word (48 + n / 10 % 10) ((48 + n % 10) ∷ t) (digit_harmless (n / 10 % 10) (omega arith))
    (harmless_in_word (48 + n % 10) t (digit_harmless (n % 10) (omega arith)) more)

pairs_in_word : (ns : List ℕ) → IsInWord false (flat_map two_digits ns)
pairs_in_word [] = tt
pairs_in_word (n ∷ ns) = two_and n (flat_map two_digits ns) (pairs_in_word ns)

pub moment_is_text : (n : ℕ) → IsBareText (moment_text n)
unfolding moment_text
moment_is_text n =
    let day : ℕ = n / 86400 in
    let second : ℕ = n % 86400 in
    pairs_in_word (year_of day / 100 ∷ year_of day % 100 ∷ month_of day ∷ day_of_month day ∷ second / 3600 ∷ second / 60 % 60 ∷ second % 60 ∷ [])

-- ---- octets in quotes

plain_in_quotes : (b : ℕ) (t : List ℕ) → (b == 34) ≡ false → (b == 10) ≡ false → (b == 92) ≡ false → IsInQuotes false t → IsInQuotes false (b ∷ t)
plain_in_quotes b t quote feed backslash more = (quote, feed, subst (λ (e : Bool). IsInQuotes e t) (sym backslash) more)

digit_in_quotes : (d : ℕ) (t : List ℕ) → d < 10 → IsInQuotes false t → IsInQuotes false ((48 + d) ∷ t)
digit_in_quotes d t h more = plain_in_quotes (48 + d) t (grind (arith, nat_tests)) (no_feed d) (grind (arith, nat_tests)) more

octet_in_quotes : (b : ℕ) (t : List ℕ) → b < 256 → IsInQuotes false t → IsInQuotes false (escaped_octet b ++ t)
octet_in_quotes b t small more = by (b == 34) refl (b == 92) refl (nat_le 32 b && nat_le b 126) refl
  where
    behind_backslash : (b == 10) ≡ false → (b == 13) ≡ false → IsInQuotes false (92 ∷ b ∷ t)
    behind_backslash feed carriage = (refl, refl, (feed, carriage, more))

    by : (q : Bool) → (b == 34) ≡ q → (s : Bool) → (b == 92) ≡ s → (p : Bool) → (nat_le 32 b && nat_le b 126) ≡ p
        → IsInQuotes false (cond (q || s) (92 ∷ b ∷ []) (cond p (b ∷ []) (92 ∷ three_digits b)) ++ t)
    by true e s f p g = behind_backslash (grind (arith, nat_tests)) (grind (arith, nat_tests))
    by false e true f p g = behind_backslash (grind (arith, nat_tests)) (grind (arith, nat_tests))
    by false e false f true g = plain_in_quotes b t e (grind (arith, nat_tests, leb_tells)) f more
    by false e false f false g = (
      refl,
      refl,
      (
        no_feed (b / 100),
        no_carriage (b / 100),
        digit_in_quotes (b / 10 % 10) ((48 + b % 10) ∷ t) (omega arith) (digit_in_quotes (b % 10) t (omega arith) more),
      ),
    )

pub quoted_is_text : (os : List ℕ) → AllByRecursion (λ b. b < 256) os → IsInQuotes false (escaped os)
quoted_is_text [] h = tt
quoted_is_text (b ∷ os) h = octet_in_quotes b (escaped os) h.0 (quoted_is_text os h.1)

-- ---- letters and digits

alphanumeric_harmless : (b : ℕ) → is_ascii_alphanumeric b ≡ true → IsHarmless b
alphanumeric_harmless b h = harmless b (grind (arith, nat_tests, leb_tells)) (grind (arith, nat_tests, leb_tells)) (grind (arith, nat_tests, leb_tells))

alphanumeric_itself : (b : ℕ) → is_ascii_alphanumeric b ≡ true → escaped_octet b ≡ b ∷ []
alphanumeric_itself b h =
    let quote : (b == 34) ≡ false = grind (arith, nat_tests, leb_tells) in
    let backslash : (b == 92) ≡ false = grind (arith, nat_tests, leb_tells) in
    let low : nat_le 32 b ≡ true = grind (arith, leb_tells) in
    let high : nat_le b 126 ≡ true = grind (arith, leb_tells) in
    rw (quote, backslash, low, high) refl

pub tag_itself : (os : List ℕ) → list_all is_ascii_alphanumeric os ≡ true → escaped os ≡ os
tag_itself [] h = refl
tag_itself (b ∷ os) h =
    let both = and_both (is_ascii_alphanumeric b) (list_all is_ascii_alphanumeric os) h in
    ap (λ (t : List ℕ). t ++ escaped os) (alphanumeric_itself b both.0) ∙ ap (λ (t : List ℕ). b ∷ t) (tag_itself os both.1)

pub tag_in_word : (os : List ℕ) → list_all is_ascii_alphanumeric os ≡ true → IsInWord false os
tag_in_word [] h = tt
tag_in_word (b ∷ os) h =
    let both = and_both (is_ascii_alphanumeric b) (list_all is_ascii_alphanumeric os) h in
    harmless_in_word b os (alphanumeric_harmless b both.0) (tag_in_word os both.1)

pub tag_plain : (b : ℕ) (os : List ℕ) → list_all is_ascii_alphanumeric (b ∷ os) ≡ true → (b == 92) ≡ false
tag_plain b os h = (alphanumeric_harmless b (and_both (is_ascii_alphanumeric b) (list_all is_ascii_alphanumeric os) h).0).backslash

pub dot_is_text : IsBareText (46 ∷ [])
dot_is_text = harmless_in_word 46 [] dot_harmless tt
