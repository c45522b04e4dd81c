-- Lists that are counted, and then written item after item
use Rattle.std.proofs.Common.{◌≡◌, ℕ, suc, ◌+◌, ◌-◌, ◌^◌, min, List, [], ◌∷◌, ◌++◌, length, codes, decimal, flat_map, append_assoc, append-nil, refl, sym, ap, ◌∙◌, arith, None}
use Rattle.std.specs.Fmt.{HasWritten}
use Rattle.std.specs.declared.fmt.Formatter.{Formatter}
use Rattle.std.proofs.Output.{has_written_append, has_written_of_eq}
use Rattle.std.proofs.lemmas.Fmt.{decimal_digit}
use Rattle.zone_handler.specs.declared.auth_lookup.AuthLookup.{AuthLookup}
use Rattle.zone_handler.specs.AuthLookup.{additionals_of}
use Rattle.zonectl_session.specs.Replies.{count_of, list_text, records_text}
use Rattle.zonectl_session.specs.Steps.{additionals_beside}

-- items were counted, up to a limit, and some are left
pub record Counting {A : Type 0} (all left : List A) (count : ℕ) : Type 0 where
  pub counted : min (count + length left) (2 ^ 64 - 1) ≡ count_of all
  pub small : min count (2 ^ 64 - 1) ≡ count

least : (m : ℕ) → min 0 m ≡ 0
least m = omega arith

none_more : (n m : ℕ) → min (0 + n) m ≡ min n m
none_more n m = omega arith

least_twice : (n m : ℕ) → min (min n m) m ≡ min n m
least_twice n m = omega arith

least_more : (a b m : ℕ) → min (min (a + 1) m + b) m ≡ min (a + suc b) m
least_more a b m = omega arith

pub counting_begun : {A : Type 0} (all left : List A) → left ≡ all → Counting all left 0
counting_begun all left is = record { counted = none_more (length left) (2 ^ 64 - 1) ∙ ap (λ xs. min (length xs) (2 ^ 64 - 1)) is; small = least (2 ^ 64 - 1) }

pub counting_more : {A : Type 0} (all left : List A) (x : A) (rest : List A) (count next : ℕ) → Counting all left count → left ≡ x ∷ rest → next ≡ min (count + 1) (2 ^ 64 - 1) → Counting all rest next
counting_more all left x rest count next h is is_next = record {
  counted =
      ap (λ n. min (n + length rest) (2 ^ 64 - 1)) is_next
      ∙ least_more count (length rest) (2 ^ 64 - 1)
      ∙ sym (ap (λ xs. min (count + length xs) (2 ^ 64 - 1)) is)
      ∙ h.counted;
  small = ap (λ n. min n (2 ^ 64 - 1)) is_next ∙ least_twice (count + 1) (2 ^ 64 - 1) ∙ sym is_next;
}

pub counting_done : {A : Type 0} (all left : List A) (count : ℕ) → Counting all left count → left ≡ [] → count ≡ count_of all
counting_done all left count h is =
    let zero_more : count ≡ count + 0 = omega arith in
    sym h.small ∙ ap (λ n. min n (2 ^ 64 - 1)) zero_more ∙ sym (ap (λ xs. min (count + length xs) (2 ^ 64 - 1)) is) ∙ h.counted

-- items on lines of their own
abbrev pub lines_of : {A : Type 0} → (A → List ℕ) → List A → List ℕ
lines_of text_of xs = flat_map (λ x. text_of x ++ codes "\n") xs

-- a word and the count come after a text, and then the items but those that are left
pub record Listing {A : Type 0} (word : List ℕ) (text_of : A → List ℕ) (all left : List A) (before after : List ℕ) : Type 0 where
  pub lines : after ++ lines_of text_of left ≡ before ++ list_text word text_of all

pub listing_begun : {A : Type 0} (word : List ℕ) (text_of : A → List ℕ) (all left : List A) (count : ℕ) (before after : List ℕ)
    → count ≡ count_of all → after ≡ before ++ (word ++ (codes " " ++ (decimal count ++ codes "\n"))) → left ≡ all → Listing word text_of all left before after
listing_begun word text_of all left count before after is_count is_text is = record {
  lines =
      ap (λ t. t ++ lines_of text_of left) is_text
      ∙ ap (λ xs. (before ++ (word ++ (codes " " ++ (decimal count ++ codes "\n")))) ++ lines_of text_of xs) is
      ∙ ap (λ n. (before ++ (word ++ (codes " " ++ (decimal n ++ codes "\n")))) ++ lines_of text_of all) is_count
      ∙ simp append_assoc;
}

pub listing_more : {A : Type 0} (word : List ℕ) (text_of : A → List ℕ) (all left : List A) (x : A) (rest : List A) (before after next : List ℕ)
    → Listing word text_of all left before after → left ≡ x ∷ rest → next ≡ after ++ (text_of x ++ codes "\n") → Listing word text_of all rest before next
listing_more word text_of all left x rest before after next h is is_next = record {
  lines =
      ap (λ t. t ++ lines_of text_of rest) is_next
      ∙ append_assoc after (text_of x ++ codes "\n") (lines_of text_of rest)
      ∙ sym (ap (λ xs. after ++ lines_of text_of xs) is)
      ∙ h.lines;
}

pub listing_done : {A : Type 0} (word : List ℕ) (text_of : A → List ℕ) (all left : List A) (before after : List ℕ)
    → Listing word text_of all left before after → left ≡ [] → after ≡ before ++ list_text word text_of all
listing_done word text_of all left before after h is = sym (append-nil after) ∙ sym (ap (λ xs. after ++ lines_of text_of xs) is) ∙ h.lines

-- the same of what was written by a formatter
pub record Showing {W : Type 0} (took : W → List ℕ → W → Type 0) {A : Type 0} (word : List ℕ) (text_of : A → List ℕ) (all left : List A) (f g : Formatter W) : Type 0 where
  pub text : List ℕ
  pub written : HasWritten took f text g
  pub lines : text ++ lines_of text_of left ≡ list_text word text_of all

pub showing_begun : {W : Type 0} (took : W → List ℕ → W → Type 0) {A : Type 0} (word : List ℕ) (text_of : A → List ℕ) (all left : List A) (count : ℕ) (f g : Formatter W) (text : List ℕ)
    → count ≡ count_of all → text ≡ word ++ (codes " " ++ (decimal count ++ codes "\n")) → HasWritten took f text g → left ≡ all → Showing took word text_of all left f g
showing_begun took word text_of all left count f g text is_count is_text wrote is = record {
  text = text;
  written = wrote;
  lines = (listing_begun word text_of all left count [] text is_count is_text is).lines;
}

pub showing_more : {W : Type 0} (took : W → List ℕ → W → Type 0) {A : Type 0} (word : List ℕ) (text_of : A → List ℕ) (all left : List A) (x : A) (rest : List A) (f g h : Formatter W)
    → Showing took word text_of all left f g → left ≡ x ∷ rest → HasWritten took g (text_of x ++ codes "\n") h → Showing took word text_of all rest f h
showing_more took word text_of all left x rest f g h shown is wrote = record {
  text = shown.text ++ (text_of x ++ codes "\n");
  written = has_written_append _ _ _ _ _ _ shown.written wrote;
  lines = (listing_more word text_of all left x rest [] shown.text (shown.text ++ (text_of x ++ codes "\n")) (record { lines = shown.lines }) is refl).lines;
}

pub showing_done : {W : Type 0} (took : W → List ℕ → W → Type 0) {A : Type 0} (word : List ℕ) (text_of : A → List ℕ) (all left : List A) (f g : Formatter W)
    → Showing took word text_of all left f g → left ≡ [] → HasWritten took f (list_text word text_of all) g
showing_done took word text_of all left f g shown is =
    has_written_of_eq _ _ _ _ _ (listing_done word text_of all left [] shown.text (record { lines = shown.lines }) is) shown.written

-- an answer without a section of additional records has none of them
pub none_beside : (found : AuthLookup) → additionals_of found ≡ None → records_text (codes "additional") (additionals_beside found) ≡ codes "additional 0\n"
none_beside found none = rw (none, decimal_digit 0 (omega arith))
