-- One frame: what is read where octets begin with one, and where they don't
use Rattle.std.proofs.Common.{◌≡◌, ◌≢◌, ℕ, zero, suc, ◌+◌, ◌*◌, ◌/◌, ◌%◌, ◌^◌, ◌<◌, ◌≤◌, List, [], ◌∷◌, ◌++◌, length, take, drop, refl, sym, ap, ◌∙◌, arith, Bool, true, false, length-append, append_assoc, get_or, ◌⊎◌, inl, inr}
use Rattle.std.specs.Prelude.{nat_le, nat_eq, if◌then◌else◌, Option, Some, None, unwrap_or}
use Rattle.std.specs.Cmp.Lexicographic.{pointwise}
use Rattle.std.proofs.lemmas.Bool.Decides.{leb_tells}
use Rattle.std.proofs.lemmas.Bool.{le-leb, lt-leb}
use Rattle.std.proofs.lemmas.List.{take-append-drop, length-take-le, take_at, drop_at}
use Rattle.std.proofs.Math.Seq.{take-append_seam, drop-append_seam}
use Rattle.journal_frames.specs.Frames.{checksum, confirmed, frame_at, framed, message_of, number_octets}
use Rattle.journal_frames.proofs.Checksums.{length-checksum, same_octets, octets_same, octets_differ}

-- ---- numbers in four octets

pub whole_number : (n : ℕ) → n < 2 ^ 32 → n / 0x1000000 * 0x1000000 + n / 0x10000 % 256 * 0x10000 + n / 0x100 % 256 * 0x100 + n % 256 ≡ n
whole_number n h = omega arith

-- four octets and their number
pub octets_of_number : (a b c d n : ℕ) → b < 256 → c < 256 → d < 256 → n ≡ a * 0x1000000 + b * 0x10000 + c * 0x100 + d
    → (n / 0x1000000 ≡ a) × (n / 0x10000 % 256 ≡ b) × (n / 0x100 % 256 ≡ c) × (n % 256 ≡ d)
octets_of_number a b c d n hb hc hd e = (omega arith, omega arith, omega arith, omega arith)

-- ---- a message behind its checksum

module _ (sum m behind : List ℕ) (long : length sum ≡ 32) where
  all : List ℕ
  all = sum ++ (m ++ behind)

  sum_front : take 32 (sum ++ (m ++ behind)) ≡ sum
  sum_front = take_at sum (m ++ behind) 32 long

  sum_back : drop 32 (sum ++ (m ++ behind)) ≡ m ++ behind
  sum_back = drop_at sum (m ++ behind) 32 long

  fits : nat_le (32 + length m) (length (sum ++ (m ++ behind))) ≡ true
  fits = le-leb _ _ (let e = length-append sum (m ++ behind) in let f = length-append m behind in omega (arith, e, f, long))

  -- what is read is confirmed
  pub read_behind : message_of (length m) (sum ++ (m ++ behind)) ≡ confirmed sum m behind
  read_behind =
      ap (λ b. if b then confirmed (take 32 (sum ++ (m ++ behind))) (take (length m) (drop 32 (sum ++ (m ++ behind)))) (drop (length m) (drop 32 (sum ++ (m ++ behind)))) else None) fits
      ∙ ap (λ x. confirmed x (take (length m) (drop 32 (sum ++ (m ++ behind)))) (drop (length m) (drop 32 (sum ++ (m ++ behind))))) sum_front
      ∙ ap (λ x. confirmed sum (take (length m) x) (drop (length m) x)) sum_back
      ∙ ap (λ x. confirmed sum x (drop (length m) (m ++ behind))) (take-append_seam m behind)
      ∙ ap (λ x. confirmed sum m x) (drop-append_seam m behind)

pub whole_message : (m behind : List ℕ) → message_of (length m) (checksum m ++ (m ++ behind)) ≡ Some (m, behind)
whole_message m behind =
    read_behind (checksum m) m behind (length-checksum m)
    ∙ ap (λ b. if b then Some (m, behind) else None) (same_octets (checksum m))

pub short_message : (n : ℕ) (octets : List ℕ) → length octets < 32 + n → message_of n octets ≡ None
short_message n octets h =
    ap (λ b. if b then confirmed (take 32 octets) (take n (drop 32 octets)) (drop n (drop 32 octets)) else None) (lt-leb (32 + n) (length octets) h)

-- ---- a whole frame in front

frame_parts : (m behind : List ℕ) → framed m ++ behind ≡ number_octets (length m) ++ (checksum m ++ (m ++ behind))
frame_parts m behind = ap (λ x. number_octets (length m) ++ x) (append_assoc (checksum m) m behind)

pub whole_frame : (m behind : List ℕ) → length m < 2 ^ 32 → frame_at (framed m ++ behind) ≡ Some (m, behind)
whole_frame m behind h =
    ap frame_at (frame_parts m behind)
    ∙ ap (λ n. message_of n (checksum m ++ (m ++ behind))) (whole_number (length m) h)
    ∙ whole_message m behind

-- ---- one that was written wrongly

pub torn_frame : (m torn : List ℕ) → length m < 2 ^ 32 → checksum (take (length m) torn) ≢ checksum m
    → frame_at (number_octets (length m) ++ (checksum m ++ torn)) ≡ None
torn_frame m torn h differ =
    ap (λ n. message_of n (checksum m ++ torn)) (whole_number (length m) h) ∙ by (leb_tells (length m) (length torn))
  where
    by : ((nat_le (length m) (length torn) ≡ true) × (length m ≤ length torn)) ⊎ ((nat_le (length m) (length torn) ≡ false) × (length torn < length m)) → message_of (length m) (checksum m ++ torn) ≡ None
    by (inr short) = short_message (length m) (checksum m ++ torn) (let e = length-append (checksum m) torn in let l = length-checksum m in let s : length torn < length m = short.1 in omega (arith, e, l, s))
    by (inl long) =
        let n = length m in
        let front = take n torn in
        let back = drop n torn in
        let count : length front ≡ n = length-take-le n torn long.1 in
        ap (λ x. message_of n (checksum m ++ x)) (sym (take-append-drop n torn))
        ∙ ap (λ k. message_of k (checksum m ++ (front ++ back))) (sym count)
        ∙ read_behind (checksum m) front back (length-checksum m)
        ∙ ap (λ b. if b then Some (front, back) else None) (octets_differ (checksum m) (checksum front) (λ e. differ (sym e)))

-- ---- and one that isn't whole

pub length-framed : (m : List ℕ) → length (framed m) ≡ 36 + length m
length-framed m =
    let e = length-append (checksum m) m in
    let l = length-checksum m in
    let s : length (framed m) ≡ suc (suc (suc (suc (length (checksum m ++ m))))) = refl in
    omega (arith, e, l, s)

pub short_frame : (m : List ℕ) (k : ℕ) → length m < 2 ^ 32 → k < length (framed m) → frame_at (take k (framed m)) ≡ None
short_frame m zero u h = refl
short_frame m (suc zero) u h = refl
short_frame m (suc (suc zero)) u h = refl
short_frame m (suc (suc (suc zero))) u h = refl
short_frame m (suc (suc (suc (suc k)))) u h =
    let l = length-framed m in
    let long = length-append (checksum m) m in
    let c = length-checksum m in
    let cut : length (take k (checksum m ++ m)) ≡ k = length-take-le k (checksum m ++ m) (omega (arith, l, long, c, h)) in
    ap (λ n. message_of n (take k (checksum m ++ m))) (whole_number (length m) u)
    ∙ short_message (length m) (take k (checksum m ++ m)) (omega (arith, cut, l, h))

-- ---- octets that begin with a frame

abbrev chosen : Bool → List ℕ → List ℕ → Option (List ℕ × List ℕ)
chosen b m behind = if b then Some (m, behind) else None

confirmed_is : (sum m behind m' behind' : List ℕ) → confirmed sum m behind ≡ Some (m', behind') → (sum ≡ checksum m) × (m ≡ m') × (behind ≡ behind')
confirmed_is sum m behind m' behind' h = by (pointwise nat_eq sum (checksum m)) refl h
  where
    by : (b : Bool) → pointwise nat_eq sum (checksum m) ≡ b → chosen b m behind ≡ Some (m', behind') → (sum ≡ checksum m) × (m ≡ m') × (behind ≡ behind')
    by true e g = (
      octets_same sum (checksum m) e,
      ap (λ (o : Option (List ℕ × List ℕ)). (unwrap_or o ([], [])).0) g,
      ap (λ (o : Option (List ℕ × List ℕ)). (unwrap_or o ([], [])).1) g,
    )
    by false e g = absurd cc

message_is : (n : ℕ) (octets m behind : List ℕ) → message_of n octets ≡ Some (m, behind) → (length m ≡ n) × (octets ≡ checksum m ++ (m ++ behind))
message_is n octets m behind h = by (leb_tells (32 + n) (length octets)) h
  where
    by : ((nat_le (32 + n) (length octets) ≡ true) × (32 + n ≤ length octets)) ⊎ ((nat_le (32 + n) (length octets) ≡ false) × (length octets < 32 + n)) → message_of n octets ≡ Some (m, behind) → (length m ≡ n) × (octets ≡ checksum m ++ (m ++ behind))
    by (inr short) h = let no : None ≡ Some (m, behind) = sym (short_message n octets short.1) ∙ h in absurd cc
    by (inl long) h =
        let sum = take 32 octets in
        let rest = drop 32 octets in
        let whole : octets ≡ sum ++ rest = sym (take-append-drop 32 octets) in
        let count : length sum ≡ 32 = length-take-le 32 octets (let l : 32 + n ≤ length octets = long.1 in omega (arith, l)) in
        let left : length octets ≡ length sum + length rest = ap length whole ∙ length-append sum rest in
        let inside : n ≤ length rest = (let l : 32 + n ≤ length octets = long.1 in omega (arith, l, left, count)) in
        let is = confirmed_is sum (take n rest) (drop n rest) m behind (sym (ap (λ b. if b then confirmed sum (take n rest) (drop n rest) else None) long.0) ∙ h) in
        let front : take n rest ≡ m = is.1 in
        let back : drop n rest ≡ behind = is.2 in (
          ap length (sym front) ∙ length-take-le n rest inside,
          whole ∙ ap (λ x. x ++ rest) (is.0 ∙ ap checksum front)
              ∙ ap (λ x. checksum m ++ x) (sym (take-append-drop n rest) ∙ ap (λ x. x ++ drop n rest) front ∙ ap (λ x. m ++ x) back),
        )

-- octets in front of which a frame is read begin with it
pub frame_is : (octets m behind : List ℕ) → ((i : ℕ) → get_or octets i 0 < 256) → frame_at octets ≡ Some (m, behind) → octets ≡ framed m ++ behind
frame_is [] m behind b h = absurd cc
frame_is (x ∷ []) m behind b h = absurd cc
frame_is (x ∷ y ∷ []) m behind b h = absurd cc
frame_is (x ∷ y ∷ z ∷ []) m behind b h = absurd cc
frame_is (x ∷ y ∷ z ∷ w ∷ rest) m behind b h =
    let n = x * 0x1000000 + y * 0x10000 + z * 0x100 + w in
    let is = message_is n rest m behind h in
    let digits = octets_of_number x y z w (length m) (b 1) (b 2) (b 3) is.0 in
    ap (λ (q : ℕ). q ∷ y ∷ z ∷ w ∷ rest) (sym digits.0)
    ∙ ap (λ (q : ℕ). (length m / 0x1000000) ∷ q ∷ z ∷ w ∷ rest) (sym digits.1)
    ∙ ap (λ (q : ℕ). (length m / 0x1000000) ∷ (length m / 0x10000 % 256) ∷ q ∷ w ∷ rest) (sym digits.2)
    ∙ ap (λ (q : ℕ). (length m / 0x1000000) ∷ (length m / 0x10000 % 256) ∷ (length m / 0x100 % 256) ∷ q ∷ rest) (sym digits.3)
    ∙ ap (λ x. number_octets (length m) ++ x) is.1
    ∙ sym (frame_parts m behind)

-- what is behind a frame is shorter
pub behind_shorter : (octets m behind : List ℕ) → frame_at octets ≡ Some (m, behind) → length behind < length octets
behind_shorter [] m behind h = absurd cc
behind_shorter (x ∷ []) m behind h = absurd cc
behind_shorter (x ∷ y ∷ []) m behind h = absurd cc
behind_shorter (x ∷ y ∷ z ∷ []) m behind h = absurd cc
behind_shorter (x ∷ y ∷ z ∷ w ∷ rest) m behind h =
    let is = message_is (x * 0x1000000 + y * 0x10000 + z * 0x100 + w) rest m behind h in
    let long : length rest ≡ length (checksum m) + length (m ++ behind) = ap length is.1 ∙ length-append (checksum m) (m ++ behind) in
    let more : length (m ++ behind) ≡ length m + length behind = length-append m behind in
    omega (arith, long, more)
