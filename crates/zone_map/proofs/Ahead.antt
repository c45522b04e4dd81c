-- A pass over keys that ascend
use Rattle.std.proofs.Common.{◌≡◌, Bool, true, false, List, [], ◌∷◌, refl, sym, ap, ◌∙◌, Ordering, Less, Equal, Greater}
use Rattle.std.specs.Prelude.{◌||◌}
use Rattle.std.specs.List.{AllByRecursion, list_any}
use Rattle.std.specs.List.Sorted.{IsStrictlySortedBy}
use Rattle.std.specs.Ordering.{is_eq, is_le}
use Rattle.std.proofs.lemmas.Map.Keys.{sorted_head}
use Rattle.zone_proto.specs.declared.rr_key.RrKey.{RrKey}
use Rattle.zone_proto.specs.Keys.{key_cmp, key_eq}
use Rattle.zone_proto.specs.Order.{is_upto}
use Rattle.zone_proto.proofs.Ordering.KeyOrder.{key_same, key_itself}
use Rattle.zone_map.proofs.Stored.{all_above}

-- a key that comes before another is none of those from there on
pub passed : (first k q : RrKey) (others : List RrKey) → is_upto key_cmp k first ≡ false → is_upto key_cmp k q ≡ true → list_any (key_eq q) (first ∷ others) ≡ list_any (key_eq q) others
passed first k q others before from = by (key_eq q first) refl
  where
    by : (b : Bool) → key_eq q first ≡ b → (b || list_any (key_eq q) others) ≡ list_any (key_eq q) others
    by true same =
        let no : true ≡ false = sym from ∙ ap (is_upto key_cmp k) (key_same q first same) ∙ before in
        absurd cc
    by false other = refl

pub none_above : (k : RrKey) (ks : List RrKey) → AllByRecursion (λ q. key_cmp k q ≡ Less) ks → list_any (key_eq k) ks ≡ false
none_above k [] a = refl
none_above k (q ∷ ks) a = ap (λ o. is_eq o || list_any (key_eq k) ks) a.0 ∙ none_above k ks a.1

-- of the keys from there on only the first may be the key itself
pub only_first : (first k : RrKey) (others : List RrKey) → IsStrictlySortedBy key_cmp (first ∷ others) → is_upto key_cmp k first ≡ true → list_any (key_eq k) (first ∷ others) ≡ key_eq k first
only_first first k others sorted upto = by (key_cmp k first) refl upto
  where
    by : (o : Ordering) → key_cmp k first ≡ o → is_le o ≡ true → (is_eq o || list_any (key_eq k) others) ≡ is_eq o
    by Less g h = none_above k others (all_above k first others g (sorted_head key_cmp first others sorted))
    by Equal g h = refl
    by Greater g h = absurd cc

pub upto_itself : (k : RrKey) → is_upto key_cmp k k ≡ true
upto_itself k = by (key_cmp k k) (key_itself k)
  where
    by : (o : Ordering) → is_eq o ≡ true → is_le o ≡ true
    by Less h = refl
    by Equal h = refl
    by Greater h = absurd cc

-- what a pass says of the keys behind one, it says of those behind the next
pub still_ahead : (k : RrKey) (ks before after : List RrKey) (stands : RrKey → Bool) → AllByRecursion (λ q. key_cmp k q ≡ Less) ks → AllByRecursion (λ q. list_any (key_eq q) before ≡ stands q) ks
    → ((q : RrKey) → key_cmp k q ≡ Less → list_any (key_eq q) after ≡ list_any (key_eq q) before) → AllByRecursion (λ q. list_any (key_eq q) after ≡ stands q) ks
still_ahead k [] before after stands above seen later = tt
still_ahead k (q ∷ ks) before after stands above seen later = (later q above.0 ∙ seen.0, still_ahead k ks before after stands above.1 seen.1 later)
