-- How the program reads a text, octet by octet from the left. No public call of this crate is about it: what is read is
-- said by the text form, in `TextForm`.
use Rattle.std.specs.Prelude.{ℕ, ◌+◌, ◌*◌, ◌-◌, ◌++◌, List, [], ◌∷◌, ◌&&◌, ◌==◌, nat_le, if◌then◌else◌, Option, Some, None}
use Rattle.zone_proto.specs.Names.{Name, Label}
use Rattle.zone_proto.specs.TextForm.{dot, backslash, is_digit, is_graphic}
use Rattle.zone_proto.specs.declared.parser.Mode.{Mode}
use Rattle.zone_proto.specs.declared.parser.Mode.TheVariants.{Start, AfterDot, InLabel, Escaped, OneDigit, TwoDigits}

-- what has been read: where the reader stands, the labels before the current one, and the current label's octets so
-- far. It is at the start of the text, after a dot, after an octet of a label, after a backslash, or after a backslash
-- and one or two digits of this value
pub record Reader : Type 0 where
  pub mode : Mode
  pub labels : List Label
  pub label : Label

abbrev pub start : Reader
start = record { mode = Start; labels = []; label = [] }

-- the current label has one more octet
abbrev pub with_octet : Reader → ℕ → Reader
with_octet r b = record { mode = InLabel; labels = r.labels; label = r.label ++ b ∷ [] }

-- an octet that no backslash comes before: a dot ends the label, a backslash begins an escape, and any other graphic
-- octet is itself
abbrev pub plain_step : Reader → ℕ → Option Reader
plain_step r b =
    if b == dot then Some (record { mode = AfterDot; labels = r.labels ++ r.label ∷ []; label = [] })
    else (if b == backslash then Some (record { mode = Escaped; labels = r.labels; label = r.label })
    else (if is_graphic b then Some (with_octet r b) else None))

-- the next octet, by where the reader stands: after a backslash come three digits of value at most 255, which are that
-- octet, or another graphic octet, which is itself
abbrev pub step_in : Mode → Reader → ℕ → Option Reader
step_in Start r b = plain_step r b
step_in AfterDot r b = plain_step r b
step_in InLabel r b = plain_step r b
step_in Escaped r b =
    if is_digit b then Some (record { mode = OneDigit (b - 48); labels = r.labels; label = r.label })
    else (if is_graphic b then Some (with_octet r b) else None)
step_in (OneDigit a) r b = if is_digit b then Some (record { mode = TwoDigits (10 * a + (b - 48)); labels = r.labels; label = r.label }) else None
step_in (TwoDigits a) r b = if is_digit b && nat_le (10 * a + (b - 48)) 255 then Some (with_octet r (10 * a + (b - 48))) else None

-- the end of the text: the final dot may be there or not, an empty text and a broken escape are no name
abbrev pub labels_at_end : Mode → Reader → Option Name
labels_at_end Start r = None
labels_at_end AfterDot r = Some r.labels
labels_at_end InLabel r = Some (r.labels ++ r.label ∷ [])
labels_at_end Escaped r = None
labels_at_end (OneDigit a) r = None
labels_at_end (TwoDigits a) r = None

abbrev pub next_or_none : Option Reader → (Reader → Option Name) → Option Name
next_or_none None f = None
next_or_none (Some r) f = f r

-- the labels of the rest of a text, after what has been read
abbrev pub read_on : List ℕ → Reader → Option Name
read_on [] r = labels_at_end r.mode r
read_on (b ∷ s) r = next_or_none (step_in r.mode r b) (read_on s)

-- the labels that a text spells, if it is well formed; a dot alone is the root
abbrev pub labels_of_text : List ℕ → Option Name
labels_of_text [] = None
labels_of_text (b ∷ []) = if b == dot then Some [] else read_on (b ∷ []) start
labels_of_text (b ∷ c ∷ s) = read_on (b ∷ c ∷ s) start
