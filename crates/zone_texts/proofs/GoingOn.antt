-- Where reading goes on behind a fault
use Rattle.std.proofs.Common.{◌≡◌, ℕ, ◌<◌, ◌+◌, ◌∙◌, List, [], ◌∷◌, ◌++◌, length, take, get_or, Bool, false, inl, inr, refl, sym, ap, add-one, below_more}
use Rattle.std.specs.Prelude.{◌==◌, ◌&&◌, IsFalse, count_by, nat_le}
use Rattle.std.proofs.lemmas.Bool.Decides.{eqb_tells}
use Rattle.std.proofs.lemmas.List.{append-nil, get_or_default}
use Rattle.zone_scanner.specs.declared.fault.EntryFault.{EntryFault}
use Rattle.zone_scanner.specs.Entries.{Event, Broken}
use Rattle.zone_scanner.specs.Steps.{Reader, events_from}
use Rattle.zone_texts.specs.declared.reading.Next.{Next}
use Rattle.zone_texts.specs.declared.reading.Next.TheVariants as next
use Rattle.zone_texts.specs.GoingOn.{GoesOnAt, begins_entry, ends_line, fault_in, is_start}
use Rattle.zone_texts.specs.Parts.{GoesOnWith}

-- a part of a text goes on by the fault of its entries alone
pub goes_on_same : (es fs : List Event) (text : List ℕ) (x : Next) → fault_in es ≡ fault_in fs → GoesOnWith fs text x → GoesOnWith es text x
goes_on_same es fs text next.End same is = same ∙ is
goes_on_same es fs text (next.Cut count) same is = (is.0, (same ∙ is.1.0, is.1.1))
goes_on_same es fs text (next.Include x behind count) same is = same ∙ is

-- a text that breaks, whatever follows it, breaks as it is
pub breaks : (s text : List ℕ) (r : Reader) (f : EntryFault) → s ≡ text → ((more : List ℕ) → events_from (s ++ more) r ≡ Broken f ∷ []) → events_from text r ≡ Broken f ∷ []
breaks s text r f same broken = ap (λ (t : List ℕ). events_from t r) (sym same ∙ sym (append-nil s)) ∙ broken []

-- reading goes on by the line alone
pub on_line : (text : List ℕ) (line other at : ℕ) → GoesOnAt text other at → line ≡ other → GoesOnAt text line at
on_line text line other at on same = rw same on

-- whether reading may go on at a place, by what stands before it and there
pub starts_by : (text : List ℕ) (line at ended octet : ℕ) (begin : Bool) → at < length text → begin ≡ ends_line text at → ended ≡ count_by (λ b. b == 10) (take at text)
    → octet ≡ get_or text at 0
    → is_start text line at ≡ (begin && (nat_le line ended && begins_entry octet))
starts_by text line at ended octet begin inside begins counted is =
    let same : octet ≡ get_or text at 10 = is ∙ get_or_default text at 0 10 inside in
    rw (begins, counted, same) refl

-- at the next place a line has ended if this octet ends one
pub ends_here : (text : List ℕ) (at : ℕ) → (get_or text at 0 == 10) ≡ ends_line text (at + 1)
ends_here text at = ap (ends_line text) (sym (add-one at))

-- one place more at which reading doesn't go on
pub no_start_more : (text : List ℕ) (line at : ℕ) → ((earlier : ℕ) → earlier < at → IsFalse (is_start text line earlier)) → IsFalse (is_start text line at)
    → (earlier : ℕ) → earlier < at + 1 → IsFalse (is_start text line earlier)
no_start_more text line at before here = below_more (λ (k : ℕ). IsFalse (is_start text line k)) at before here

pub not_ten : (octet : ℕ) → (octet ≡ 10 → ⊥) → (octet == 10) ≡ false
not_ten octet other = elim (eqb_tells octet 10) [
  | inl is ↦ absurd (other is.1)
  | inr is ↦ is.0
]
