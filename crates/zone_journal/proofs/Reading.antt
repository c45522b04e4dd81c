-- Records grouped one after the other
use Rattle.std.proofs.Common.{◌≡◌, true, false, true≢false, ◌==◌, List, [], ◌∷◌, length, refl, sym, ap, ◌∙◌}
use Rattle.std.specs.Prelude.{Option, Some, None, unwrap_or}
use Rattle.std.proofs.Math.Dec.{eqb-suc-zero}
use Rattle.zone_proto.specs.Data.{type_of}
use Rattle.zone_proto.specs.Sets.{RRset, appended, empty_set, inserted}
use Rattle.zone_proto.specs.declared.record.Record.{Record}
use Rattle.message_reading.specs.Octets.{◌>>=◌}
use Rattle.shown_zones.proofs.Copied.{inserted_alone}
use Rattle.zone_journal.specs.Grouping.{Grouped, all_sets, begun, grouped, joined, sets_in, with_record}

-- the next record may not stand there
pub none_more : (g : Grouped) (before left rs : List Record) (r : Record) → before ≡ r ∷ left → None ≡ with_record g r → grouped g before ≡ grouped ([], None) rs
    → None ≡ sets_in rs
unfolding grouped
none_more g before left rs r is none h =
    ap (λ (o : Option Grouped). o >>= λ n. Some (all_sets n)) (ap (λ (o : Option Grouped). o >>= λ n. grouped n left) none ∙ ap (grouped g) (sym is) ∙ h)

-- or it may
pub some_more : (g n : Grouped) (before left rs : List Record) (r : Record) → before ≡ r ∷ left → Some n ≡ with_record g r → grouped g before ≡ grouped ([], None) rs
    → grouped n left ≡ grouped ([], None) rs
unfolding grouped
some_more g n before left rs r is some h =
    ap (λ (o : Option Grouped). o >>= λ m. grouped m left) some ∙ ap (grouped g) (sym is) ∙ h

-- the records are over
pub all_read : (g : Grouped) (left rs : List Record) → left ≡ [] → grouped g left ≡ grouped ([], None) rs → Some (all_sets g) ≡ sets_in rs
unfolding grouped
all_read g left rs none h = ap (λ (o : Option Grouped). o >>= λ n. Some (all_sets n)) (ap (grouped g) (sym none) ∙ h)

-- the set that a record begins
pub begun_is : (s new : RRset) (r : Record) → s ≡ empty_set r.name (type_of r.rdata) 0 → new ≡ unwrap_or (inserted s r 0) s → new ≡ begun r
begun_is s new r is after =
    after ∙ ap (λ o. unwrap_or o s) (inserted_alone s r (ap (λ (t : RRset). t.records) is)) ∙ ap (λ (t : RRset). appended t r 0) is

-- behind signatures there comes no record of the set
pub signed_refused : (sigs : List Record) (s : RRset) (r : Record) → (length sigs == 0) ≡ false → joined sigs s r ≡ None
signed_refused [] s r h = absurd (true≢false h)
signed_refused (x ∷ xs) s r h = refl

-- where there are none, it is inserted
pub unsigned : (sigs : List Record) (s : RRset) (r : Record) → (length sigs == 0) ≡ true → joined sigs s r ≡ inserted s r 0
unsigned [] s r h = refl
unsigned (x ∷ xs) s r h = absurd (true≢false (sym h ∙ eqb-suc-zero (length xs)))
