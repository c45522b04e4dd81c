-- What is read where pointers stand only where they may is read by any reader
use Rattle.std.proofs.Common.{◌≡◌, ℕ, zero, suc, Bool, true, false, cond, eqb, ◌||◌, List, [], ◌∷◌, Option, Some, None, refl, ap, arith, true≢false}
use Rattle.zone_proto.specs.Names.{Name}
use Rattle.zone_proto.specs.Types.{has_own_case}
use Rattle.zone_proto.specs.declared.record.Record.{Record}
use Rattle.zone_proto.specs.declared.rdata.RData.{RData}
use Rattle.zone_proto.specs.declared.rdata.RData.TheVariants as V
use Rattle.message_reading.specs.Octets.{◌>>=◌, short_of, octets_of, alone, past, offset_of}
use Rattle.message_reading.specs.MessageNames.{name_of}
use Rattle.message_reading.specs.OtherForms.{form_of, in_form}
use Rattle.message_reading.specs.DataForms.{data_of, data_by, own_data_of, srv_of}
use Rattle.message_reading.specs.Messages.{several, record_of, fields_of}
use Rattle.message_writing.specs.StrictReading.{may_have_pointers, message_for, strict_record_of}
use Rattle.message_writing.proofs.Steps.{bind_some}
use Rattle.message_writing.proofs.OthersBack.{name_anywhere, form_anywhere}

-- ---- SRV

alone_is : (x : Option (Name × List ℕ)) (n : Name) → alone x ≡ Some n → x ≡ Some (n, [])
alone_is None n e = absurd cc
alone_is (Some (y, [])) n e = let same : y ≡ n = cc in ap (λ z. Some (z, [])) same
alone_is (Some (y, b ∷ rest)) n e = absurd cc

abbrev srv : ℕ → ℕ → ℕ → Name → RData
srv p w q n = V.SRV (record { priority = p; weight = w; port = q; target = n })

-- what follows the port, and behind the priority, of octets at an offset
abbrev with_target : ℕ → List ℕ → ℕ → ℕ → ℕ × List ℕ → Option RData
with_target at octets p w q = alone (name_of [] (past at octets q.1) q.1) >>= λ n. Some (srv p w q.0 n)

abbrev with_weight : ℕ → List ℕ → ℕ → ℕ × List ℕ → Option RData
with_weight at octets p w = short_of w.1 >>= λ q. with_target at octets p w.0 q

srv_anywhere : (m : List ℕ) (at : ℕ) (octets : List ℕ) (d : RData) → srv_of [] at octets ≡ Some d → srv_of m at octets ≡ Some d
unfolding srv_of
srv_anywhere m at octets d e =
    let priority = bind_some (short_of octets) (λ p. short_of p.1 >>= λ w. with_weight at octets p.0 w) d e in
    let weight = bind_some (short_of priority.0.1) (λ w. with_weight at octets priority.0.0 w) d priority.2 in
    let port = bind_some (short_of weight.0.1) (λ q. with_target at octets priority.0.0 weight.0.0 q) d weight.2 in
    let place = past at octets port.0.1 in
    let target = bind_some (alone (name_of [] place port.0.1)) (λ n. Some (srv priority.0.0 weight.0.0 port.0.0 n)) d port.2 in
    let name = name_anywhere m place place port.0.1 (target.0, []) (omega arith) (alone_is (name_of [] place port.0.1) target.0 target.1) in
    rw (priority.1, weight.1, port.1, name) target.2

-- ---- data

neither : (a b : Bool) → (a || b) ≡ false → (a ≡ false) × (b ≡ false)
neither true b e = absurd (true≢false e)
neither false b e = (refl, e)

-- of the cases of a nest, those that may have pointers are left out, and that of SRV is as it was
pick : (a aaaa ns cname aname soa mx srv : Bool) (x₁ x₂ n n' c c' x₃ s s' p p' v v' rest y : Option RData) → ns ≡ false → cname ≡ false → soa ≡ false
    → mx ≡ false → (v ≡ y → v' ≡ y)
    → cond a x₁ (cond aaaa x₂ (cond ns n (cond cname c (cond aname x₃ (cond soa s (cond mx p (cond srv v rest))))))) ≡ y
    → cond a x₁ (cond aaaa x₂ (cond ns n' (cond cname c' (cond aname x₃ (cond soa s' (cond mx p' (cond srv v' rest))))))) ≡ y
pick true aaaa ns cname aname soa mx srv x₁ x₂ n n' c c' x₃ s s' p p' v v' rest y h₁ h₂ h₃ h₄ h e = e
pick false true ns cname aname soa mx srv x₁ x₂ n n' c c' x₃ s s' p p' v v' rest y h₁ h₂ h₃ h₄ h e = e
pick false false true cname aname soa mx srv x₁ x₂ n n' c c' x₃ s s' p p' v v' rest y h₁ h₂ h₃ h₄ h e = absurd (true≢false h₁)
pick false false false true aname soa mx srv x₁ x₂ n n' c c' x₃ s s' p p' v v' rest y h₁ h₂ h₃ h₄ h e = absurd (true≢false h₂)
pick false false false false true soa mx srv x₁ x₂ n n' c c' x₃ s s' p p' v v' rest y h₁ h₂ h₃ h₄ h e = e
pick false false false false false true mx srv x₁ x₂ n n' c c' x₃ s s' p p' v v' rest y h₁ h₂ h₃ h₄ h e = absurd (true≢false h₃)
pick false false false false false false true srv x₁ x₂ n n' c c' x₃ s s' p p' v v' rest y h₁ h₂ h₃ h₄ h e = absurd (true≢false h₄)
pick false false false false false false false true x₁ x₂ n n' c c' x₃ s s' p p' v v' rest y h₁ h₂ h₃ h₄ h e = h e
pick false false false false false false false false x₁ x₂ n n' c c' x₃ s s' p p' v v' rest y h₁ h₂ h₃ h₄ h e = e

own_anywhere : (t : ℕ) (m : List ℕ) (at : ℕ) (text : List ℕ) (d : RData) → may_have_pointers t ≡ false → own_data_of t [] at text ≡ Some d
    → own_data_of t m at text ≡ Some d
unfolding own_data_of
own_anywhere t m at text d none e =
    let ns = neither (eqb t 2) (eqb t 5 || (eqb t 6 || eqb t 15)) none in
    let cname = neither (eqb t 5) (eqb t 6 || eqb t 15) ns.1 in
    let soa = neither (eqb t 6) (eqb t 15) cname.1 in
    pick (eqb t 1) (eqb t 28) (eqb t 2) (eqb t 5) (eqb t 65305) (eqb t 6) (eqb t 15) (eqb t 33) _ _ _ _ _ _ _ _ _ _ _ _ _ _ (Some d)
    ns.0 cname.0 soa.0 soa.1 (srv_anywhere m at text d) e

plain_anywhere : (t : ℕ) (m : List ℕ) (at : ℕ) (text : List ℕ) (d : RData) → may_have_pointers t ≡ false → data_of t [] at text ≡ Some d
    → data_of t m at text ≡ Some d
unfolding data_of
plain_anywhere t m at text d none = by (has_own_case t) refl
  where
    by : (b : Bool) (own : has_own_case t ≡ b) → data_by t [] at text b own ≡ Some d → data_by t m at text b own ≡ Some d
    by true own e = own_anywhere t m at text d none e
    by false own e =
        let plain = bind_some (in_form (form_of t) [] at text) _ d e in
        rw (form_anywhere (form_of t) m at at text plain.0 (omega arith) plain.1) plain.2

pub loosened : (t : ℕ) (m : List ℕ) (at : ℕ) (text : List ℕ) (d : RData) → data_of t (message_for t m) at text ≡ Some d → data_of t m at text ≡ Some d
loosened t m at text d = by (may_have_pointers t) refl
  where
    by : (b : Bool) → may_have_pointers t ≡ b → data_of t (cond b m []) at text ≡ Some d → data_of t m at text ≡ Some d
    by true is e = e
    by false is e = plain_anywhere t m at text d is e

-- ---- records

pub record_loosened : (m octets : List ℕ) (x : Record × List ℕ) → strict_record_of m octets ≡ Some x → record_of m octets ≡ Some x
unfolding strict_record_of record_of
record_loosened m octets x e =
    let owner = bind_some (name_of m (offset_of m octets) octets) _ x e in
    let fields = bind_some (fields_of owner.0.1) _ x owner.2 in
    let text = bind_some (octets_of fields.0.0.count fields.0.1) _ x fields.2 in
    let t = fields.0.0.record_type.0 in
    let at = offset_of m fields.0.1 in
    let rdata = bind_some (data_of t (message_for t m) at text.0.0) _ x text.2 in
    rw (owner.1, fields.1, text.1, loosened t m at text.0.0 rdata.0 rdata.1) rdata.2

-- so many records, where each of them is
several_by : (read read' : List ℕ → Option (Record × List ℕ)) → ((s : List ℕ) (x : Record × List ℕ) → read s ≡ Some x → read' s ≡ Some x)
    → (n : ℕ) (s : List ℕ) (x : List Record × List ℕ) → several read n s ≡ Some x → several read' n s ≡ Some x
unfolding several
several_by read read' h zero s x e = e
several_by read read' h (suc n) s x e =
    let first = bind_some (read s) (λ f. several read n f.1 >>= λ others. Some (f.0 ∷ others.0, others.1)) x e in
    let second = bind_some (several read n first.0.1) (λ others. Some (first.0.0 ∷ others.0, others.1)) x first.2 in
    rw (h s first.0 first.1, several_by read read' h n first.0.1 second.0 second.1) second.2

pub all_loosened : (m : List ℕ) (n : ℕ) (s : List ℕ) (x : List Record × List ℕ) → several (strict_record_of m) n s ≡ Some x
    → several (record_of m) n s ≡ Some x
all_loosened m = several_by (strict_record_of m) (record_of m) (record_loosened m)
