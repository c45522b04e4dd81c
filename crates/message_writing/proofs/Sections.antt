-- Groups put one behind the other: those that are required, up to the first that goes over, and those that merely help
use Rattle.std.proofs.Common.{◌≡◌, ℕ, ◌+◌, ◌<◌, true, List, [], ◌∷◌, ◌++◌, length, take, refl, sym, ap, subst, ◌∙◌, append_assoc, arith, inl, inr}
use Rattle.std.proofs.lemmas.List.{append-nil, length-append, length-map, take_more}
use Rattle.std.proofs.lemmas.Grind.{flat_map-append}
use Rattle.std.specs.Prelude.{get_or}
use Rattle.zone_proto.specs.declared.record.Record.{Record}
use Rattle.message_writing.specs.StrictReading.{strict_record_of}
use Rattle.message_writing.specs.declared.response.Group.{Group}
use Rattle.message_writing.specs.Continuing.{AppendsAll}
use Rattle.message_writing.specs.Outcomes.{IsPutWithin}
use Rattle.message_writing.specs.Responses.{GoesOver, AreHelpful, all_records, records_of, with_ttl}
use Rattle.message_writing.proofs.InOrder.{then_all}

-- ---- what is required

all_more : (gs : List Group) (i : ℕ) (g : Group) → i < length gs → g ≡ get_or gs i g → all_records (take (i + 1) gs) ≡ all_records (take i gs) ++ records_of g
all_more gs i g inside is =
    ap all_records (take_more gs i g inside ∙ ap (λ x. take i gs ++ x ∷ []) (sym is)) ∙ flat_map-append records_of (take i gs) (g ∷ [])
    ∙ ap (λ s. all_records (take i gs) ++ s) (append-nil (records_of g))

pub section_more : (gs : List Group) (i room : ℕ) (g : Group) (old mid new : List ℕ) → i < length gs → g ≡ get_or gs i g
    → AppendsAll strict_record_of old mid (all_records (take i gs)) → IsPutWithin room mid new (records_of g) true
    → AppendsAll strict_record_of old new (all_records (take (i + 1) gs))
section_more gs i room g old mid new inside is h put =
    subst (AppendsAll strict_record_of old new) (sym (all_more gs i g inside is))
    (then_all old mid new (all_records (take i gs)) (records_of g) h put.0)

-- how many records a group has
pub group_length : (g : Group) → length (records_of g) ≡ length g.records.now + length g.signatures.now
group_length g =
    omega (arith, length-map (g.records.now ++ g.signatures.now) (with_ttl g.ttl), length-append g.records.now g.signatures.now)

pub count_more : (gs : List Group) (i count : ℕ) (g : Group) → i < length gs → g ≡ get_or gs i g → count ≡ length (all_records (take i gs))
    → count + (length g.records.now + length g.signatures.now) ≡ length (all_records (take (i + 1) gs))
count_more gs i count g inside is h =
    omega (arith, h, ap length (all_more gs i g inside is), length-append (all_records (take i gs)) (records_of g), group_length g)

-- ---- what helps

pub help_put : (gs : List Group) (room : ℕ) (g : Group) (old mid new : List ℕ) (kept : List Record) → AreHelpful room old mid gs kept
    → AppendsAll strict_record_of mid new (records_of g) → AreHelpful room old new (gs ++ g ∷ []) (kept ++ records_of g)
help_put [] room g old mid new kept (same, none) put =
    inl (
      new,
      [],
      ap (λ s. s ++ records_of g) none ∙ sym (append-nil (records_of g)),
      subst (λ s. AppendsAll strict_record_of s new (records_of g)) same put,
      (refl, refl),
    )
help_put (x ∷ gs) room g old mid new kept (inl (next, others, is, a, h)) put =
    inl (
      next,
      others ++ records_of g,
      ap (λ s. s ++ records_of g) is ∙ append_assoc (records_of x) others (records_of g),
      a,
      help_put gs room g next mid new others h put,
    )
help_put (x ∷ gs) room g old mid new kept (inr (over, h)) put = inr (over, help_put gs room g old mid new kept h put)

pub help_over : (gs : List Group) (room : ℕ) (g : Group) (old mid : List ℕ) (kept : List Record) → AreHelpful room old mid gs kept
    → GoesOver room mid (records_of g) → AreHelpful room old mid (gs ++ g ∷ []) kept
help_over [] room g old mid kept (same, none) over =
    inr (subst (λ s. GoesOver room s (records_of g)) same over, (same, none))
help_over (x ∷ gs) room g old mid kept (inl (next, others, is, a, h)) over = inl (next, others, is, a, help_over gs room g next mid others h over)
help_over (x ∷ gs) room g old mid kept (inr (before, h)) over = inr (before, help_over gs room g old mid kept h over)
