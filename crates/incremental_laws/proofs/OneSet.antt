-- The records of one set taken out of what is held, or given
use Rattle.std.proofs.Common.{◌≡◌, ℕ, not, Bool, true, false, List, [], ◌∷◌, ◌++◌, refl, sym, ap, ◌∙◌, append_assoc, Ok, Err}
use Rattle.std.specs.Prelude.{filter, Some, None, is_some, if◌then◌else◌}
use Rattle.std.specs.List.{AllByRecursion}
use Rattle.std.proofs.lemmas.List.{append-nil}
use Rattle.zone_proto.specs.Keys.{key_eq}
use Rattle.zone_proto.specs.Names.{Name}
use Rattle.zone_proto.specs.Records.{same_record}
use Rattle.zone_proto.specs.declared.record.Record.{Record}
use Rattle.zone_proto.specs.declared.rr_key.RrKey.{RrKey}
use Rattle.transfer_reading.specs.Differences.{◌>>=◌, Held, changed, given_at, has_record, put_at, records_at, set_key, taken_at, with_record}
use Rattle.transfer_reading.specs.Stages.{serial_at}
use Rattle.transfer_reading.specs.declared.fault.OutcomeFault.TheVariants.{NotThere, AlreadyThere}
use Rattle.incremental_laws.specs.Holding.{has_exactly, SameRecords}
use Rattle.incremental_laws.specs.Versions.{AreDifferent}
use Rattle.incremental_laws.proofs.Found.{put_apart, put_here}
use Rattle.incremental_laws.proofs.Lists.{apart_more, is_there, nothing_in, one_taken}

-- ---- records in their order

pub goes_on : (o : Name) (g : Bool) (h : Held) (r : Record) (rs : List Record) → serial_at o r ≡ None
    → changed o g h (r ∷ rs) ≡ (with_record g h r >>= λ n. changed o g n rs)
unfolding changed
goes_on o g h r rs none = ap (λ b. with_record (if b then not g else g) h r >>= λ n. changed o (if b then not g else g) n rs) (ap is_some none)

pub turns : (o : Name) (g : Bool) (h : Held) (r : Record) (rs : List Record) (serial : ℕ) → serial_at o r ≡ Some serial
    → changed o g h (r ∷ rs) ≡ (with_record (not g) h r >>= λ n. changed o (not g) n rs)
unfolding changed
turns o g h r rs serial some = ap (λ b. with_record (if b then not g else g) h r >>= λ n. changed o (if b then not g else g) n rs) (ap is_some some)

-- all but the records under one key stay
abbrev pub StayApart : Held → Held → RrKey → Type 0
StayApart h n k = (q : RrKey) → key_eq q k ≡ false → records_at n q ≡ records_at h q

-- ---- taken out

pub take_one : (h : Held) (k : RrKey) (r : Record) (rs : List Record) → set_key r ≡ k → SameRecords (records_at h k) (r ∷ rs) → has_record rs r ≡ false
    → (n : Held) × (taken_at h (set_key r) r ≡ Ok n) × SameRecords (records_at n k) rs × StayApart h n k
take_one h k r rs keyed like apart =
    let left : List Record = filter (λ (z : Record). not (same_record z r)) (records_at h k) in
    let n : Held = put_at h k left in (
      n,
      ap (λ j. taken_at h j r) keyed ∙ ap (λ b. if b then Ok n else Err NotThere) (is_there (records_at h k) rs r like),
      λ x. ap (λ ys. has_exactly ys x) (put_here h k left) ∙ one_taken (records_at h k) rs r like apart x,
      λ q f. put_apart h k q left f,
    )

pub take_all : (o : Name) (h : Held) (k : RrKey) (rs more : List Record) → AllByRecursion (λ (r : Record). serial_at o r ≡ None) rs
    → AllByRecursion (λ (r : Record). set_key r ≡ k) rs → AreDifferent rs → SameRecords (records_at h k) rs
    → (n : Held) × (changed o false h (rs ++ more) ≡ changed o false n more) × (records_at n k ≡ []) × StayApart h n k
take_all o h k [] more none keyed differ like = (h, refl, nothing_in (records_at h k) like, λ q f. refl)
take_all o h k (r ∷ rs) more none keyed differ like =
    let one = take_one h k r rs keyed.0 like differ.0 in
    let rest = take_all o one.0 k rs more none.1 keyed.1 differ.1 one.2 in (
      rest.0,
      goes_on o false h r (rs ++ more) none.0 ∙ ap (λ x. x >>= λ n. changed o false n (rs ++ more)) one.1 ∙ rest.1,
      rest.2,
      λ q f. rest.3 q f ∙ one.3 q f,
    )

-- ---- given

pub give_one : (h : Held) (k : RrKey) (front : List Record) (r : Record) → set_key r ≡ k → records_at h k ≡ front → has_record front r ≡ false
    → (n : Held) × (given_at h r ≡ Ok n) × (records_at n k ≡ front ++ r ∷ []) × StayApart h n k
give_one h k front r keyed there apart =
    let n : Held = put_at h k (front ++ r ∷ []) in (
      n,
      ap (λ j. if has_record (records_at h j) r then Err AlreadyThere else Ok (put_at h j (records_at h j ++ r ∷ []))) keyed
          ∙ ap (λ xs. if has_record xs r then Err AlreadyThere else Ok (put_at h k (xs ++ r ∷ []))) there
          ∙ ap (λ b. if b then Err AlreadyThere else Ok n) apart,
      put_here h k (front ++ r ∷ []),
      λ q f. put_apart h k q (front ++ r ∷ []) f,
    )

pub give_all : (o : Name) (h : Held) (k : RrKey) (front rs more : List Record) → AllByRecursion (λ (r : Record). serial_at o r ≡ None) rs
    → AllByRecursion (λ (r : Record). set_key r ≡ k) rs → AreDifferent rs → AllByRecursion (λ (x : Record). has_record front x ≡ false) rs
    → records_at h k ≡ front
    → (n : Held) × (changed o true h (rs ++ more) ≡ changed o true n more) × (records_at n k ≡ front ++ rs) × StayApart h n k
give_all o h k front [] more none keyed differ apart there = (h, refl, there ∙ sym (append-nil front), λ q f. refl)
give_all o h k front (r ∷ rs) more none keyed differ apart there =
    let one = give_one h k front r keyed.0 there apart.0 in
    let rest = give_all o one.0 k (front ++ r ∷ []) rs more none.1 keyed.1 differ.1 (apart_more front rs r apart.1 differ.0) one.2 in (
      rest.0,
      goes_on o true h r (rs ++ more) none.0 ∙ ap (λ x. x >>= λ n. changed o true n (rs ++ more)) one.1 ∙ rest.1,
      rest.2 ∙ append_assoc front (r ∷ []) rs,
      λ q f. rest.3 q f ∙ one.3 q f,
    )
