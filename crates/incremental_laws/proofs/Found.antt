-- The records under the keys of what is held, once some are put under one of them
use Rattle.std.proofs.Common.{◌≡◌, Bool, true, false, cond, List, [], ◌∷◌, refl, sym, ap, ◌∙◌, Ordering, Less, Equal, Greater}
use Rattle.std.specs.Prelude.{Some, None, unwrap_or}
use Rattle.std.specs.BTreeMap.{insert_entry}
use Rattle.std.specs.Map.{lookup, remove_entry}
use Rattle.std.specs.Ordering.{is_eq, match_ordering}
use Rattle.zone_proto.specs.Keys.{key_cmp, key_eq}
use Rattle.zone_proto.specs.declared.record.Record.{Record}
use Rattle.zone_proto.specs.declared.rr_key.RrKey.{RrKey}
use Rattle.zone_proto.proofs.Ordering.KeyOrder.{key_same, key_itself}
use Rattle.transfer_reading.specs.Differences.{Held, put_at, records_at}

inserted_here : (h : Held) (k : RrKey) (rs : List Record) → lookup (key_eq k) (insert_entry key_cmp h k rs) ≡ Some rs
inserted_here [] k rs = ap (λ b. cond b (Some rs) None) (key_itself k)
inserted_here (e ∷ h) k rs = by (key_cmp k e.0) refl (inserted_here h k rs)
  where
    by : (o : Ordering) → key_cmp k e.0 ≡ o → lookup (key_eq k) (insert_entry key_cmp h k rs) ≡ Some rs
        → lookup (key_eq k) (match_ordering o ((k, rs) ∷ e ∷ h) ((e.0, rs) ∷ h) (e ∷ insert_entry key_cmp h k rs)) ≡ Some rs
    by Less g i = ap (λ b. cond b (Some rs) (lookup (key_eq k) (e ∷ h))) (key_itself k)
    by Equal g i = ap (λ b. cond b (Some rs) (lookup (key_eq k) h)) (ap is_eq g)
    by Greater g i = ap (λ b. cond b (Some e.1) (lookup (key_eq k) (insert_entry key_cmp h k rs))) (ap is_eq g) ∙ i

inserted_apart : (h : Held) (k q : RrKey) (rs : List Record) → key_eq q k ≡ false → lookup (key_eq q) (insert_entry key_cmp h k rs) ≡ lookup (key_eq q) h
inserted_apart [] k q rs f = ap (λ b. cond b (Some rs) None) f
inserted_apart (e ∷ h) k q rs f = by (key_cmp k e.0) refl (inserted_apart h k q rs f)
  where
    by : (o : Ordering) → key_cmp k e.0 ≡ o → lookup (key_eq q) (insert_entry key_cmp h k rs) ≡ lookup (key_eq q) h
        → lookup (key_eq q) (match_ordering o ((k, rs) ∷ e ∷ h) ((e.0, rs) ∷ h) (e ∷ insert_entry key_cmp h k rs)) ≡ lookup (key_eq q) (e ∷ h)
    by Less g i = ap (λ b. cond b (Some rs) (lookup (key_eq q) (e ∷ h))) f
    by Equal g i =
        let other : key_eq q e.0 ≡ false = sym (ap (key_eq q) (key_same k e.0 (ap is_eq g))) ∙ f in
        ap (λ b. cond b (Some rs) (lookup (key_eq q) h)) other ∙ sym (ap (λ b. cond b (Some e.1) (lookup (key_eq q) h)) other)
    by Greater g i = ap (cond (key_eq q e.0) (Some e.1)) i

removed_apart : (h : Held) (k q : RrKey) → key_eq q k ≡ false → lookup (key_eq q) (remove_entry (key_eq k) h) ≡ lookup (key_eq q) h
removed_apart [] k q f = refl
removed_apart (e ∷ h) k q f = by (key_eq k e.0) refl (removed_apart h k q f)
  where
    by : (b : Bool) → key_eq k e.0 ≡ b → lookup (key_eq q) (remove_entry (key_eq k) h) ≡ lookup (key_eq q) h
        → lookup (key_eq q) (cond b h (e ∷ remove_entry (key_eq k) h)) ≡ cond (key_eq q e.0) (Some e.1) (lookup (key_eq q) h)
    by true g i =
        let other : key_eq q e.0 ≡ false = sym (ap (key_eq q) (key_same k e.0 g)) ∙ f in
        sym (ap (λ b. cond b (Some e.1) (lookup (key_eq q) h)) other)
    by false g i = ap (cond (key_eq q e.0) (Some e.1)) i

pub put_here : (h : Held) (k : RrKey) (rs : List Record) → records_at (put_at h k rs) k ≡ rs
put_here h k rs = ap (λ o. unwrap_or o []) (inserted_here (remove_entry (key_eq k) h) k rs)

pub put_apart : (h : Held) (k q : RrKey) (rs : List Record) → key_eq q k ≡ false → records_at (put_at h k rs) q ≡ records_at h q
put_apart h k q rs f = ap (λ o. unwrap_or o []) (inserted_apart (remove_entry (key_eq k) h) k q rs f ∙ removed_apart h k q f)
