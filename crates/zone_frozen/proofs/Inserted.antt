-- A record that is inserted into the set under a key is inserted into the sets
use Rattle.std.proofs.Common.{◌≡◌, ℕ, Bool, true, false, refl, sym, ap, ◌∙◌, subst}
use Rattle.std.specs.Prelude.{Option, Some, None, Result, Ok, Err, IfOk, IfSome, OnOk, OnErr, is_some, unwrap_or, option_map, option_and_then}
use Rattle.std.specs.Map.{keys_of, lookup, set_value}
use Rattle.std.proofs.lemmas.Map.{keys-set_value}
use Rattle.std.proofs.lemmas.Map.Steps.{set_value_same}
use Rattle.zone_proto.specs.declared.error.ProtoError.{ProtoError}
use Rattle.zone_proto.specs.declared.record.Record.{Record}
use Rattle.zone_proto.specs.declared.rr_key.RrKey.{RrKey}
use Rattle.zone_proto.specs.Data.{type_of}
use Rattle.zone_proto.specs.Keys.{key_eq}
use Rattle.zone_proto.specs.Names.{same_name}
use Rattle.zone_proto.specs.Results.{IsInsertion}
use Rattle.zone_proto.specs.Sets.{RRset, inserted}
use Rattle.zone_frozen.specs.Sets.{Sets, inserted_under, BelongsUnder}

module _ (k : RrKey) (m : Sets) where
  module _ (s : RRset) (found : lookup (key_eq k) m ≡ Some s) where
    lifted : (made : Option RRset) (result : Result Bool ProtoError) (w : RRset) → IsInsertion s made result w → IsInsertion m (option_map (set_value (key_eq k) m) made) result (set_value (key_eq k) m w)
    lifted made result w h = record { answer = answer made result h.answer; after = after made result h.after; err = h.err; same = same result h.same }
      where
        own : set_value (key_eq k) m s ≡ m
        own = set_value_same (key_eq k) m s found

        answer : (o : Option RRset) (r : Result Bool ProtoError) → IfOk r (λ taken. taken ≡ is_some o) → IfOk r (λ taken. taken ≡ is_some (option_map (set_value (key_eq k) m) o))
        answer None (Ok b) g = g
        answer (Some v) (Ok b) g = g
        answer o (Err e) g = g

        after : (o : Option RRset) (r : Result Bool ProtoError) → OnOk r (w ≡ unwrap_or o s) → OnOk r (set_value (key_eq k) m w ≡ unwrap_or (option_map (set_value (key_eq k) m) o) m)
        after None (Ok b) g = ap (set_value (key_eq k) m) g ∙ own
        after (Some v) (Ok b) g = ap (set_value (key_eq k) m) g
        after o (Err e) g = g

        same : (r : Result Bool ProtoError) → OnErr r (w ≡ s) → OnErr r (set_value (key_eq k) m w ≡ m)
        same (Ok b) g = g
        same (Err e) g = ap (set_value (key_eq k) m) g ∙ own

    pub inserted_found : (r : Record) (serial : ℕ) (result : Result Bool ProtoError) (w : RRset) → IsInsertion s (inserted s r serial) result w
        → IsInsertion m (inserted_under r serial k m) result (set_value (key_eq k) m w)
    inserted_found r serial result w h =
        subst (λ (o : Option RRset). IsInsertion m (option_map (set_value (key_eq k) m) (option_and_then (λ set. inserted set r serial) o)) result (set_value (key_eq k) m w))
        (sym found) (lifted (inserted s r serial) result w h)

    pub belongs_found : (r : Record) → BelongsUnder r k m → IfSome (Some s) (λ set. (same_name r.name set.owner ≡ true) × (type_of r.rdata ≡ set.record_type))
    belongs_found r h = subst (λ (o : Option RRset). IfSome o (λ set. (same_name r.name set.owner ≡ true) × (type_of r.rdata ≡ set.record_type))) found h

  pub inserted_absent : (r : Record) (serial : ℕ) → lookup (key_eq k) m ≡ None → IsInsertion m (inserted_under r serial k m) (Ok false) m
  inserted_absent r serial none =
      subst (λ (o : Option RRset). IsInsertion m (option_map (set_value (key_eq k) m) (option_and_then (λ set. inserted set r serial) o)) (Ok false) m)
      (sym none) (record { answer = refl; after = refl; err = tt; same = tt })

  -- the keys stay
  pub keys_inserted : (r : Record) (serial : ℕ) (result : Result Bool ProtoError) (n : Sets) → IsInsertion m (inserted_under r serial k m) result n → keys_of n ≡ keys_of m
  keys_inserted r serial (Err e) n h = ap keys_of h.same
  keys_inserted r serial (Ok b) n h = ap keys_of h.after ∙ by (option_and_then (λ set. inserted set r serial) (lookup (key_eq k) m))
    where
      by : (o : Option RRset) → keys_of (unwrap_or (option_map (set_value (key_eq k) m) o) m) ≡ keys_of m
      by None = refl
      by (Some v) = keys-set_value (key_eq k) m v
