-- Sets that are put into a map one after the other, in the order of their keys
use Rattle.std.proofs.Common.{◌≡◌, true, false, cond, [], ◌∷◌, ◌++◌, refl, sym, ap, ◌∙◌, subst, inl, inr, append_assoc, Less}
use Rattle.std.proofs.lemmas.List.{append-nil}
use Rattle.std.specs.Prelude.{Option}
use Rattle.std.specs.BTreeMap.{insert_entry}
use Rattle.std.specs.Map.{keys_of}
use Rattle.std.specs.Ordering.{match_ordering, ordering_reverse}
use Rattle.zone_proto.specs.declared.nx_proof_kind.NxProofKind.{NxProofKind}
use Rattle.zone_proto.specs.declared.rr_key.RrKey.{RrKey}
use Rattle.zone_proto.specs.Keys.{key_cmp}
use Rattle.zone_proto.specs.Sets.{RRset}
use Rattle.zone_proto.proofs.Members.{In}
use Rattle.zone_proto.proofs.Ordering.KeyLaws.{key_cmp_total}
use Rattle.zone_map.specs.Zones.{Sets, put}
use Rattle.zone_map.proofs.Putting.{keys_of-append}
use Rattle.zone_denial.specs.Chains.{stays, chain_sets}
use Rattle.zone_denial.proofs.Ascending.{Ascends, Ascends-apart}

-- one after the other
pub put_each : Sets → Sets → Sets
put_each m [] = m
put_each m (e ∷ es) = put_each (insert_entry key_cmp m e.0 e.1) es

-- behind those before it a set is put last
put_last : (m : Sets) (e : RrKey × RRset) → ((k : RrKey) → In k (keys_of m) → key_cmp k e.0 ≡ Less) → insert_entry key_cmp m e.0 e.1 ≡ m ++ e ∷ []
put_last [] e h = refl
put_last (d ∷ m) e h =
    ap (λ r. match_ordering r ((e.0, e.1) ∷ d ∷ m) ((d.0, e.1) ∷ m) (d ∷ insert_entry key_cmp m e.0 e.1)) (key_cmp_total.antisymm e.0 d.0 ∙ ap ordering_reverse (h d.0 (inl refl)))
    ∙ ap (λ es. d ∷ es) (put_last m e (λ k i. h k (inr i)))

-- the keys of both ascend
abbrev Ascending : Sets → Sets → Type 0
Ascending m es = Ascends key_cmp (keys_of m ++ keys_of es)

-- so sets in the order of their keys are put behind those before them
put_behind : (m es : Sets) → Ascending m es → put_each m es ≡ m ++ es
unfolding put_each
put_behind m [] a = sym (append-nil m)
put_behind m (e ∷ es) a =
    ap (λ n. put_each n es) (put_last m e (λ k i. Ascends-apart key_cmp (keys_of m) (keys_of (e ∷ es)) a k e.0 i (inl refl)))
    ∙ put_behind (m ++ e ∷ []) es (subst (Ascends key_cmp) (sym (append_assoc (keys_of m) (e.0 ∷ []) (keys_of es)) ∙ ap (λ ks. ks ++ keys_of es) (sym (keys_of-append m (e ∷ [])))) a)
    ∙ append_assoc m (e ∷ []) es

-- ---- one set more, of those that are passed

module _ (kind : Option NxProofKind) (m : Sets) (e : RrKey × RRset) (rest : Sets) where
  abbrev staying : Sets → Sets
  staying = chain_sets kind

  pub one_put : stays kind e.0.record_type.0 e.1 ≡ true → put_each (put m e.0.name e.0.record_type.0 e.1) (staying rest) ≡ put_each m (staying (e ∷ rest))
  unfolding put_each
  one_put s = ap (λ b. put_each m (cond b (e ∷ staying rest) (staying rest))) (sym s)

  pub one_left : stays kind e.0.record_type.0 e.1 ≡ false → put_each m (staying rest) ≡ put_each m (staying (e ∷ rest))
  one_left s = ap (λ b. put_each m (cond b (e ∷ staying rest) (staying rest))) (sym s)

pub all_put : (m : Sets) → put_each m [] ≡ m
unfolding put_each
all_put m = refl

pub put_in_order : (es : Sets) → Ascends key_cmp (keys_of es) → put_each [] es ≡ es
put_in_order es a = put_behind [] es a
