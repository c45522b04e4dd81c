-- The machine values of a `NullableBox` and of the structs of a pointer and an allocator that own what it owns. Assumes `Logic`.
--     open_pair        such a struct by value is [what it holds; the allocator's handle]
--     close_pair       the other way round
--     by_content       what is held is nothing at null; else a value, at a pointer that may be compared with null
use Rattle.std.proofs.Common.{◌≡◌, ℕ, List, [], ◌∷◌, ◌++◌, refl, subst, lit<}
use seplogic.Ra.Ura.{Ura}
use mir.Syntax.{impl, tnil, dnil}
use mir.Raw.{raw as bare}
use mir.Val.{Val, vstruct, of_list}
use base.Fraction.{full_share}
use base.Fml.{Fml, fsep, ftrue}
use base.Logic.{ent, guard, via, snd∗, guard_i, never_e}
use types.Logic.{Logic, sem}
use types.Kit.{Item, Goal, Seq, Step, step, ‵, given, ◌$◌, move, drop, fsplit, fjoin, fpick, fpack, feq_i, feq_l, use1, learn}
use contract.Monad.{fact_use}
use denote.RattleType.{RattleType, Valss}
use denote.Builtin.{RawPtr}
use denote.Memory.{lone}
use denote.RawPtr.{Ptr, block_ptr, null_ptr, ptr_val, Testable, lies_at}
use denote.Steps.{nothing}
use denote.Param.{layout}
use denote.Param.Laws.{Laws}
use denote.Struct.Struct.{Shape, Struct, within}
use Rattle.core.proofs.alloc.Calls.{Al, handle_tells}
use Rattle.core.proofs.cell.Inside.{Good}
use Rattle.std.specs.declared.alloc.Global.{Global}
use Rattle.std.specs.declared.option.Option.{Option}
use Rattle.std.specs.declared.option.Option.TheVariants.{None, Some}
use Rattle.std.specs.contracts.alloc.Global as global
use Rattle.std.proofs.alloc.Global.TheLaws as global_laws
use Rattle.std.specs.contracts.impls.GlobalAllocator.TheImpl.{ghosts}
use Rattle.std.proofs.GlobalToken.{dealloc_token-Testable}
use Rattle.std_alloc.specs.Box.Ownership.{box_owns}
use Rattle.std_alloc.proofs.ResultValues.{and_tt}
use Rattle.call_handles.specs.Holding.{owns_held}
use Rattle.call_handles.proofs.RawBoxes.{pair}

-- the row of the allocator
abbrev pub Z : RattleType
Z = global.the_row

abbrev pub LZ : Laws Z
LZ = global_laws.the_row_laws

abbrev al : Al
al = record { row = Z; laws = LZ; g = ghosts; d = impl [] tnil dnil; drops = impl [] tnil dnil }

abbrev pub block : (R : RattleType) → Global → Ptr → R.Denot → Fml
block R a = box_owns (ghosts.dealloc_token a) R

-- a struct of a pointer and the allocator
abbrev pub pair_of : Shape → Shape
pair_of S = record { name = S.name; args = S.args; types = S.types; fields = RawPtr ∷ Z ∷ [] }

abbrev pub Pair : Shape → RattleType
Pair S = Struct (pair_of S)

-- a pointer is a value of its type, and so is the struct of it
pub pointer_fits : (p : Ptr) → Good (layout RawPtr) (ptr_val p)
pointer_fits null_ptr = (tt, record { fits = lit< tt })
pointer_fits (block_ptr b o) = (tt, tt)

pub pair_fits : (S : Shape) (p : Ptr) (h : Val) → Good (layout Z) h → Good (layout (Pair S)) (pair (ptr_val p) h)
pair_fits S null_ptr h fits = (and_tt _ fits.0, (record { fits = lit< tt }, (fits.1, tt)))
pair_fits S (block_ptr b o) h fits = (and_tt _ fits.0, (tt, (fits.1, tt)))

module _ (R : RattleType) {M : Type 1} {𝓤 : Ura M} (𝓛 : Logic 𝓤) where
  -- who may free a block may compare the pointer to it with null
  pub testable : (a : Global) (p : Ptr) (x : R.Denot) → ent 𝓤 (sem 𝓛 (block R a p x)) (guard 𝓤 (Testable p) (sem 𝓛 (block R a p x)))
  testable a p x =
      fact_use 𝓤 (Testable p) (via 𝓤 _ (snd∗ 𝓤 (sem 𝓛 (lies_at R full_share p x)) (sem 𝓛 (ghosts.dealloc_token a (bare (lone R.mir)) p))) (dealloc_token-Testable 𝓛 a (bare (lone R.mir)) p))
      (guard_i 𝓤 (Testable p) (sem 𝓛 (block R a p x)))

module _ (S : Shape) {M : Type 1} {𝓤 : Ura M} {𝓛 : Logic 𝓤} {K : Type 0} {Γ : List (Item 𝓤)} {G : Goal 𝓤 𝓛.H} where
  pub open_pair : K → (p : Ptr) (a : Global) (held : Fml) (vs : List Val)
      → ((h : Val) → vs ≡ pair (ptr_val p) h ∷ [] → Good (layout Z) h → Seq K 𝓛 (‵ held ∷ ‵ (Z.own_val a (h ∷ [])) ∷ Γ) G)
      → Seq K 𝓛 (‵ (fsep ((Pair S).own_val (p, (a, tt)) vs) held) ∷ Γ) G
  open_pair t p a held vs k =
      fsplit t $ fpick t (λ parts. fsplit t $ feq_l t (λ whole. fsplit t $ feq_l t (λ first. fsplit t $ handle_tells al t a parts.1.0 (λ h second fits. move t (1 ∷ []) $ drop t $ move t (1 ∷ []) $
      let by_parts : vs ≡ vstruct (of_list (ptr_val p ∷ (parts.1.0 ++ []))) ∷ [] = subst (λ (ps : List Val). vs ≡ vstruct (of_list (ps ++ (parts.1.0 ++ []))) ∷ []) first whole in
      k h (subst (λ (ws : List Val). vs ≡ vstruct (of_list (ptr_val p ∷ (ws ++ []))) ∷ []) second by_parts) fits))))

  pub close_pair : K → (p : Ptr) (h : Val) (a : Global) (held : Fml)
      → Step K 𝓛 (‵ (fsep ((Pair S).own_val (p, (a, tt)) (pair (ptr_val p) h ∷ [])) held) ∷ Γ) G (‵ held ∷ ‵ (Z.own_val a (h ∷ [])) ∷ Γ) G
  close_pair t p h a held = step (λ k. let v : Val = pair (ptr_val p) h in
      nothing t $ move t (2 ∷ 0 ∷ []) $ fjoin t $ feq_i t (List Val) (ptr_val p ∷ []) (ptr_val p ∷ []) refl $ fjoin t $ feq_i t (List Val) (v ∷ []) (v ∷ []) refl $ fjoin t $
      fpack t (Valss (RawPtr ∷ Z ∷ [])) (within (pair_of S) (p, (a, tt)) (v ∷ [])) (ptr_val p ∷ [], (h ∷ [], tt)) $ fjoin t $ k)

module _ (R : RattleType) {M : Type 1} {𝓤 : Ura M} {𝓛 : Logic 𝓤} {K : Type 0} {Γ : List (Item 𝓤)} {G : Goal 𝓤 𝓛.H} where
  pub by_content : K → (a : Global) (p : Ptr) (held : Option R.Denot) → (p ≡ null_ptr → held ≡ None → Seq K 𝓛 Γ G)
      → ((b o : ℕ) (x : R.Denot) → p ≡ block_ptr b o → held ≡ Some x → Testable (block_ptr b o) → Seq K 𝓛 (‵ (block R a (block_ptr b o) x) ∷ Γ) G) → Seq K 𝓛 (‵ (owns_held R a p held) ∷ Γ) G
  by_content t a null_ptr None empty full = drop t $ empty refl refl
  by_content t a null_ptr (Some x) empty full = use1 𝓛 (given ⊥ (‵ ftrue)) (never_e 𝓤 _) $ learn t (λ wrong. absurd wrong)
  by_content t a (block_ptr b o) None empty full = use1 𝓛 (given ⊥ (‵ ftrue)) (never_e 𝓤 _) $ learn t (λ wrong. absurd wrong)
  by_content t a (block_ptr b o) (Some x) empty full = use1 𝓛 (given (Testable (block_ptr b o)) (‵ (block R a (block_ptr b o) x))) (testable R 𝓛 a (block_ptr b o) x) $ learn t (λ test. full b o x refl refl test)
