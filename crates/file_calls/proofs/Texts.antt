-- What the calls of a program do to the texts of files that it keeps, from what is done to texts
use Rattle.std.proofs.Common.{◌≡◌, ◌⊎◌, ◌<◌, ℕ, List, [], cond, drop, length, inl, inr, refl, sym, ap, subst, ◌∙◌, Result}
use Rattle.std.specs.Prelude.{Option, Some, None, slice_get}
use Rattle.std.specs.Str.{bytes_eq, IsUtf8}
use Rattle.call_handles.specs.Rooms.{IsUntouched, StandsIn}
use Rattle.included_texts.specs.declared.kept.KeptTexts.{KeptTexts}
use Rattle.included_texts.specs.declared.kept.Lack.{Lack}
use Rattle.included_texts.specs.Kept.{IsPut, IsSame, kept_of}
use Rattle.included_texts.specs.Kept as kept
use Rattle.file_calls.specs.declared.outcome.FileOutcome.{FileOutcome}
use Rattle.file_calls.specs.declared.outcome.FileOutcome.TheVariants as outcome
use Rattle.file_calls.specs.Calls.{GivesFirst, GivesName, HoldSame, KeepsFile, kept_in, wanted_in}

-- ---- what a handle holds

same : (held : Option KeptTexts) → HoldSame held held
same held = record { kept = λ n. refl; wanted = refl }

-- what was taken out is what it held
pub holds_taken : (old : Option KeptTexts) (t : KeptTexts) → old ≡ Some t → HoldSame old (Some t)
holds_taken old t is = subst (HoldSame old) is (same old)

-- texts without any hold the same as an empty handle
pub holds_new : (old : Option KeptTexts) (t fresh : KeptTexts) → t ≡ fresh → old ≡ None → ((n : List ℕ) → kept_of fresh n ≡ None) → kept.wanted_in fresh ≡ [] → HoldSame old (Some t)
holds_new old t fresh made empty none nothing =
    subst (λ (h : Option KeptTexts). HoldSame h (Some t)) (sym empty)
    (subst (λ (k : KeptTexts). HoldSame None (Some k)) (sym made) (record { kept = none; wanted = nothing }))

-- what holds the same has the same
pub held_same : (old new : Option KeptTexts) → HoldSame old new → IsSame (kept_in old) (kept_in new)
held_same old new h = h.kept

pub holds_none : (old new : Option KeptTexts) → old ≡ None → new ≡ None → HoldSame old new
holds_none old new empty after = subst (HoldSame old) (empty ∙ sym after) (same old)

-- ---- a file is kept

module _ (file : Result (List ℕ) Lack) where
  pub named : (name bytes : List ℕ) (old new : Option KeptTexts) (o : FileOutcome) → bytes ≡ name → KeepsFile bytes file old o new → KeepsFile name file old o new
  named name bytes old new o is h = subst (λ (n : List ℕ). KeepsFile n file old o new) is h

  pub refused : (name : List ℕ) (old : Option KeptTexts) (o : FileOutcome) → (o ≡ outcome.NoMemory) ⊎ ((o ≡ outcome.BadFileName) × (IsUtf8 name → ⊥)) → KeepsFile name file old o old
  refused name old o (inl e) = subst (λ (end : FileOutcome). KeepsFile name file old end old) (sym e) (same old)
  refused name old o (inr w) = subst (λ (end : FileOutcome). KeepsFile name file old end old) (sym w.0) (w.1, same old)

  pub put_same : (name : List ℕ) (old new : KeptTexts) → IsSame (kept_of old) (kept_of new) → kept.wanted_in new ≡ kept.wanted_in old → KeepsFile name file (Some old) outcome.NoMemory (Some new)
  put_same name old new h w = record { kept = h; wanted = w }

  -- beside what a handle held
  pub kept_held : (name : List ℕ) (old new : Option KeptTexts) (t after : KeptTexts) (o : FileOutcome) → HoldSame old (Some t) → KeepsFile name file (Some t) o (Some after) → new ≡ Some after → KeepsFile name file old o new
  kept_held name old new t after o had h set = subst (KeepsFile name file old o) (sym set) (by o h)
    where
      chain : HoldSame (Some t) (Some after) → HoldSame old (Some after)
      chain s = record { kept = λ n. s.kept n ∙ had.kept n; wanted = s.wanted ∙ had.wanted }

      by : (o : FileOutcome) → KeepsFile name file (Some t) o (Some after) → KeepsFile name file old o (Some after)
      by outcome.Done k = (λ n. k.0 n ∙ ap (λ (before : Option (Result (List ℕ) Lack)). cond (bytes_eq name n) (Some file) before) (had.kept n), k.1 ∙ had.wanted)
      by outcome.Closed k = absurd k
      by outcome.BadName k = absurd k
      by outcome.BadText k = absurd k
      by outcome.NoMemory k = chain k
      by outcome.NoRoom k = absurd k
      by outcome.WantsFiles k = absurd k
      by outcome.NoFile k = absurd k
      by outcome.BadFileName k = (k.0, chain k.1)

-- ---- a name is handed out

module _ (written : ℕ) (before after : List ℕ) where
  pub gives_none : (old : List (List ℕ)) → None ≡ slice_get old 0 → IsUntouched written before after → GivesName old outcome.NoFile written before after old
  gives_none old none untouched = subst (λ (first : Option (List ℕ)). GivesFirst first outcome.NoFile written before after old old) none (untouched, refl)

  pub gives_one : (old new : List (List ℕ)) (name octets : List ℕ) → Some name ≡ slice_get old 0 → octets ≡ name → written ≡ length octets → StandsIn octets before after → new ≡ drop 1 old → GivesName old outcome.Done written before after new
  gives_one old new name octets is same count stands dropped =
      subst (λ (first : Option (List ℕ)). GivesFirst first outcome.Done written before after old new) (ap (λ (n : List ℕ). Some n) same ∙ is) (count, stands, dropped)

  pub lacks_room : (old : List (List ℕ)) (name octets : List ℕ) → Some name ≡ slice_get old 0 → octets ≡ name → length before < length octets → written ≡ length octets → after ≡ before → GivesName old outcome.NoRoom written before after old
  lacks_room old name octets is same short count untouched =
      subst (λ (first : Option (List ℕ)). GivesFirst first outcome.NoRoom written before after old old) (ap (λ (n : List ℕ). Some n) same ∙ is) (short, count, untouched, refl)

  pub gives_held : (held new : Option KeptTexts) (t end : KeptTexts) (o : FileOutcome) → held ≡ Some t → GivesName (kept.wanted_in t) o written before after (kept.wanted_in end) → new ≡ Some end → GivesName (wanted_in held) o written before after (wanted_in new)
  gives_held held new t end o is h set =
      subst (λ (old : Option KeptTexts). GivesName (wanted_in old) o written before after (wanted_in new)) (sym is)
      (subst (λ (last : Option KeptTexts). GivesName (kept.wanted_in t) o written before after (wanted_in last)) (sym set) h)

  pub gives_empty : (held new : Option KeptTexts) → held ≡ None → new ≡ None → IsUntouched written before after → GivesName (wanted_in held) outcome.NoFile written before after (wanted_in new)
  gives_empty held new none end untouched =
      subst (λ (old : Option KeptTexts). GivesName (wanted_in old) outcome.NoFile written before after (wanted_in new)) (sym none)
      (subst (λ (last : Option KeptTexts). GivesName [] outcome.NoFile written before after (wanted_in last)) (sym end) (untouched, refl))

pub same_held : (held new : Option KeptTexts) (t end : KeptTexts) → held ≡ Some t → IsSame (kept_of t) (kept_of end) → new ≡ Some end → IsSame (kept_in held) (kept_in new)
same_held held new t end is h set =
    subst (λ (old : Option KeptTexts). IsSame (kept_in old) (kept_in new)) (sym is)
    (subst (λ (last : Option KeptTexts). IsSame (kept_of t) (kept_in last)) (sym set) h)

pub same_empty : (held new : Option KeptTexts) → held ≡ None → new ≡ None → IsSame (kept_in held) (kept_in new)
same_empty held new none end = subst (λ (last : Option KeptTexts). IsSame (kept_in held) (kept_in last)) (none ∙ sym end) (λ n. refl)
