-- The text of a cut name, as a loop over its labels writes it
use Rattle.std.proofs.Common.{◌≡◌, ℕ, zero, suc, ◌+◌, ◌-◌, ◌<◌, List, [], ◌∷◌, ◌++◌, length, Option, None, refl, sym, ap, ◌∙◌, append_assoc, arith}
use Rattle.zone_proto.specs.Names.{Name, Label, wire_form}
use Rattle.message_writing.specs.KnownNames.{cut_text, ending, labels_text}

-- the labels, and then the end or a pointer
pub cut_ends : (k : ℕ) (pointer : Option ℕ) (n : Name) → cut_text k pointer n ≡ labels_text k n ++ ending pointer
cut_ends zero pointer n = refl
cut_ends (suc k) pointer [] = refl
cut_ends (suc k) pointer (l ∷ n) =
    ap (λ s. length l ∷ s) (ap (λ s. l ++ s) (cut_ends k pointer n) ∙ sym (append_assoc l (labels_text k n) (ending pointer)))

pub cut_put : (out mid new : List ℕ) (k : ℕ) (pointer : Option ℕ) (n : Name) → mid ≡ out ++ labels_text k n → new ≡ mid ++ ending pointer
    → new ≡ out ++ cut_text k pointer n
cut_put out mid new k pointer n labels end =
    end ∙ ap (λ s. s ++ ending pointer) labels ∙ append_assoc out (labels_text k n) (ending pointer) ∙ ap (λ s. out ++ s) (sym (cut_ends k pointer n))

pub push_more : (out text : List ℕ) (total counter : ℕ) (l : Label) (left : Name) → counter < total
    → out ++ labels_text (total - counter) (l ∷ left) ≡ text → (out ++ length l ∷ l) ++ labels_text (total - (counter + 1)) left ≡ text
push_more out text total counter l left more h =
    let e : total - counter ≡ suc (total - (counter + 1)) = omega arith in
    append_assoc out (length l ∷ l) (labels_text (total - (counter + 1)) left)
    ∙ ap (λ k. out ++ labels_text k (l ∷ left)) (sym e) ∙ h

no_labels : (k : ℕ) → labels_text k [] ≡ []
no_labels zero = refl
no_labels (suc k) = refl

pub push_none : (out text : List ℕ) (total counter : ℕ) → out ++ labels_text (total - counter) [] ≡ text
    → out ++ labels_text (total - (counter + 1)) [] ≡ text
push_none out text total counter h =
    ap (λ s. out ++ s) (no_labels (total - (counter + 1)) ∙ sym (no_labels (total - counter))) ∙ h

-- a name that is not cut is its wire form
pub wire_cut : (n : Name) → cut_text (length n) None n ≡ wire_form n
wire_cut [] = refl
wire_cut (l ∷ n) = ap (λ s. length l ∷ (l ++ s)) (wire_cut n)
