-- A header put into its place, two octets at a time
use Rattle.std.proofs.Common.{◌≡◌, ℕ, ◌+◌, List, [], ◌∷◌, ◌++◌, length, take, drop, refl, sym, ap, ◌∙◌, append_assoc}
use Rattle.std.proofs.lemmas.List.{drop-drop, take_at, drop_at}
use Rattle.message_writing.specs.DataText.{short_text}
use Rattle.message_writing.specs.HeaderText.{header_text}

-- behind what was put already, two octets more
placed_more : (done s o here new : List ℕ) (at : ℕ) → length done ≡ at → here ≡ done ++ drop at o → new ≡ take at here ++ (s ++ drop (at + 2) here)
    → new ≡ (done ++ s) ++ drop (at + 2) o
placed_more done s o here new at size is put =
    let whole : List ℕ = done ++ drop at o in
    let front : take at here ≡ done = ap (take at) is ∙ take_at done (drop at o) at size in
    let rest : drop (at + 2) here ≡ drop (at + 2) o =
    ap (drop (at + 2)) is ∙ sym (drop-drop 2 at whole) ∙ ap (drop 2) (drop_at done (drop at o) at size) ∙ drop-drop 2 at o in
    put ∙ (λ i. front i ++ (s ++ rest i)) ∙ sym (append_assoc done s (drop (at + 2) o))

pub header_placed : (o o₁ o₂ o₃ o₄ o₅ o₆ : List ℕ) (id high low answers authorities additionals : ℕ)
    → o₁ ≡ take 0 o ++ (short_text id ++ drop 2 o) → o₂ ≡ take 2 o₁ ++ (high ∷ low ∷ drop 4 o₁) → o₃ ≡ take 4 o₂ ++ (short_text 1 ++ drop 6 o₂)
    → o₄ ≡ take 6 o₃ ++ (short_text answers ++ drop 8 o₃) → o₅ ≡ take 8 o₄ ++ (short_text authorities ++ drop 10 o₄)
    → o₆ ≡ take 10 o₅ ++ (short_text additionals ++ drop 12 o₅)
    → o₆ ≡ header_text id high low answers authorities additionals ++ drop 12 o
header_placed o o₁ o₂ o₃ o₄ o₅ o₆ id high low answers authorities additionals e₁ e₂ e₃ e₄ e₅ e₆ =
    let flags : List ℕ = high ∷ low ∷ [] in
    let d₁ : List ℕ = short_text id in
    let d₂ : List ℕ = d₁ ++ flags in
    let d₃ : List ℕ = d₂ ++ short_text 1 in
    let d₄ : List ℕ = d₃ ++ short_text answers in
    let d₅ : List ℕ = d₄ ++ short_text authorities in
    let f₁ : o₁ ≡ d₁ ++ drop 2 o = placed_more [] d₁ o o o₁ 0 refl refl e₁ in
    let f₂ : o₂ ≡ d₂ ++ drop 4 o = placed_more d₁ flags o o₁ o₂ 2 refl f₁ e₂ in
    let f₃ : o₃ ≡ d₃ ++ drop 6 o = placed_more d₂ (short_text 1) o o₂ o₃ 4 refl f₂ e₃ in
    let f₄ : o₄ ≡ d₄ ++ drop 8 o = placed_more d₃ (short_text answers) o o₃ o₄ 6 refl f₃ e₄ in
    let f₅ : o₅ ≡ d₅ ++ drop 10 o = placed_more d₄ (short_text authorities) o o₄ o₅ 8 refl f₄ e₅ in
    placed_more d₅ (short_text additionals) o o₅ o₆ 10 refl f₅ e₆
