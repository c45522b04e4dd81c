-- A loop over the keys of a file: the keys so far, and those of the words that are left, are the keys of all words
use Rattle.std.proofs.Common.{◌≡◌, ℕ, List, [], ◌∷◌, ◌++◌, refl, sym, ap, ◌∙◌, arith, append_assoc}
use Rattle.std.specs.Prelude.{Result, Ok, Err}
use Rattle.key_files.specs.declared.entry.KeyEntry.{KeyEntry}
use Rattle.key_files.specs.declared.entry.KeyWords.{KeyWords}
use Rattle.key_files.specs.declared.fault.WordError.{WordError}
use Rattle.key_files.specs.declared.fault.WordError.TheVariants.{Wrong, Memory}
use Rattle.key_files.specs.Entries.{entries_of, entry_of, FailsBy, IsCut, with_more, words_before}

-- keys, and more behind them
abbrev pub behind_these : List KeyEntry → Result (List KeyEntry) WordError → Result (List KeyEntry) WordError
behind_these entries (Ok more) = Ok (entries ++ more)
behind_these entries (Err e) = Err e

fails_as : (r : Result (List KeyEntry) WordError) (e : WordError) → r ≡ Err e → FailsBy r e
fails_as r Memory same = tt
fails_as r (Wrong at reason) same = same

-- fewer than six words
few_fail : (text : List ℕ) (words : List ℕ) (e : WordError) → IsCut words e → entries_of text words ≡ Err e
few_fail text [] e cut = absurd cut
few_fail text (a ∷ []) e cut = ap (λ (x : WordError). Err x) (sym cut.1)
few_fail text (a ∷ b ∷ []) e cut = ap (λ (x : WordError). Err x) (sym cut.1)
few_fail text (a ∷ b ∷ c ∷ []) e cut = ap (λ (x : WordError). Err x) (sym cut.1)
few_fail text (a ∷ b ∷ c ∷ d ∷ []) e cut = ap (λ (x : WordError). Err x) (sym cut.1)
few_fail text (a ∷ b ∷ c ∷ d ∷ f ∷ []) e cut = ap (λ (x : WordError). Err x) (sym cut.1)
few_fail text (a ∷ b ∷ c ∷ d ∷ f ∷ g ∷ more) e cut = absurd (omega (arith, cut.0))

pub cut_fails : (text words rest : List ℕ) (entries : List KeyEntry) (e : WordError) → IsCut rest e
    → behind_these entries (entries_of text rest) ≡ entries_of text words → FailsBy (entries_of text words) e
cut_fails text words rest entries e cut so_far =
    fails_as (entries_of text words) e (sym so_far ∙ ap (behind_these entries) (few_fail text rest e cut))

more_fail : (entries : List KeyEntry) (r : Result KeyEntry WordError) (more : Result (List KeyEntry) WordError) (e : WordError) → FailsBy r e
    → (whole : Result (List KeyEntry) WordError) → behind_these entries (with_more r more) ≡ whole → FailsBy whole e
more_fail entries r more Memory fails whole so_far = tt
more_fail entries r more (Wrong at reason) fails whole so_far =
    sym so_far ∙ ap (λ (x : Result KeyEntry WordError). behind_these entries (with_more x more)) fails

pub entry_fails : (text words rest more : List ℕ) (entries : List KeyEntry) (key : KeyWords) (e : WordError) → rest ≡ words_before key more
    → FailsBy (entry_of text key) e → behind_these entries (entries_of text rest) ≡ entries_of text words → FailsBy (entries_of text words) e
entry_fails text words rest more entries key e first fails so_far =
    more_fail entries (entry_of text key) (entries_of text more) e fails (entries_of text words)
    (ap (λ (s : List ℕ). behind_these entries (entries_of text s)) (sym first) ∙ so_far)

one_more : (entries : List KeyEntry) (entry : KeyEntry) (more : Result (List KeyEntry) WordError)
    → behind_these (entries ++ entry ∷ []) more ≡ behind_these entries (with_more (Ok entry) more)
one_more entries entry (Ok more) = ap (λ (x : List KeyEntry). Ok x) (append_assoc entries (entry ∷ []) more)
one_more entries entry (Err e) = refl

pub entry_read : (text words rest more : List ℕ) (entries : List KeyEntry) (key : KeyWords) (entry : KeyEntry) → rest ≡ words_before key more
    → entry_of text key ≡ Ok entry → behind_these entries (entries_of text rest) ≡ entries_of text words
    → behind_these (entries ++ entry ∷ []) (entries_of text more) ≡ entries_of text words
entry_read text words rest more entries key entry first read so_far =
    one_more entries entry (entries_of text more)
    ∙ ap (λ (x : Result KeyEntry WordError). behind_these entries (with_more x (entries_of text more))) (sym read)
    ∙ ap (λ (s : List ℕ). behind_these entries (entries_of text s)) (sym first) ∙ so_far
