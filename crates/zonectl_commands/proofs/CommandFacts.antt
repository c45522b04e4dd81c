-- Which words are no command
use Rattle.std.proofs.Common.{◌≡◌, ◌≢◌, ℕ, List, [], ◌∷◌, Bool, true, false, refl, sym, ap, ◌∙◌, subst, Some, None, rules}
use lib.Utf8.{encode}
use Rattle.std.specs.Prelude.{bytes_eq, codes}
use Rattle.std.specs.Str.{IsUtf8}
use Rattle.std.proofs.lemmas.Slice.Eq.{bytes_eq-Decides}
use Rattle.line_text.specs.Reading.{WordList}
use Rattle.zonectl_commands.specs.declared.command.Command.{Command}
use Rattle.zonectl_commands.specs.Commands.{Form, forms, read_by, all_read, if_none_left, command_of_words, kind_by_word, next_kind}

-- a word that is another one
pub other_word : (w t : List ℕ) → w ≢ t → bytes_eq w t ≡ false
other_word w t differs = by (bytes_eq w t) refl
  where
    by : (b : Bool) → bytes_eq w t ≡ b → b ≡ false
    by true e = absurd (differs (search (rules, bytes_eq-Decides)))
    by false e = refl

-- a word that is no text is none of these
not_text : (w t : List ℕ) → ¬ (IsUtf8 w) → IsUtf8 t → bytes_eq w t ≡ false
not_text w t wrong u = other_word w t (λ same. wrong (subst IsUtf8 (sym same) u))

-- the first words of forms are texts
abbrev AreTexts : List Form → Type 0
AreTexts [] = Unit {0}
AreTexts (form ∷ more) = IsUtf8 form.verb × AreTexts more

no_form : (rows : List Form) (w : List ℕ) (ws : WordList) → AreTexts rows → ¬ (IsUtf8 w) → read_by rows w ws ≡ None
no_form [] w ws texts wrong = refl
no_form (form ∷ more) w ws texts wrong = rw (not_text w form.verb wrong texts.0) (no_form more w ws texts.1 wrong)

forms_are_texts : AreTexts forms
unfolding encode
forms_are_texts = (
  (codes "add", (refl, refl)),
  (
    (codes "drop", (refl, refl)),
    (
      (codes "kind", (refl, refl)),
      (
        (codes "key", (refl, refl)),
        (
          (codes "secure", (refl, refl)),
          (
            (codes "lookup", (refl, refl)),
            (
              (codes "deny", (refl, refl)),
              ((codes "circle", (refl, refl)), ((codes "transfer", (refl, refl)), tt)),
            ),
          ),
        ),
      ),
    ),
  ),
)

-- where the first word is no text, words are no command
pub verb_not_text : (w : List ℕ) (ws : WordList) → ¬ (IsUtf8 w) → command_of_words (w ∷ ws) ≡ None
verb_not_text w ws wrong = ap all_read (no_form forms w ws forms_are_texts wrong)

-- a command that takes up all words
pub commanded_by : (w : List ℕ) (ws us : WordList) (c : Command) → read_by forms w ws ≡ Some (c, us) → us ≡ [] → command_of_words (w ∷ ws) ≡ Some c
commanded_by w ws us c e none = ap all_read e ∙ ap (if_none_left c) none

-- and one that leaves some
pub words_left : (w : List ℕ) (ws us : WordList) (c : Command) → read_by forms w ws ≡ Some (c, us) → us ≢ [] → command_of_words (w ∷ ws) ≡ None
words_left w ws us c e some = ap all_read e ∙ by us some
  where
    by : (us : WordList) → us ≢ [] → if_none_left c us ≡ None
    by [] n = absurd (n refl)
    by (u ∷ us) n = refl

pub arguments_refused : (w : List ℕ) (ws : WordList) → read_by forms w ws ≡ None → command_of_words (w ∷ ws) ≡ None
arguments_refused w ws e = ap all_read e

pub ruleset commanded = (verb_not_text, commanded_by, words_left, arguments_refused)

-- a kind that is no text is none
pub kind_not_text : (w : List ℕ) (ws : WordList) → ¬ (IsUtf8 w) → kind_by_word w ws ≡ None
unfolding encode
kind_not_text w ws wrong =
    rw (not_text w (codes "none") wrong (codes "none", (refl, refl)), not_text w (codes "nsec") wrong (codes "nsec", (refl, refl)), not_text w (codes "nsec3") wrong (codes "nsec3", (refl, refl))) refl

pub kind_read : (ws us : WordList) (w : List ℕ) → ws ≡ w ∷ us → next_kind ws ≡ kind_by_word w us
kind_read ws us w e = rw e refl

pub ruleset kinds = (kind_not_text, kind_read)
