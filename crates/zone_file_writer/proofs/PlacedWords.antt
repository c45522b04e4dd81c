-- Printed words at their places in a line
use Rattle.std.proofs.Common.{List, [], ◌∷◌}
use Rattle.zone_scanner.specs.declared.place.Place.{Place}
use Rattle.zone_scanner.specs.Signs.{place_behind}
use Rattle.record_fields.specs.Fields.{Left, left_at}
use Rattle.zone_file_writer.specs.Words.{PrintedWord, word_text}
use Rattle.zone_file_writer.proofs.Lines.{place_after, words_from}

-- the place behind a word and the blank that follows it, and behind some words
abbrev pub behind : Place → PrintedWord → Place
behind p u = place_behind (place_after p (word_text u)) 32

abbrev pub place_from : Place → List PrintedWord → Place
place_from p [] = p
place_from p (u ∷ us) = place_from (behind p u) us

-- the place of the last of some words
abbrev pub last_from : Place → Place → List PrintedWord → Place
last_from q p [] = q
last_from q p (u ∷ us) = last_from p (behind p u) us

-- words that are left, from a place on
abbrev pub left : Place → Place → List PrintedWord → Left
left q p us = left_at q (words_from p us)
