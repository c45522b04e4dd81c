-- What holds whatever a file is read as with those that it includes
use Rattle.std.proofs.Common.{◌≡◌, ℕ, List, Option, Some, Result, Ok, Err, subst}
use Rattle.std.specs.Prelude.{IfOk}
use Rattle.zone_proto.specs.Names.{Name}
use Rattle.zone_texts.specs.declared.state.Reading.{Reading}
use Rattle.zone_texts.specs.Inclusions.{Files, records_of}
use Rattle.zone_texts.specs.Readings.{IsFaultless}

pub always : {X E : Type 0} (r : Result X E) (P : X → Type 0) → ((x : X) → P x) → IfOk r P
always (Ok x) P h = h x
always (Err e) P h = tt

-- what was read again of the file is what is read of its text
pub included_again : {E : Type 0} (r : Result Reading E) (again origin : Name) (file : List ℕ) (known : Option Files) (left : Option (List ℕ)) → again ≡ origin
    → IfOk r (λ (reading : Reading). (files : Files) → known ≡ Some files → IsFaultless reading → records_of files again file ≡ Some reading.records.items)
    → IfOk r (λ (reading : Reading). (text : List ℕ) → left ≡ Some text → (files : Files) → known ≡ Some files → files.text file ≡ text → IsFaultless reading → records_of files origin file ≡ Some reading.records.items)
included_again (Ok reading) again origin file known left same h = λ text is files k t f. subst (λ (o : Name). records_of files o file ≡ Some reading.records.items) same (h files k f)
included_again (Err e) again origin file known left same h = tt
