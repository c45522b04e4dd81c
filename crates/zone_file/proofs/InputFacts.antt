-- What is read of an input, read by read
use Rattle.std.proofs.Common.{◌≡◌, ℕ, List, [], ◌++◌, Option, Some, None, refl, sym, ap, subst, ◌∙◌}
use Rattle.std.specs.Prelude.{map}
use Rattle.std.specs.Io.KnownBytes.{Consumes, IsAtEnd}
use Rattle.zone_proto.specs.Names.{Name}
use Rattle.zone_file.specs.declared.placed.PlacedRecord.{PlacedRecord}
use Rattle.zone_file.specs.declared.error.ZoneFault.{ZoneFault}
use Rattle.zone_file.specs.declared.error.ZoneError.{ZoneError}
use Rattle.zone_file.specs.declared.error.ZoneError.TheVariants as errors
use Rattle.zone_file.specs.declared.error.InputError.TheVariants as inputs
use Rattle.zone_file.specs.Faults.{input_error_of}
use Rattle.zone_file.specs.Inputs.{GoesOn, with_rest}
use Rattle.zone_file.specs.Zones.{EndsIn, Outcome, Read, Standing, outcomes_from, zone_of}

-- octets that an input had left begin with those that were read
abbrev Left : Option (List ℕ) → List ℕ → List ℕ → Type 0
Left new read text = (left : List ℕ) × (new ≡ Some left) × (text ≡ read ++ left)

consumed : (new : Option (List ℕ)) (read text : List ℕ) → Consumes (Some text) new read → Left new read text
consumed None read text h = absurd h
consumed (Some left) read text h = (left, refl, h)

consumed_of : (old new : Option (List ℕ)) (read text : List ℕ) → old ≡ Some text → Consumes old new read → Left new read text
consumed_of old new read text e h = consumed new read text (subst (λ (o : Option (List ℕ)). Consumes o new read) e h)

told_fault : (e : ZoneError) (f : ZoneFault) → input_error_of e ≡ inputs.Fault f → e ≡ errors.Fault f
told_fault errors.Memory f h = absurd (cc)
told_fault (errors.Fault g) f h = let same : g ≡ f = cc in ap errors.Fault same

-- a fault in what a read gives
pub ends_within : (old new : Option (List ℕ)) (rs : List PlacedRecord) (y : Standing) (read : List ℕ) (e : ZoneError) (f : ZoneFault)
    → Consumes old new read
    → ((g : ZoneFault) → e ≡ errors.Fault g → (more : List ℕ) → EndsIn g (with_rest rs (read ++ more) y))
    → input_error_of e ≡ inputs.Fault f
    → (text : List ℕ) → old ≡ Some text → EndsIn f (with_rest rs text y)
ends_within old new rs y read e f h k same text known =
    let is = consumed_of old new read text known h in
    subst (EndsIn f) (sym (ap (λ (t : List ℕ). with_rest rs t y) is.2)) (k f (told_fault e f same) is.0)

-- a fault behind what was read
pub ends_later : (old mid : Option (List ℕ)) (ps rs : List PlacedRecord) (x y : Standing) (f : ZoneFault)
    → GoesOn old mid ps rs x y
    → ((text : List ℕ) → mid ≡ Some text → EndsIn f (with_rest rs text y))
    → (text : List ℕ) → old ≡ Some text → EndsIn f (with_rest ps text x)
ends_later old mid ps rs x y f h k text e =
    let was = h text e in
    subst (EndsIn f) (sym was.2) (k was.0 was.1)

-- at the end nothing is left
nothing_left : (known : Option (List ℕ)) (left : List ℕ) → IsAtEnd known → known ≡ Some left → left ≡ []
nothing_left None left end e = absurd (cc)
nothing_left (Some more) left end e = let same : left ≡ more = cc in same ∙ end

pub at_end : (old new : Option (List ℕ)) (rs qs : List PlacedRecord) (y z : Standing)
    → GoesOn old new rs qs y z → IsAtEnd new
    → (text : List ℕ) → old ≡ Some text → with_rest rs text y ≡ with_rest qs [] z
at_end old new rs qs y z h end text e =
    let is = h text e in
    is.2 ∙ ap (λ (t : List ℕ). with_rest qs t z) (nothing_left new is.0 end is.1)

-- what is read of an input is what is read of its text
of_text : (origin : Name) (text : List ℕ) (ps : List PlacedRecord) (y : Standing) → ps ≡ [] → ((t : List ℕ) → outcomes_from t y ≡ zone_of origin t)
    → with_rest ps text y ≡ zone_of origin text
of_text origin text ps y none start = ap (λ (rs : List PlacedRecord). with_rest rs text y) none ∙ start text

pub all_read : (origin : Name) (old new : Option (List ℕ)) (ps rs qs : List PlacedRecord) (y z : Standing)
    → ps ≡ [] → ((t : List ℕ) → outcomes_from t y ≡ zone_of origin t) → GoesOn old new ps rs y z → IsAtEnd new → with_rest rs [] z ≡ map Read qs
    → (text : List ℕ) → old ≡ Some text → zone_of origin text ≡ map Read qs
all_read origin old new ps rs qs y z none start h end k text e = sym (of_text origin text ps y none start) ∙ at_end old new ps rs y z h end text e ∙ k

pub fault_read : (origin : Name) (old : Option (List ℕ)) (ps : List PlacedRecord) (y : Standing) (f : ZoneFault)
    → ps ≡ [] → ((t : List ℕ) → outcomes_from t y ≡ zone_of origin t)
    → ((text : List ℕ) → old ≡ Some text → EndsIn f (with_rest ps text y))
    → (text : List ℕ) → old ≡ Some text → EndsIn f (zone_of origin text)
fault_read origin old ps y f none start h text e = subst (EndsIn f) (of_text origin text ps y none start) (h text e)

pub last_read : (origin : Name) (old new : Option (List ℕ)) (ps rs : List PlacedRecord) (y z : Standing) (e : ZoneError) (f : ZoneFault)
    → ps ≡ [] → ((t : List ℕ) → outcomes_from t y ≡ zone_of origin t) → GoesOn old new ps rs y z → IsAtEnd new
    → ((g : ZoneFault) → e ≡ errors.Fault g → EndsIn g (with_rest rs [] z))
    → input_error_of e ≡ inputs.Fault f
    → (text : List ℕ) → old ≡ Some text → EndsIn f (zone_of origin text)
last_read origin old new ps rs y z e f none start h end k t text known =
    subst (EndsIn f) (sym (at_end old new ps rs y z h end text known) ∙ of_text origin text ps y none start) (k f (told_fault e f t))
