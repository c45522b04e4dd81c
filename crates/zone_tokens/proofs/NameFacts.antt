-- A name is read by itself as defined.
use Rattle.std.proofs.Common.{◌≡◌, ◌≢◌, ◌⊎◌, inl, inr, ℕ, List, [], ◌∷◌, ◌++◌, Bool, true, false, ◌==◌, not, if◌then◌else◌, nat_lt, length, arith, sym, ap, ◌∙◌, append_assoc, append-nil, Option, Some, None, Ok, Err, Result, refl, subst}
use Rattle.std.specs.Prelude.{IfOk}
use Rattle.std.specs.Str.{IsUtf8}
use Rattle.std.proofs.lemmas.Str.{IsUtf8-from_ascii}
use Rattle.zone_proto.specs.declared.error.ProtoError.{ProtoError}
use Rattle.zone_proto.specs.declared.error.ProtoError.TheVariants.{BadText, Memory, EmptyLabel, LabelTooLong, NameTooLong, Hash}
use Rattle.zone_proto.specs.Names.{Name, IsName, wire_length}
use Rattle.zone_proto.specs.TextForm.{IsNameText}
use Rattle.std.specs.List.{list_all}
use Rattle.zone_proto.specs.TextForm.{dot, backslash, is_graphic}
use Rattle.zone_proto.specs.Parse.{Reader, labels_of_text, next_or_none, plain_step, read_on, start, with_octet}
use Rattle.zone_proto.specs.Faults.{fault_of, IsTextFault, no_labels, no_name}
use Rattle.zone_proto.specs.Results.{ReportsTextFault}
use Rattle.zone_proto.proofs.Texts.TextForms.{form_read, read_form}
use Rattle.zone_proto.proofs.Texts.TextFaults.{name_has_no_fault}
use Rattle.line_text.proofs.Ascii.{name_ascii}
use Rattle.zone_proto.specs.Data.{same_octets}
use Rattle.std.proofs.lemmas.Bool.{not-true}
use Rattle.zone_tokens.proofs.WordTexts.{and_first, and_second}
use Rattle.zone_tokens.specs.Names.{at_sign, before_origin, graphic_name, is_absolute, is_itself, is_one_label, name_alone, name_under, checked_if_there, checked, spelled, unless, unless_spelled, Refuses, Reads}

pub alone_read : (w : List ℕ) (n : Name) → IsNameText w n → IsName n → graphic_name w ≡ Ok n
alone_read w n form name = rw (form_read w n form) (by (fault_of n) refl)
  where
    by : (f : Option ProtoError) → fault_of n ≡ f → unless f n ≡ Ok n
    by None e = refl
    by (Some g) e = absurd (name_has_no_fault w n g form name (no_name n form e))

refused : (w : List ℕ) (e : ProtoError) → IsTextFault w e → graphic_name w ≡ Err e
refused w e (no_labels bad is) = by (labels_of_text w) refl
  where
    by : (o : Option Name) → labels_of_text w ≡ o → checked_if_there o ≡ Err e
    by None h = rw is refl
    by (Some ls) h = absurd (bad ls (read_form w ls h))
refused w e (no_name ls form fault) = rw (form_read w ls form, fault) refl

told : (e : ProtoError) (r : Result Name ProtoError) → r ≡ Err e → Refuses e r
told BadText r h = h
told EmptyLabel r h = h
told LabelTooLong r h = h
told NameTooLong r h = h
told Hash r h = h
told Memory r h = tt

pub alone_refused : (w : List ℕ) (e : ProtoError) → (e ≡ Memory) ⊎ IsTextFault w e → Refuses e (graphic_name w)
alone_refused w e (inl m) = rw m tt
alone_refused w e (inr fault) = told e (graphic_name w) (refused w e fault)

pub alone_not_text : (w : List ℕ) → ¬ (IsUtf8 w) → graphic_name w ≡ Err BadText
alone_not_text w wrong = by (labels_of_text w) refl
  where
    by : (o : Option Name) → labels_of_text w ≡ o → checked_if_there o ≡ Err BadText
    by None h = refl
    by (Some ls) h = absurd (wrong (IsUtf8-from_ascii w (name_ascii w ls (read_form w ls h))))

-- what is read of a text that is the word's octets
pub read_as_text : (w t : List ℕ) (r : Result Name ProtoError) → t ≡ w → IfOk r (IsNameText t) → IfOk r (λ n. IsName n) → ReportsTextFault r t → Reads r (graphic_name w)
read_as_text w t (Ok n) same form name fault = alone_read w n (subst (λ s. IsNameText s n) same form) name
read_as_text w t (Err e) same form name fault =
    let P : List ℕ → Type 0 = λ s. (e ≡ Memory) ⊎ IsTextFault s e in
    alone_refused w e (subst P same fault)

pub ruleset names = (alone_read, alone_refused, alone_not_text)

-- ---- a name that isn't read as it is

pub read_again : (w : List ℕ) (e : ProtoError) (again : Result Name ProtoError) → e ≡ BadText → Refuses e (graphic_name w) → Reads again (graphic_name (spelled w)) → Reads again (name_alone w)
read_again w e again is h more = let bad : graphic_name w ≡ Err BadText = subst (λ (x : ProtoError). Refuses x (graphic_name w)) is h in rw bad more

pub read_once : (w : List ℕ) (n : Name) → graphic_name w ≡ Ok n → name_alone w ≡ Ok n
read_once w n h = rw h refl

pub refused_once : (w : List ℕ) (e : ProtoError) → e ≢ BadText → Refuses e (graphic_name w) → Refuses e (name_alone w)
refused_once w BadText other h = absurd (other refl)
refused_once w EmptyLabel other h = rw h refl
refused_once w LabelTooLong other h = rw h refl
refused_once w NameTooLong other h = rw h refl
refused_once w Hash other h = rw h refl
refused_once w Memory other h = tt

pub ruleset again = (read_again, read_once, refused_once)

-- ---- labels that are a name or not

pub checked_given : (ls : Name) → fault_of ls ≡ None → checked ls ≡ Ok ls
checked_given ls h = rw h refl

pub checked_refused : (ls : Name) (e : ProtoError) → fault_of ls ≡ Some e → Refuses e (checked ls)
checked_refused ls e h = told e (checked ls) (rw h refl)

pub checked_given_or : (ls : Name) (e : ProtoError) → (e ≡ Memory) ⊎ (fault_of ls ≡ Some e) → Refuses e (checked ls)
checked_given_or ls e (inl m) = rw m tt
checked_given_or ls e (inr h) = checked_refused ls e h

pub ruleset checks = (checked_given, checked_refused, checked_given_or)

-- ---- a word that is one label

no_dot : (b : ℕ) → is_itself b ≡ true → (b == dot) ≡ false
no_dot b own = not-true _ (and_first _ _ (and_second _ _ own))

no_slash : (b : ℕ) → is_itself b ≡ true → (b == backslash) ≡ false
no_slash b own = not-true _ (and_second _ _ (and_second _ _ own))

itself_read : (b : ℕ) (r : Reader) → is_itself b ≡ true → plain_step r b ≡ Some (with_octet r b)
itself_read b r own =
    let graphic : is_graphic b ≡ true = and_first _ _ own in
    rw (no_dot b own, no_slash b own, graphic) refl

label_read : (s : List ℕ) (r : Reader) (b : ℕ) → list_all is_itself s ≡ true → read_on s (with_octet r b) ≡ Some (r.labels ++ ((r.label ++ b ∷ []) ++ s) ∷ [])
label_read [] r b all = ap (λ (l : List ℕ). Some (r.labels ++ l ∷ [])) (sym (append-nil (r.label ++ b ∷ [])))
label_read (c ∷ s) r b all =
    ap (λ (o : Option Reader). next_or_none o (read_on s)) (itself_read c (with_octet r b) (and_first _ _ all))
    ∙ label_read s (with_octet r b) c (and_second _ _ all)
    ∙ ap (λ (l : List ℕ). Some (r.labels ++ l ∷ [])) (append_assoc (r.label ++ b ∷ []) (c ∷ []) s)

every_octet : (w : List ℕ) → is_one_label w ≡ true → list_all is_itself w ≡ true
every_octet w h = and_second (not (length w == 0)) (list_all is_itself w) h

one_label_text : (w : List ℕ) → is_one_label w ≡ true → labels_of_text w ≡ Some (w ∷ [])
one_label_text [] all = absurd cc
one_label_text (b ∷ []) all =
    let every : list_all is_itself (b ∷ []) ≡ true = every_octet (b ∷ []) all in
    let own : is_itself b ≡ true = and_first _ _ every in
    ap (λ (alone : Bool). if alone then Some [] else read_on (b ∷ []) start) (no_dot b own)
    ∙ ap (λ (o : Option Reader). next_or_none o (read_on [])) (itself_read b start own)
one_label_text (b ∷ c ∷ s) all =
    let every : list_all is_itself (b ∷ c ∷ s) ≡ true = every_octet (b ∷ c ∷ s) all in
    ap (λ (o : Option Reader). next_or_none o (read_on (c ∷ s))) (itself_read b start (and_first _ _ every))
    ∙ label_read (c ∷ s) start b (and_second _ _ every)

one_label_relative : (w : List ℕ) → list_all is_itself w ≡ true → is_absolute w ≡ false
one_label_relative [] all = refl
one_label_relative (b ∷ []) all = no_dot b (and_first _ _ all)
one_label_relative (b ∷ c ∷ s) all = rw (no_slash b (and_first _ _ all)) (one_label_relative (c ∷ s) (and_second _ _ all))

-- before the origin it has the faults that it has by itself
label_checked : (origin : Name) (w : List ℕ) → is_one_label w ≡ true → before_origin origin (checked (w ∷ [])) ≡ checked (w ∷ origin)
label_checked origin [] all = absurd cc
label_checked origin (b ∷ s) all = by (nat_lt 63 (length (b ∷ s))) refl
  where
    short : nat_lt 63 (length (b ∷ s)) ≡ false → nat_lt 255 (wire_length ((b ∷ s) ∷ [])) ≡ false
    short h = grind arith

    some : (length (b ∷ s) == 0) ≡ false
    some = grind arith

    by : (long : Bool) → nat_lt 63 (length (b ∷ s)) ≡ long → before_origin origin (checked ((b ∷ s) ∷ [])) ≡ checked ((b ∷ s) ∷ origin)
    by true h = rw (some, h) refl
    by false h =
        let faultless : fault_of ((b ∷ s) ∷ []) ≡ None = rw (some, h, short h) refl in
        ap (λ (f : Option ProtoError). before_origin origin (unless f ((b ∷ s) ∷ []))) faultless

-- its text is a name's, so no octet of it is spelled otherwise
label_alone : (w : List ℕ) → is_one_label w ≡ true → unless_spelled w (checked (w ∷ [])) ≡ checked (w ∷ [])
label_alone [] all = absurd cc
label_alone (b ∷ s) all = by (nat_lt 63 (length (b ∷ s))) refl
  where
    short : nat_lt 63 (length (b ∷ s)) ≡ false → nat_lt 255 (wire_length ((b ∷ s) ∷ [])) ≡ false
    short h = grind arith

    some : (length (b ∷ s) == 0) ≡ false
    some = grind arith

    by : (long : Bool) → nat_lt 63 (length (b ∷ s)) ≡ long → unless_spelled (b ∷ s) (checked ((b ∷ s) ∷ [])) ≡ checked ((b ∷ s) ∷ [])
    by true h = rw (some, h) refl
    by false h =
        let faultless : fault_of ((b ∷ s) ∷ []) ≡ None = rw (some, h, short h) refl in
        rw faultless refl

pub one_label : (origin : Name) (w : List ℕ) (result : Result Name ProtoError) → same_octets w at_sign ≡ false → is_one_label w ≡ true
    → Reads result (checked (w ∷ origin)) → Reads result (name_under origin w)
one_label origin w result h k r =
    let every : list_all is_itself w ≡ true = every_octet w k in
    rw (h, one_label_relative w every, one_label_text w k, label_alone w k, label_checked origin w k) r

-- ---- a name before the origin

pub given_before : (origin n : Name) (r : Result Name ProtoError) (result : Result Name ProtoError) → r ≡ Ok n → Reads result (checked (n ++ origin)) → Reads result (before_origin origin r)
given_before origin n r result h k = rw h k

pub refused_before : (origin : Name) (e : ProtoError) (r : Result Name ProtoError) → Refuses e r → Refuses e (before_origin origin r)
refused_before origin BadText r h = rw h refl
refused_before origin EmptyLabel r h = rw h refl
refused_before origin LabelTooLong r h = rw h refl
refused_before origin NameTooLong r h = rw h refl
refused_before origin Hash r h = rw h refl
refused_before origin Memory r h = tt

pub ruleset before = (given_before, refused_before)

-- ---- a name under an origin

pub at_origin : (origin : Name) (w : List ℕ) → same_octets w at_sign ≡ true → name_under origin w ≡ Ok origin
at_origin origin w h = rw h refl

pub absolute : (origin : Name) (w : List ℕ) (result : Result Name ProtoError) → same_octets w at_sign ≡ false → is_absolute w ≡ true → Reads result (name_alone w) → Reads result (name_under origin w)
absolute origin w result h k r = rw (h, k) r

pub relative : (origin : Name) (w : List ℕ) (result : Result Name ProtoError) → same_octets w at_sign ≡ false → is_absolute w ≡ false → Reads result (before_origin origin (name_alone w)) → Reads result (name_under origin w)
relative origin w result h k r = rw (h, k) r

pub ruleset under = (at_origin, one_label, absolute, relative)
