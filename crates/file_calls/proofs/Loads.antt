-- What a zone file with those that it includes does to the zones that a program keeps, from what its records do to a database
use Rattle.std.proofs.Common.{◌≡◌, ◌≢◌, ◌⊎◌, ◌==◌, ℕ, List, [], ◌∷◌, length, Bool, true, false, not, inl, inr, true≢false, refl, sym, ap, subst, ◌∙◌, Result, Ok, Err}
use Rattle.std.specs.Prelude.{Option, Some, None, map, IsErr}
use Rattle.std.specs.Str.{bytes_eq, IsUtf8}
use Rattle.std.proofs.lemmas.Slice.Eq.{bytes_eq-Decides}
use Rattle.std.proofs.Math.Dec.{eqb-suc-zero}
use Rattle.std.proofs.Math.Path.{fun_ext}
use Rattle.zone_proto.specs.declared.error.ProtoError.{ProtoError}
use Rattle.zone_proto.specs.Names.{Name, lower}
use Rattle.zone_file.specs.declared.placed.PlacedRecord.{PlacedRecord}
use Rattle.zone_builder.specs.declared.given.GivenRecord.{GivenRecord}
use Rattle.zone_builder.specs.declared.loading.Loaded.{Loaded}
use Rattle.zone_texts.specs.Inclusions.{Files, records_of}
use Rattle.zone_database.specs.declared.database.ZoneDatabase.{ZoneDatabase}
use Rattle.zone_database.specs.declared.outcome.Outcome.{Outcome}
use Rattle.zone_database.specs.declared.outcome.Outcome.TheVariants as database
use Rattle.zone_database.specs.declared.zone.Zone.{Zone}
use Rattle.zone_database.specs.Calls.{origin_of}
use Rattle.zone_database.specs.Databases.{with_zone, zones_in}
use Rattle.zone_database.specs.Texts.{given_of}
use Rattle.zone_database.specs.Texts as texts
use Rattle.zone_database.specs.Zones.{zone_of_records}
use Rattle.zone_database.proofs.TextFacts.{served_so}
use Rattle.included_texts.specs.declared.kept.KeptTexts.{KeptTexts}
use Rattle.included_texts.specs.declared.kept.Lack.{Lack}
use Rattle.included_texts.specs.Kept.{files_of, IsSame, kept_of}
use Rattle.included_texts.specs.Kept as kept
use Rattle.file_calls.specs.declared.outcome.FileOutcome.{FileOutcome}
use Rattle.file_calls.specs.declared.outcome.FileOutcome.TheVariants as outcome
use Rattle.file_calls.specs.Calls.{HoldSame, kept_in, wanted_in}
use Rattle.file_calls.specs.Loading.{IsLoaded, IsWanting, LoadsHeld, PutsFiles, PutsRecords, PutsZone}

-- ---- the text of the file itself

-- it is the one that is given
pub own_text : (file text : List ℕ) (k : List ℕ → Option (Result (List ℕ) Lack)) → (files_of file text k).text file ≡ text
own_text file text k = rw ((bytes_eq-Decides file file).1 refl) refl

-- ---- records

module _ (origin : Name) (gs : List GivenRecord) (old : List Zone) where
  pub records_put : (loaded : Loaded) (new : List Zone) (o : FileOutcome) → texts.IsLoaded origin gs loaded → PutsZone (zone_of_records loaded.origin loaded.records) old o new → PutsRecords origin gs old o new
  records_put loaded new outcome.Done h is = (zone_of_records loaded.origin loaded.records, served_so origin gs loaded (zone_of_records loaded.origin loaded.records) h refl, is)
  records_put loaded new outcome.Closed h is = absurd is
  records_put loaded new outcome.BadName h is = absurd is
  records_put loaded new outcome.BadText h is = absurd is
  records_put loaded new outcome.NoMemory h is = is
  records_put loaded new outcome.NoRoom h is = absurd is
  records_put loaded new outcome.WantsFiles h is = absurd is
  records_put loaded new outcome.NoFile h is = absurd is
  records_put loaded new outcome.BadFileName h is = absurd is

  pub records_bad : (o : FileOutcome) → (o ≡ outcome.BadText) ⊎ (o ≡ outcome.NoMemory) → PutsRecords origin gs old o old
  records_bad o (inl e) = subst (λ (end : FileOutcome). PutsRecords origin gs old end old) (sym e) refl
  records_bad o (inr e) = subst (λ (end : FileOutcome). PutsRecords origin gs old end old) (sym e) refl

-- a zone that is made of what was loaded
pub zone_put : (z made : Zone) (old new : List Zone) → z ≡ made → new ≡ with_zone z old → PutsZone made old outcome.Done new
zone_put z made old new same put = put ∙ ap (λ (y : Zone). with_zone y old) same

-- ---- files

module _ (files : Files) (origin : Name) (file : List ℕ) (old : List Zone) where
  pub files_put : (again : Name) (records : List PlacedRecord) (new : List Zone) (o : FileOutcome) → again ≡ origin → records_of files again file ≡ Some records → PutsRecords (lower origin) (map given_of records) old o new → PutsFiles files origin file old o new
  files_put again records new o same read is = put records new o (subst (λ (n : Name). records_of files n file ≡ Some records) same read) is
    where
      put : (records : List PlacedRecord) (new : List Zone) (o : FileOutcome) → records_of files origin file ≡ Some records → PutsRecords (lower origin) (map given_of records) old o new → PutsFiles files origin file old o new
      put records new outcome.Done read (z, zone, is) = (z, record { records = records; read = read; zone = zone }, is)
      put records new outcome.Closed read is = absurd is
      put records new outcome.BadName read is = absurd is
      put records new outcome.BadText read is = is
      put records new outcome.NoMemory read is = is
      put records new outcome.NoRoom read is = absurd is
      put records new outcome.WantsFiles read is = absurd is
      put records new outcome.NoFile read is = absurd is
      put records new outcome.BadFileName read is = absurd is

  pub files_bad : (o : FileOutcome) → (o ≡ outcome.BadText) ⊎ (o ≡ outcome.NoMemory) → PutsFiles files origin file old o old
  files_bad o (inl e) = subst (λ (end : FileOutcome). PutsFiles files origin file old end old) (sym e) refl
  files_bad o (inr e) = subst (λ (end : FileOutcome). PutsFiles files origin file old end old) (sym e) refl

-- which files are wanted where none is left
pub none_wanted : (origin : Name) (gs : List GivenRecord) (old new : List Zone) (names : List (List ℕ)) (o : FileOutcome) → names ≡ [] → PutsRecords origin gs old o new → IsWanting o names
none_wanted origin gs old new names outcome.Done none is = none
none_wanted origin gs old new names outcome.Closed none is = tt
none_wanted origin gs old new names outcome.BadName none is = tt
none_wanted origin gs old new names outcome.BadText none is = none
none_wanted origin gs old new names outcome.NoMemory none is = tt
none_wanted origin gs old new names outcome.NoRoom none is = tt
none_wanted origin gs old new names outcome.WantsFiles none is = absurd is
none_wanted origin gs old new names outcome.NoFile none is = tt
none_wanted origin gs old new names outcome.BadFileName none is = tt

pub bad_wanted : (names : List (List ℕ)) (o : FileOutcome) → names ≡ [] → (o ≡ outcome.BadText) ⊎ (o ≡ outcome.NoMemory) → IsWanting o names
bad_wanted names o none (inl e) = subst (λ (end : FileOutcome). IsWanting end names) (sym e) none
bad_wanted names o none (inr e) = subst (λ (end : FileOutcome). IsWanting end names) (sym e) tt

-- whether any are
pub no_names : (names : List (List ℕ)) (wants : Bool) → wants ≡ not (length names == 0) → wants ≡ false → names ≡ []
no_names names wants is no_more = none names (sym is ∙ no_more)
  where
    none : (names : List (List ℕ)) → not (length names == 0) ≡ false → names ≡ []
    none [] h = refl
    none (x ∷ xs) h = absurd (true≢false (sym (ap not (eqb-suc-zero (length xs))) ∙ h))

pub some_names : (names : List (List ℕ)) (wants : Bool) → wants ≡ not (length names == 0) → wants ≡ true → names ≢ []
some_names names wants is more e = true≢false (sym (sym is ∙ more) ∙ ap (λ (ns : List (List ℕ)). not (length ns == 0)) e)

-- ---- what is given as octets

-- the origin isn't read
pub bad_name : (r : Result Name ProtoError) → (database.BadName ≡ database.NoMemory) ⊎ ((database.BadName ≡ database.BadName) × IsErr r) → IsErr r
bad_name r (inl e) = absurd cc
bad_name r (inr w) = w.1

-- the name of the file is read
pub named : (origin given file text : List ℕ) (k : List ℕ → Option (Result (List ℕ) Lack)) (name : Name) (old new : List Zone) (o : FileOutcome) → origin_of origin ≡ Ok name → given ≡ file
    → PutsFiles (files_of given text k) name given old o new → IsLoaded (files_of file text k) origin file old o new
named origin given file text k name old new o is same h = loaded o (subst (λ (f : List ℕ). PutsFiles (files_of f text k) name f old o new) same h)
  where
    loaded : (o : FileOutcome) → PutsFiles (files_of file text k) name file old o new → IsLoaded (files_of file text k) origin file old o new
    loaded outcome.Done p = (name, is, p)
    loaded outcome.Closed p = absurd p
    loaded outcome.BadName p = absurd p
    loaded outcome.BadText p = p
    loaded outcome.NoMemory p = p
    loaded outcome.NoRoom p = absurd p
    loaded outcome.WantsFiles p = p
    loaded outcome.NoFile p = absurd p
    loaded outcome.BadFileName p = absurd p

module _ (files : Files) (origin file : List ℕ) where
  pub loaded_held : (held new : Option ZoneDatabase) (c after : ZoneDatabase) (o : FileOutcome) → held ≡ Some c → IsLoaded files origin file (zones_in c) o (zones_in after) → new ≡ Some after → LoadsHeld files origin file held o new
  loaded_held held new c after o is h set = subst (λ (zs : Option ZoneDatabase). LoadsHeld files origin file zs o new) (sym is) (after, h, set)

  pub closed : (held new : Option ZoneDatabase) → held ≡ None → new ≡ None → LoadsHeld files origin file held outcome.Closed new
  closed held new none end = subst (λ (zs : Option ZoneDatabase). LoadsHeld files origin file zs outcome.Closed new) (sym none) (inl refl, end)

  pub unloaded : (held : Option ZoneDatabase) → LoadsHeld files origin file held outcome.NoMemory held
  unloaded None = (inr refl, refl)
  unloaded (Some c) = (c, refl, refl)

-- ---- beside what a handle holds

pub beside_held : (origin file text : List ℕ) (zones new : Option ZoneDatabase) (held : Option KeptTexts) (t : KeptTexts) (o : FileOutcome) → HoldSame held (Some t)
    → LoadsHeld (files_of file text (kept_of t)) origin file zones o new → LoadsHeld (files_of file text (kept_in held)) origin file zones o new
beside_held origin file text zones new held t o had h =
    subst (λ (k : List ℕ → Option (Result (List ℕ) Lack)). LoadsHeld (files_of file text k) origin file zones o new) (fun_ext had.kept) h

pub same_beside : (held new : Option KeptTexts) (t end : KeptTexts) → HoldSame held (Some t) → IsSame (kept_of t) (kept_of end) → new ≡ Some end → IsSame (kept_in held) (kept_in new)
same_beside held new t end had h set = subst (λ (last : Option KeptTexts). IsSame (kept_in held) (kept_in last)) (sym set) (λ n. h n ∙ had.kept n)

pub wanting_beside : (new : Option KeptTexts) (end : KeptTexts) (o : FileOutcome) → IsWanting o (kept.wanted_in end) → new ≡ Some end → IsWanting o (wanted_in new)
wanting_beside new end o h set = subst (λ (last : Option KeptTexts). IsWanting o (wanted_in last)) (sym set) h
