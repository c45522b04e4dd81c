-- The name whose sets a change is about
use Rattle.std.proofs.Common.{◌≡◌, ℕ, Bool, true, false, not, ◌&&◌, ◌==◌, List, [], ◌∷◌, subst, Result, Ok, Err}
use Rattle.std.specs.Prelude.{if◌then◌else◌}
use Rattle.std.specs.List.{AllByRecursion}
use Rattle.zone_proto.specs.declared.rdata.RData.{RData}
use Rattle.zone_proto.specs.Keys.{key}
use Rattle.zone_proto.specs.Names.{Name, lower}
use Rattle.zone_proto.specs.Types.{ANY, IN, is_derived}
use Rattle.zone_update.specs.Changes.{addition, change_by_class, change_of, changes_of, deletion, if_permitted, record_deletion}
use Rattle.zone_update.specs.Entries.{◌>>=◌, class_any, class_none, if_data, if_empty, is_in_zone, is_meta, record_of}
use Rattle.zone_update.specs.declared.change.Change.{Change}
use Rattle.zone_update.specs.declared.change.Change.TheVariants.{Add, DeleteSet, DeleteName, DeleteRecord}
use Rattle.zone_update.specs.declared.entry.Content.{Content}
use Rattle.zone_update.specs.declared.entry.Content.TheVariants.{Empty, Unread, Data}
use Rattle.zone_update.specs.declared.entry.Entry.{Entry}
use Rattle.zone_update.specs.declared.refusal.Refusal.{Refusal}
use Rattle.zone_update.specs.declared.refusal.Refusal.TheVariants.{FormErr, NotZone, Refused}

abbrev pub name_of : Change → Name
name_of (Add r) = lower r.name
name_of (DeleteSet k) = k.name
name_of (DeleteName n) = n
name_of (DeleteRecord n d) = n

module _ (p : Name → Bool) where
  -- the name of a change passes, if there is one
  abbrev Passes : Result Change Refusal → Type 0
  Passes (Ok c) = p (name_of c) ≡ true
  Passes (Err e) = Unit {0}

  abbrev pub EachPasses : List Change → Type 0
  EachPasses cs = AllByRecursion (λ c. p (name_of c) ≡ true) cs

  abbrev AllPass : Result (List Change) Refusal → Type 0
  AllPass (Ok cs) = EachPasses cs
  AllPass (Err e) = Unit {0}

  either : (b : Bool) (x y : Result Change Refusal) → Passes x → Passes y → Passes (if b then x else y)
  either true x y h g = h
  either false x y h g = g

  of_data : (x : Content) (f : RData → Change) → ((d : RData) → p (name_of (f d)) ≡ true) → Passes (if_data x f)
  of_data Empty f h = tt
  of_data Unread f h = tt
  of_data (Data d) f h = h d

  of_empty : (x : Content) (c : Change) → p (name_of c) ≡ true → Passes (if_empty x c)
  of_empty Empty c h = h
  of_empty Unread c h = tt
  of_empty (Data d) c h = tt

  of_permitted : (t : ℕ) (o : Result Change Refusal) → Passes o → Passes (o >>= if_permitted t)
  of_permitted t (Err e) h = tt
  of_permitted t (Ok c) h = either (is_derived t) (Err Refused) (Ok c) tt h

  module _ (r : Entry) (h : p (lower r.name) ≡ true) where
    of_addition : Passes (addition r.name r.record_type.0 r.ttl r.content)
    of_addition =
        either (is_meta r.record_type.0) (Err FormErr) (if_data r.content (λ d. Add (record_of r.name r.ttl d))) tt
        (of_data r.content (λ d. Add (record_of r.name r.ttl d)) (λ d. h))

    of_deletion : Passes (deletion (lower r.name) r.record_type.0 r.content)
    of_deletion =
        either (r.record_type.0 == ANY) (if_empty r.content (DeleteName (lower r.name)))
        (if is_meta r.record_type.0 then Err FormErr else if_empty r.content (DeleteSet (key (lower r.name) r.record_type.0)))
        (of_empty r.content (DeleteName (lower r.name)) h)
        (either (is_meta r.record_type.0) (Err FormErr) (if_empty r.content (DeleteSet (key (lower r.name) r.record_type.0))) tt
        (of_empty r.content (DeleteSet (key (lower r.name) r.record_type.0)) h))

    of_record_deletion : Passes (record_deletion (lower r.name) r.record_type.0 r.content)
    of_record_deletion =
        either (is_meta r.record_type.0) (Err FormErr) (if_data r.content (λ d. DeleteRecord (lower r.name) d)) tt
        (of_data r.content (λ d. DeleteRecord (lower r.name) d) (λ d. h))

    of_class : Passes (change_by_class (lower r.name) r)
    of_class =
        either (r.dns_class.0 == IN) (addition r.name r.record_type.0 r.ttl r.content)
        (if (r.dns_class.0 == class_any) && (r.ttl == 0) then deletion (lower r.name) r.record_type.0 r.content
        else (if (r.dns_class.0 == class_none) && (r.ttl == 0) then record_deletion (lower r.name) r.record_type.0 r.content else Err FormErr))
        of_addition
        (either ((r.dns_class.0 == class_any) && (r.ttl == 0)) (deletion (lower r.name) r.record_type.0 r.content)
        (if (r.dns_class.0 == class_none) && (r.ttl == 0) then record_deletion (lower r.name) r.record_type.0 r.content else Err FormErr)
        of_deletion
        (either ((r.dns_class.0 == class_none) && (r.ttl == 0)) (record_deletion (lower r.name) r.record_type.0 r.content) (Err FormErr) of_record_deletion tt))

    of_entry : (origin : Name) → Passes (change_of origin r)
    of_entry origin =
        either (not (is_in_zone origin r.name)) (Err NotZone) (change_by_class (lower r.name) r >>= if_permitted r.record_type.0) tt
        (of_permitted r.record_type.0 (change_by_class (lower r.name) r) of_class)

  one_more : (o : Result Change Refusal) (os : Result (List Change) Refusal) → Passes o → AllPass os → AllPass (o >>= λ c. os >>= λ cs. Ok (c ∷ cs))
  one_more (Err e) os h g = tt
  one_more (Ok c) (Err e) h g = tt
  one_more (Ok c) (Ok cs) h g = (h, g)

  of_each : (origin : Name) (rs : List Entry) → AllByRecursion (λ (r : Entry). p (lower r.name) ≡ true) rs → AllPass (changes_of origin rs)
  unfolding changes_of
  of_each origin [] h = tt
  of_each origin (r ∷ rs) h = one_more (change_of origin r) (changes_of origin rs) (of_entry r h.0 origin) (of_each origin rs h.1)

  -- what records ask for is about their names
  pub each_passes : (origin : Name) (rs : List Entry) (cs : List Change) → AllByRecursion (λ (r : Entry). p (lower r.name) ≡ true) rs → changes_of origin rs ≡ Ok cs → EachPasses cs
  each_passes origin rs cs h e = by (changes_of origin rs) e (of_each origin rs h)
    where
      by : (o : Result (List Change) Refusal) → o ≡ Ok cs → AllPass o → EachPasses cs
      by (Err f) g a = absurd cc
      by (Ok ds) g a = let same : ds ≡ cs = cc in subst EachPasses same a
