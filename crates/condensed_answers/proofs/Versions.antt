-- The versions that steps lead over, and zones that are like them
use Rattle.std.proofs.Common.{◌≡◌, ℕ, List, [], ◌∷◌, refl, ◌∙◌, inl, inr}
use Rattle.std.specs.Prelude.{Some}
use Rattle.std.specs.List.{AllByRecursion}
use Rattle.std.specs.Map.{lookup}
use Rattle.zone_proto.specs.Keys.{key_eq}
use Rattle.zone_proto.specs.Names.{Name, lower}
use Rattle.zone_proto.specs.Sets.{RRset}
use Rattle.zone_proto.specs.declared.rr_key.RrKey.{RrKey}
use Rattle.zone_map.specs.Zones.{Sets, IsZone}
use Rattle.zone_difference.specs.Laws.{last_of}
use Rattle.shown_zones.specs.Sending.{sent}
use Rattle.shown_zones.specs.StepLaws.{AreSteps}
use Rattle.shown_zones.specs.Steps.{Step}
use Rattle.incremental_laws.specs.Versions.{AreKept, IsVersion, Leads}
use Rattle.condensed_steps.specs.CondenseLaws.{IsLike, IsOfOne}

-- a secondary keeps each of the sets of a zone
abbrev pub KeepsAll : Name → Sets → Type 0
KeepsAll o m = (k : RrKey) (s : RRset) → lookup (key_eq k) m ≡ Some s → AreKept o k (sent s)

pub version_first : (o : Name) (before : ℕ) (a : Sets) (ss : List Step) (newest : ℕ) (z : Sets) → Leads o before a ss newest z → IsVersion o before a
version_first o before a [] newest z h = absurd h
version_first o before a (s ∷ []) newest z h = h.0
version_first o before a (s ∷ t ∷ ss) newest z h = h.0

pub version_last : (o : Name) (before : ℕ) (a : Sets) (ss : List Step) (newest : ℕ) (z : Sets) → Leads o before a ss newest z → IsVersion o newest z
version_last o before a [] newest z h = absurd h
version_last o before a (s ∷ []) newest z h = h.1
version_last o before a (s ∷ t ∷ ss) newest z h = version_last o h.1 h.2 (t ∷ ss) newest z h.5

-- the versions behind the first, to the last
pub record Chain (o : Name) (a : Sets) (ss : List Step) (z : Sets) : Type 0 where
  pub versions : List Sets
  pub steps : AreSteps (lower o) ss a versions
  pub last : last_of a versions ≡ z
  pub zones : AllByRecursion IsZone versions
  pub kept : AllByRecursion (KeepsAll o) (a ∷ versions)

pub chain_of : (o : Name) (before : ℕ) (a : Sets) (ss : List Step) (newest : ℕ) (z : Sets) → Leads o before a ss newest z → Chain o a ss z
chain_of o before a [] newest z h = absurd h
chain_of o before a (s ∷ []) newest z h = record { versions = z ∷ []; steps = (h.2, tt); last = refl; zones = (h.1.zone, tt); kept = (h.0.kept, (h.1.kept, tt)) }
chain_of o before a (s ∷ t ∷ ss) newest z h =
    let more = chain_of o h.1 h.2 (t ∷ ss) newest z h.5 in
    record {
      versions = h.2 ∷ more.versions;
      steps = (h.3, more.steps);
      last = more.last;
      zones = ((version_first o h.1 h.2 (t ∷ ss) newest z h.5).zone, more.zones);
      kept = (h.0.kept, more.kept);
    }

kept_of : (o : Name) (vs : List Sets) (k : RrKey) (s : RRset) → AllByRecursion (KeepsAll o) vs → IsOfOne vs k s → AreKept o k (sent s)
kept_of o [] k s h e = absurd e
kept_of o (v ∷ vs) k s h (inl e) = h.0 k s e
kept_of o (v ∷ vs) k s h (inr e) = kept_of o vs k s h.1 e

-- a zone that is like a version can be sent as that
pub version_like : (o : Name) (serial : ℕ) (vs : List Sets) (v m : Sets) → IsVersion o serial v → AllByRecursion (KeepsAll o) vs → IsLike (lower o) vs v m → IsVersion o serial m
version_like o serial vs v m version keeps like = record {
  zone = like.zone;
  kept = λ k s e. kept_of o vs k s keeps (like.sets k s e);
  soa = version.soa;
  stands = like.soa ∙ version.stands;
  serial_is = version.serial_is;
  signed = version.signed;
}
