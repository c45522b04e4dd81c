-- A signed zone's chain of NSEC sets stays one where the zone is changed in place and where it gets its signatures
use Rattle.std.proofs.Common.{◌≡◌, ℕ, Bool, true, false, cond, List, [], ◌∷◌, refl, sym, ap, ◌∙◌, true≢false}
use Rattle.std.specs.Prelude.{if◌then◌else◌, Option, Some, None, is_some, option_and_then, ⊤}
use Rattle.std.specs.Map.{lookup}
use Rattle.std.specs.Option.{option_or}
use Rattle.zone_proto.specs.declared.record.Record.{Record}
use Rattle.zone_proto.specs.declared.rr_key.RrKey.{RrKey}
use Rattle.zone_proto.specs.Keys.{key, key_eq}
use Rattle.zone_proto.specs.Names.{Name, lower}
use Rattle.zone_proto.specs.Sets.{RRset}
use Rattle.zone_proto.specs.Types.{SOA, NSEC}
use Rattle.zone_map.specs.Renewals.{with_signatures}
use Rattle.zone_map.specs.Zones.{Sets, IsZone, set_at, owns}
use Rattle.zone_denial.specs.NsecSets.{nsec_set_at}
use Rattle.zone_lookup.specs.StartOfAuthority.{serial}
use Rattle.zone_signing.specs.Secured.{bare, signed}
use Rattle.zone_trimming.specs.Trimming.{trimmed_at}
use Rattle.zone_planning.specs.declared.signer.PlanSigner.{PlanSigner}
use Rattle.zone_planning.specs.Answering.{plans}
use Rattle.zone_planner.specs.Plans.{denial_ttl}
use Rattle.zone_planner.specs.Zones.{is_left_out}
use Rattle.update_in_place.specs.Parts.{is_among}
use Rattle.chain_changes.specs.Renewal.{IsRenewed}
use Rattle.chain_changes.specs.SignedChains.{IsSignedNsecChain}
use Rattle.chain_changes.proofs.Changes.{changes_told}
use Rattle.chain_changes.proofs.RenewedCircle.{some_mapped}
use Rattle.chain_changes.proofs.SignedChain.{renewed_stays_chain}
use Rattle.chain_changes.proofs.SignedSets.{records_of, trimmed_is_signed}
use Rattle.signed_changes.specs.Renewing.{changed_keys}
use Rattle.signed_changes.specs.Signing.{is_unsigned, due_set, due_at}
use Rattle.signed_in_place.specs.SignedChains.{OwnChainIsSigned, BegunChainStays, FinishedChainStays}

pub own_chain_is_signed : OwnChainIsSigned
own_chain_is_signed origin m zone low soa own =
    trimmed_is_signed origin m m (denial_ttl m origin) (serial m origin) zone zone low soa (record { others = λ n t h. refl; denials = own })

pub begun_chain_stays : BegunChainStays
begun_chain_stays origin keys request names old next new before after prepared zone stands low soa changed kept was made =
    renewed_stays_chain origin old next new (changed_keys before after) (denial_ttl next origin) (serial next origin) zone stands low soa
    (changes_told names old next before after changed)
    (λ n. ap records_of (kept n)) was made.renewed

-- ---- zones of the same records under each key, signatures aside

-- where no set came or went, none is renewed
none_renewed : (origin : Name) (m : Sets) (made : Name → ℕ → Option RRset) → IsRenewed origin [] m made m
none_renewed origin m made = record { others = λ n t h. refl; anew = λ n e. absurd (true≢false (sym e)); kept = λ n e. refl }

same_records_stay : (origin : Name) (m after : Sets) → IsZone after → lower origin ≡ origin → owns m origin SOA ≡ true
    → ((n : Name) (t : ℕ) → records_of (set_at after n t) ≡ records_of (set_at m n t)) → IsSignedNsecChain origin m → IsSignedNsecChain origin after
same_records_stay origin m after zone low soa same was =
    let owned = λ (n : Name) (t : ℕ).
    sym (some_mapped (λ (s : RRset). s.records) (set_at after n t)) ∙ ap is_some (same n t) ∙ some_mapped (λ (s : RRset). s.records) (set_at m n t) in
    renewed_stays_chain origin m after after [] 0 0 zone zone low (owned origin SOA ∙ soa) (λ n t h k. owned n t) (λ n. same n NSEC) was
    (none_renewed origin after (trimmed_at (nsec_set_at origin after 0 0)))

-- ---- sets with signatures

-- under each key they have the records of those that they are made of
with_same_records : (q : RrKey) (m : Sets) (made : List (List Record)) → records_of (lookup (key_eq q) (with_signatures m made)) ≡ records_of (lookup (key_eq q) m)
with_same_records q [] made = refl
with_same_records q (e ∷ es) [] = refl
with_same_records q (e ∷ es) (s ∷ made) = by (key_eq q e.0) (with_same_records q es made)
  where
    by : (b : Bool) → records_of (lookup (key_eq q) (with_signatures es made)) ≡ records_of (lookup (key_eq q) es)
        → records_of (cond b (Some (record e.1 { signatures = s })) (lookup (key_eq q) (with_signatures es made))) ≡ records_of (cond b (Some e.1) (lookup (key_eq q) es))
    by true h = refl
    by false h = h

-- of two options, the first has the records of the second, if it is there
abbrev HasSame : Option RRset → Option RRset → Type 0
HasSame None there = ⊤
HasSame (Some s) there = records_of there ≡ Some s.records

-- a set that is due has the records of the one that stands
due_same : (origin : Name) (m : Sets) (now : ℕ) (signers : List PlanSigner) (n : Name) (t : ℕ) → HasSame (due_at origin m now signers n t) (set_at m n t)
due_same origin m now signers n t = by (set_at m n t)
  where
    chosen : (s : RRset) (out unsigned : Bool)
        → HasSame (if out then (if unsigned then None else Some (bare s)) else (if unsigned then Some (signed plans now signers s) else None)) (Some s)
    chosen s true true = tt
    chosen s true false = refl
    chosen s false true = refl
    chosen s false false = tt

    by : (o : Option RRset) → HasSame (option_and_then (due_set origin m now signers (key n t)) o) o
    by None = tt
    by (Some s) = chosen s (is_left_out origin m (key n t)) (is_unsigned s)

-- a set in place of one that stands leaves the records as they are
instead : (first due there : Option RRset) → records_of first ≡ records_of due → HasSame due there → records_of (option_or first there) ≡ records_of there
instead None due there e h = refl
instead (Some s) None there e h = absurd cc
instead (Some s) (Some d) there e h = e ∙ sym h

pub finished_chain_stays : FinishedChainStays
finished_chain_stays origin keys request before after changed new finished prepared made zone low soa begun is was =
    same_records_stay origin new finished zone low soa same was
  where
    due_there : (n : Name) (t : ℕ) (b : Bool) → HasSame (if b then due_at origin new request.inception begun.due.signers n t else None) (set_at new n t)
    due_there n t true = due_same origin new request.inception begun.due.signers n t
    due_there n t false = tt

    same : (n : Name) (t : ℕ) → records_of (set_at finished n t) ≡ records_of (set_at new n t)
    same n t =
        ap records_of (is n t)
        ∙ instead (set_at (with_signatures prepared.plan.records made) n t) (if is_among prepared.names.items n then due_at origin new request.inception begun.due.signers n t else None) (set_at new n t)
        (with_same_records (key n t) prepared.plan.records made ∙ ap records_of (begun.due.each n t))
        (due_there n t (is_among prepared.names.items n))
