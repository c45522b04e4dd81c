-- What a name without the set that is asked for doesn't own
use Rattle.std.proofs.Common.{◌≡◌, ◌≢◌, ℕ, Bool, true, false, cond, ◌&&◌, ◌||◌, [], refl, sym, ap, ◌∙◌, true≢false, eqb-true}
use Rattle.std.specs.Prelude.{Option, Some, None, is_some, option_and_then, ◌==◌}
use Rattle.zone_proto.specs.Names.{Name, name_eq}
use Rattle.zone_proto.specs.Sets.{RRset}
use Rattle.zone_proto.specs.Types.{NS, CNAME, SOA, DS, RRSIG, NSEC3, ANY}
use Rattle.zone_proto.proofs.Names.NameTree.{name_eq-Decides}
use Rattle.zone_map.specs.AnyTypes.{any_type}
use Rattle.zone_map.specs.Zones.{Sets, set_at, owns, IsZone}
use Rattle.zone_denial.specs.Chains.{chain_sets}
use Rattle.zone_denial.specs.WildcardLaws.{OwnsNone}
use Rattle.denial_laws.specs.Scope.{Unreferred}
use Rattle.denial_laws.proofs.OwnTypes.{differs}
use Rattle.zone_response.specs.Queries.{Zone, Query, Inquiry, inquiry}
use Rattle.zone_response.specs.Sections.{is_signed}
use Rattle.zone_response.specs.Nodes.{asked_set}
use Rattle.response_laws.proofs.LastNames.{IsBare}
use Rattle.response_laws.proofs.Leads.{any_answered}
use Rattle.response_laws.proofs.LentSets.{owns_kept, unowned_kept}
use Rattle.response_laws.proofs.Stepped.{IsUndiverted}
use Rattle.response_laws.proofs.Turned.{unturned, silent_at}

module _ (m : Sets) (a : Name) (t : ℕ) (bare : IsBare m a t) where
  -- a question of any type has an answer at a name that owns anything
  pub not_any : (u : ℕ) → owns m a u ≡ true → t ≢ ANY
  not_any u k e = any_answered m a u k (sym (ap (asked_set m a) e) ∙ bare.asked)

  -- nor does it own the type, NSEC3 aside
  pub bare_unowned : t ≢ RRSIG → t ≢ ANY → (t == NSEC3) ≡ false → owns m a t ≡ false
  bare_unowned unsigned one e =
      ap is_some
      (lost (set_at m a t)
      (sym (λ i. cond (e i) None (option_and_then (λ s. cond (differs t RRSIG unsigned i) (cond (is_signed s) (Some s) None) (Some s)) (set_at m a (cond (differs t ANY one i || differs t RRSIG unsigned i) (any_type m a) t))))
      ∙ bare.asked))
    where
      lost : (o : Option RRset) → option_and_then (λ s. Some s) o ≡ None → o ≡ None
      lost None e = refl
      lost (Some s) e = absurd cc

-- among the sets that a zone lends for its denials it owns nothing more, NSEC3 aside
module _ (z : Zone) (same : z.denials ≡ chain_sets z.nx_proof_kind z.sets) (zone : IsZone z.sets) (a : Name) (t : ℕ) (bare : IsBare z.sets a t) where
  pub lent_not_any : (u : ℕ) → owns z.denials a u ≡ true → t ≢ ANY
  lent_not_any u k e = by (owns z.sets a u) refl
    where
      by : (b : Bool) → owns z.sets a u ≡ b → ⊥
      by true o = not_any z.sets a t bare u o e
      by false o = true≢false (sym k ∙ unowned_kept z same zone a u o)

  pub lent_unowned : t ≢ RRSIG → t ≢ ANY → (t == NSEC3) ≡ false → owns z.denials a t ≡ false
  lent_unowned unsigned one other = unowned_kept z same zone a t (bare_unowned z.sets a t bare unsigned one other)

  pub lent_alias : owns z.denials a CNAME ≡ false
  lent_alias = owns_kept z same a CNAME refl ∙ ap is_some bare.alias

  -- nor NSEC3 either, where no name owns that
  pub type_unowned : OwnsNone z.denials NSEC3 → t ≢ RRSIG → t ≢ ANY → owns z.denials a t ≡ false
  type_unowned one_kind unsigned one = by (t == NSEC3) refl
    where
      by : (b : Bool) → (t == NSEC3) ≡ b → owns z.denials a t ≡ false
      by true e = ap (owns z.denials a) (eqb-true t NSEC3 e) ∙ one_kind a
      by false e = lent_unowned unsigned one e

-- at a name that nothing turns, NS is beside SOA alone, but where DS is asked
pub beside_soa : (q : Inquiry) (x : Name) → IsUndiverted q x → Unreferred q.origin q.sets → (q.record_type == DS) ≡ false → owns q.sets x NS ≡ true → owns q.sets x SOA ≡ true
beside_soa q x u unreferred other ns = by (name_eq x q.origin) refl
  where
    unasked : set_at q.sets x NS ≡ None → owns q.sets x SOA ≡ true
    unasked e = absurd (true≢false (sym ns ∙ ap is_some e))

    right_false : (b : Bool) → b && (q.record_type == DS) ≡ false
    right_false true = other
    right_false false = refl

    by : (b : Bool) → name_eq x q.origin ≡ b → owns q.sets x SOA ≡ true
    by true e = unreferred x ([], sym ((name_eq-Decides x q.origin).0 e)) ns
    by false e =
        unasked
        (sym (λ i. cond (e i || right_false (name_eq x x) i) None (set_at q.sets x NS))
        ∙ (silent_at q.origin q.sets x q.record_type x u.inside (unturned q.origin q.sets x q.record_type u.unturned x ([], refl))).0)

-- so it does among the sets that the zone lends
pub lent_beside_soa : (z : Zone) → z.denials ≡ chain_sets z.nx_proof_kind z.sets → (q : Query) (x : Name) → IsUndiverted (inquiry z q) x → Unreferred z.origin z.sets
    → (q.record_type == DS) ≡ false → owns z.denials x NS ≡ true → owns z.denials x SOA ≡ true
lent_beside_soa z same q x u unreferred other ns = owns_kept z same x SOA refl ∙ beside_soa (inquiry z q) x u unreferred other (sym (owns_kept z same x NS refl) ∙ ns)
