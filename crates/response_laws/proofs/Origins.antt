-- Where a set of an answer section comes from stays so in a longer section, and where more is said of wildcards
use Rattle.std.proofs.Common.{◌≡◌, ℕ, List, ◌++◌, ◌⊎◌, inl, inr}
use Rattle.std.specs.Prelude.{Some}
use Rattle.zone_proto.specs.Names.{Name}
use Rattle.zone_proto.specs.Sets.{RRset}
use Rattle.zone_proto.specs.Types.{ANAME}
use Rattle.zone_proto.proofs.Members.{In-Contains, Contains-In, In-append_left}
use Rattle.zone_map.specs.Zones.{set_at}
use Rattle.zone_response.specs.Queries.{Inquiry}
use Rattle.response_laws.specs.Contents.{Origin, own, of_wildcard, of_dname, of_aname}

module _ (q : Inquiry) (answers : List RRset) (s : RRset) where
  pub origin_by : (By Other : Name → ℕ → RRset → Type 0) → ((n : Name) (t : ℕ) (found : RRset) → By n t found → Other n t found) → Origin q answers By s → Origin q answers Other s
  origin_by By Other so (own p g h) = own p g h
  origin_by By Other so (of_wildcard p g h) = of_wildcard p g (record { name = h.name; record_type = h.record_type; found = h.found; by_wildcard = so h.name h.record_type h.found h.by_wildcard; sent = h.sent })
  origin_by By Other so (of_dname h) = of_dname h
  origin_by By Other so (of_aname h) =
      of_aname (record { name = h.name; aname = h.aname; stands = by h.stands; made = h.made; leads = h.leads; signatures = h.signatures; signed = h.signed; sent = h.sent; ttl = h.ttl })
    where
      by : (set_at q.sets h.name ANAME ≡ Some h.aname) ⊎ By h.name ANAME h.aname → (set_at q.sets h.name ANAME ≡ Some h.aname) ⊎ Other h.name ANAME h.aname
      by (inl k) = inl k
      by (inr k) = inr (so h.name ANAME h.aname k)

  pub origin_in_longer : (By : Name → ℕ → RRset → Type 0) (more : List RRset) → Origin q answers By s → Origin q (answers ++ more) By s
  origin_in_longer By more (own p g h) = own p g h
  origin_in_longer By more (of_wildcard p g h) = of_wildcard p g h
  origin_in_longer By more (of_dname h) =
      of_dname (record {
        dname = h.dname;
        among = In-Contains h.dname (answers ++ more) (In-append_left h.dname answers more (Contains-In h.dname answers h.among));
        record_type = h.record_type;
        stands = h.stands;
        target = h.target;
        call_concludes = h.call_concludes;
        name = h.name;
        below = h.below;
        made = h.made;
        ttl = h.ttl;
      })
  origin_in_longer By more (of_aname h) = of_aname h
