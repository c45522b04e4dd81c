use Rattle.std.proofs.Common.{[], ◌∷◌, ◌++◌, sym, ap, ◌∙◌, subst, append_assoc}
use Rattle.std.proofs.lemmas.List.Elements.{All-head, All-tail, All-push}
use Rattle.zone_proto.specs.declared.rr_key.RrKey.{RrKey}
use Rattle.zone_proto.specs.Sets.{RRset}
use Rattle.zone_map.specs.Zones.{Sets, AreStored, IsStoredAt}
use Rattle.zone_trimming.proofs.TrimmedFound.{turned}
use Rattle.zone_trimming.proofs.trimming.trimmed_entries.Goals as goal

-- what is under a key may be there
abbrev Stands : RrKey × RRset → Type 0
Stands e = IsStoredAt e.0.name e.0.record_type.0 e.1

pub trimmed_entry-requires : goal.trimmed_entry-requires
trimmed_entry-requires c = All-head Stands _ _ (subst AreStored c.in-Some.ensures.steps c.loop-key.invariant.left)

pub loop-key-preserved : goal.loop-key-preserved
loop-key-preserved c =
    let entries : Sets = c.loop-key.entries.items in
    let left : Sets = c.next.new.self in
    let entry : RrKey × RRset = c.in_ok-trimmed_entry.field-0 in
    record {
      made =
          ap (λ (es : Sets). es ++ turned left) c.in_ok-push.ensures.items
          ∙ append_assoc entries (entry ∷ []) (turned left)
          ∙ ap (λ (e : RrKey × RRset). entries ++ e ∷ turned left) c.in_ok-trimmed_entry.ensures.ok
          ∙ ap (λ (m : Sets). entries ++ turned m) (sym c.in-Some.ensures.steps)
          ∙ c.loop-key.invariant.made;
      stored = subst AreStored (sym c.in_ok-push.ensures.items) (All-push Stands entries entry c.loop-key.invariant.stored c.in_ok-trimmed_entry.ensures.stored);
      left = All-tail Stands _ _ (subst AreStored c.in-Some.ensures.steps c.loop-key.invariant.left);
    }
