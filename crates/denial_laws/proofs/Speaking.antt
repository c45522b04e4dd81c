-- A last set that covers a name, and three tests
use Rattle.std.proofs.Common.{◌≡◌, Bool, true, ◌&&◌, List, [], ◌∷◌, refl, sym, subst, inl}
use Rattle.zone_proto.specs.Names.{Name}
use Rattle.zone_proto.specs.Sets.{RRset}
use Rattle.zone_proto.proofs.Members.{In, In-Contains, In-append_right}
use Rattle.zone_denial.specs.NsecLaws.{LastCovers, HasCover}

-- a last set that covers a name is a set that does
pub cover_from_last : (answer : List RRset) (x n : Name) → LastCovers answer x n → (c : HasCover answer x) × (c.next ≡ n)
cover_from_last answer x n c = (
  record {
    set = c.set;
    among = In-Contains c.set answer (subst (In c.set) (sym c.last) (In-append_right c.set c.before (c.set ∷ []) (inl refl)));
    next = n;
    said = c.next;
    covers = c.covers;
  },
  refl,
)

pub three : (a b c : Bool) → a ≡ true → b ≡ true → c ≡ true → a && b && c ≡ true
three a b c p q r = λ i. p i && q i && r i
