-- The items of a list in data as they are kept
use Rattle.std.specs.Prelude.{List}
use Rattle.zone_proto.specs.declared.seq.Form.{Form}
use Rattle.zone_proto.specs.declared.seq.Form.TheVariants.{Short, Long}

module _ {T S : Type 0} where
  -- those of a list in the value itself are read off what keeps them
  abbrev pub form_items : (S → List T) → Form T S → List T
  form_items items (Short short) = items short
  form_items _ (Long long) = long.items
