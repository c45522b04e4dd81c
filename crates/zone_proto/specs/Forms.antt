-- The labels of a name as they are kept
use Rattle.zone_proto.specs.declared.form.Form.{Form}
use Rattle.zone_proto.specs.declared.form.Form.TheVariants.{Listed, ShortPacked, LongPacked, Escaped}
use Rattle.zone_proto.specs.Names.{Name}
use Rattle.zone_proto.specs.Vectors.{octets_of}

-- each by itself; all in one piece; or beside the octets that order the name
abbrev pub labels_of : Form → Name
labels_of (Listed labels) = octets_of labels.items
labels_of (ShortPacked name) = name
labels_of (LongPacked name) = name
labels_of (Escaped name) = name.value
