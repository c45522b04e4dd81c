-- Names, in one piece and label by label, and their ancestors
pub mod Packings
pub mod Escapes
pub mod SharedEnds
pub mod FirstLabels
pub mod Countings
pub mod Lower
pub mod NameParts
pub mod LabelFaults
pub mod Faults
pub mod Tree
pub mod NameTree
pub mod WireLabels
