pub mod RowSigners
