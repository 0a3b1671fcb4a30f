pub mod Sets
pub mod PlaceLaws
pub mod SetLaws
