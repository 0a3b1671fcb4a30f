-- Cells as numbers in a store: what a store holds, and laws.
pub mod Store
pub mod NumbersLaws
pub mod IndexLaws
pub mod GrowthLaws
pub mod ClearingLaws
pub mod StoredLaws
