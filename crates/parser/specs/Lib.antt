-- What the functions of the cycle equal, and the laws by which they do.
pub mod Cycle
pub mod ResultLaws
pub mod CallLaws
pub mod VariantLaws
pub mod ChildLaws
pub mod PathLaws
pub mod NameLaws
