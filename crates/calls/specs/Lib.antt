pub mod Table
pub mod Names
pub mod TableLaws
pub mod CallLaws
pub mod NamesLaws
pub mod SettlingLaws
pub mod View
pub mod Lent
