pub mod FieldJoins
pub mod Joins
pub mod RowLaws
