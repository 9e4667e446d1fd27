pub mod Field
pub mod Products
pub mod Remainders
pub mod ProductLaws
pub mod Folds
pub mod Roots
pub mod Factors
