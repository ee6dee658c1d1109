pub mod Reports
pub mod Along
pub mod Order
