pub mod Rules
pub mod Reports
pub mod Along
pub mod Order
