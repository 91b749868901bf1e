pub mod Parse
pub mod ParseSections
pub mod Postfix
pub mod View
