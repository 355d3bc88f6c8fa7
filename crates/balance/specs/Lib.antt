pub mod Trees
pub mod Links
pub mod Lists
pub mod Ways
pub mod Edits
pub mod Levels
pub mod Costs
pub mod Laws
