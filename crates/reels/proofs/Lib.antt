pub mod Lists
pub mod Pairs
pub mod Codes
pub mod Copies
pub mod Bytes
pub mod Table
pub mod MuTable
