pub mod Classes
pub mod Data
pub mod Lists
pub mod Orders
pub mod Text
pub mod formers
