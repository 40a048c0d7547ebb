pub mod Conditions
pub mod Costs
pub mod Firsts
pub mod Items
pub mod Putting
pub mod Standing
pub mod Takes
pub mod Walking
