pub mod Found
pub mod Gives
pub mod Origins
pub mod Readers
pub mod Sets
