pub mod Answer
pub mod Input
pub mod Programs
pub mod Request
