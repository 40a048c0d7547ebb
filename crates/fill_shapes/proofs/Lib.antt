pub mod BoundLaws
pub mod ClassLaws
pub mod KindLaws
pub mod ReadLaws
pub mod ValueLaws
