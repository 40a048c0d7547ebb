pub mod KeyLaws
pub mod MetLaws
pub mod PartLaws
pub mod RankLaws
pub mod SearchLaws
pub mod SoFar
