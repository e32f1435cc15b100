pub mod Layouts
pub mod Carrying
pub mod ArcKeys
pub mod Padding
pub mod Mapped
pub mod RankBytes
pub mod KeyLaw
pub mod Putting
