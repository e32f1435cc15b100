pub mod Forms
pub mod Growing
pub mod Parts
pub mod PutFirst
