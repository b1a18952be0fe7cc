pub mod Lists
pub mod Conclusions
pub mod Parts
pub mod Hyps
pub mod Instances
pub mod Shown
pub mod Examples
