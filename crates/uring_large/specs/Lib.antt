pub mod Layouts
pub mod Mixed
pub mod MixedLaws
pub mod Numbers
