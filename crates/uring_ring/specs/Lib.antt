pub mod Between
pub mod IoUring
pub mod Laws
pub mod PlainSide
pub mod QueueLaws
pub mod Queues
pub mod SizeLaws
pub mod Sizes
