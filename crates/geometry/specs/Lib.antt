pub mod Size
pub mod Rect
pub mod Snap
pub mod Cover
