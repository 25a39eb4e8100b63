pub mod Features
pub mod Flags
pub mod Samples
pub mod Texture
pub mod Vertex
