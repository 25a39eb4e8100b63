pub mod Blend
pub mod BlendLaws
pub mod DepthStencil
pub mod Primitive
pub mod Vertex
