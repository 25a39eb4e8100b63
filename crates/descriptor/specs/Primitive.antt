-- Topologies.
use Rattle.std.specs.Prelude.{Bool, true, false}
use Rattle.descriptor.specs.declared.primitive.PrimitiveTopology.{PrimitiveTopology}
use Rattle.descriptor.specs.declared.primitive.PrimitiveTopology.TheVariants.{PointList, LineList, LineStrip, TriangleList, TriangleStrip}

-- primitives that follow each other share vertices
abbrev pub is_strip : PrimitiveTopology → Bool
is_strip PointList = false
is_strip LineList = false
is_strip LineStrip = true
is_strip TriangleList = false
is_strip TriangleStrip = true

abbrev pub is_triangles : PrimitiveTopology → Bool
is_triangles PointList = false
is_triangles LineList = false
is_triangles LineStrip = false
is_triangles TriangleList = true
is_triangles TriangleStrip = true
