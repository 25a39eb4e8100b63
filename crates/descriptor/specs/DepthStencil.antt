-- The depth-stencil state of a style: when depth and stencil are enabled, what is written, what is biased.
use Rattle.std.specs.Prelude.{Bool, true, false, not, ◌&&◌, ◌||◌, ◌≢◌, List, [], ◌∷◌, Contains, ℤ, pos, negsuc, Some, None, Option, ◌==◌, Float}
use Rattle.std.specs.Float.{nan, inf, fin}
use Rattle.descriptor.specs.declared.primitive.Face.{Face}
use Rattle.descriptor.specs.declared.primitive.Face.TheVariants.{Front, Back}
use Rattle.descriptor.specs.declared.depth_stencil.CompareFunction.{CompareFunction}
use Rattle.descriptor.specs.declared.depth_stencil.CompareFunction.TheVariants.{Never, Less, Equal, LessEqual, Greater, NotEqual, GreaterEqual, Always}
use Rattle.descriptor.specs.declared.depth_stencil.StencilOperation.{StencilOperation}
use Rattle.descriptor.specs.declared.depth_stencil.StencilOperation.TheVariants.{Keep, Zero, Replace, Invert, IncrementClamp, DecrementClamp, IncrementWrap, DecrementWrap}
use Rattle.descriptor.specs.declared.depth_stencil.StencilFaceState.{StencilFaceState}
use Rattle.descriptor.specs.declared.depth_stencil.StencilState.{StencilState}
use Rattle.descriptor.specs.declared.depth_stencil.DepthBiasState.{DepthBiasState}
use Rattle.descriptor.specs.declared.depth_stencil.DepthStencilState.{DepthStencilState}

abbrev pub is_always : CompareFunction → Bool
is_always Never = false
is_always Less = false
is_always Equal = false
is_always LessEqual = false
is_always Greater = false
is_always NotEqual = false
is_always GreaterEqual = false
is_always Always = true

-- neither Never nor Always: the two values decide
abbrev pub compares_by_value : CompareFunction → Bool
compares_by_value Never = false
compares_by_value Less = true
compares_by_value Equal = true
compares_by_value LessEqual = true
compares_by_value Greater = true
compares_by_value NotEqual = true
compares_by_value GreaterEqual = true
compares_by_value Always = false

abbrev pub is_keep : StencilOperation → Bool
is_keep Keep = true
is_keep Zero = false
is_keep Replace = false
is_keep Invert = false
is_keep IncrementClamp = false
is_keep DecrementClamp = false
is_keep IncrementWrap = false
is_keep DecrementWrap = false

abbrev pub is_replace : StencilOperation → Bool
is_replace Keep = false
is_replace Zero = false
is_replace Replace = true
is_replace Invert = false
is_replace IncrementClamp = false
is_replace DecrementClamp = false
is_replace IncrementWrap = false
is_replace DecrementWrap = false

-- all operations of a face are Keep
abbrev pub writes_nothing : StencilFaceState → Bool
writes_nothing f = is_keep f.fail_op && (is_keep f.depth_fail_op && is_keep f.pass_op)

-- it compares Always, and all operations are Keep
abbrev pub idle : StencilFaceState → Bool
idle f = is_always f.compare && writes_nothing f

-- the stencil is enabled if a face is not idle
abbrev pub stencil_enabled : StencilState → Bool
stencil_enabled s = not (idle s.front) || not (idle s.back)

-- the comparison is by value, or an operation is Replace
abbrev pub face_needs_reference : StencilFaceState → Bool
face_needs_reference f =
    compares_by_value f.compare || is_replace f.fail_op || is_replace f.depth_fail_op || is_replace f.pass_op

abbrev pub needs_reference : StencilState → Bool
needs_reference s = face_needs_reference s.front || face_needs_reference s.back

-- the face is the one that is not drawn
abbrev pub culled : Option Face → Face → Bool
culled None f = false
culled (Some Front) Front = true
culled (Some Front) Back = false
culled (Some Back) Front = false
culled (Some Back) Back = true

-- no bit may be written, or each face is culled or writes nothing
abbrev pub stencil_read_only : Option Face → StencilState → Bool
stencil_read_only cull s =
    (s.write_mask == 0)
    || ((culled cull Front || writes_nothing s.front) && (culled cull Back || writes_nothing s.back))

abbrev pub face_of : StencilState → Face → StencilFaceState
face_of s Front = s.front
face_of s Back = s.back

abbrev pub operations : StencilFaceState → List StencilOperation
operations f = f.fail_op ∷ f.depth_fail_op ∷ f.pass_op ∷ []

-- the same in words: the write mask is not 0, and some operation is not Keep on a face that is not culled
pub record WritesStencil (cull : Option Face) (s : StencilState) : Type 0 where
  pub mask : s.write_mask ≢ 0
  pub face : Face
  pub drawn : cull ≢ Some face
  pub operation : StencilOperation
  pub has : Contains (operations (face_of s face)) operation
  pub writes : operation ≢ Keep

abbrev pub is_on : Option Bool → Bool
is_on (Some b) = b
is_on None = false

-- depths are written
abbrev pub depth_written : DepthStencilState → Bool
depth_written ds = is_on ds.depth_write_enabled

-- there is a comparison, and it is not Always
abbrev pub compares_depth : Option CompareFunction → Bool
compares_depth (Some f) = not (is_always f)
compares_depth None = false

-- depths are written, or compared by other than Always
abbrev pub depth_enabled : DepthStencilState → Bool
depth_enabled ds = compares_depth ds.depth_compare || depth_written ds

-- a NaN counts as nonzero, and minus zero as zero
abbrev pub nonzero : Float → Bool
nonzero nan = true
nonzero (inf s) = true
nonzero (fin s m e) = not (m == 0)

abbrev pub nonzero_int : ℤ → Bool
nonzero_int (pos n) = not (n == 0)
nonzero_int (negsuc n) = true

-- a number of the three is not 0
abbrev pub biased : DepthBiasState → Bool
biased b = nonzero_int b.constant || nonzero b.slope_scale || nonzero b.clamp

abbrev pub clamped : DepthBiasState → Bool
clamped b = nonzero b.clamp
