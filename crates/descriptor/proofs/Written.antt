-- The stencil is not read-only exactly if the write mask is not 0 and some operation is not Keep on a face that is not culled.
use Rattle.std.proofs.Common.{◌≡◌, Bool, false, not, ◌||◌, ◌≢◌, Some, Decides, Option, ◌∙◌, inl, inr, arith, rules}
use Rattle.std.proofs.lemmas.List.Folds.{Any-from_list_any}
use Rattle.std.proofs.lemmas.Bool.{and_cases, not_from_false}
use Rattle.std.proofs.lemmas.Bool.Decides.{nat_tests}
use Rattle.descriptor.specs.DepthStencil.{is_keep, writes_nothing, culled, stencil_read_only, face_of, operations, WritesStencil}
use Rattle.descriptor.specs.declared.primitive.Face.{Face}
use Rattle.descriptor.specs.declared.primitive.Face.TheVariants.{Front, Back}
use Rattle.descriptor.specs.declared.depth_stencil.StencilOperation.{StencilOperation}
use Rattle.descriptor.specs.declared.depth_stencil.StencilOperation.TheVariants.{Keep}
use Rattle.descriptor.specs.declared.depth_stencil.StencilState.{StencilState}

not_keep : (o : StencilOperation) → Decides (not (is_keep o)) (o ≢ Keep)
not_keep o = search rules

culled_face : (cull : Option Face) (f : Face) → Decides (culled cull f) (cull ≡ Some f)
culled_face cull f = search rules

-- a face that is not culled, and some of whose operations is not Keep
written_at : (cull : Option Face) (s : StencilState) (f : Face) → s.write_mask ≢ 0 → (culled cull f || writes_nothing (face_of s f)) ≡ false → WritesStencil cull s
written_at cull s f m h =
    let w = Any-from_list_any (λ o. not (is_keep o)) (operations (face_of s f)) (grind arith) in
    record {
      mask = m;
      face = f;
      drawn = grind (arith, culled_face);
      operation = w.1;
      has = (w.0, w.2, w.3);
      writes = (not_keep w.1).0 w.4;
    }

written : (cull : Option Face) (s : StencilState) → stencil_read_only cull s ≡ false → WritesStencil cull s
written cull s h =
    let m : s.write_mask ≢ 0 = grind (arith, nat_tests) in
    elim (and_cases (culled cull Front || writes_nothing s.front) (culled cull Back || writes_nothing s.back) (grind arith)) [
      | inl e ↦ written_at cull s Front m e
      | inr e ↦ written_at cull s Back m e
    ]

not_read_only : (cull : Option Face) (s : StencilState) → WritesStencil cull s → stencil_read_only cull s ≡ false
not_read_only cull s w = grind (arith, nat_tests, culled_face, not_keep)

pub writes_stencil : (cull : Option Face) (s : StencilState) (r : Bool) → r ≡ stencil_read_only cull s → Decides (not r) (WritesStencil cull s)
writes_stencil cull s r e = (λ h. written cull s (grind arith), λ w. not_from_false r (e ∙ not_read_only cull s w))
