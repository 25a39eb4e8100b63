-- The checks of a state, one call after the other: each that refuses answers for the whole, once those before it have passed.
use Rattle.std.proofs.Common.{◌≡◌, ℕ, not, List, [], ◌∷◌, ◌++◌, map, Ok, Err, Option, Result}
use Rattle.faults.specs.Faults.{fault_if, first_of, answer, within}
use Rattle.faults.proofs.Order.{or_first, value_from_ok}
use Rattle.faults.proofs.Sequence.{skip, stop_in, skip_in, last, stop_list_in, skip_list_in}
use Rattle.formats.specs.Texture.{required_of}
use Rattle.formats.specs.declared.format_features.TextureFormatFeatures.{TextureFormatFeatures}
use Rattle.device.specs.Lacking.{features_fault}
use Rattle.device.specs.declared.Device.{Device}
use Rattle.adapter.specs.Used.{Answers, used, answer_used}
use Rattle.descriptor.specs.declared.depth_stencil.DepthStencilState.{DepthStencilState}
use Rattle.descriptor.specs.declared.primitive.PrimitiveTopology.{PrimitiveTopology}
use Rattle.errors.specs.declared.create.CreateRenderPipelineError.{CreateRenderPipelineError}
use Rattle.errors.specs.declared.create.CreateRenderPipelineError.TheVariants.{DepthStencilState as InDepthStencil, MissingFeatures}
use Rattle.errors.specs.declared.depth_stencil.DepthStencilStateError.{DepthStencilStateError}
use Rattle.errors.specs.declared.depth_stencil.DepthStencilStateError.TheVariants.{FormatNotRenderable}
use Rattle.depth_stencil.specs.Order.{aspect_verdict, feature_verdict, renderable_verdict, depth_verdicts, no_stencil_verdict, count_fault, count_verdict, clamp_verdict, topology_verdict, state_verdicts}

-- what a check answers that has no value
abbrev pub passes : {E : Type 0} → Option E → Result (Unit {0}) E
passes o = answer o tt

module _ (d : Device) (answers : Answers) (count : ℕ) (topology : PrimitiveTopology) (ds : DepthStencilState) where
  -- the verdicts from each call on
  abbrev Verdicts : Type 0
  Verdicts = List (Option CreateRenderPipelineError)

  abbrev from_topology : Verdicts
  from_topology = topology_verdict topology ds ∷ []

  abbrev from_clamp : Verdicts
  from_clamp = clamp_verdict d ds ∷ from_topology

  abbrev from_count : Verdicts
  from_count = within InDepthStencil (count_verdict d answers count ds) ∷ from_clamp

  abbrev from_stencil : Verdicts
  from_stencil = within InDepthStencil (no_stencil_verdict ds) ∷ from_count

  abbrev from_depth : Verdicts
  from_depth = map (within InDepthStencil) (depth_verdicts ds) ++ from_stencil

  abbrev from_renderable : Verdicts
  from_renderable = within InDepthStencil (renderable_verdict d answers ds) ∷ from_depth

  abbrev from_feature : Verdicts
  from_feature = feature_verdict d ds ∷ from_renderable

  abbrev Outcome : Type 0
  Outcome = Result (Unit {0}) CreateRenderPipelineError

  abbrev pub whole : Outcome
  whole = passes (first_of (state_verdicts d answers count topology ds))

  module _ (aspects : Ok tt ≡ passes (aspect_verdict ds)) where
    past_aspects : (r : Outcome) → r ≡ passes (first_of from_feature) → r ≡ whole
    past_aspects r k = skip_in InDepthStencil (aspect_verdict ds) (first_of from_feature) tt tt tt r aspects k

    module _ (u : TextureFormatFeatures) (feature : Ok u ≡ answer_used d answers ds.format) where
      -- what was described is the answer used
      same : u ≡ used d answers ds.format
      same = value_from_ok (features_fault d (required_of ds.format)) (used d answers ds.format) u feature

      past_feature : (r : Outcome) → r ≡ passes (first_of from_renderable) → r ≡ whole
      past_feature r k =
          past_aspects r
          (skip_in MissingFeatures (features_fault d (required_of ds.format)) (first_of from_renderable) u (used d answers ds.format) tt r feature k)

      -- the check of the features that were described
      abbrev rendered : Option DepthStencilStateError
      rendered = fault_if (not u.renderable) (FormatNotRenderable ds.format)

      module _ (renderable : Ok tt ≡ passes rendered) where
        past_renderable : (r : Outcome) → r ≡ passes (first_of from_depth) → r ≡ whole
        past_renderable r k =
            past_feature r
            (skip_in InDepthStencil (renderable_verdict d answers ds) (first_of from_depth) tt tt tt r (rw same at renderable) k)

        pub depth_refuses : (e : DepthStencilStateError) → Err e ≡ passes (first_of (depth_verdicts ds)) → Err (InDepthStencil e) ≡ whole
        depth_refuses e h = past_renderable _ (stop_list_in InDepthStencil (depth_verdicts ds) from_stencil e tt tt h)

        module _ (depth : Ok tt ≡ passes (first_of (depth_verdicts ds))) where
          past_depth : (r : Outcome) → r ≡ passes (first_of from_stencil) → r ≡ whole
          past_depth r k = past_renderable r (skip_list_in InDepthStencil (depth_verdicts ds) from_stencil tt tt tt r depth k)

          pub stencil_refuses : (e : DepthStencilStateError) → Err e ≡ passes (no_stencil_verdict ds) → Err (InDepthStencil e) ≡ whole
          stencil_refuses e h = past_depth _ (stop_in InDepthStencil (no_stencil_verdict ds) (first_of from_count) e tt tt h)

          module _ (stencil : Ok tt ≡ passes (no_stencil_verdict ds)) where
            past_stencil : (r : Outcome) → r ≡ passes (first_of from_count) → r ≡ whole
            past_stencil r k = past_depth r (skip_in InDepthStencil (no_stencil_verdict ds) (first_of from_count) tt tt tt r stencil k)

            -- the check of the flags that were described
            abbrev counted : Option DepthStencilStateError
            counted = count_fault d answers count ds.format u.flags

            pub count_refuses : (e : DepthStencilStateError) → Err e ≡ passes counted → Err (InDepthStencil e) ≡ whole
            count_refuses e h =
                past_stencil _ (stop_in InDepthStencil (count_verdict d answers count ds) (first_of from_clamp) e tt tt (rw same at h))

            module _ (samples : Ok tt ≡ passes counted) where
              past_count : (r : Outcome) → r ≡ passes (first_of from_clamp) → r ≡ whole
              past_count r k =
                  past_stencil r
                  (skip_in InDepthStencil (count_verdict d answers count ds) (first_of from_clamp) tt tt tt r (rw same at samples) k)

              pub clamp_refuses : (e : CreateRenderPipelineError) → Err e ≡ passes (clamp_verdict d ds) → Err e ≡ whole
              clamp_refuses e h = past_count _ (or_first (clamp_verdict d ds) (first_of from_topology) e tt tt h)

              pub topology_answers : Ok tt ≡ passes (clamp_verdict d ds) → (r : Outcome) → r ≡ passes (topology_verdict topology ds) → r ≡ whole
              topology_answers clamp r h =
                  past_count r
                  (skip (clamp_verdict d ds) (first_of from_topology) tt tt tt r clamp (last (topology_verdict topology ds) tt r h))
