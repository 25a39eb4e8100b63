-- The verdicts in order are all none exactly if every rule holds.
use Rattle.std.proofs.Common.{◌≡◌, ℕ, Bool, true, false, not, ◌&&◌, Some, None, Option, Result, refl, arith}
use Rattle.std.proofs.lemmas.Bool.Decides.{nat_tests}
use Rattle.std.proofs.lemmas.Bool.{ltb-true}
use Rattle.faults.specs.Faults.{first_of, answer}
use Rattle.faults.proofs.Order.{all_none, none_all, if_not, judged}
use Rattle.faults.proofs.Sequence.{none_within}
use Rattle.device.specs.declared.Device.{Device}
use Rattle.adapter.specs.Used.{Answers}
use Rattle.descriptor.specs.declared.depth_stencil.DepthStencilState.{DepthStencilState}
use Rattle.descriptor.specs.declared.primitive.PrimitiveTopology.{PrimitiveTopology}
use Rattle.errors.specs.declared.create.CreateRenderPipelineError.{CreateRenderPipelineError}
use Rattle.errors.specs.declared.create.CreateRenderPipelineError.TheVariants.{DepthStencilState as InDepthStencil}
use Rattle.depth_stencil.specs.Order.{write_verdict, compare_verdict, no_stencil_verdict, count_verdict, state_verdicts, depth_stencil_verdicts}
use Rattle.depth_stencil.specs.Rules.{StateLawful, DepthStencilLawful, DepthStencilJudged}

-- a test that denies its last part fails where the parts before bring that one
denied : (x y : Bool) → (x ≡ true → y ≡ true) → (x && not y) ≡ false
denied x y h = grind arith

denied_two : (x y z : Bool) → (x ≡ true → y ≡ true → z ≡ true) → (x && (y && not z)) ≡ false
denied_two x y z h = grind arith

module _ (d : Device) (answers : Answers) (count : ℕ) (topology : PrimitiveTopology) (ds : DepthStencilState) where
  state_lawful : first_of (state_verdicts d answers count topology ds) ≡ None → StateLawful d answers count topology ds
  state_lawful h =
      let v = all_none (state_verdicts d answers count topology ds) h in
      record {
        aspects = grind arith;
        feature = grind arith;
        renderable = grind arith;
        depth = λ t. grind arith;
        write_told = λ t. grind arith;
        compare_told = λ s t. grind arith;
        stencil = λ t. grind arith;
        samples = λ l. grind (arith, nat_tests);
        clamp = λ t. grind arith;
        bias = λ t. grind arith;
      }

  passes_state : StateLawful d answers count topology ds → first_of (state_verdicts d answers count topology ds) ≡ None
  passes_state l =
      none_all (state_verdicts d answers count topology ds) (
        grind arith,
        (
          grind arith,
          (
            grind arith,
            (
              grind arith,
              (
                none_within InDepthStencil (write_verdict ds) (if_not _ _ (denied _ _ l.write_told)),
                (
                  none_within InDepthStencil (compare_verdict ds) (if_not _ _ (denied_two _ _ _ l.compare_told)),
                  (
                    none_within InDepthStencil (no_stencil_verdict ds) (if_not _ _ (denied _ _ l.stencil)),
                    (
                      none_within InDepthStencil (count_verdict d answers count ds) (if_not _ _ (denied _ _ (λ t. l.samples (ltb-true 1 count t)))),
                      (grind arith, (if_not _ _ (denied _ _ l.bias), tt)),
                    ),
                  ),
                ),
              ),
            ),
          ),
        ),
      )

-- with no state there is no rule
module _ (d : Device) (answers : Answers) (count : ℕ) (topology : PrimitiveTopology) where
  pub depth_stencil_lawful : (state : Option DepthStencilState) → first_of (depth_stencil_verdicts d answers count topology state) ≡ None → DepthStencilLawful d answers count topology state
  depth_stencil_lawful None h = tt
  depth_stencil_lawful (Some ds) h = state_lawful d answers count topology ds h

  pub passes_depth_stencil : (state : Option DepthStencilState) → DepthStencilLawful d answers count topology state → first_of (depth_stencil_verdicts d answers count topology state) ≡ None
  passes_depth_stencil None l = refl
  passes_depth_stencil (Some ds) l = passes_state d answers count topology ds l

  pub depth_stencil_judged : (state : Option DepthStencilState) (r : Result (Unit {0}) CreateRenderPipelineError) → r ≡ answer (first_of (depth_stencil_verdicts d answers count topology state)) tt → DepthStencilJudged d answers count topology state r
  depth_stencil_judged state r h =
      judged (depth_stencil_verdicts d answers count topology state) tt (DepthStencilLawful d answers count topology state) (depth_stencil_lawful state) (passes_depth_stencil state) r h
