use Rattle.std.proofs.Common.{rules}
use Rattle.errors.specs.declared.color.ColorStateError.TheVariants.{InvalidSampleCount}
use Rattle.errors.specs.declared.create.CreateRenderPipelineError.TheVariants.{ColorState}
use Rattle.faults.proofs.Verdicts.{mapped}
use Rattle.targets.proofs.state.Judge.check_sample_count.Goals as goal

pub returns : goal.returns
returns g c =
    mapped (λ e. ColorState c.args.index (InvalidSampleCount e)) _ _ _ _ c.require_sample_count.ensures c.map_err.ensures.cases (λ d e m. search rules)
