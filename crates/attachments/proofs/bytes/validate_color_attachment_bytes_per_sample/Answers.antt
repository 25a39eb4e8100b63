use Rattle.faults.proofs.Verdicts.{in_order}
use Rattle.attachments.proofs.Costs.{bytes_judged}
use Rattle.attachments.proofs.Rounding.{rounding}
use Rattle.attachments.proofs.bytes.validate_color_attachment_bytes_per_sample.Goals as goal

pub returns-in_err-bytes : goal.returns-in_err-bytes
returns-in_err-bytes c = record { judged = bytes_judged c.args.device.now c.args.colors.now _ (grind in_order); rounding = rounding }

pub returns-in_err-refuse_if : goal.returns-in_err-refuse_if
returns-in_err-refuse_if c = record { judged = bytes_judged c.args.device.now c.args.colors.now _ (grind in_order); rounding = rounding }

pub returns : goal.returns
returns c = record { judged = bytes_judged c.args.device.now c.args.colors.now _ (grind in_order); rounding = rounding }
