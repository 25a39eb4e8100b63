use Rattle.std.proofs.Common.{◌≡◌, Some, None, sym, refl, rules}
use Rattle.std.proofs.lemmas.Bool.{false≢true}
use Rattle.faults.specs.Faults.{first_of}
use Rattle.faults.proofs.Order.{first_in_at}
use Rattle.device.specs.Ceilings.{ceiling_verdicts}
use Rattle.device.proofs.Within.{within, passes_within}
use Rattle.device.proofs.limits.Limits.new.Goals as goal

pub returns-in-Some : goal.returns-in-Some
returns-in-Some c =
    let e : Some c.in-Some.fault ≡ first_of (ceiling_verdicts c.args.required.now) = search rules in
    record {
      value = first_in_at (ceiling_verdicts c.args.required.now) (Some c.in-Some.fault) e;
      exactly = (λ t. absurd (false≢true t), λ w. let n = passes_within c.args.required.now w in cc);
    }

pub returns : goal.returns
returns c =
    let e : None ≡ first_of (ceiling_verdicts c.args.required.now) = search rules in
    record { value = search rules; exactly = (λ t. within c.args.required.now (sym e), λ w. refl) }
