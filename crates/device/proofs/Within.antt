-- The ceilings' verdicts are all none exactly if each limit is within its ceiling.
use Rattle.std.proofs.Common.{◌≡◌, None}
use Rattle.std.proofs.lemmas.Bool.{ltb-false, le-ltb}
use Rattle.faults.specs.Faults.{first_of}
use Rattle.faults.proofs.Order.{all_none, none_all, not_if, if_not}
use Rattle.device.specs.Ceilings.{ceiling_verdicts, Within}
use Rattle.device.specs.declared.ceilings.RequiredLimits.{RequiredLimits}

pub within : (l : RequiredLimits) → first_of (ceiling_verdicts l) ≡ None → Within l
within l h =
    let v = all_none (ceiling_verdicts l) h in
    record {
      attachments = ltb-false _ _ (not_if _ _ v.0);
      buffers = ltb-false _ _ (not_if _ _ v.1.0);
      attributes = ltb-false _ _ (not_if _ _ v.1.1.0);
      stride = ltb-false _ _ (not_if _ _ v.1.1.1.0);
      bytes = ltb-false _ _ (not_if _ _ v.1.1.1.1.0);
    }

pub passes_within : (l : RequiredLimits) → Within l → first_of (ceiling_verdicts l) ≡ None
passes_within l w =
    none_all (ceiling_verdicts l) (
      if_not _ _ (le-ltb _ _ w.attachments),
      (
        if_not _ _ (le-ltb _ _ w.buffers),
        (if_not _ _ (le-ltb _ _ w.attributes), (if_not _ _ (le-ltb _ _ w.stride), (if_not _ _ (le-ltb _ _ w.bytes), tt))),
      ),
    )
