use Rattle.attachments.proofs.error.ColorAttachmentErrorDisplay.fmt.Goals as goal

pub returns-in-TooMany-clause-writes : goal.returns-in-TooMany-clause-writes
returns-in-TooMany-clause-writes g c = rw c.in-TooMany.is c.write.ensures.writes
