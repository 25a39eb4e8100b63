-- Each of these writes its words; the check finds the other cases.
use Rattle.vertex.proofs.error.VertexStateErrorDisplay.fmt.Goals as goal

pub returns-in-TooManyVertexBuffers-clause-writes : goal.returns-in-TooManyVertexBuffers-clause-writes
returns-in-TooManyVertexBuffers-clause-writes g c = rw c.in-TooManyVertexBuffers.is c.write-in-TooManyVertexBuffers.ensures.writes

pub returns-in-VertexAttributeStrideTooLarge-clause-writes : goal.returns-in-VertexAttributeStrideTooLarge-clause-writes
returns-in-VertexAttributeStrideTooLarge-clause-writes g c = rw c.in-VertexAttributeStrideTooLarge.is c.write-in-VertexAttributeStrideTooLarge.ensures.writes

pub returns-in-InvalidVertexAttributeOffset-clause-writes : goal.returns-in-InvalidVertexAttributeOffset-clause-writes
returns-in-InvalidVertexAttributeOffset-clause-writes g c = rw c.in-InvalidVertexAttributeOffset.is c.write-in-InvalidVertexAttributeOffset.ensures.writes
