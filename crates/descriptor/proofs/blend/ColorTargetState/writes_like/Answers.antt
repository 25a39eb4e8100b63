use Rattle.std.proofs.Common.{◌≡◌, ◌∙◌, rules}
use Rattle.descriptor.specs.Blend.{same_blend, writes_like}
use Rattle.descriptor.proofs.Same.{alike_at, derived_blend}
use Rattle.descriptor.proofs.blend.ColorTargetState.writes_like.Goals as goal

pub returns-then-eq : goal.returns-then-eq
returns-then-eq c =
    let s = c.args.self.now in
    let t = c.args.other.now in
    let b : c.eq-then-eq.result ≡ same_blend s.blend t.blend = c.eq-then-eq.ensures ∙ derived_blend s.blend t.blend in
    let e : c.eq-then-eq.result ≡ writes_like s t = search rules in
    record { value = e; exactly = alike_at s t _ e }
