use Rattle.std.proofs.Common.{◌≡◌, ℕ, ◌+◌, ◌-◌, ◌*◌, ◌/◌, min, length, drop, List, ℤ, ◌∙◌, ap, arith}
use Rattle.cursor.proofs.PatchSteps.{passed_on}
use Rattle.cursor.proofs.patch.Patch.pass.Goals as goal

pub invariant_of-self : goal.invariant_of-self
invariant_of-self c =
    let patch = c.self.inside in
    let all : c.len.result ≡ length patch.values.items = omega (arith, patch.values.ok.0) in
    let moved : patch.used + c.min.result * c.from-channels.result ≡ patch.used + min c.args.count ((length patch.values.items - patch.used) / patch.channels) * patch.channels =
    ap (λ (k : ℕ). patch.used + k * c.from-channels.result) c.min.ensures
    ∙ ap (λ (k : ℕ). patch.used + min c.args.count ((c.len.result - patch.used) / k) * k) c.from-channels.ensures
    ∙ ap (λ (k : ℕ). patch.used + min c.args.count ((k - patch.used) / patch.channels) * patch.channels) all in
    let on = passed_on patch.channels patch.used c.args.count (patch.used + c.min.result * c.from-channels.result) patch.values.items c.self.invariant.0 c.self.invariant.1 c.self.invariant.2 moved in
    (c.self.invariant.0, on.0, on.1)

pub returns : goal.returns
returns c =
    let patch = c.self.inside in
    let all : c.len.result ≡ length patch.values.items = omega (arith, patch.values.ok.0) in
    let moved : patch.used + c.min.result * c.from-channels.result ≡ patch.used + min c.args.count ((length patch.values.items - patch.used) / patch.channels) * patch.channels =
    ap (λ (k : ℕ). patch.used + k * c.from-channels.result) c.min.ensures
    ∙ ap (λ (k : ℕ). patch.used + min c.args.count ((c.len.result - patch.used) / k) * k) c.from-channels.ensures
    ∙ ap (λ (k : ℕ). patch.used + min c.args.count ((k - patch.used) / patch.channels) * patch.channels) all in
    let on = passed_on patch.channels patch.used c.args.count (patch.used + c.min.result * c.from-channels.result) patch.values.items c.self.invariant.0 c.self.invariant.1 c.self.invariant.2 moved in
    on.2 ∙ ap (λ (fs : List (List ℤ)). drop c.args.count fs) c.self.view_is
