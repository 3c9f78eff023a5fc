-- `mend::lines::put_restored` meets its contract: no line, or the two ports. Assumes nothing.
use mathlib.Core.Path.{◌≡◌, ap, sym, ◌∙◌}
use native.Mathlib.Omega.{arith}
use Rattle.text.proofs.Parts.{joint-short}
use Rattle.text.proofs.Within.{looser, same_word, nothing, within}
use Rattle.plan.specs.Fields.{nobody}
use Rattle.mend.specs.Inner.Steps.{peer_in}
use Rattle.mend.proofs.Texts.{restored-none, restored-some}
use Rattle.mend.proofs.lines.put_restored.Goals as goal

pub returns-in_default : goal.returns-in_default
returns-in_default c = looser (same_word (nothing _) (restored-none c.args.t _ (ap peer_in c.in_default.is))) (omega arith)

pub returns-in-Some : goal.returns-in-Some
returns-in-Some c =
    let a = c.args in
    let q = c.in-Some.q in
    let is = ap peer_in c.in-Some.is in
    let some : peer_in a.claimant ≡ nobody → ⊥ = λ e. omega (arith, is, e) in
    let e : c.from.result ≡ peer_in a.claimant = c.from.ensures ∙ sym is in
    same_word (within (joint-short a.t _ c.requires.0 (omega arith)) c.joint.ensures) (rw e (restored-some a.t _ some))
