use mathlib.Core.Path.{◌≡◌, ap, ◌∙◌}
use mathlib.Core.Bool.{Bool, true, false, cond, not}
use Prim.Native.Nat.{ℕ, ◌+◌, ◌*◌, ◌-◌, ◌≤◌, ◌<◌}
use native.Mathlib.Numerals.{add-one}
use native.Mathlib.Omega.{arith}
use lib.Dec.{eqb}
use Rattle.plan.specs.Fields.{nobody}
use Rattle.plan.specs.Inner.Memory.{at}
use Rattle.mend.specs.Claims.{last}
use Rattle.mend.specs.Inner.Steps.{peers_in}
use Rattle.mend.proofs.routers.ports_of.Given as goal

-- the last of n of a device's ports at which a test is true, or port 0
pub record Highest (f : ℕ → Bool) (n port : ℕ) : Type 0 where
  pub within : n ≤ 8
  pub small : port < 8
  pub same : port ≡ last n f 0

pub either-below : (t : Bool) {a b m : ℕ} → a < m → b < m → cond t a b < m
either-below true h l = h
either-below false h l = l

-- a port more
pub highest-more : {f : ℕ → Bool} {n port next : ℕ} → Highest f n port → n < 8 → next ≡ cond (f n) n port → Highest f (n + 1) next
unfolding last
highest-more {f} {n} v h e =
    record { within = omega arith; small = rw e (either-below (f n) h v.small); same = rw add-one (e ∙ ap (cond (f n) n) v.same) }

abbrev pub invariant-loop-p : goal.invariant-loop-p
invariant-loop-p l = Highest (λ q. not (eqb (at (peers_in l.claimants) (8 * l.d + q)) nobody)) l.p l.port

abbrev pub decreases-loop-p : goal.decreases-loop-p
decreases-loop-p l = 8 - l.p
