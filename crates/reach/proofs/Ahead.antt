-- The device ahead of a port is the one that the port leads to, by the rules.
use mathlib.Core.Path.{◌≡◌, refl, sym}
use mathlib.Core.Bool.{Bool, true, false, cond}
use Prim.Native.Nat.{ℕ, ◌/◌, ◌<◌}
use native.Mathlib.Nat.{add-zero}
use native.Mathlib.Omega.{arith}
use borrow.Author.Tests.{eq-eqb, lt-ltb}
use Rattle.lists.proofs.Facts.{facts}
use Rattle.plan.specs.Fields.{nobody}
use Rattle.plan.specs.declared.Plan.{Plan}
use Rattle.state.specs.State.{State, running}
use Rattle.state.specs.Network.{peer}
use Rattle.reach.specs.Walk.{Leads}
use Rattle.reach.specs.Visits.{leads, ahead, ahead_in}

module _ (plan : Plan) (s : State) (k q : ℕ) where
  abbrev next : ℕ
  next = ahead_in plan s k q

  abbrev tests : ℕ → Bool
  tests = leads plan.core.permissions plan.peers plan.barred s k

  pub leads-ahead : (e : ℕ) → Leads plan s 0 k q e → (next ≡ e) × (e < 32)
  unfolding ahead
  leads-ahead e l =
      (simp (eq-eqb (running s q) 1 l.runs, l.sends, lt-ltb (peer plan q) nobody l.joined, l.receives, eq-eqb _ 0 (rw add-zero at l.admits)) (sym l.there), omega (arith, l.there, l.joined))

  pub ahead-leads : next < 32 → Leads plan s 0 k q next
  unfolding ahead
  ahead-leads = by-test (tests q) refl
    where
      by-test : (b : Bool) → tests q ≡ b → cond b (peer plan q / 8) 32 < 32 → Leads plan s 0 k q (cond b (peer plan q / 8) 32)
      by-test false e h = absurd (omega arith)
      by-test true e h =
          let f = simp facts at e in
          record { runs = f.0.0.0.0; sends = f.0.0.0.1; joined = f.0.0.1; receives = f.0.1; admits = rw add-zero f.1; there = refl }

-- in another state too, if the port runs in it
pub leads-there : (plan : Plan) (s t : State) (kind k q e : ℕ) → running t q ≡ 1 → Leads plan s kind k q e → Leads plan t kind k q e
leads-there plan s t kind k q e runs l = record { runs = runs; sends = l.sends; joined = l.joined; receives = l.receives; admits = l.admits; there = l.there }
