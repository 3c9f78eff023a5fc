-- What is computed from a plan that is a star: nodes at a router, over links that grant all four permissions. Both plans are one.
use mathlib.Core.Path.{◌≡◌, refl}
use mathlib.Core.Bool.{Bool, true, cond, ◌&&◌, ◌||◌}
use Prim.Native.Nat.{ℕ, suc, ◌+◌, ◌*◌, ◌≤◌, ◌<◌}
use native.Mathlib.Omega.{arith}
use lib.Dec.{eqb, ltb, leb}
use lib.ListN.{replicate}
use borrow.Author.Tests.{eq-eqb}
use Rattle.lists.specs.Table.{every, table, joined}
use Rattle.lists.proofs.Facts.{facts}
use Rattle.plan.specs.Fields.{nobody, devices_fit, loads_fit, pair_fits, master_fits, ports_fit, masks_fit, master_is_node, bar_fits, joins, sources_fit, share_events}
use Rattle.plan.specs.Reading.{Held}
use Rattle.plan.specs.declared.Plan.{Plan}
use Rattle.plan.specs.Inner.Memory.{port_right, device_right, row_right, right}
use Rattle.state.specs.State.{running, word, state_of}
use Rattle.state.specs.Network.{devices, role, router, peer, permissions, load_for, load_of}
use Rattle.state.specs.Start.{started}
use Rattle.state.proofs.Plans.{owned}
use Rattle.state.proofs.Started.{started-sound}
use Rattle.assurance.proofs.Choices.{runs-there}
use Rattle.assurance.proofs.Instances.{shaped, tested-held}
use Rattle.cycles.specs.Star.{star, small}

-- the identifiers that have loads of their own
abbrev pub lasts : ℕ → Bool
lasts k = eqb k 0 || eqb k 1 || eqb k 29 || eqb k 31

-- router 0 and n nodes
pub record Star (plan : Plan) (n : ℕ) : Type 0 where
  pub held : Held plan
  pub size : devices plan ≡ suc n
  pub two : 2 ≤ n
  pub few : n ≤ 8
  pub hub : router plan 0 ≡ true
  -- a port that runs at the start is connected, and it has all four permissions, and so has its far end
  pub grants : (q : ℕ) → q < 256 → running (started plan) q ≡ 1
      → (peer plan q < nobody) × (permissions plan q ≡ 15) × (permissions plan (peer plan q) ≡ 15)
  -- nothing is barred
  pub free : plan.barred ≡ replicate 512 0
  -- port j of the router leads to node j + 1, the first port of that node back, and its other ports nowhere
  pub ahead : (j : ℕ) → j < n → peer plan (8 * 0 + j) ≡ 8 * suc j
  pub back : (j : ℕ) → j < n → peer plan (8 * suc j + 0) ≡ j
  pub no_more : (j : ℕ) → j < n → (p : ℕ) → p < 7 → peer plan (8 * suc j + suc p) ≡ nobody
  -- the loads of these identifiers are long
  pub long : (k e : ℕ) → k < 32 → lasts k ≡ true → e < devices plan → 800 ≤ load_of plan e k

module _ (plan : Plan) where
  abbrev granted : ℕ → Bool
  granted q = ltb (peer plan q) nobody && eqb (permissions plan q) 15 && eqb (permissions plan (peer plan q)) 15

  abbrev ended : ℕ → Bool
  ended j = eqb (peer plan (8 * 0 + j)) (8 * suc j) && eqb (peer plan (8 * suc j + 0)) j && every 7 (λ p. eqb (peer plan (8 * suc j + suc p)) nobody)

  abbrev starred : ℕ → Bool
  starred n =
      eqb (devices plan) (suc n)
      && leb 2 n
      && leb n 8
      && router plan 0
      && every (8 * devices plan) (λ q. cond (eqb (running (started plan) q) 1) (granted q) true)
      && every n ended
      && every 32 (λ k. every (devices plan) (λ e. cond (lasts k) (leb 800 (load_of plan e k)) true))

  tested-star : (n : ℕ) → shaped plan ≡ true → right plan ≡ true → plan.barred ≡ replicate 512 0 → starred n ≡ true → Star plan n
  tested-star n a b free c =
      let f = simp facts at c in
      let held = tested-held plan a b in
      record {
        held = held;
        size = f.0.0.0.0.0.0;
        two = f.0.0.0.0.0.1;
        few = f.0.0.0.0.1;
        hub = eq-eqb (role plan 0) 1 f.0.0.0.1;
        grants = λ q h runs.
            let there = owned plan held q h (runs-there plan held (started-sound plan held) q h runs) in
            let g = simp facts at (rw (eq-eqb (running (started plan) q) 1 runs) at (f.0.0.1 q (omega arith))) in
            (g.0.0, g.0.1, g.1);
        free = free;
        ahead = λ j h. (f.0.1 j h).0.0;
        back = λ j h. (f.0.1 j h).0.1;
        no_more = λ j h. (f.0.1 j h).1;
        long = λ k e l own h. simp facts at (rw own at (f.1 k l e h));
      }

pub star-is : Star star 4
unfolding star every table joined word state_of load_for right row_right device_right port_right devices_fit loads_fit pair_fits master_fits ports_fit masks_fit master_is_node bar_fits joins sources_fit share_events
star-is = tested-star star 4 refl refl refl refl

pub small_is : Star small 2
unfolding small every table joined word state_of load_for right row_right device_right port_right devices_fit loads_fit pair_fits master_fits ports_fit masks_fit master_is_node bar_fits joins sources_fit share_events
small_is = tested-star small 2 refl refl refl refl
