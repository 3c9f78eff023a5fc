-- `state::ports_sound` meets its contract: it asks each device. Assumes nothing.
use mathlib.Core.Path.{◌≡◌, refl, ◌∙◌}
use mathlib.Core.List.{List}
use Prim.Native.Nat.{ℕ, ◌+◌, ◌*◌, ◌/◌, ◌%◌}
use native.Mathlib.Omega.{arith}
use lib.ListN.{get_or}
use borrow.Author.Tests.{tests}
use Rattle.std.proofs.Common.{rules}
use Rattle.lists.specs.Table.{every}
use Rattle.lists.proofs.Tests.{every-same, every-rows}
use Rattle.plan.proofs.Ranges.{every-asked}
use Rattle.state.specs.State.{State}
use Rattle.state.specs.Inner.Tests.{device_ports, place_sound, ports_sound}
use Rattle.state.proofs.sound.ports_sound.Goals as goal

-- the ports of one device after the other
by-device : (ports permissions : List ℕ) (peers : List (List ℕ)) (s : State)
    → every 32 (λ d. device_ports s d (get_or ports d 0) permissions peers) ≡ ports_sound ports permissions peers s
unfolding ports_sound device_ports
by-device ports permissions peers s =
    every-same 32 (λ d. device_ports s d (get_or ports d 0) permissions peers) (λ d. every 8 (λ p. place_sound ports permissions peers s (8 * d + p)))
    (λ d h. every-same 8 _ _ (λ p l.
    let device : (8 * d + p) / 8 ≡ d = omega arith in
    let port : (8 * d + p) % 8 ≡ p = omega arith in
    rw (device, port)))
    ∙ every-rows 8 32 (place_sound ports permissions peers s)

pub returns : goal.returns
returns c = every-asked 32 _ _ _ _ c.all.ensures.ran refl (λ x b q k. search (rules, tests)) ∙ by-device _ _ _ _
