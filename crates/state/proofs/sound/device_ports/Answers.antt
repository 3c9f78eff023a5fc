-- `state::device_ports` meets its contract: it asks each port, or all at once. Assumes nothing.
use mathlib.Core.Path.{◌≡◌, refl, sym, ap, ◌∙◌}
use mathlib.Core.Bool.{Bool}
use mathlib.Core.List.{List, []}
use Prim.Native.Nat.{ℕ, ◌+◌, ◌-◌, ◌*◌, ◌/◌, ◌%◌, ◌<◌}
use native.Mathlib.Omega.{arith}
use lib.Dec.{eqb}
use lib.ListN.{length, take, drop, get_or}
use borrow.Author.Tests.{le-ltb, tests}
use Rattle.std.proofs.Common.{rules}
use Rattle.lists.specs.Table.{every}
use Rattle.lists.proofs.Tests.{every-same, every-rows}
use Rattle.areas.specs.Put.{all_zero}
use Rattle.areas.proofs.Parts.{part-zero}
use Rattle.plan.proofs.Ranges.{every-asked}
use Rattle.state.specs.State.{State, words, word, ports_at, port_at}
use Rattle.state.specs.Inner.Tests.{port_zero, port_sound, place_sound, device_ports}
use Rattle.state.proofs.sound.device_ports.Goals as goal

module _ (s : State) (d : ℕ) (permissions : List ℕ) (peers : List (List ℕ)) where
  abbrev Sound : ℕ → ℕ → Bool
  Sound ports p = port_sound s (8 * d + p) ports (get_or (get_or peers d []) p 0) (get_or permissions (8 * d + p) 0)

  abbrev start : ℕ
  start = ports_at + 32 * d

  -- where there is no port, all words are 0, port by port or at once
  no-ports : length s ≡ words → d < 32 → all_zero (take (start + 32 - start) (drop start s)) ≡ device_ports s d 0 permissions peers
  unfolding device_ports port_sound port_zero word
  no-ports long h =
      let n : start + 32 - start ≡ 32 = omega arith in
      rw n
      (part-zero s start 32 (omega arith)
      ∙ sym (every-rows 4 8 (λ i. eqb (word s (start + i)) 0))
      ∙ every-same 8 (λ p. every 4 (λ i. eqb (word s (start + (4 * p + i))) 0)) (Sound 0)
      (λ p l. rw (le-ltb ((8 * d + p) % 8) 0 (omega arith)) (every-same 4 _ _ (λ i k. let a : start + (4 * p + i) ≡ port_at (8 * d + p) i = omega arith in rw a))))

  -- each port by its number
  by-place : (ports : List ℕ) → every 8 (λ p. place_sound ports permissions peers s (8 * d + p)) ≡ device_ports s d (get_or ports d 0) permissions peers
  unfolding device_ports
  by-place ports =
      every-same 8 _ _ (λ p l.
      let device : (8 * d + p) / 8 ≡ d = omega arith in
      let port : (8 * d + p) % 8 ≡ p = omega arith in
      rw (device, port))

pub returns-then-plan-d-eq0 : goal.returns-then-plan-d-eq0
returns-then-plan-d-eq0 c =
    let a = c.args in
    let is : c.index-d.result ≡ a.device = c.index-d.ensures.equal in
    c.zeros.ensures
    ∙ rw is (no-ports a.state.now a.device a.plan.now.core.permissions a.plan.now.peers (omega arith) (omega arith))
    ∙ ap (λ n. device_ports a.state.now a.device n a.plan.now.core.permissions a.plan.now.peers) (sym (rw is at c.if-plan-d-eq0.true))

pub returns : goal.returns
returns c = every-asked 8 _ _ _ _ c.all.ensures.ran refl (λ x b q k. search (rules, tests)) ∙ by-place c.args.state.now c.args.device _ _ _
