-- `reach::visits::Net::device` and `reach::visits::Net::each_port` meet their contracts. Assumes nothing.
use Rattle.std.proofs.Common.{◌≡◌, refl, sym, ◌∙◌, ◌+◌, arith}
use borrow.Author.Tests.{eq-eqb, ne_eqb}
use Rattle.reach.specs.Visits.{seen}
use Rattle.reach.proofs.Returns.{again, node, shorter, router, next-turn, last_turn}
use Rattle.reach.proofs.visits.Net.+device_each_port.Goals.{each_port-then-is_new, each_port-else-is_new}
use Rattle.reach.proofs.visits.Net.+device_each_port.Goals as goal

-- ---- the visit of a device

pub device-returns-then-self-d-ne1 : goal.device-returns-then-self-d-ne1
device-returns-then-self-d-ne1 t c =
    let same = c.index-d.ensures.equal in
    rw (← same) (node _ _ _ _ _ _ c.join-joined.ensures (rw (← same) at c.requires.1) _ refl (ne_eqb _ _ c.if-self-d-ne1.true))

pub device-each_port-requires : goal.device-each_port-requires
device-each_port-requires t c =
    (omega (arith, shorter _ _ _ c.join-joined.ensures (rw (← c.index-d.ensures.equal) at c.requires.1)), c.requires.0)

pub device-returns : goal.device-returns
device-returns t c =
    let same = c.index-d.ensures.equal in
    router _ _ _ _ _ _ (rw same at c.join-joined.ensures) c.requires.1 _ (rw same at (eq-eqb _ _ c.if-self-d-ne1.false)) c.each_port.ensures

-- ---- the visits of a device's ports

pub each_port-overflow_add-examined-then-is_new : goal.each_port-overflow_add-examined-then-is_new
each_port-overflow_add-examined-then-is_new t c =
    let few = c.requires c.index-d.result in
    let next = rw (rw c.unwrap.ensures at c.new.ensures.number) at c.ahead-next.ensures in
    let behind = rw (rw c.unwrap-then-is_new.ensures at c.new-then-is_new.ensures.number) at c.device-behind.ensures in
    let after = next-turn _ _ _ c.requires _ _ _ _ _ _ c.device-behind.result c.loop-p.invariant (omega arith) next behind in
    omega (arith, after.spent)

pub each_port-loop-p-preserved : goal.each_port-loop-p-preserved
each_port-loop-p-preserved t c =
    let next = rw (rw c.unwrap.ensures at c.new.ensures.number) at c.ahead-next.ensures in
    elim c.if-is_new.branch [
      | each_port-then-is_new w ↦
          let behind = rw (rw w.unwrap-then-is_new.ensures at w.new-then-is_new.ensures.number) at w.device-behind.ensures in
          rw (w.set-is, w.examined-is) (next-turn _ _ _ c.requires _ _ _ _ _ _ w.device-behind.result c.loop-p.invariant (omega arith) next behind)
      | each_port-else-is_new w ↦
          let met : c.if-is_new.examined ≡ c.loop-p.examined + 1 + 0 = omega (arith, w.examined-is) in
          rw (w.set-is, met)
          (next-turn _ _ _ c.requires _ _ _ _ _ _ (seen c.loop-p.set 0) c.loop-p.invariant (omega arith) next (again _ _ _ _ _ (sym c.is_new.ensures ∙ w.if-is_new.false)))
    ]

pub each_port-returns : goal.each_port-returns
each_port-returns t c =
    rw (← c.index-d.ensures.equal) (last_turn _ _ _ _ _ _ _ _ _ refl c.loop-p.invariant (omega (arith, c.loop-p-test.false)))
