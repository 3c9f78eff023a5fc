use mathlib.Core.Path.{sym, ◌∙◌}
use Prim.Native.Nat.{◌/◌, ◌%◌, ◌<◌}
use native.Mathlib.Omega.{arith}
use Rattle.plan.proofs.BothWays.{held-devices}
use Rattle.report.proofs.Short.{line-short, place-passed, place-put, lines_none, lines_more, lines-room, lines-done}
use Rattle.report.proofs.lines.put_lines.Goals as goal
use Rattle.report.proofs.lines.put_lines.Goals.{then-get-eq1, else-get-eq1}

pub overflow_mul-i-end : goal.overflow_mul-i-end
overflow_mul-i-end c = omega (arith, (held-devices _ c.requires.0).1)

pub loop-i-init : goal.loop-i-init
loop-i-init c = record { within = omega arith; put = lines_none }

pub bounds-plan-i : goal.bounds-plan-i
bounds-plan-i c = omega (arith, (held-devices _ c.requires.0).1)

pub put_place-requires : goal.put_place-requires
put_place-requires c =
    let l = c.loop-i in
    let few = (held-devices _ c.requires.0).1 in
    let small : l.i < 1024 = omega arith in
    let room = lines-room l.invariant.put c.requires.2 small in
    let short = line-short _ c.requires.0 (l.i / 32) (l.i % 32) (omega arith) (omega arith) (c.requires.1.each l.i small) in
    (small, omega (arith, room, short))

pub loop-i-preserved : goal.loop-i-preserved
loop-i-preserved c =
    let l = c.loop-i in
    let p = c.requires in
    let few = (held-devices _ p.0).1 in
    let small : l.i < 1024 = omega arith in
    let g = c.get.ensures in
    record {
      within = omega arith;
      put =
          elim c.if-get-eq1.branch [
            | then-get-eq1 w ↦
                rw w.page-is
                (lines_more l.invariant.put p.2 small (place-put _ l.i p.0 small (sym g ∙ w.if-get-eq1.true) (p.1.each l.i small) w.put_place.ensures))
            | else-get-eq1 w ↦
                rw w.page-is (lines_more l.invariant.put p.2 small (place-passed _ l.i _ (λ z. w.if-get-eq1.false (g ∙ z))))
          ];
    }

pub returns : goal.returns
returns c = lines-done c.loop-i.invariant.put (omega arith)
