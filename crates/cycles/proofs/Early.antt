-- An acknowledge while copies of the interrupt wait: the handler may be told of it again. A round later none waits, and it is not.
use mathlib.Core.Path.{◌≡◌, refl}
use mathlib.Core.Bool.{Bool, true, ◌&&◌}
use Prim.Native.Nat.{ℕ}
use native.Mathlib.Omega.{arith}
use lib.Dec.{eqb}
use Rattle.lists.specs.Loop.{up_to}
use Rattle.lists.specs.Table.{every, table, joined}
use Rattle.lists.proofs.Facts.{facts}
use Rattle.lists.proofs.Tests.{and_left, and_right}
use Rattle.bits.specs.Set.{bit, join, leave}
use Rattle.bits.specs.First.{searched, first_from, following}
use Rattle.codes.specs.Codes.{reads}
use Rattle.device.specs.Permissions.{may_send, may_receive}
use Rattle.device.specs.Reaction.{marked, is_used, bars_of, ruled, counted, reacts_to, reacts}
use Rattle.state.specs.State.{State, word, put, register, state_of}
use Rattle.state.specs.Network.{load_for}
use Rattle.state.specs.Queue.{queue_at, queue_all_at}
use Rattle.state.specs.Mark.{mark}
use Rattle.calls.specs.Calls.{called}
use Rattle.bench.specs.Round.{of_interrupt, fall, first_waits, goes, time_goes, stamped, chosen, sent_word, sends, unqueued, timed, forwarded, tells, acted, arrived, fallen, sent_bytes, posted, arrives, reached, round}
use Rattle.laws.specs.Telling.{times, told_by}
use Rattle.assurance.specs.Demand3.{none, window, Given}
use Rattle.assurance.specs.Cycle.{AtRest, Ends, AsSoon}
use Rattle.assurance.proofs.Cycle.{as-soon}
use Rattle.assurance.proofs.Instances.{played}
use Rattle.cycles.specs.Star.{star, before, spreading, answered}
use Rattle.cycles.specs.Early.{Early}
use Rattle.cycles.proofs.Idle.{idles, resting, idles-says, resting-says}
use Rattle.cycles.proofs.Heard.{Heard, hear, heard, heard-is}
use Rattle.cycles.proofs.Stars.{star-is}
use Rattle.cycles.proofs.Ways.{node-there, permits, gets, found_back, far-back}
use Rattle.cycles.proofs.Usual.{Usual, usual-start, usual-rounds, usual-call}
use Rattle.cycles.proofs.Conditions.{asked, meets}

-- ---- computed in one piece, so that each round is played once

abbrev hears : ℕ → State → Heard
hears = heard star of_interrupt 3 1

-- after two rounds node 3 was told once and holds 1; if it acknowledges then, it is told once more in two rounds
abbrev again : Heard → Bool
again w = eqb w.count 1 && eqb (bit (register w.state 3) 1) 1 && eqb (hears 2 (called star 1 3 1 w.state)).count 1

-- and after a third round 1 waits nowhere
abbrev comes_to : State → Bool
comes_to s = resting star 1 s && (let w = hears 2 (called star 0 1 1 s) in again w && idles star 1 (hear star of_interrupt 3 1 w).state)

computed : comes_to before ≡ true
unfolding before star hear heard times every up_to table joined bit join leave searched first_from following reads may_send may_receive marked is_used bars_of ruled counted reacts_to reacts word put state_of load_for queue_at queue_all_at called mark fall first_waits goes time_goes stamped chosen sent_word sends unqueued timed forwarded tells acted arrived fallen sent_bytes posted arrives reached round
computed = refl

abbrev two : Heard
two = hears 2 (called star 0 1 1 before)

found : (again two ≡ true) × (idles star 1 (hear star of_interrupt 3 1 two).state ≡ true)
found =
    let e = and_right (resting star 1 before) _ computed in
    (and_left (again two) _ e, and_right (again two) _ e)

-- ---- the conditions of demand 3

usual-before : Usual star before
unfolding before
usual-before =
    let first = usual-call star-is (usual-start star-is) 0 0 0 (omega arith) (omega arith) (omega arith) in
    let second = usual-call star-is first 0 0 31 (omega arith) (omega arith) (omega arith) in
    usual-call star-is (usual-rounds star-is second 3) 1 2 0 (omega arith) (omega arith) (omega arith)

usual-at : (t : ℕ) → Usual star (spreading t)
unfolding spreading
usual-at t = usual-rounds star-is (usual-call star-is usual-before 0 0 1 (omega arith) (omega arith) (omega arith)) t

rests : AtRest star 1 before
rests = resting-says star 1 before star-is.held usual-before.sound (and_left (resting star 1 before) _ computed)

request : Given star 1 1 2 before spreading
unfolding star bit spreading
request = meets star-is 1 (omega arith) 0 (omega arith) before usual-before.links refl rests refl spreading (played none (window 2))

-- ---- told in the second round, node 3 acknowledges: within two rounds it is told again

says : ((told_by star of_interrupt 3 1 spreading 2 ≡ 1) × (bit (register (spreading 2) 3) 1 ≡ 1)) × (told_by star of_interrupt 3 1 (answered 2) 2 ≡ 1)
unfolding spreading answered
says = simp facts at (simp heard-is at found.0)

pub told-again : Early star 1 1 3 2 2 2 before spreading (answered 2)
unfolding star bit is_used answered
told-again =
    record {
      request = request;
      early = omega arith;
      handles = refl;
      told = says.0.0;
      taken = asked star-is 1 (omega arith) 2 (omega arith) (spreading 2) (usual-at 2).links 1 (omega arith) (usual-at 2).sound refl refl says.0.1;
      course = played none 2;
      again = says.1;
    }

-- ---- a round later nothing of it waits: if it acknowledges then, all ends as a cycle does

quiet : idles star 1 (spreading 3) ≡ true
unfolding spreading up_to hear
quiet = simp heard-is at found.1

pub a-round-later : Ends star 1 1 3 2 3 before spreading (answered 3)
unfolding AsSoon star bit spreading answered
a-round-later =
    let links = usual-before.links in
    as-soon star 1 1 3 2 3 before spreading (answered 3)
    (record {
      held = star-is.held;
      at_rest = rests;
      permits = permits star-is 1 before links;
      no-event = refl;
      taken = request.taken;
      first = played none 3;
      idle = idles-says star 1 (spreading 3) star-is.held (usual-at 3).sound quiet;
      handles = refl;
      was-reached = gets star-is 1 before links 0 (omega arith) 3 (node-there star-is 2 (omega arith));
      farthest = far-back star-is 1 before links 0 (omega arith) 2 (omega arith);
      then = played none (window 2);
      loads = λ e b. omega (arith, star-is.long 1 e (omega arith) refl b);
    })
    (found_back star-is 1 before links 0 (omega arith) 2 (omega arith))
