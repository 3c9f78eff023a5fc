-- Two cycles of one identifier, from its source to different handlers: what they ask is met, so both end.
use mathlib.Core.Path.{refl, sym, ◌∙◌}
use native.Mathlib.Omega.{arith}
use Rattle.answers.proofs.Outcomes.{outcome-done}
use Rattle.bits.specs.Set.{bit}
use Rattle.device.specs.Reaction.{is_used}
use Rattle.state.specs.Start.{started}
use Rattle.calls.specs.Calls.{called}
use Rattle.bench.specs.Settling.{rounds}
use Rattle.laws.proofs.Apart.{call-apart}
use Rattle.assurance.specs.Demand3.{Calls, none as no_call, then, window}
use Rattle.assurance.specs.Cycle.{AtRest, Cycles, none, rest, cycle, AllEnd, AnyCycles}
use Rattle.assurance.proofs.Cycle.{any-cycles}
use Rattle.assurance.proofs.Instances.{start-rests, played}
use Rattle.cycles.specs.Star.{star, back_from, first, between, second}
use Rattle.cycles.proofs.Stars.{star-is}
use Rattle.cycles.proofs.Usual.{Usual, usual-start, usual-rounds, usual-call}
use Rattle.cycles.proofs.Conditions.{asked, a-cycle}

-- ---- the first: node 2 requests 30 behind the request for 31

usual-request : Usual star (called star 0 1 31 (started star))
usual-request = usual-call star-is (usual-start star-is) 0 0 31 (omega arith) (omega arith) (omega arith)

pub other-call : Calls star 31 (called star 0 1 31 (started star)) first
unfolding first star bit is_used
other-call =
    let like = call-apart star star-is.held (started star) (usual-start star-is).sound 30 (omega arith) 0 1 31 (omega arith) (omega arith) (omega arith) (λ e. omega arith) in
    let unset = sym (like.marks 2 (omega arith)) ∙ (start-rests star star-is.held 30).unset 2 (omega arith) in
    let answers = asked star-is 30 (omega arith) 1 (omega arith) _ usual-request.links 0 (omega arith) usual-request.sound refl refl unset in
    then 0 2 30 0 no_call (omega arith) (outcome-done answers refl refl) (λ e o. omega arith)

usual-first : Usual star first
unfolding first
usual-first = usual-call star-is usual-request 0 1 30 (omega arith) (omega arith) (omega arith)

usual-between : Usual star between
unfolding between back_from
usual-between =
    let answered = usual-call star-is (usual-rounds star-is usual-first (window 2)) 1 2 31 (omega arith) (omega arith) (omega arith) in
    usual-rounds star-is (usual-rounds star-is answered (window 2)) 5

-- ---- both

pub cycles : Cycles star 31 (started star) (back_from 4 3 second (window 2))
unfolding between second back_from star bit
cycles =
    cycle
    (rest
    (cycle none 1 3 2 2 0 (λ t. rounds star t first) (back_from 3 0 first)
    (λ r. a-cycle star-is 31 (omega arith) 0 (omega arith) (started star) (usual-start star-is).links refl r refl refl first other-call 2 0 (omega arith) refl (omega arith)))
    5 (λ t. rounds star t (back_from 3 0 first (window 2))) (played no_call 5))
    1 4 2 2 3 (λ t. rounds star t second) (back_from 4 3 second)
    (λ r. a-cycle star-is 31 (omega arith) 0 (omega arith) between usual-between.links refl r refl refl second no_call 3 3 (omega arith) refl (omega arith))

pub both_end : AllEnd star 31 (started star) _ cycles × AtRest star 31 (back_from 4 3 second (window 2))
unfolding AnyCycles
both_end = any-cycles star 31 (started star) (back_from 4 3 second (window 2)) cycles star-is.held (omega arith) (start-rests star star-is.held 31)
