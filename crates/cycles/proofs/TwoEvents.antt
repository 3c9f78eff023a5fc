-- Two events of one identifier, by two sources: what they ask is met, so both end.
use mathlib.Core.Path.{refl}
use native.Mathlib.Omega.{arith}
use Rattle.bits.specs.Set.{bit}
use Rattle.state.specs.Start.{started}
use Rattle.calls.specs.Calls.{called}
use Rattle.assurance.specs.Demand3.{none as no_call}
use Rattle.assurance.specs.Cycle.{AtRest}
use Rattle.assurance.specs.Event.{lasting, Events, none, event, AllFade, AnyEvents}
use Rattle.assurance.proofs.Event.{any-events}
use Rattle.assurance.proofs.Instances.{start-rests}
use Rattle.cycles.specs.Star.{star, first_event, second_event}
use Rattle.cycles.proofs.Stars.{star-is}
use Rattle.cycles.proofs.Usual.{Usual, usual-start, usual-rounds, usual-call}
use Rattle.cycles.proofs.Conditions.{an-event}

usual-first : Usual star (first_event (lasting star 29 1 2))
unfolding first_event
usual-first = usual-rounds star-is (usual-call star-is (usual-start star-is) 0 0 29 (omega arith) (omega arith) (omega arith)) (lasting star 29 1 2)

pub both : Events star 29 (started star) (second_event (lasting star 29 2 2))
unfolding first_event second_event star bit
both =
    event
    (event none 1 2 first_event
    (λ r. an-event star-is 29 (omega arith) 0 (omega arith) (started star) (usual-start star-is).links refl r refl refl (called star 0 1 29 (started star)) no_call))
    2 2 second_event
    (λ r. an-event star-is 29 (omega arith) 1 (omega arith) (first_event (lasting star 29 1 2)) usual-first.links refl r refl refl (called star 0 2 29 (first_event (lasting star 29 1 2))) no_call)

pub both-fade : AllFade star 29 (started star) _ both × AtRest star 29 (second_event (lasting star 29 2 2))
unfolding AnyEvents
both-fade = any-events star 29 (started star) (second_event (lasting star 29 2 2)) both star-is.held (omega arith) (start-rests star star-is.held 29)
