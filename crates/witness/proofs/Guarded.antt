-- A node can be fenced in, and what it sends is dropped and counted: there is something of which `Contained` and `EachCounted` speak.
use mathlib.Core.Path.{◌≡◌, refl}
use mathlib.Core.Bool.{true, ◌||◌, not}
use mathlib.Core.Logic.{◌≢◌}
use Prim.Native.Nat.{ℕ, zero, suc, ◌*◌, ◌+◌, ◌<◌}
use native.Mathlib.Omega.{arith}
use lib.Dec.{eqb, ltb}
use borrow.Author.Tests.{eqb-true, lt-ltb}
use Rattle.answers.proofs.Outcomes.{outcome-done}
use Rattle.lists.specs.Loop.{up_to}
use Rattle.lists.specs.Table.{every, table, joined}
use Rattle.lists.proofs.Tests.{every-at}
use Rattle.bits.specs.Set.{bit, join, leave}
use Rattle.bits.specs.First.{searched, first_from, following}
use Rattle.device.specs.Permissions.{may_send, may_receive}
use Rattle.device.specs.Reaction.{marked, is_used}
use Rattle.plan.specs.Fields.{nobody, devices_fit, loads_fit, pair_fits, master_fits, ports_fit, masks_fit, master_is_node, bar_fits, joins, sources_fit, share_events}
use Rattle.plan.specs.Reading.{Held}
use Rattle.plan.specs.Inner.Memory.{port_right, device_right, row_right, right}
use Rattle.state.specs.State.{State, word, put, register, drops, state_of}
use Rattle.state.specs.Network.{devices, peer, bars, load_for}
use Rattle.state.specs.Queue.{queue_at, queue_all_at}
use Rattle.state.specs.Mark.{mark}
use Rattle.state.specs.Start.{started}
use Rattle.state.proofs.Started.{start-joined}
use Rattle.calls.specs.Calls.{called, Takes}
use Rattle.bench.specs.Round.{first_waits, goes, time_goes, chosen, sent_word, sends, sent_bytes}
use Rattle.laws.specs.Events.{Step, host, round}
use Rattle.assurance.specs.Cycle.{AtRest}
use Rattle.assurance.specs.Guarding.{Fenced, Outside, Asks, Meanwhile, step, Contained, Restarts, Drops, Counts, Dropped, none, one, rest, EachCounted}
use Rattle.assurance.proofs.Begun.{call-taken}
use Rattle.assurance.proofs.Instances.{tested-held, start-rests}
use Rattle.assurance.proofs.Guarding.{contained, each-counted}
use Rattle.witness.specs.Line.{line}
use Rattle.witness.specs.Guard.{guarded, asks}

abbrev first : State
first = started guarded

guarded-held : Held guarded
unfolding guarded line right row_right device_right port_right every devices_fit loads_fit pair_fits master_fits ports_fit masks_fit master_is_node bar_fits joins sources_fit share_events
guarded-held = tested-held guarded refl refl

-- ---- node 0 is fenced in

-- wherever a port of it leads, 31 is barred
all-bar : every 8 (λ p. not (ltb (peer guarded (8 * 0 + p)) nobody) || eqb (bit (bars guarded 0 (peer guarded (8 * 0 + p))) 31) 1) ≡ true
unfolding guarded line every bit
all-bar = refl

pub fenced : Fenced guarded 0 0 31
fenced p h joined other =
    let test = every-at 8 (λ p. not (ltb (peer guarded (8 * 0 + p)) nobody) || eqb (bit (bars guarded 0 (peer guarded (8 * 0 + p))) 31) 1) all-bar p h in
    eqb-true _ 1 (rw (lt-ltb (peer guarded (8 * 0 + p)) nobody joined) at test)

rests : AtRest guarded 31 first
rests = start-rests guarded guarded-held 31

pub outside : Outside guarded 0 0 31 first
outside = record { sound = rests.sound; idle = λ q h ne. rests.idle 0 q (omega arith) h; unset = λ z e h ne. rests.unset e h }

-- ---- its request is taken, and goes nowhere

requested : Takes guarded 0 0 31 first 0 (asks 0)
unfolding guarded line is_used may_send bit up_to asks
requested =
    outcome-done
    (call-taken guarded guarded-held 0 0 31 0 first rests.sound (omega arith) (omega arith) refl refl (omega arith) (start-joined guarded 0 (omega arith) (omega arith)) refl
    (rests.unset 0 (omega arith)))
    refl refl

asking : Step guarded first (asks 0)
asking = host 0 0 31 0 (omega arith) requested

pub meanwhile : (t : ℕ) → Meanwhile guarded 0 0 31 first (asks t)
unfolding Asks asks up_to asking
meanwhile zero = step none asking (λ asked. asked.1 refl)
meanwhile (suc t) = step (meanwhile t) round (λ asked. asked)

pub nobody-else : (t e : ℕ) → e < devices guarded → e ≢ 0 → bit (register (asks t) e) 31 ≡ 0
unfolding Contained
nobody-else t e h ne = (contained guarded 0 0 31 first (asks t) guarded-held (omega arith) (omega arith) fenced outside (meanwhile t)).0.unset refl e h ne

-- ---- it is counted where it is dropped: at port 0 of device 1

is-dropped : Drops guarded 0 8 (asks 0)
unfolding asks guarded line may_receive may_send called mark marked bit join leave every word put state_of table joined load_for queue_at queue_all_at up_to sent_bytes sends sent_word chosen first_waits goes time_goes searched first_from following
is-dropped = record { identifier = 31; small = omega arith; sent = refl; may = refl; barred = refl }

pub one-dropped : Dropped guarded 0 8 first 1 (asks 1)
unfolding Restarts Counts asks up_to asking
one-dropped = one (rest none asking (λ y. y) (λ y. y)) round is-dropped

pub counted-one : drops (asks 1) 0 8 ≡ 1
unfolding EachCounted guarded line word state_of table joined
counted-one = each-counted guarded 0 8 1 first (asks 1) guarded-held rests.sound (omega arith) (omega arith) one-dropped
