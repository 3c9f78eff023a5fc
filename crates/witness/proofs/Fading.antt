-- The conditions of an event can be met, and the rounds until it is gone are needed to the last: where it crosses a link in the last round of a
-- crossing, its timer ends as late as that.
use mathlib.Core.Path.{◌≡◌, refl, ap, ◌∙◌}
use mathlib.Core.Logic.{inl}
use Prim.Native.Nat.{ℕ, zero, suc, ◌-◌, ◌≤◌, ◌<◌}
use native.Mathlib.Omega.{arith}
use lib.Dec.{ltb}
use borrow.Author.Tests.{ltb-true}
use Rattle.lists.specs.Table.{every}
use Rattle.lists.proofs.Tests.{every-at}
use Rattle.bits.specs.Set.{bit}
use Rattle.device.specs.Permissions.{may_send, may_receive}
use Rattle.state.specs.State.{register}
use Rattle.state.specs.Network.{devices, load_for, load_of}
use Rattle.calls.specs.Calls.{called}
use Rattle.reach.specs.Walk.{Leads, Walk, stay, cross}
use Rattle.reach.specs.Away.{Farthest}
use Rattle.reach.proofs.Found.{none-away}
use Rattle.assurance.specs.Demand3.{Course, crossing, window}
use Rattle.assurance.specs.Event.{lasting, Event, Fades, OneEvent}
use Rattle.assurance.proofs.Event.{one-event}
use Rattle.assurance.proofs.Instances.{farthest-of}
use Rattle.witness.specs.Line.{pair, busy, course}
use Rattle.witness.specs.FadeRate.{GoneBy}
use Rattle.witness.proofs.Accepted.{pair_held}
use Rattle.witness.proofs.Busy.{busy-runs}
use Rattle.witness.proofs.Conditions.{ticks-on, slowly, meets}

there : 0 < devices pair
unfolding pair
there = omega arith

-- ---- node 1 is one crossing away

abbrev Far : ℕ → ℕ → Type 0
Far = Walk pair (busy pair) 0 31 0

over : Leads pair (busy pair) 0 31 0 1
unfolding pair may_send may_receive bit
over = record { runs = busy-runs pair pair_held there 0 (omega arith) (omega arith); sends = refl; joined = omega arith; receives = refl; admits = refl; there = refl }

to-node : Far 1 1
to-node = cross stay (inl refl) 0 (omega arith) over tt

near : (e : ℕ) → e < 2 → (m : ℕ) × (m ≤ 1) × Far m e
near zero h = (0, omega arith, stay)
near (suc zero) h = (1, omega arith, to-node)
near (suc (suc e)) h = absurd (omega arith)

far : Farthest pair (busy pair) 0 31 0 1
unfolding pair
far = farthest-of pair pair_held (busy pair) 0 31 0 1 there (1, record { there = to-node; least = λ m l w. omega (arith, none-away w (omega arith)) }) near

-- ---- so the conditions are met

long : (e : ℕ) → e < devices pair → window 1 < load_of pair e 31
unfolding pair every load_for
long e h = ltb-true (window 1) (load_of pair e 31) (every-at 2 (λ e. ltb (window 1) (load_of pair e 31)) refl e h)

ticks : (n : ℕ) → Course pair 31 n (called pair 0 0 31 (busy pair)) (course pair)
unfolding pair may_send bit every
ticks = ticks-on pair pair_held there refl (omega arith) refl refl

pub given : Event pair 31 0 1 (busy pair) (course pair)
unfolding pair may_send bit every
given =
    record {
      request = meets pair pair_held there refl (omega arith) refl refl 1 far long;
      event = refl;
      after = λ t since b. (ticks (lasting pair 31 0 1)).goes_on t b;
    }

pub fades : Fades pair 31 0 1 (busy pair) (course pair)
unfolding OneEvent
fades = one-event pair 31 0 1 (busy pair) (course pair) given

-- a round before the end of the crossing node 1 does not hold 31; so it does until the last round but one
late : bit (register (course pair (crossing - 1)) 1) 31 ≡ 0
unfolding pair may_send bit every load_for
late = (slowly pair pair_held there refl (omega arith) refl refl refl (omega arith) 1 (omega arith) (omega arith)).1

holds-late : bit (register (course pair (lasting pair 31 0 1 - 1)) 1) 31 ≡ 1
unfolding pair load_for
holds-late = fades.holds 1 1 (crossing - 1) (lasting pair 31 0 1 - 1) to-node (omega arith) late (omega arith) (omega arith) (omega arith)

-- ---- the rounds are enough, and no fewer are

pub enough : GoneBy crossing
unfolding GoneBy OneEvent
enough plan k from D s at c e t h over to =
    let end : t ≡ lasting plan k from D = omega arith in
    ap (λ r. bit (register (at r) e) k) end ∙ (one-event plan k from D s at c).at_rest.unset e h

pub no-fewer : (W : ℕ) → W < crossing → GoneBy W → ⊥
unfolding GoneBy pair load_for
no-fewer W h all = omega (arith, holds-late, all pair 31 0 1 (busy pair) (course pair) given 1 (lasting pair 31 0 1 - 1) (omega arith) (omega arith) (omega arith))
