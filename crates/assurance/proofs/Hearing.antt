-- What a node's host is told while a code is on its way: the node's own bit says how often, and it is told of nothing else.
use mathlib.Core.Path.{◌≡◌, refl, ap}
use mathlib.Core.Bool.{false}
use mathlib.Core.Logic.{◌≢◌, dite}
use Prim.Native.Nat.{ℕ, zero, suc, ◌+◌, ◌-◌, ◌*◌, ◌≤◌, ◌<◌}
use native.Mathlib.Decide.{ℕ_discrete, dec_lt, dec_le}
use native.Mathlib.Nat.{le_refl, le_trans}
use native.Mathlib.Omega.{arith}
use Rattle.bits.specs.Set.{bit}
use Rattle.bits.proofs.Sets.{bit-two}
use Rattle.plan.specs.Reading.{Held}
use Rattle.plan.specs.declared.Plan.{Plan}
use Rattle.state.specs.State.{State, register, timer}
use Rattle.state.specs.Network.{devices, router}
use Rattle.state.specs.Sound.{Sound}
use Rattle.state.proofs.Plans.{few}
use Rattle.state.proofs.Keeping.{both-kinds}
use Rattle.bench.specs.Round.{of_interrupt, of_acknowledge, of_timeout, round}
use Rattle.laws.specs.Alike.{SendsIt}
use Rattle.laws.specs.Telling.{told_in, told_by}
use Rattle.laws.proofs.Telling.{told-balance, by-none, none_told, told-some, some-told, no-timeout}
use Rattle.reach.specs.Away.{AwayOver}
use Rattle.reach.proofs.Found.{none-away}
use Rattle.assurance.specs.Demand3.{crossing}
use Rattle.assurance.specs.Return.{Told}
use Rattle.assurance.specs.Clock.{HearsIn}
use Rattle.assurance.proofs.Sights.{takers_of}
use Rattle.assurance.proofs.Arrivals.{of-kind}
use Rattle.assurance.proofs.Meanwhile.{Beside}
use Rattle.assurance.proofs.Trips.{Trip}
use Rattle.assurance.proofs.Crossings.{away-least}

-- what was told in some rounds was told in one of them
in_one : (plan : Plan) (kind d k : ℕ) (at : ℕ → State) (t : ℕ) → 1 ≤ told_by plan kind d k at t → (u : ℕ) × (u < t) × (1 ≤ told_in plan kind d k (at u))
unfolding told_by
in_one plan kind d k at zero h = absurd (omega arith)
in_one plan kind d k at (suc t) h =
    elim (dec_le 1 (told_in plan kind d k (at t))) [
      | yes b ↦ (t, omega arith, b)
      | no b ↦ let u = in_one plan kind d k at t (omega arith) in (u.0, omega (arith, u.1), u.2)
    ]

module _ (plan : Plan) (held : Held plan) (k : ℕ) (l : k < 32) (at : ℕ → State) (last : ℕ) (sound : (t : ℕ) → t ≤ last → Sound plan (at t))
    (e : ℕ) (h : e < devices plan) where
  -- a node's bit and what its host was told add up
  pub adds-up : ((t : ℕ) → t < last → Beside plan k (round plan (at t)).next (at (suc t))) → router plan e ≡ false → (t : ℕ) → t ≤ last
      → bit (register (at t) e) k + (told_by plan of_acknowledge e k at t + told_by plan of_timeout e k at t) ≡ bit (register (at 0) e) k + told_by plan of_interrupt e k at t
  unfolding told_by
  adds-up later node zero b = omega arith
  adds-up later node (suc t) b =
      let n = few plan held in
      omega (arith, adds-up later node t (omega arith), told-balance plan held (at t) (sound t (omega arith)) e k h l node, (later t b).like.marks e (omega arith))

  -- nothing of a kind is told that nobody sends
  pub none-sent : (kind : ℕ) → kind < 2 → ((q t : ℕ) → t < last → SendsIt plan k (at t) kind q → ⊥) → (t : ℕ) → t ≤ last → told_by plan (of_interrupt + kind) e k at t ≡ 0
  none-sent kind g none =
      by-none plan (of_interrupt + kind) e k at last
      (λ t b. none_told plan held (at t) (sound t (omega arith)) e k h l kind g (λ q. none q t b))

  -- no timeout is told where no timer ends
  pub none-ends : ((t : ℕ) → t < last → timer (at t) e k ≢ 1) → (t : ℕ) → t ≤ last → told_by plan of_timeout e k at t ≡ 0
  none-ends runs =
      by-none plan of_timeout e k at last (λ t b. no-timeout plan held (at t) (sound t (omega arith)) e k h l (runs t b))

-- a code that device d sent out is on its way
module _ {plan : Plan} {kind k : ℕ} {Over : ℕ → Type 0} {d D last spare : ℕ} {s : State} {at : ℕ → State} (out : Trip plan kind k Over d D last spare s at) (e : ℕ)
    (h : e < devices plan) where
  -- before the first round it is at d alone
  pub at_first : e ≢ d → bit (register (at 0) e) k ≡ bit (register s e) k
  at_first ne =
      let was = bit-two (register s e) k in
      let is = bit-two (register (at 0) e) k in
      let g = out.kinds in
      elim (ℕ_discrete (bit (register s e) k) kind) [
        | yes new ↦ elim (ℕ_discrete (bit (register (at 0) e) k) (1 - kind)) [
          | yes gone ↦ let way = out.only e 0 h (omega arith) new gone in absurd (ne (none-away way.2 (omega (arith, way.1))))
          | no still ↦ omega arith
        ]
        | no old ↦ elim (ℕ_discrete (bit (register (at 0) e) k) kind) [
          | yes still ↦ absurd (old ((out.fits 0 (omega arith)).still e h still))
          | no gone ↦ omega arith
        ]
      ]

  -- no code of the other kind is told
  none_other : (t : ℕ) → t ≤ last → told_by plan (of_interrupt + (1 - kind)) e k at t ≡ 0
  none_other =
      let g : 1 - kind < 2 = omega arith in
      none-sent plan out.held k out.place at last out.sound e h (1 - kind) g
      (λ q u c x.
      omega (arith, of-kind plan kind k s (takers_of kind k s) (at u) out.held out.kinds out.place (out.fits u (omega arith)) (1 - kind) q g x))

  -- no timer ends
  no-timeouts : (t : ℕ) → t ≤ last → told_by plan of_timeout e k at t ≡ 0
  no-timeouts =
      none-ends plan out.held k out.place at last out.sound e h
      (λ u c o.
      let f = out.fits u (omega arith) in
      elim (ℕ_discrete (bit (register (at u) e) k) 1) [
        | yes set ↦ omega (arith, f.long e h set)
        | no ne ↦ omega (arith, ((out.sound u (omega arith)).timers e k h (omega (arith, few plan out.held)) out.place).off (omega (arith, bit-two (register (at u) e) k)))
      ])

  module _ (node : router plan e ≡ false) where
    balance : (t : ℕ) → t ≤ last → bit (register (at t) e) k + told_by plan of_acknowledge e k at t ≡ bit (register (at 0) e) k + told_by plan of_interrupt e k at t
    balance t b = omega (arith, adds-up plan out.held k out.place at last out.sound e h out.later node t b, no-timeouts t b)

    -- it is told once if its bit has gone over, and else not
    moved : (t : ℕ) → t ≤ last
        → told_by plan (of_interrupt + kind) e k at t ≡ (bit (register (at t) e) k - bit (register (at 0) e) k) + (bit (register (at 0) e) k - bit (register (at t) e) k)
    moved t b =
        let sum = balance t b in
        let other = none_other t b in
        both-kinds (λ c. c ≡ kind → told_by plan (of_interrupt + c) e k at t
        ≡ (bit (register (at t) e) k - bit (register (at 0) e) k) + (bit (register (at 0) e) k - bit (register (at t) e) k))
        (λ is. omega (arith, ap (λ i. told_by plan (of_interrupt + (1 - i)) e k at t) is))
        (λ is. omega (arith, ap (λ i. told_by plan (of_interrupt + (1 - i)) e k at t) is)) kind out.kinds refl

    module _ (new : bit (register s e) k ≡ kind) (ne : e ≢ d) (n : ℕ) (away : AwayOver plan s kind k Over d n e) where
      -- n crossings away its bit goes over in no round before n
      not-before : (t : ℕ) → t ≤ last → bit (register (at t) e) k ≡ 1 - kind → n ≤ t
      not-before t b over = let way = out.only e t h b new over in le_trans (away-least away way.2) way.1

      -- so it is told no sooner than in round n, and by round `crossing` x n
      told-when : (t : ℕ) → t < last → 1 ≤ told_in plan (of_interrupt + kind) e k (at t) → (n ≤ suc t) × (suc t ≤ crossing * n)
      unfolding told_by
      told-when t b told =
          let first = at_first ne in
          let one = bit-two (register (at t) e) k in
          let two = bit-two (register (at (suc t)) e) k in
          let before = moved t (omega arith) in
          let after = moved (suc t) b in
          let g = out.kinds in (
            not-before (suc t) b (omega arith),
            dite (dec_lt t (crossing * n)) (λ less. less) (λ more. absurd (omega (arith, out.gets n e t away.there (omega arith) (omega arith)))),
          )

      pub when : (turn : ℕ) → turn ≤ last → HearsIn plan (of_interrupt + kind) e k at turn → (n ≤ turn) × (turn ≤ crossing * n)
      when turn b heard =
          let is = heard.1 in rw is (told-when heard.0 (omega arith) (told-some plan (of_interrupt + kind) e k (at heard.0) heard.2))

      -- and it is told, where so many are played
      pub hears : crossing * n ≤ last → (turn : ℕ) × (n ≤ turn) × (turn ≤ crossing * n) × HearsIn plan (of_interrupt + kind) e k at turn
      hears to =
          let g = out.kinds in
          in-round (in_one plan (of_interrupt + kind) e k at (crossing * n)
          (omega (arith, moved (crossing * n) to, at_first ne, out.gets n e (crossing * n) away.there (le_refl _) to)))
        where
          in-round : (t : ℕ) × (t < crossing * n) × (1 ≤ told_in plan (of_interrupt + kind) e k (at t))
              → (turn : ℕ) × (n ≤ turn) × (turn ≤ crossing * n) × HearsIn plan (of_interrupt + kind) e k at turn
          in-round u =
              let bounds = told-when u.0 (omega (arith, u.1)) u.2 in
              (suc u.0, bounds.0, bounds.1, (u.0, refl, some-told plan (of_interrupt + kind) e k (at u.0) u.2))

-- an interrupt tells as often as it set the bit, an acknowledge as often as it cleared it
module _ {plan : Plan} {k : ℕ} {Over : ℕ → Type 0} {d D last spare : ℕ} {s : State} {at : ℕ → State} where
  pub told-out : Trip plan 0 k Over d D last spare s at → (e : ℕ) → e < devices plan → router plan e ≡ false → (t : ℕ) → t ≤ last
      → (n : ℕ) → bit (register (at 0) e) k + n ≡ bit (register (at t) e) k → Told plan k e t at n 0 0
  told-out out e h node t b n so =
      let none = none_other out e h t b in
      record { of-interrupts = omega (arith, balance out e h node t b); of-acknowledges = none; of-timeouts = no-timeouts out e h t b }

  pub told_back : Trip plan 1 k Over d D last spare s at → (e : ℕ) → e < devices plan → router plan e ≡ false → (t : ℕ) → t ≤ last
      → (n : ℕ) → bit (register (at t) e) k + n ≡ bit (register (at 0) e) k → Told plan k e t at 0 n 0
  told_back out e h node t b n so =
      let none = none_other out e h t b in
      record { of-interrupts = none; of-acknowledges = omega (arith, balance out e h node t b); of-timeouts = no-timeouts out e h t b }
