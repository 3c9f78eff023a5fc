-- A code that is not accepted changes nothing but a counter. One that is accepted came by an open port and found its bit ready for it; an interrupt then loads its timer.
use mathlib.Core.Path.{◌≡◌, refl, sym, ap, ◌∙◌}
use mathlib.Core.Bool.{Bool, true, false, cond, false≢true}
use mathlib.Core.List.{List}
use mathlib.Core.Logic.{inl}
use Prim.Native.Nat.{ℕ, ◌/◌, ◌<◌}
use native.Mathlib.Omega.{arith}
use lib.Dec.{ltb}
use lib.ListN.{length, get_or}
use borrow.Author.Tests.{eqb-true, lt-ltb}
use Rattle.bits.specs.Set.{bit}
use Rattle.codes.specs.Codes.{byte_of, reads}
use Rattle.codes.specs.declared.Code.{Code}
use Rattle.codes.specs.declared.Code.TheVariants.{Time, Interrupt, Acknowledge, Reserved}
use Rattle.codes.proofs.BothWays.{Stands, stands, time, interrupt, acknowledge}
use Rattle.device.specs.Reaction.{marked, accepted, ruled, counted, reacts_to, reacts}
use Rattle.device.specs.declared.Action.{Action}
use Rattle.device.specs.declared.Action.TheVariants.{Named, LinkError, Ignored, Dropped, Forwarded, Told}
use Rattle.device.specs.declared.Side.{Side}
use Rattle.device.proofs.Rule.{Accepts, ruled-cases}
use Rattle.plan.specs.declared.Plan.{Plan}
use Rattle.state.specs.State.{State, words, put, word, ports_end, register_at, timer_at, register, timer, running, counter_at, counter, drops_at}
use Rattle.state.specs.Network.{router, peer, events, load_of}
use Rattle.state.proofs.Words.{length-put, word_same, word-other, put_word}
use Rattle.state.proofs.Waits.{queue-all-left}
use Rattle.bench.specs.Round.{World, nothing, timed, forwarded, lost, acted, arrived, side_of, arrives}
use Rattle.bench.proofs.RoundSound.{Opens, Beside, beside_same, counter-only, side-bars}
use Rattle.laws.specs.Timing.{accepts, action}

-- ---- a reaction that does not accept, and one that does

by-role : (is_router : Bool) (code : Code) → accepts (cond is_router (Forwarded code) (Told code)) ≡ true
unfolding accepts
by-role true code = refl
by-role false code = refl

module _ (side : Side) (bits count : ℕ) where
  ruled-left : (kind k : ℕ) (code : Code) → accepts (ruled side bits count kind k code).action ≡ false → (ruled side bits count kind k code).register ≡ bits
  ruled-left kind k code =
      ruled-cases (λ r. accepts r.action ≡ false → r.register ≡ bits) side bits count kind k code (λ n e. refl) (λ n e. refl) (λ n e. refl)
      (λ o e. absurd (false≢true (sym e ∙ by-role side.router code)))

  bits_left : (code : Code) → accepts (reacts_to side bits count code).action ≡ false → (reacts_to side bits count code).register ≡ bits
  unfolding reacts_to counted
  bits_left (Time v) e = refl
  bits_left (Reserved top low) e = refl
  bits_left (Interrupt k) e = ruled-left 0 k (Interrupt k) e
  bits_left (Acknowledge k) e = ruled-left 1 k (Acknowledge k) e

  opened-by : (kind k c j : ℕ) → c ≡ kind → j ≡ k → (code : Code) → accepts (ruled side bits count c j code).action ≡ true → Accepts side bits kind k
  unfolding accepts
  opened-by kind k c j same place code =
      rw (← same, ← place)
      (ruled-cases (λ r. accepts r.action ≡ true → Accepts side bits c j) side bits count c j code (λ n x. absurd (false≢true x)) (λ n x. absurd (false≢true x)) (λ n x. absurd (false≢true x)) (λ y x. y))

  -- a code that is accepted came by an open port, and found its bit as its kind wants it
  opened : (byte kind k : ℕ) → byte ≡ byte_of kind k → kind < 2 → k < 32 → (code : Code) → Stands byte code → accepts (reacts_to side bits count code).action ≡ true
      → Accepts side bits kind k
  unfolding reacts_to accepts
  opened byte kind k e g l (Time v) (time h) a = absurd (omega arith)
  opened byte kind k e g l (Reserved top low) s a = absurd (false≢true a)
  opened byte kind k e g l (Interrupt j) (interrupt m o) a = opened-by kind k 0 j (omega arith) (omega arith) (Interrupt j) a
  opened byte kind k e g l (Acknowledge j) (acknowledge m o) a = opened-by kind k 1 j (omega arith) (omega arith) (Acknowledge j) a

  -- what comes of an interrupt that is accepted
  taken : (byte k : ℕ) → byte ≡ byte_of 0 k → k < 32 → (code : Code) → Stands byte code → accepts (reacts_to side bits count code).action ≡ true
      → reacts_to side bits count code ≡ accepted side bits count 0 k (Interrupt k)
  unfolding reacts_to accepts
  taken byte k e l (Time v) (time h) a = absurd (omega arith)
  taken byte k e l (Reserved top low) s a = absurd (false≢true a)
  taken byte k e l (Acknowledge j) (acknowledge m o) a = absurd (omega arith)
  taken byte k e l (Interrupt j) (interrupt m o) a =
      let here : j ≡ k = omega arith in
      ruled-cases (λ r. accepts r.action ≡ true → r ≡ accepted side bits count 0 k (Interrupt k)) side bits count 0 j (Interrupt j) (λ n x. absurd (false≢true x))
      (λ n x. absurd (false≢true x)) (λ n x. absurd (false≢true x)) (λ y x. ap (λ i. accepted side bits count 0 i (Interrupt i)) here) a

-- ---- a byte arrives at port q

module _ (plan : Plan) (sent : List ℕ) (q : ℕ) (w : World) where
  abbrev byte : ℕ
  byte = get_or sent (peer plan q) nothing

  abbrev side : Side
  side = side_of plan q w.state

  abbrev bits : ℕ
  bits = register w.state (q / 8)

  abbrev count : ℕ
  count = counter w.state (q / 8)

  -- not accepted, nothing comes of it, but that it is counted where it is dropped
  lost-left : (code : Code) (s : State) → (length (lost q code s) ≡ length s) × ((i : ℕ) → i < ports_end → word (lost q code s) i ≡ word s i)
  unfolding lost
  lost-left (Interrupt k) s = (length-put s (drops_at q 0) _, λ i h. word-other s (drops_at q 0) _ i (omega arith))
  lost-left (Acknowledge k) s = (length-put s (drops_at q 1) _, λ i h. word-other s (drops_at q 1) _ i (omega arith))
  lost-left (Time v) s = (refl, λ i h. refl)
  lost-left (Reserved top low) s = (refl, λ i h. refl)

  acts-not : (a : Action) (v : World) → accepts a ≡ false → Beside w v → v.told ≡ w.told → Beside w (acted (load_of plan (q / 8)) plan.core.permissions q a v)
  unfolding acted accepts
  acts-not (Forwarded code) v e b o = absurd (false≢true (sym e))
  acts-not (Told code) v e b o = absurd (false≢true (sym e))
  acts-not (Named code) v e b o = b
  acts-not (LinkError code) v e b o = b
  acts-not (Ignored code) v e b o = b
  acts-not (Dropped code) v e b o =
      let left = lost-left code v.state in
      record { size = left.0 ∙ b.size; front = λ i h. left.1 i h ∙ b.front i h; told = inl o }

  -- only the counter may be another
  counter-beside : (n : ℕ) → q / 8 < 32 → Beside w (record { state = put (put w.state (counter_at (q / 8)) n) (register_at (q / 8)) bits; told = w.told })
  counter-beside n small =
      rw (counter-only w.state (q / 8) n small)
      (record {
        size = length-put w.state (counter_at (q / 8)) n;
        front = λ i h. word-other w.state (counter_at (q / 8)) n i (omega arith);
        told = inl refl;
      })

  pub arrives-left : q / 8 < 32 → accepts (action plan q byte w.state) ≡ false → Beside w (arrives plan sent q w)
  unfolding arrives arrived reacts
  arrives-left small e = by-test (ltb byte nothing)
    where
      by-test : (t : Bool) → Beside w (cond t (arrived (load_of plan (q / 8)) plan.core.permissions q plan.barred (router plan (q / 8)) (events plan) byte w) w)
      by-test false = beside_same w
      by-test true =
          acts-not (reacts side bits count byte).action _ e
          (rw (bits_left side bits count (reads byte) e) (counter-beside (reacts side bits count byte).counter small)) refl

  -- accepted, its port is open and its bit stands ready for it
  pub arrives-opens : (kind k : ℕ) → kind < 2 → k < 32 → byte ≡ byte_of kind k → accepts (action plan q byte w.state) ≡ true → Opens plan kind k q w.state
  unfolding reacts
  arrives-opens kind k g l e a =
      let o = opened side bits count byte kind k e g l (reads byte) (stands byte) a in
      record {
        runs = eqb-true (running w.state q) 1 o.runs;
        may = o.may;
        unbarred = ap (λ v. bit v k) (sym (side-bars plan q w.state kind g)) ∙ o.unbarred;
        used = o.used;
        stood = o.stood;
      }

  -- an accepted interrupt
  module _ (k : ℕ) (l : k < 32) (e : byte ≡ byte_of 0 k) (a : accepts (action plan q byte w.state) ≡ true) where
    pub arrives-found : bit bits k ≡ 0
    arrives-found = (arrives-opens 0 k (omega arith) l e a).stood

    pub arrives-loads : length w.state ≡ words → q / 8 < 32 → timer (arrives plan sent q w).state (q / 8) k ≡ load_of plan (q / 8) k
    unfolding arrives arrived reacts acted timed forwarded
    arrives-loads size small =
        rw (lt-ltb byte nothing (omega arith), taken side bits count byte k e l (reads byte) (stands byte) a, put_word w.state (counter_at (q / 8))) (by_side side.router)
      where
        loads : timer (put (put w.state (register_at (q / 8)) (marked 0 bits k)) (timer_at (q / 8) k) (load_of plan (q / 8) k)) (q / 8) k ≡ load_of plan (q / 8) k
        loads = word_same _ (timer_at (q / 8) k) (load_of plan (q / 8) k) (omega (arith, size, length-put w.state (register_at (q / 8)) (marked 0 bits k)))

        by_side : (r : Bool)
            → timer (acted (load_of plan (q / 8)) plan.core.permissions q (cond r (Forwarded (Interrupt k)) (Told (Interrupt k))) (record { state = put w.state (register_at (q / 8)) (marked 0 bits k); told = w.told })).state (q / 8) k ≡ load_of plan (q / 8) k
        by_side true = queue-all-left 0 k (timer_at (q / 8) k) (omega arith) (omega arith) plan.core.permissions (q / 8) q small _ ∙ loads
        by_side false = loads
