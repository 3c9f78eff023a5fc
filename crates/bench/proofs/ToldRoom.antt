-- No round tells more than its area holds: each timer tells one word at most, and so does each of a node's two ports.
use mathlib.Core.Path.{◌≡◌, refl, sym, ap, ◌∙◌}
use mathlib.Core.Bool.{Bool, true, false, cond}
use mathlib.Core.List.{List, [], ◌∷◌}
use Prim.Native.Nat.{ℕ, zero, suc, ◌+◌, ◌*◌, ◌/◌, ◌%◌, ◌≤◌, ◌<◌}
use native.Mathlib.Decide.{ℕ_discrete, dec_lt}
use native.Mathlib.Omega.{arith}
use lib.Dec.{eqb, ltb}
use lib.ListN.{length, get_or, length-append, get_or-eq_default}
use borrow.Author.Tests.{ltb-true, ltb-false, le-ltb}
use Rattle.lists.specs.Loop.{up_to}
use Rattle.lists.proofs.Tables.{length-table}
use Rattle.codes.specs.declared.Code.{Code}
use Rattle.codes.specs.declared.Code.TheVariants.{Time, Interrupt, Acknowledge, Reserved}
use Rattle.device.specs.Reaction.{next_time, passed_on, ruled, counted, reacts_to, reacts}
use Rattle.device.specs.declared.Action.{Action}
use Rattle.device.specs.declared.Action.TheVariants.{Named, LinkError, Ignored, Forwarded, Told, Dropped}
use Rattle.device.specs.declared.Side.{Side}
use Rattle.device.proofs.Rule.{ruled-cases}
use Rattle.plan.specs.Fields.{nobody}
use Rattle.plan.specs.Reading.{Held}
use Rattle.plan.specs.declared.Plan.{Plan}
use Rattle.state.specs.State.{State, timer}
use Rattle.state.specs.Network.{devices, router, ports_of, peer}
use Rattle.state.proofs.Plans.{few, node-ports, absent-loose}
use Rattle.bench.specs.Round.{World, of_timeout, told_word, fall, tells, acted, arrived, fallen, sent_bytes, arrives, reached, after_timers, after_sending, round, nothing, sent_words}
use Rattle.bench.specs.RoundCall.{told_words}
use Rattle.bench.proofs.Stepped.{fall-idle, fall-on, fall_ends, fall-tells, arrives-nothing, arrives-byte}

-- ---- a node has its first two ports at most, and nobody is the peer of a port that it lacks

lone : (plan : Plan) → Held plan → (q : ℕ) → q < 8 * devices plan → 2 ≤ q % 8 → router plan (q / 8) ≡ false → peer plan q ≡ nobody
lone plan h q l m node =
    let n = few plan h in
    absent-loose plan h q (omega arith) (le-ltb (q % 8) (ports_of plan (q / 8)) (omega (arith, node-ports plan h (q / 8) (omega arith) node)))

-- ---- what each step tells

most : (load : ℕ → ℕ) (permissions : List ℕ) (q : ℕ) (action : Action) (w : World) → length (acted load permissions q action w).told ≤ length w.told + 1
unfolding acted tells
most load permissions q (Forwarded code) w = omega arith
most load permissions q (Told (Interrupt k)) w = simp length-append (omega arith)
most load permissions q (Told (Acknowledge k)) w = simp length-append (omega arith)
most load permissions q (Told (Time v)) w = simp length-append (omega arith)
most load permissions q (Told (Reserved top low)) w = simp length-append (omega arith)
most load permissions q (Named code) w = omega arith
most load permissions q (LinkError code) w = omega arith
most load permissions q (Ignored code) w = omega arith
most load permissions q (Dropped code) w = omega arith

-- a router tells nobody
module _ (load : ℕ → ℕ) (permissions : List ℕ) (q : ℕ) (side : Side) (hands : side.router ≡ true) (register counter : ℕ) (w : World) where
  ruled-silent : (kind k : ℕ) (code : Code) → (acted load permissions q (ruled side register counter kind k code).action w).told ≡ w.told
  unfolding acted
  ruled-silent kind k code =
      ruled-cases (λ r. (acted load permissions q r.action w).told ≡ w.told) side register counter kind k code (λ n. refl) (λ n. refl) (λ n. refl) (λ o. rw hands refl)

  reacts-silent : (code : Code) → (acted load permissions q (reacts_to side register counter code).action w).told ≡ w.told
  unfolding acted reacts_to counted
  reacts-silent (Time v) = by_value (eqb v (next_time counter))
    where
      by_value : (new : Bool) → (acted load permissions q (cond new (passed_on side.router (Time v)) (Named (Time v))) w).told ≡ w.told
      by_value true = rw hands
      by_value false = refl
  reacts-silent (Reserved top low) = refl
  reacts-silent (Interrupt k) = ruled-silent 0 k (Interrupt k)
  reacts-silent (Acknowledge k) = ruled-silent 1 k (Acknowledge k)

fall-most : (is_router : Bool) (d k : ℕ) (w : World) → length (fall is_router d k w).told ≤ length w.told + 1
fall-most is_router d k w =
    elim (ℕ_discrete (timer w.state d k) 0) [
      | yes z ↦ omega (arith, ap (λ (x : World). length x.told) (fall-idle is_router d k w.state w.told z))
      | no z ↦
          elim (ℕ_discrete (timer w.state d k) 1) [
            | yes o ↦ by-role is_router o
            | no o ↦ omega (arith, ap (λ (x : World). length x.told) (fall-on is_router d k w.state w.told z o))
          ]
    ]
  where
    by-role : (b : Bool) → timer w.state d k ≡ 1 → length (fall b d k w).told ≤ length w.told + 1
    by-role true o = omega (arith, ap (λ (x : World). length x.told) (fall_ends true d k w.state w.told _ o refl refl))
    by-role false o = omega (arith, ap (λ (x : World). length x.told) (fall-tells false d k w.state w.told _ o refl refl), length-append w.told (told_word of_timeout d k ∷ []))

-- ---- what the loops tell

falls-most : (f : ℕ → World → World) → ((i : ℕ) (w : World) → length (f i w).told ≤ length w.told + 1) → (n : ℕ) (w : World)
    → length (up_to f n w).told ≤ length w.told + n
unfolding up_to
falls-most f h zero w = omega arith
falls-most f h (suc n) w = omega (arith, falls-most f h n w, h n (up_to f n w))

module _ (plan : Plan) (held : Held plan) (sent : List ℕ) (none : get_or sent nobody nothing ≡ nothing) where
  -- at most one word
  arrives-most : (q : ℕ) (w : World) → length (arrives plan sent q w).told ≤ length w.told + 1
  unfolding arrived
  arrives-most q w = by_byte (ltb (get_or sent (peer plan q) nothing) nothing) refl
    where
      by_byte : (b : Bool) → ltb (get_or sent (peer plan q) nothing) nothing ≡ b → length (arrives plan sent q w).told ≤ length w.told + 1
      by_byte true e = rw (arrives-byte plan sent q _ refl w (ltb-true _ _ e)) (most _ _ q _ _)
      by_byte false e = rw (arrives-nothing plan sent q _ refl w (ltb-false _ _ e)) (omega arith)

  -- and none but at the first two ports of a node
  arrives-none : (q : ℕ) (w : World) → q < 8 * devices plan → 2 ≤ q % 8 → (arrives plan sent q w).told ≡ w.told
  unfolding arrived reacts
  arrives-none q w l m = by-role (router plan (q / 8)) refl
    where
      by_byte : router plan (q / 8) ≡ true → (b : Bool) → ltb (get_or sent (peer plan q) nothing) nothing ≡ b → (arrives plan sent q w).told ≡ w.told
      by_byte r true e = rw (arrives-byte plan sent q _ refl w (ltb-true _ _ e)) (reacts-silent _ _ q _ r _ _ _ _)
      by_byte r false e = rw (arrives-nothing plan sent q _ refl w (ltb-false _ _ e))

      by-role : (b : Bool) → router plan (q / 8) ≡ b → (arrives plan sent q w).told ≡ w.told
      by-role true r = by_byte r (ltb (get_or sent (peer plan q) nothing) nothing) refl
      by-role false r =
          let e : nothing ≡ get_or sent (peer plan q) nothing = sym (ap (λ (k : ℕ). get_or sent k nothing) (lone plan held q l m r) ∙ none) in
          ap (λ (x : World). x.told) (arrives-nothing plan sent q nothing e w (omega arith))

  reached-most : (m : ℕ) (w : World) → m ≤ 8 * devices plan → length (up_to (arrives plan sent) m w).told ≤ length w.told + ((m + 7) / 8 + (m + 6) / 8)
  unfolding up_to
  reached-most zero w l = omega arith
  reached-most (suc m) w l =
      let ih = reached-most m w (omega arith) in
      elim (dec_lt (m % 8) 2) [
        | yes z ↦ omega (arith, ih, arrives-most m (up_to (arrives plan sent) m w))
        | no z ↦ omega (arith, ih, ap length (arrives-none m (up_to (arrives plan sent) m w) (omega arith) (omega arith)))
      ]

pub length-sent : (plan : Plan) (old : State) → length (sent_bytes plan old) ≡ sent_words
unfolding sent_bytes
length-sent plan old = length-table sent_words _

pub told-fits : (plan : Plan) (old : State) → Held plan → length (round plan old).told ≤ told_words
unfolding round fallen reached
told-fits plan old h =
    let n = few plan h in
    let none : get_or (sent_bytes plan old) nobody nothing ≡ nothing = get_or-eq_default (sent_bytes plan old) nothing (omega (arith, length-sent plan old)) in
    let timeouts : length (after_timers plan old).told ≤ 32 * devices plan =
    omega (arith, falls-most (λ i. fall (router plan (i / 32)) (i / 32) (i % 32)) (λ i w. fall-most (router plan (i / 32)) (i / 32) (i % 32) w) (32 * devices plan) (record { state = old; told = [] })) in
    omega (arith, timeouts, reached-most plan h (sent_bytes plan old) none (8 * devices plan) (after_sending plan old) (omega arith))
