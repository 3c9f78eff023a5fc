-- What a reaction can change: of the register only the bit of the identifier concerned; the counter where a Time-Code comes, and nothing else
-- then; nothing for a reserved byte, for an acknowledge of an event, or for an accepted code that comes again. What it hands on: the code that was read.
use mathlib.Core.Path.{◌≡◌, refl, sym, ap, subst, ◌∙◌}
use mathlib.Core.Bool.{Bool, true, false, cond}
use mathlib.Core.Logic.{◌⊎◌, inl, inr, ◌≢◌}
use Prim.Native.Nat.{ℕ, zero, suc, ◌-◌, ◌<◌}
use native.Mathlib.Omega.{arith}
use lib.Dec.{eqb}
use borrow.Author.Tests.{ne_eqb}
use Rattle.bits.specs.Set.{bit, join, leave}
use Rattle.bits.proofs.Sets.{join-same, join-other, leave_same, leave-other}
use Rattle.codes.specs.Codes.{reads, came_as}
use Rattle.codes.specs.declared.Code.{Code}
use Rattle.codes.specs.declared.Code.TheVariants.{Time, Interrupt, Acknowledge, Reserved}
use Rattle.codes.proofs.BothWays.{Stands, stands, time, interrupt, acknowledge, byte-comes-back}
use Rattle.device.specs.Permissions.{may_receive}
use Rattle.device.specs.Reaction.{marked, kept, next_time, passed_on, bars_of, ruled, counted, reacts_to, reacts, code_in}
use Rattle.device.specs.declared.Action.{Action}
use Rattle.device.specs.declared.Action.TheVariants.{Named, LinkError, Ignored, Forwarded, Told, Dropped}
use Rattle.device.specs.declared.Reaction.{Reaction}
use Rattle.device.specs.declared.Side.{Side}
use Rattle.device.proofs.Rule.{event-unused, Accepts, barred, opposite, ruled-cases}

-- ---- the bit that is marked, and the others

-- whatever is so of the register with the bit set, with it cleared, and as it was, is so of the register marked
pub marked-cases : (P : ℕ → Type 0) (kind register k : ℕ) → P (join register k) → P (leave register k) → P register → P (marked kind register k)
unfolding marked
marked-cases P kind register k joined left same = by_kind (eqb kind 0) (eqb kind 1)
  where
    by_kind : (i a : Bool) → P (cond i (join register k) (cond a (leave register k) register))
    by_kind true a = joined
    by_kind false true = left
    by_kind false false = same

pub marked_other : (kind register k j : ℕ) → j < 32 → j ≢ k → bit (marked kind register k) j ≡ bit register j
marked_other kind register k j h ne =
    marked-cases (λ r. bit r j ≡ bit register j) kind register k (join-other register k j ne) (leave-other register k j h ne) refl

pub marked-same : (kind register k : ℕ) → kind < 2 → k < 32 → bit (marked kind register k) k ≡ 1 - kind
unfolding marked
marked-same zero register k h g = join-same register k g
marked-same (suc zero) register k h g = leave_same register k g
marked-same (suc (suc n)) register k h g = absurd (omega arith)

-- ---- what it is to be accepted

-- the code was forwarded, or told to the host
abbrev pub Accepted : Action → Code → Type 0
Accepted action code = (action ≡ Forwarded code) ⊎ (action ≡ Told code)

-- how an action reads as a number, so that two can be told apart
rank : Action → ℕ
rank (Named c) = 0
rank (LinkError c) = 1
rank (Ignored c) = 2
rank (Forwarded c) = 3
rank (Told c) = 4
rank (Dropped c) = 2

-- an accepted action has none of the first three cases
not-accepted : (action : Action) (code : Code) → rank action < 3 → Accepted action code → ⊥
unfolding rank
not-accepted action code h (inl e) = omega (arith, ap rank e)
not-accepted action code h (inr e) = omega (arith, ap rank e)

-- what becomes of a code that was accepted just before
pub repeated : Code → Action
repeated (Time v) = Named (Time v)
repeated (Reserved top low) = Ignored (Reserved top low)
repeated (Interrupt k) = Ignored (Interrupt k)
repeated (Acknowledge k) = Ignored (Acknowledge k)

-- a code of a kind and of identifier k
abbrev pub Of : ℕ → ℕ → Code → Type 0
Of kind k (Interrupt j) = (kind ≡ 0) × (k ≡ j)
Of kind k (Acknowledge j) = (kind ≡ 1) × (k ≡ j)
Of kind k (Time v) = ⊥
Of kind k (Reserved top low) = ⊥

module _ (side : Side) (register counter : ℕ) where
  -- ---- only the bit of the identifier concerned can change

  ruled-other : (kind k : ℕ) (code : Code) (j : ℕ) → j < 32 → j ≢ k → bit (ruled side register counter kind k code).register j ≡ bit register j
  ruled-other kind k code j h ne =
      ruled-cases (λ r. bit r.register j ≡ bit register j) side register counter kind k code (λ n. refl) (λ n. refl) (λ n. refl) (λ o. marked_other kind register k j h ne)

  pub only-its-own-bit : (byte j : ℕ) → j < 32 → (reads byte ≡ Interrupt j → ⊥) → (reads byte ≡ Acknowledge j → ⊥)
      → bit (reacts side register counter byte).register j ≡ bit register j
  unfolding reacts reacts_to counted
  only-its-own-bit byte j h n m = by_code (reads byte) n m
    where
      by_code : (c : Code) → (c ≡ Interrupt j → ⊥) → (c ≡ Acknowledge j → ⊥) → bit (reacts_to side register counter c).register j ≡ bit register j
      by_code (Time v) n m = refl
      by_code (Reserved top low) n m = refl
      by_code (Interrupt k) n m = ruled-other 0 k (Interrupt k) j h (λ e. n (ap Interrupt (sym e)))
      by_code (Acknowledge k) n m = ruled-other 1 k (Acknowledge k) j h (λ e. m (ap Acknowledge (sym e)))

  -- ---- a Time-Code changes the counter alone, any other code no counter, and a reserved byte nothing

  pub time-counts : (byte v : ℕ) → reads byte ≡ Time v → ((reacts side register counter byte).register ≡ register) × ((reacts side register counter byte).counter ≡ v)
  unfolding reacts reacts_to counted
  time-counts byte v e = rw e (refl, refl)

  pub only-time-counts : (byte : ℕ) → ((v : ℕ) → reads byte ≡ Time v → ⊥) → (reacts side register counter byte).counter ≡ counter
  unfolding reacts reacts_to
  only-time-counts byte n = by_code (reads byte) n
    where
      by-rule : (kind k : ℕ) (code : Code) → (ruled side register counter kind k code).counter ≡ counter
      by-rule kind k code = ruled-cases (λ r. r.counter ≡ counter) side register counter kind k code (λ n. refl) (λ n. refl) (λ n. refl) (λ o. refl)

      by_code : (c : Code) → ((v : ℕ) → c ≡ Time v → ⊥) → (reacts_to side register counter c).counter ≡ counter
      by_code (Time v) n = absurd (n v refl)
      by_code (Reserved top low) n = refl
      by_code (Interrupt k) n = by-rule 0 k (Interrupt k)
      by_code (Acknowledge k) n = by-rule 1 k (Acknowledge k)

  pub reserved-changes-nothing : (byte top low : ℕ) → reads byte ≡ Reserved top low
      → reacts side register counter byte ≡ kept register counter (Named (Reserved top low))
  unfolding reacts reacts_to
  reserved-changes-nothing byte top low e = ap (reacts_to side register counter) e

  -- ---- an acknowledge of an event changes nothing, and is not passed on

  pub event-stays : (byte k : ℕ) → reads byte ≡ Acknowledge k → bit side.events k ≡ 1
      → ((reacts side register counter byte).register ≡ register) × (Accepted (reacts side register counter byte).action (Acknowledge k) → ⊥)
  unfolding reacts reacts_to rank
  event-stays byte k e v =
      rw e
      (ruled-cases (λ r. (r.register ≡ register) × (Accepted r.action (Acknowledge k) → ⊥)) side register counter 1 k (Acknowledge k)
      (λ n. (refl, not-accepted (LinkError (Acknowledge k)) (Acknowledge k) (omega arith)))
      (λ n. (refl, not-accepted (Ignored (Acknowledge k)) (Acknowledge k) (omega arith)))
      (λ n. (refl, not-accepted (Dropped (Acknowledge k)) (Acknowledge k) (omega arith)))
      (λ o. absurd (event-unused side.events k v o.used)))

  -- ---- what a port bars changes nothing either, whatever the bit is, and is dropped

  pub barred-dropped : (byte kind k : ℕ) → Of kind k (reads byte) → side.running ≡ true → may_receive kind side.permissions ≡ true → (bit (bars_of side kind) k ≡ 0 → ⊥)
      → reacts side register counter byte ≡ kept register counter (Dropped (reads byte))
  unfolding reacts reacts_to
  barred-dropped byte kind k o s m b = by_code (reads byte) o
    where
      by_code : (c : Code) → Of kind k c → reacts_to side register counter c ≡ kept register counter (Dropped c)
      by_code (Interrupt j) (e, f) = rw (e, f) at (sym (barred side register counter kind k (Interrupt j) s m b))
      by_code (Acknowledge j) (e, f) = rw (e, f) at (sym (barred side register counter kind k (Acknowledge j) s m b))
      by_code (Time v) o = absurd o
      by_code (Reserved top low) o = absurd o

  -- ---- whatever is done with a byte, its code is handed on

  passed-hands-on : (router : Bool) (code : Code) → code_in (cond router (Forwarded code) (Told code)) ≡ code
  passed-hands-on true code = refl
  passed-hands-on false code = refl

  ruled-hands-on : (kind k : ℕ) (code : Code) → code_in (ruled side register counter kind k code).action ≡ code
  ruled-hands-on kind k code =
      ruled-cases (λ r. code_in r.action ≡ code) side register counter kind k code (λ n. refl) (λ n. refl) (λ n. refl) (λ o. passed-hands-on side.router code)

  pub hands_on : (byte : ℕ) → code_in (reacts side register counter byte).action ≡ reads byte
  unfolding reacts reacts_to counted
  hands_on byte = by_code (reads byte)
    where
      by_value : (v : ℕ) (new : Bool) → code_in (cond new (passed_on side.router (Time v)) (Named (Time v))) ≡ Time v
      by_value v true = passed-hands-on side.router (Time v)
      by_value v false = refl

      by_code : (c : Code) → code_in (reacts_to side register counter c).action ≡ c
      by_code (Time v) = by_value v (eqb v (next_time counter))
      by_code (Reserved top low) = refl
      by_code (Interrupt k) = ruled-hands-on 0 k (Interrupt k)
      by_code (Acknowledge k) = ruled-hands-on 1 k (Acknowledge k)

  -- so that it shows which byte came
  pub shows-the-byte : (byte : ℕ) → came_as (code_in (reacts side register counter byte).action) ≡ byte
  shows-the-byte byte = ap came_as (hands_on byte) ∙ byte-comes-back byte

  -- ---- an accepted code that comes again at once changes nothing: it is ignored, and a Time-Code named

  -- what the rule saw where it accepted, and what it made of it
  record Saw (kind k : ℕ) (r : Reaction) : Type 0 where
    accepts : Accepts side register kind k
    next : r.register ≡ marked kind register k
    counts : r.counter ≡ counter

  saw : (kind k : ℕ) (code : Code) → Accepted (ruled side register counter kind k code).action code → Saw kind k (ruled side register counter kind k code)
  unfolding rank
  saw kind k code =
      ruled-cases (λ r. Accepted r.action code → Saw kind k r) side register counter kind k code
      (λ n a. absurd (not-accepted (LinkError code) code (omega arith) a))
      (λ n a. absurd (not-accepted (Ignored code) code (omega arith) a))
      (λ n a. absurd (not-accepted (Dropped code) code (omega arith) a))
      (λ o a. record { accepts = o; next = refl; counts = refl })

  -- what comes of it once more
  abbrev Again : (ℕ → ℕ → Reaction) → Action → Type 0
  Again rule action = let r = rule register counter in rule r.register r.counter ≡ kept r.register r.counter action

  ruled-twice : (kind k : ℕ) (code : Code) → kind < 2 → k < 32 → Accepted (ruled side register counter kind k code).action code
      → Again (λ bits count. ruled side bits count kind k code) (Ignored code)
  ruled-twice kind k code h g a =
      let w = saw kind k code a in
      rw (w.next, w.counts)
      (sym (opposite side (marked kind register k) counter kind k code w.accepts.runs w.accepts.may w.accepts.unbarred w.accepts.used (omega (arith, marked-same kind register k h g))))

  counted-twice : (v : ℕ) → v < 64 → Again (λ bits count. counted side bits count v) (Named (Time v))
  unfolding counted
  counted-twice v h = rw (ne_eqb v (next_time v) (omega arith))

  -- it goes no further
  pub accepted-twice : (byte : ℕ) (code : Code) → Accepted (reacts side register counter byte).action code
      → Again (λ bits count. reacts side bits count byte) (repeated code)
  unfolding reacts reacts_to rank repeated
  accepted-twice byte code a = subst (λ c. Accepted (reacts side register counter byte).action c → Again (λ bits count. reacts side bits count byte) (repeated c)) (carried a) (by_code (reads byte) (stands byte)) a
    where
      carried : Accepted (reacts side register counter byte).action code → reads byte ≡ code
      carried (inl e) = sym (hands_on byte) ∙ ap code_in e
      carried (inr e) = sym (hands_on byte) ∙ ap code_in e

      by_code : (c : Code) → Stands byte c → Accepted (reacts_to side register counter c).action c → Again (λ bits count. reacts_to side bits count c) (repeated c)
      by_code (Time v) (time h) a = counted-twice v (omega arith)
      by_code (Reserved top low) s a = absurd (not-accepted (Named (Reserved top low)) (Reserved top low) (omega arith) a)
      by_code (Interrupt k) (interrupt l e) a = ruled-twice 0 k (Interrupt k) (omega arith) (omega arith) a
      by_code (Acknowledge k) (acknowledge l e) a = ruled-twice 1 k (Acknowledge k) (omega arith) (omega arith) a
