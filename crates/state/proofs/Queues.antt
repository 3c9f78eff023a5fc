-- Queueing in the state is queueing at the port's four words, with the two waiting sets put back.
use mathlib.Core.Path.{◌≡◌, refl, sym, ◌∙◌}
use mathlib.Core.Bool.{Bool, true, false, cond, ◌&&◌}
use mathlib.Core.List.{List}
use mathlib.Core.Logic.{◌⊎◌, inl, inr}
use Prim.Native.Nat.{ℕ, zero, suc, ◌+◌, ◌*◌, ◌<◌}
use native.Mathlib.Omega.{arith}
use lib.Dec.{eqb, ltb}
use lib.ListN.{length, get_or}
use borrow.Author.Tests.{eq-eqb, ne_eqb, eqb-true, lt-ltb, ltb-true}
use Rattle.device.specs.Kinds.{kind_of}
use Rattle.device.specs.Permissions.{may_send}
use Rattle.device.specs.declared.Kind.{Kind}
use Rattle.device.specs.declared.Kind.TheVariants.{Interrupt, Acknowledge}
use Rattle.state.specs.declared.port.Port.{Port}
use Rattle.state.specs.State.{State, words, put, port_at, waiting, next, running}
use Rattle.state.specs.Queue.{sends_at, queue_at, queue_but, queue_all_at, queue_in}
use Rattle.state.specs.Inner.Port.{queued_port}
use Rattle.state.proofs.Words.{length-put, put_word, put-comm}

-- the number of a kind
pub kinds : (kind : Kind) → kind_of kind < 2
kinds Interrupt = omega arith
kinds Acknowledge = omega arith

-- a step at port p, by its number q, but not at the port that is left out
pub turned : (f : ℕ → ℕ → State → State) {q r p but : ℕ} {s t : State} → q ≡ r → r ≡ p → ((q ≡ but → ⊥) × (t ≡ f q r s)) ⊎ ((q ≡ but) × (t ≡ s))
    → t ≡ cond (eqb p but) s (f p p s)
turned f {r = r} {but = but} x y (inl w) = rw (sym y, ne_eqb r but (λ z. w.0 (x ∙ z))) (rw x at w.1)
turned f {r = r} {but = but} x y (inr w) = rw (sym y, eq-eqb r but (sym x ∙ w.0)) w.1

-- the four words of port q
abbrev pub port_in : State → ℕ → Port
port_in s q = record { interrupts = waiting s 0 q; acknowledges = waiting s 1 q; next = next s q; running = running s q }

-- the two waiting sets of a port's record, put at port q
abbrev pub stored : State → ℕ → Port → State
stored s q port = put (put s (port_at q 0) port.interrupts) (port_at q 1) port.acknowledges

stored_same : (s : State) (q : ℕ) → stored s q (port_in s q) ≡ s
stored_same s q = rw (put_word s (port_at q 0)) (put_word s (port_at q 1))

pub queue-not : (permissions kind k q : ℕ) (s : State) → may_send kind permissions ≡ false → queue_at permissions kind k q s ≡ s
unfolding queue_at
queue-not permissions kind k q s e = by-test (eqb (running s q) 1) refl
  where
    by-test : (t : Bool) → eqb (running s q) 1 ≡ t → queue_at permissions kind k q s ≡ s
    by-test true p = rw (p, e)
    by-test false p = rw p

queue-may : (permissions kind k q : ℕ) (s : State) → kind < 2 → may_send kind permissions ≡ true
    → queue_at permissions kind k q s ≡ stored s q (queued_port kind k (port_in s q))
unfolding queue_at queued_port
queue-may permissions kind k q s h e = by-test (eqb (running s q) 1) refl kind h e
  where
    by-test : (t : Bool) → eqb (running s q) 1 ≡ t → (kind : ℕ) → kind < 2 → may_send kind permissions ≡ true
        → queue_at permissions kind k q s ≡ stored s q (queued_port kind k (port_in s q))
    by-test false p kind h e = rw p (sym (stored_same s q))
    by-test true p zero h e = rw (p, e)
    by-test true p (suc zero) h e = rw (p, e) (put-comm s (port_at q 1) (port_at q 0) _ _ (omega arith))
    by-test true p (suc (suc kind)) h e = absurd (omega arith)

-- the same, of a record that was queued
pub queue-stored : (permissions kind k q : ℕ) (s : State) (r : Port) → kind < 2 → may_send kind permissions ≡ true → r ≡ queued_port kind k (port_in s q)
    → stored s q r ≡ queue_at permissions kind k q s
queue-stored permissions kind k q s r h m e = rw e (sym (queue-may permissions kind k q s h m))

pub length-queue : (permissions kind k q : ℕ) (s : State) → length (queue_at permissions kind k q s) ≡ length s
unfolding queue_at
length-queue permissions kind k q s = by-test (sends_at permissions kind q s) refl
  where
    by-test : (t : Bool) → sends_at permissions kind q s ≡ t → length (queue_at permissions kind k q s) ≡ length s
    by-test true p = rw p (length-put _ _ _ ∙ length-put _ _ _)
    by-test false p = rw p

pub length-but : (permissions : List ℕ) (kind k d but p : ℕ) (s : State) → length (queue_but permissions kind k d but p s) ≡ length s
length-but permissions kind k d but p s = by-test (eqb (8 * d + p) but)
  where
    by-test : (t : Bool) → length (cond t s (queue_at (get_or permissions (8 * d + p) 0) kind k (8 * d + p) s)) ≡ length s
    by-test true = refl
    by-test false = length-queue _ _ _ _ _

-- in a state, of a device that it has room for
pub queued-in : (permissions : List ℕ) (kind k d but : ℕ) (s : State) → length s ≡ words → d < 32 → kind < 2 → queue_in permissions kind k d but s ≡ queue_all_at permissions kind k d but s
unfolding queue_in
queued-in permissions kind k d but s long h g = rw (eq-eqb (length s) words long, lt-ltb d 32 h, lt-ltb kind 2 g)

-- there is no such device or kind, or it is no state
pub queued-not : (permissions : List ℕ) (kind k d but : ℕ) (s : State) → (length s ≡ words → d < 32 → kind < 2 → ⊥) → queue_in permissions kind k d but s ≡ s
unfolding queue_in
queued-not permissions kind k d but s n = by-test (eqb (length s) words) (ltb d 32) (ltb kind 2) refl refl refl
  where
    by-test : (a b c : Bool) → eqb (length s) words ≡ a → ltb d 32 ≡ b → ltb kind 2 ≡ c
        → cond (a && b && c) (queue_all_at permissions kind k d but s) s ≡ s
    by-test false b c p q r = refl
    by-test true false c p q r = refl
    by-test true true false p q r = refl
    by-test true true true p q r = absurd (n (eqb-true (length s) words p) (ltb-true d 32 q) (ltb-true kind 2 r))
