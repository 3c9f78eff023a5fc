-- No port sends a reserved byte (001, 2.3.1.2.3): what is sent in a round is nothing, a Time-Code, an interrupt or an acknowledge.
use mathlib.Core.Path.{◌≡◌, refl}
use mathlib.Core.Bool.{Bool, true, false, cond}
use mathlib.Core.Logic.{◌⊎◌, inl, inr}
use Prim.Native.Nat.{ℕ, ◌*◌, ◌<◌}
use native.Mathlib.Decide.{ℕ_discrete}
use native.Mathlib.Omega.{arith}
use lib.Dec.{ltb}
use lib.ListN.{get_or}
use Rattle.lists.proofs.Tables.{get_d-table}
use Rattle.bits.specs.Set.{bit}
use Rattle.std.specs.Prelude.{Option, Some, None}
use Rattle.codes.specs.Codes.{byte_of, reads}
use Rattle.codes.specs.declared.Code.TheVariants.{Reserved}
use Rattle.codes.proofs.BothWays.{Stands, stands, reserved, reserved-apart}
use Rattle.plan.specs.declared.Plan.{Plan}
use Rattle.state.specs.State.{State, waiting}
use Rattle.state.specs.Network.{devices}
use Rattle.bench.specs.Round.{nothing, sent_words, chosen, sends, sent_bytes, round}
use Rattle.bench.proofs.Stepped.{chosen-place, post-none, post-interrupt, post-acknowledge}

-- a word is the byte of a Time-Code, of an interrupt, or of an acknowledge
data Coded : ℕ → Type 0 where
  timed : {v : ℕ} → v < 64 → Coded v
  coded : {kind k : ℕ} → kind < 2 → k < 32 → Coded (byte_of kind k)

sends-coded : (old : State) (q : ℕ) → (sends old q ≡ nothing) ⊎ Coded (sends old q)
sends-coded old q = by-choice (chosen old q) refl
  where
    by-choice : (c : Option ℕ) → chosen old q ≡ c → (sends old q ≡ nothing) ⊎ Coded (sends old q)
    by-choice None e = elim (post-none old q e) [ inl z ↦ inl z | inr small ↦ inr (timed small) ]
    by-choice (Some k) e =
        let l = chosen-place old q e in
        elim (ℕ_discrete (bit (waiting old 0 q) k) 1) [
          | yes y ↦ inr (rw (post-interrupt old q e y) (coded {kind = 0} (omega arith) l))
          | no n ↦ inr (rw (post-acknowledge old q e n) (coded {kind = 1} (omega arith) l))
        ]

-- whatever the plan and the state
sent-coded : (plan : Plan) (old : State) (q : ℕ) → q < sent_words
    → (get_or (round plan old).sent q nothing ≡ nothing) ⊎ Coded (get_or (round plan old).sent q nothing)
unfolding round sent_bytes
sent-coded plan old q h =
    rw (get_d-table sent_words (λ q. cond (ltb q (8 * devices plan)) (sends old q) nothing) q nothing h) (by_place (ltb q (8 * devices plan)))
  where
    by_place : (t : Bool) → (cond t (sends old q) nothing ≡ nothing) ⊎ Coded (cond t (sends old q) nothing)
    by_place true = sends-coded old q
    by_place false = inl refl

-- so none of the bytes reads as reserved
coded-apart : {b top low : ℕ} → Coded b → Stands b (Reserved top low) → ⊥
coded-apart (timed small) (reserved (inl u) l e) = omega arith
coded-apart (timed small) (reserved (inr u) l e) = omega arith
coded-apart (coded {kind} {k} g h) s = reserved-apart kind k s g h refl

pub none-reserved : (plan : Plan) (old : State) (q top low : ℕ) → q < sent_words → get_or (round plan old).sent q nothing < nothing
    → reads (get_or (round plan old).sent q nothing) ≡ Reserved top low → ⊥
none-reserved plan old q top low h byte is = by_word (sent-coded plan old q h)
  where
    by_word : (get_or (round plan old).sent q nothing ≡ nothing) ⊎ Coded (get_or (round plan old).sent q nothing) → ⊥
    by_word (inl e) = omega arith
    by_word (inr c) = coded-apart {top = top} {low = low} c (rw (← is) (stands _))
