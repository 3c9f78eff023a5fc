-- The network and the rounds as one code sees them: identifier k, as an interrupt (kind 0) or an acknowledge (kind 1).
use mathlib.Core.Path.{◌≡◌}
use mathlib.Core.Logic.{◌⊎◌, inl, inr, ◌≢◌}
use Prim.Native.Nat.{ℕ, ◌+◌, ◌-◌, ◌*◌, ◌%◌, ◌<◌}
use native.Mathlib.Decide.{ℕ_discrete, dec_le}
use native.Mathlib.Omega.{arith}
use Rattle.bits.specs.Set.{bit}
use Rattle.bits.specs.First.{after, First}
use Rattle.bits.proofs.Firsts.{after-lt, after_same}
use Rattle.plan.specs.declared.Plan.{Plan}
use Rattle.state.specs.State.{State, register, waiting, next, lately}
use Rattle.state.specs.Network.{devices}
use Rattle.laws.specs.Alike.{SendsIt}
use Rattle.flood.specs.Flood.{Sight}
use Rattle.assurance.specs.Demand3.{crossing}
use Rattle.assurance.proofs.Nets.{net}
use Rattle.assurance.proofs.Turns.{SameTurn}

-- how often k may be passed over at port q: for each identifier that comes before it, going round from next, by that one and by a Time-Code; and once
-- more by a Time-Code, unless the last code sent was one
abbrev pub rank : ℕ → State → ℕ → ℕ
rank k s q = 2 * after (next s q) k + (1 - lately s q)

-- s₀ : the state whose running flags count. takers : the devices that the code is new to
module _ (plan : Plan) (kind k : ℕ) (s₀ : State) (takers : ℕ → Type 0) (source : ℕ) where
  -- a device holds the code if its bit has gone over: to 1 by an interrupt, to 0 by an acknowledge
  abbrev pub sight : State → Sight (net plan kind k s₀ takers source)
  sight s =
      record {
        holds = λ d. (d < devices plan) × takers d × (bit (register s d) k ≡ 1 - kind);
        waits = λ q. (q < 256) × (bit (waiting s kind q) k ≡ 1);
        rank = rank k s;
      }

-- the devices that the code is new to: an interrupt where bit k is 0, an acknowledge where it is 1
abbrev pub takers_of : ℕ → ℕ → State → ℕ → Type 0
takers_of kind k s d = bit (register s d) k ≡ kind

-- port q sends the code in the round that is played from s
abbrev pub sending : Plan → ℕ → ℕ → State → ℕ → Type 0
sending plan kind k s q = (q < 256) × SendsIt plan k s kind q

-- a crossing has more rounds than k may be passed over
pub rank-fits : (k : ℕ) (s : State) (q : ℕ) → rank k s q < crossing
rank-fits k s q = omega (arith, after-lt (next s q) k)

-- where a port's turn is the same, the rank is
pub rank_same : (k : ℕ) {s t : State} {q : ℕ} → SameTurn s t q → rank k t q ≡ rank k s q
rank_same k e = rw (e.start, e.late)

-- ---- the choice is fair: where another identifier is sent, k is nearer afterwards

-- a start and the distance from it add up to k, or to k one turn on
adds-up : (from k : ℕ) → k < 32 → (from % 32 + after from k ≡ k) ⊎ (from % 32 + after from k ≡ k + 32)
unfolding after
adds-up from k h = elim (dec_le (from % 32) k) [ yes l ↦ inl (omega arith) | no l ↦ inr (omega arith) ]

nearer : (from j k : ℕ) → j < 32 → k < 32 → after from j < after from k → after ((j + 1) % 32) k < after from k
nearer from j k g h l =
    let a = after-lt from k in
    let b = after-lt ((j + 1) % 32) k in
    elim (adds-up from j g) [
      | inl o ↦ elim (adds-up from k h) [
        | inl p ↦ elim (adds-up ((j + 1) % 32) k h) [ inl q ↦ omega arith | inr q ↦ omega arith ]
        | inr p ↦ elim (adds-up ((j + 1) % 32) k h) [ inl q ↦ omega arith | inr q ↦ omega arith ]
      ]
      | inr o ↦ elim (adds-up from k h) [
        | inl p ↦ omega arith
        | inr p ↦ elim (adds-up ((j + 1) % 32) k h) [ inl q ↦ omega arith | inr q ↦ omega arith ]
      ]
    ]

pub passed_over : {x from j : ℕ} (k : ℕ) → First x from j → k < 32 → bit x k ≡ 1 → j ≢ k → after ((j + 1) % 32) k < after from k
passed_over {x} {from} {j} k f h b ne = nearer from j k f.place h before
  where
    before : after from j < after from k
    before =
        elim (ℕ_discrete (after from j) (after from k)) [
          | yes e ↦ absurd (ne (after_same from j k f.place h e))
          | no d ↦ let le = f.nearest k h b in omega arith
        ]
