-- A call over a file: which numbers it answers. It is refused by one of 20 to 27 exactly where the file
-- is not accepted, and by 1 never.
use mathlib.Core.Path.{◌≡◌, refl}
use mathlib.Core.Bool.{Bool, true, ◌&&◌}
use mathlib.Core.List.{List, [], ◌∷◌}
use mathlib.Core.Logic.{inl, inr}
use Prim.Native.Nat.{ℕ, ◌≤◌, ◌<◌}
use native.Mathlib.Decide.{ℕ_discrete}
use native.Mathlib.Omega.{arith}
use lib.Dec.{ltb, leb}
use lib.ListN.{get_or, drop}
use borrow.Author.Tests.{ltb-true, leb-true}
use Rattle.answers.specs.Ordered.{Condition, ask, Ordered, Tells as Call-as-Tells}
use Rattle.lists.proofs.Tests.{and_left, and_right}
use Rattle.plan.specs.Refusals.{verdict}
use Rattle.plan.specs.Reading.{plan_of, Held}
use Rattle.plan.specs.declared.Plan.{Plan}
use Rattle.plan.proofs.Firsts.{Refusal}
use Rattle.plan.proofs.Good.{refusal-numbered}
use Rattle.plan.proofs.BothWays.{read_held}
use Rattle.state.specs.State.{State}
use Rattle.state.specs.Start.{start_asks, Starts}
use Rattle.calls.specs.Calls.{device_asks, call_asks, link_asks, tick_asks, Takes, Ticks, Links, Resets}
use Rattle.bench.specs.Round.{Areas}
use Rattle.bench.specs.RoundCall.{round_asks, Plays}
use Rattle.bench.specs.Settling.{pair, settle_asks}
use Rattle.reach.specs.Reach.{reach_asks, Reaches}
use Rattle.ways.specs.Calls.{way_asks}
use Rattle.door.specs.OnFile.{OnFile, Changes, Gives}
use Rattle.door.specs.Own.{own, SettlesOwn}

-- ---- which numbers a call answers

-- conditions whose numbers are above 1, and below those of files
abbrev between : List Condition → Bool
between [] = true
between (c ∷ cs) = ltb 1 c.number && leb c.number 19 && between cs

answered : (cs : List Condition) → between cs ≡ true → (n : ℕ) → Ordered cs n → (n ≡ 1 → ⊥) × (n ≤ 19)
answered [] e n o = (λ z. omega arith, omega arith)
answered (c ∷ cs) e n (inl p) =
    let first = and_left (ltb 1 c.number && leb c.number 19) (between cs) e in
    let above = ltb-true 1 c.number (and_left (ltb 1 c.number) (leb c.number 19) first) in
    let below = leb-true c.number 19 (and_right (ltb 1 c.number) (leb c.number 19) first) in
    let same = p.1 in
    (λ z. omega arith, omega arith)
answered (c ∷ cs) e n (inr p) = answered cs (and_right (ltb 1 c.number && leb c.number 19) (between cs) e) n p.1

-- a number that tells a refused file from a refused call
pub record Tells (file : List ℕ) (n : ℕ) : Type 0 where
  pub refused : ((verdict file).number ≡ 0 → ⊥) → Refusal n
  pub only : Refusal n → (verdict file).number ≡ 0 → ⊥
  pub not-one : n ≡ 1 → ⊥

-- a file in C is one of bytes
module _ (file : List ℕ) (bytes : (i : ℕ) → get_or file i 0 < 256) where
  -- what the call asks behind its plan
  module _ (asks : List Condition) (few : between asks ≡ true) (call : Plan → Type 0) (n : ℕ) where
    tells : {kept : Type 0} → (call (plan_of file) → Ordered (ask 1 (Held (plan_of file)) ∷ asks) n) → OnFile file call n kept → Tells file n
    tells answers promise = record { refused = refused; only = λ r z. omega (arith, (next z).1, r); not-one = not-one }
      where
        next : (verdict file).number ≡ 0 → (n ≡ 1 → ⊥) × (n ≤ 19)
        next z = elim (answers (promise.accepted z)) [ inl p ↦ absurd (p.0 (read_held file bytes z)) | inr p ↦ answered asks few n p.1 ]

        refused : ((verdict file).number ≡ 0 → ⊥) → Refusal n
        refused h = rw (promise.refused h).0 (refusal-numbered file h)

        not-one : n ≡ 1 → ⊥
        not-one e = elim (ℕ_discrete (verdict file).number 0) [ yes z ↦ (next z).0 e | no h ↦ omega (arith, refused h) ]

  abbrev plan : Plan
  plan = plan_of file

  module _ (before after : State) (n : ℕ) where
    pub start-tells : Changes file Starts before n after → Tells file n
    start-tells = tells (drop 1 (start_asks plan before)) refl (λ p. Starts p before n after) n (λ o. o.answers)

    module _ (device : ℕ) where
      pub call-tells : (kind k : ℕ) → Changes file (λ p. Takes p kind device k) before n after → Tells file n
      call-tells kind k = tells (drop 1 (call_asks plan kind device k before)) refl (λ p. Takes p kind device k before n after) n (λ o. o.answers)

      pub link-tells : (port : ℕ) (runs : Bool) → Changes file (λ p. Links p device port runs) before n after → Tells file n
      link-tells port runs = tells (drop 1 (link_asks plan runs device port before)) refl (λ p. Links p device port runs before n after) n (λ o. o.answers)

      pub tick-tells : Changes file (λ p. Ticks p device) before n after → Tells file n
      tick-tells = tells (drop 1 (tick_asks plan device before)) refl (λ p. Ticks p device before n after) n (λ o. o.answers)

      pub reset-tells : Changes file (λ p. Resets p device) before n after → Tells file n
      reset-tells = tells (drop 1 (device_asks plan device before)) refl (λ p. Resets p device before n after) n (λ o. o.answers)

    pub settle-tells : (allowance value : ℕ) → Gives file (λ p s. SettlesOwn p s allowance) before n value after → Tells file n
    settle-tells allowance value =
        tells (drop 1 (settle_asks plan (pair before own) allowance)) refl (λ p. SettlesOwn p before allowance n value after) n (λ o. o.answers)

  pub round-tells : (old : State) (before after : Areas) (n value : ℕ) → Gives file (λ p. Plays p old) before n value after → Tells file n
  round-tells old before after n value = tells (drop 1 (round_asks plan old before)) refl (λ p. Plays p old before n value after) n (λ o. o.answers)

  pub reach-tells : (state : State) (device k n value set examined : ℕ) {kept : Type 0} → OnFile file (λ p. Reaches p state device k n value set examined) n kept → Tells file n
  reach-tells state device k n value set examined =
      tells (drop 1 (reach_asks plan state device k)) refl (λ p. Reaches p state device k n value set examined) n (λ o. o.answers)

  -- crossings, chain and cut, whatever is right of their areas
  pub way-tells : (state : State) (Fits : Type 0) (d k e : ℕ) (Right : Plan → ℕ → List ℕ → Type 0) (before after : List ℕ) (n value : ℕ)
      → Gives file (λ p before n value after. Call-as-Tells (way_asks p state Fits d k e) (Right p) before n value after) before n value after → Tells file n
  way-tells state Fits d k e Right before after n value =
      tells (drop 1 (way_asks plan state Fits d k e)) refl (λ p. Call-as-Tells (way_asks p state Fits d k e) (Right p) before n value after) n (λ o. o.answers)
