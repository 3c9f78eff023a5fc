-- The rule for a code of a kind, one law for each way it can end, and one for them all.
use mathlib.Core.Path.{◌≡◌, refl, sym, ◌∙◌}
use mathlib.Core.Bool.{Bool, true, false, cond, not, ◌&&◌, false≢true}
use Prim.Native.Nat.{ℕ}
use native.Mathlib.Omega.{arith}
use lib.Dec.{eqb}
use borrow.Author.Tests.{eq-eqb, ne_eqb, eqb-true, eqb-false}
use Rattle.bits.specs.Set.{bit}
use Rattle.codes.specs.declared.Code.{Code}
use Rattle.device.specs.Permissions.{may_receive}
use Rattle.device.specs.Reaction.{marked, kept, passed_on, is_used, bars_of, accepted, ruled}
use Rattle.device.specs.declared.Action.{Action}
use Rattle.device.specs.declared.Action.TheVariants.{Named, LinkError, Ignored, Forwarded, Told, Dropped}
use Rattle.device.specs.declared.Reaction.{Reaction}
use Rattle.device.specs.declared.Side.{Side}

-- no acknowledge of an event is in use
pub event-unused : (events k : ℕ) → bit events k ≡ 1 → is_used events 1 k ≡ true → ⊥
unfolding is_used
event-unused events k v u = false≢true (sym (ne_eqb (bit events k) 0 (omega arith)) ∙ u)

-- what it takes for a code to be accepted
pub record Accepts (side : Side) (register kind k : ℕ) : Type 0 where
  pub runs : side.running ≡ true
  pub may : may_receive kind side.permissions ≡ true
  pub unbarred : bit (bars_of side kind) k ≡ 0
  pub used : is_used side.events kind k ≡ true
  pub stood : bit register k ≡ kind

module _ (side : Side) (register counter kind k : ℕ) (code : Code) where
  pub stopped : side.running ≡ false → kept register counter (LinkError code) ≡ ruled side register counter kind k code
  unfolding ruled
  stopped s = simp s

  pub forbidden : side.running ≡ true → may_receive kind side.permissions ≡ false → kept register counter (Ignored code) ≡ ruled side register counter kind k code
  unfolding ruled
  forbidden s m = simp (s, m)

  pub barred : side.running ≡ true → may_receive kind side.permissions ≡ true → (bit (bars_of side kind) k ≡ 0 → ⊥)
      → kept register counter (Dropped code) ≡ ruled side register counter kind k code
  unfolding ruled
  barred s m b = simp (s, m, ne_eqb _ _ b)

  pub unused : side.running ≡ true → may_receive kind side.permissions ≡ true → bit (bars_of side kind) k ≡ 0 → is_used side.events kind k ≡ false
      → kept register counter (Ignored code) ≡ ruled side register counter kind k code
  unfolding ruled
  unused s m b u = simp (s, m, eq-eqb _ _ b, u)

  pub opposite : side.running ≡ true → may_receive kind side.permissions ≡ true → bit (bars_of side kind) k ≡ 0 → is_used side.events kind k ≡ true
      → (bit register k ≡ kind → ⊥) → kept register counter (Ignored code) ≡ ruled side register counter kind k code
  unfolding ruled
  opposite s m o u b = simp (s, m, eq-eqb _ _ o, u, ne_eqb _ _ b)

  pub taken : (next : ℕ) (action : Action) → Accepts side register kind k → next ≡ marked kind register k
      → action ≡ passed_on side.router code → record { register = next; counter = counter; action = action } ≡ ruled side register counter kind k code
  unfolding ruled
  taken next action o e a = simp (o.runs, o.may, eq-eqb _ _ o.unbarred, o.used, eq-eqb _ _ o.stood) (λ i. record { register = e i; counter = counter; action = a i })

-- two registers that agree on the bit: the rule ends the same way for both, and what is so of each way is so of the rule
pub ruled-both : (R : Reaction → Reaction → Type 0) (side : Side) (a b m n kind k : ℕ) (code : Code) → bit a k ≡ bit b k
    → ((Accepts side a kind k → ⊥) → R (kept a m (LinkError code)) (kept b n (LinkError code)))
    → ((Accepts side a kind k → ⊥) → R (kept a m (Ignored code)) (kept b n (Ignored code)))
    → ((Accepts side a kind k → ⊥) → R (kept a m (Dropped code)) (kept b n (Dropped code)))
    → (Accepts side a kind k → R (accepted side a m kind k code) (accepted side b n kind k code))
    → R (ruled side a m kind k code) (ruled side b n kind k code)
unfolding ruled
ruled-both R side a b m n kind k code e stopped ignored dropped taken =
    rw (← e)
    (by_tests side.running (may_receive kind side.permissions) (eqb (bit (bars_of side kind) k) 0) (is_used side.events kind k) (eqb (bit a k) kind) refl refl refl refl refl)
  where
    by_tests : (x y g u z : Bool) → side.running ≡ x → may_receive kind side.permissions ≡ y → eqb (bit (bars_of side kind) k) 0 ≡ g → is_used side.events kind k ≡ u
        → eqb (bit a k) kind ≡ z
        → R (cond x (cond y (cond g (cond u (cond z (accepted side a m kind k code) (kept a m (Ignored code))) (kept a m (Ignored code))) (kept a m (Dropped code))) (kept a m (Ignored code))) (kept a m (LinkError code)))
        (cond x (cond y (cond g (cond u (cond z (accepted side b n kind k code) (kept b n (Ignored code))) (kept b n (Ignored code))) (kept b n (Dropped code))) (kept b n (Ignored code))) (kept b n (LinkError code)))
    by_tests false y g u z s o f v t = stopped (λ w. false≢true (sym s ∙ w.runs))
    by_tests true false g u z s o f v t = ignored (λ w. false≢true (sym o ∙ w.may))
    by_tests true true false u z s o f v t = dropped (λ w. eqb-false (bit (bars_of side kind) k) 0 f w.unbarred)
    by_tests true true true false z s o f v t = ignored (λ w. false≢true (sym v ∙ w.used))
    by_tests true true true true false s o f v t = ignored (λ w. eqb-false (bit a k) kind t w.stood)
    by_tests true true true true true s o f v t =
        taken (record { runs = s; may = o; unbarred = eqb-true (bit (bars_of side kind) k) 0 f; used = v; stood = eqb-true (bit a k) kind t })

-- one register
pub ruled-cases : (P : Reaction → Type 0) (side : Side) (register counter kind k : ℕ) (code : Code)
    → ((Accepts side register kind k → ⊥) → P (kept register counter (LinkError code)))
    → ((Accepts side register kind k → ⊥) → P (kept register counter (Ignored code)))
    → ((Accepts side register kind k → ⊥) → P (kept register counter (Dropped code)))
    → (Accepts side register kind k → P (accepted side register counter kind k code))
    → P (ruled side register counter kind k code)
ruled-cases P side register counter kind k code = ruled-both (λ r _. P r) side register register counter counter kind k code refl

-- ---- when a code is dropped

-- whether this is what becomes of a code
abbrev pub is_dropped : Action → Bool
is_dropped (Named code) = false
is_dropped (LinkError code) = false
is_dropped (Ignored code) = false
is_dropped (Forwarded code) = false
is_dropped (Told code) = false
is_dropped (Dropped code) = true

-- exactly where the port runs and may receive it, and bars it
pub when-dropped : (side : Side) (register counter kind k : ℕ) (code : Code)
    → is_dropped (ruled side register counter kind k code).action ≡ (side.running && may_receive kind side.permissions && not (eqb (bit (bars_of side kind) k) 0))
unfolding ruled
when-dropped side register counter kind k code =
    by_tests side.running (may_receive kind side.permissions) (eqb (bit (bars_of side kind) k) 0) (is_used side.events kind k) (eqb (bit register k) kind) side.router
  where
    by_tests : (x y g u z r : Bool)
        → is_dropped (cond x (cond y (cond g (cond u (cond z (record { register = marked kind register k; counter = counter; action = cond r (Forwarded code) (Told code) }) (kept register counter (Ignored code))) (kept register counter (Ignored code))) (kept register counter (Dropped code))) (kept register counter (Ignored code))) (kept register counter (LinkError code))).action
        ≡ (x && y && not g)
    by_tests false y g u z r = refl
    by_tests true false g u z r = refl
    by_tests true true false u z r = refl
    by_tests true true true false z r = refl
    by_tests true true true true false r = refl
    by_tests true true true true true false = refl
    by_tests true true true true true true = refl
