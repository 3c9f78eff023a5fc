use mathlib.Core.Bool.{Bool, false}
use Prim.Native.Nat.{ℕ, ◌-◌, ◌<◌}
use mathlib.Core.Path.{◌≡◌, sym, ap, ◌∙◌}
use native.Mathlib.Decide.{ℕ_discrete}
use native.Mathlib.Omega.{arith}
use Rattle.bits.specs.Set.{bit}
use Rattle.bits.proofs.Sets.{bit-two}
use Rattle.std.specs.Prelude.{Option, Some, None}
use Rattle.codes.specs.Codes.{byte_of}
use Rattle.state.specs.State.{State, word, put, waiting, time_waits, lately}
use Rattle.bench.specs.Round.{nothing, first_waits, goes, time_goes, chosen, sends, posts}
use Rattle.bench.proofs.Stepped.{some-waits, first-chosen, chosen-place, post-time, post-stamps, post-nothing, post-same, post-interrupt, post-acknowledge, post-leaves}
use Rattle.bench.proofs.rounds.post_one.Goals as goal

-- whether a Time-Code goes, by what was read and found
is-goes : (old : State) (q : ℕ) {r : Bool} {found : Option ℕ} → found ≡ first_waits old q → r ≡ goes (time_waits old q) (lately old q) found → time_goes old q ≡ r
unfolding time_goes
is-goes old q f e = sym (e ∙ ap (goes (time_waits old q) (lately old q)) f)

-- nothing is found, and no Time-Code goes
module _ (old : State) (q : ℕ) (r : Option ℕ) (e : r ≡ first_waits old q) (g : time_goes old q ≡ false) where
  none-sent : r ≡ None → nothing ≡ sends old q
  none-sent h = sym (post-nothing old q g (first-chosen old q g ∙ sym e ∙ h))

  none_left : (s : State) → r ≡ None → s ≡ posts old q s
  none_left s h = sym (post-same old q g (first-chosen old q g ∙ sym e ∙ h) s)

small : (x k : ℕ) {b : ℕ} → b ≡ bit x k → b < 2
small x k e = omega (arith, e, bit-two x k)

-- an interrupt's bit is 1, and its kind 0
byte-sent : (old : State) (q : ℕ) {k b : ℕ} → chosen old q ≡ Some k → b ≡ bit (waiting old 0 q) k → byte_of (1 - b) k ≡ sends old q
byte-sent old q {k} e f =
    let two = bit-two (waiting old 0 q) k in
    elim (ℕ_discrete (bit (waiting old 0 q) k) 1) [
      | yes h ↦ omega (arith, f, h) ∙ sym (post-interrupt old q e h)
      | no n ↦ omega (arith, f, n, two) ∙ sym (post-acknowledge old q e n)
    ]

-- it stands first: a choice from another area is refused here, at a fact, and not for its shape
pub returns-then-time_goes : goal.returns-then-time_goes
unfolding word put
returns-then-time_goes c =
    let q = c.index-q.ensures.equal in
    let g = is-goes _ _ c.choice-found.ensures (rw q at c.time_goes.ensures) ∙ c.if-time_goes.true in
    rw q (sym (post-time _ _ g), sym (post-stamps _ _ _ g))

pub overflow_sub-result : goal.overflow_sub-result
overflow_sub-result c = omega (arith, some-waits _ _ _ (sym c.time_goes.ensures ∙ c.if-time_goes.true))

pub returns-in_default : goal.returns-in_default
unfolding word
returns-in_default c =
    let g = is-goes _ _ c.choice-found.ensures (rw c.index-q.ensures.equal at c.time_goes.ensures) ∙ c.if-time_goes.false in
    let e = c.choice-found.ensures in
    (none-sent _ _ _ e g c.in_default.is, none_left _ _ _ e g _ c.in_default.is)

-- what is found is what was chosen, as no Time-Code goes
found : (old : State) (q : ℕ) {k : ℕ} {r : Option ℕ} {t : Bool} → r ≡ first_waits old q → t ≡ goes (time_waits old q) (lately old q) r → t ≡ false → r ≡ Some k
    → chosen old q ≡ Some k
found old q e g n h = first-chosen old q (is-goes old q e g ∙ n) ∙ sym e ∙ h

pub overflow_add-next-4 : goal.overflow_add-next-4
unfolding word
overflow_add-next-4 c = omega (arith, chosen-place _ _ (found _ _ c.choice-found.ensures (rw c.index-q.ensures.equal at c.time_goes.ensures) c.if-time_goes.false c.in-Some.is))

pub overflow_sub-kind : goal.overflow_sub-kind
overflow_sub-kind c = omega (arith, small _ _ c.get-kind.ensures)

pub overflow_add-result-2 : goal.overflow_add-result-2
unfolding word
overflow_add-result-2 c = omega (arith, chosen-place _ _ (found _ _ c.choice-found.ensures (rw c.index-q.ensures.equal at c.time_goes.ensures) c.if-time_goes.false c.in-Some.is))

pub returns : goal.returns
unfolding word put
returns c =
    let a = c.args in
    let q = c.index-q.ensures.equal in
    let k = found _ _ c.choice-found.ensures (rw q at c.time_goes.ensures) c.if-time_goes.false c.in-Some.is in
    rw q (
      byte-sent a.old.now a.port k (rw q at c.get-kind.ensures),
      sym (post-leaves a.old.now a.port k a.next.now c.leave.result c.leave-2.result (rw q at c.leave.ensures) (rw q at c.leave-2.ensures)),
    )
