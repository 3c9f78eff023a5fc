-- `state::device_timed` meets its contract: it asks each timer, or all at once. Assumes nothing.
use mathlib.Core.Path.{◌≡◌, refl, ◌∙◌}
use mathlib.Core.List.{List}
use Prim.Native.Nat.{ℕ, ◌+◌, ◌-◌, ◌*◌, ◌<◌}
use native.Mathlib.Omega.{arith}
use lib.Dec.{eqb}
use lib.ListN.{length, take, drop, get_or}
use borrow.Author.Tests.{tests}
use Rattle.std.proofs.Common.{rules}
use Rattle.lists.proofs.Tests.{every-same}
use Rattle.areas.specs.Put.{all_zero}
use Rattle.areas.proofs.Parts.{part-zero}
use Rattle.bits.specs.Set.{bit}
use Rattle.bits.proofs.Sets.{bit-zero}
use Rattle.plan.proofs.Ranges.{every-asked}
use Rattle.state.specs.State.{State, words, word, device_words, register as state_register, timer}
use Rattle.state.specs.Network.{load_for}
use Rattle.state.specs.Inner.Tests.{timer_sound, device_timed}
use Rattle.state.proofs.sound.device_timed.Goals as goal

-- where nothing is held, every timer is 0
none-held : (loads : List ℕ) (role : ℕ) (s : State) (d : ℕ) → length s ≡ words → d < 32 → state_register s d ≡ 0
    → all_zero (take (device_words * (d + 1) - (device_words * d + 1)) (drop (device_words * d + 1) s)) ≡ device_timed loads role s d
unfolding device_timed timer_sound word
none-held loads role s d long h e =
    let n : device_words * (d + 1) - (device_words * d + 1) ≡ 32 = omega arith in
    rw n
    (part-zero s (device_words * d + 1) 32 (omega arith)
    ∙ every-same 32 (λ k. eqb (timer s d k) 0) (λ k. timer_sound (bit (state_register s d) k) (timer s d k) (load_for loads role k)) (λ k l. rw (e, bit-zero k)))

pub returns-then-register-eq0 : goal.returns-then-register-eq0
unfolding word
returns-then-register-eq0 c =
    let core = c.args.plan.now.core in
    let is : c.index-d.result ≡ c.args.device = c.index-d.ensures.equal in
    c.zeros.ensures
    ∙ rw is (none-held core.loads (get_or core.role c.args.device 0) c.args.state.now c.args.device (omega arith) (omega arith) (rw is at c.if-register-eq0.true))

pub returns : goal.returns
unfolding device_timed word
returns c = every-asked 32 _ _ _ _ c.all.ensures.ran refl (λ x b q k. search (rules, tests))
