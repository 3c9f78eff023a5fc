-- An identifier's bit and its timer change together, and a sound state stays sound.
use mathlib.Core.Path.{◌≡◌, refl, ◌∙◌}
use mathlib.Core.Logic.{◌≢◌}
use Prim.Native.Nat.{ℕ, zero, suc, ◌-◌, ◌^◌, ◌≤◌, ◌<◌}
use native.Mathlib.Decide.{ℕ_discrete}
use native.Mathlib.Omega.{arith}
use Rattle.bits.specs.Set.{bit}
use Rattle.bits.proofs.Sets.{join-lt, leave-lt}
use Rattle.device.specs.Reaction.{marked}
use Rattle.device.proofs.Reactions.{marked-cases, marked-same, marked_other}
use Rattle.plan.specs.Reading.{Held}
use Rattle.plan.specs.declared.Plan.{Plan}
use Rattle.state.specs.State.{State, word, put, register_at, timer_at, register, timer}
use Rattle.state.specs.Network.{devices, load_of}
use Rattle.state.specs.Sound.{Timed, Sound}
use Rattle.state.specs.Mark.{mark}
use Rattle.state.proofs.Words.{word_same, word-other}
use Rattle.state.proofs.Plans.{few, load_fits}
use Rattle.state.proofs.Keeping.{Fits, put-fits, sound-fits, device-step}

pub marked-lt : (kind register k : ℕ) → register < 2 ^ 32 → marked kind register k < 2 ^ 32
marked-lt kind register k h = marked-cases (λ r. r < 2 ^ 32) kind register k (join-lt register k h) (leave-lt register k h) h

module _ (plan : Plan) (held : Held plan) {s : State} (x : Sound plan s) (d : ℕ) (h : d < devices plan) where
  -- bit k becomes what it is in r, and its timer v
  pub timer-step : (k r v : ℕ) → k < 32 → r < 2 ^ 32 → ((j : ℕ) → j < 32 → j ≢ k → bit r j ≡ bit (register s d) j) → v ≤ load_of plan d k
      → (bit r k ≡ 1 → 1 ≤ v) → (bit r k ≡ 0 → v ≡ 0) → Sound plan (put (put s (register_at d) r) (timer_at d k) v)
  timer-step k r v l small others fits on off =
      let n = few plan held in
      let t : State = put s (register_at d) r in
      let u : State = put t (timer_at d k) v in
      let f : Fits t = put-fits (sound-fits x) (register_at d) r (omega arith) small in
      let same : (i : ℕ) → i ≢ register_at d → i ≢ timer_at d k → word u i ≡ word s i =
      λ i a b. word-other t (timer_at d k) v i b ∙ word-other s (register_at d) r i a in
      let bits : register u d ≡ r = word-other t (timer_at d k) v (register_at d) (omega arith) ∙ word_same s (register_at d) r (omega (arith, x.size)) in
      let now : timer u d k ≡ v = word_same t (timer_at d k) v (omega (arith, f.size)) in
      device-step plan held x (put-fits f (timer_at d k) v (omega arith) (omega (arith, (load_fits plan held d k h).1))) d h
      (λ i o. same i (λ e. o (omega arith) (omega arith)) (λ e. o (omega arith) (omega arith)))
      (λ j m. elim (ℕ_discrete j k) [
        | yes e ↦ rw e (record { on = rw (bits, now) (λ b. (on b, fits)); off = rw (bits, now) off })
        | no ne ↦
            let old : Timed plan s d j = x.timers d j h (omega arith) m in
            let left : timer u d j ≡ timer s d j = same (timer_at d j) (omega arith) (omega arith) in
            record { on = rw (bits, left, others j m ne) old.on; off = rw (bits, left, others j m ne) old.off }
      ])

  -- ---- a host's call, or a code that is accepted

  marks : (kind k v : ℕ) → kind < 2 → k < 32 → v ≤ load_of plan d k → (kind ≡ 0 → 1 ≤ v) → (kind ≡ 1 → v ≡ 0)
      → Sound plan (put (put s (register_at d) (marked kind (register s d) k)) (timer_at d k) v)
  marks kind k v g l fits on off =
      let r = register s d in
      let is : bit (marked kind r k) k ≡ 1 - kind = marked-same kind r k g l in
      timer-step k (marked kind r k) v l (marked-lt kind r k (x.fits (register_at d))) (marked_other kind r k) fits (λ e. on (omega arith)) (λ e. off (omega arith))

  pub mark-step : (kind k : ℕ) → kind < 2 → k < 32 → Sound plan (mark plan kind d k s)
  unfolding mark
  mark-step zero k g l = marks 0 k (load_of plan d k) g l (omega arith) (λ e. (load_fits plan held d k h).0) (λ e. absurd (omega arith))
  mark-step (suc zero) k g l = marks 1 k 0 g l (omega arith) (λ e. absurd (omega arith)) (λ e. refl)
  mark-step (suc (suc n)) k g l = absurd (omega arith)

-- ---- a mark changes its register and its timer

pub mark-other : (plan : Plan) (kind d k i : ℕ) (s : State) → i ≢ register_at d → i ≢ timer_at d k → word (mark plan kind d k s) i ≡ word s i
unfolding mark
mark-other plan kind d k i s a b = word-other _ (timer_at d k) _ i b ∙ word-other s (register_at d) _ i a
