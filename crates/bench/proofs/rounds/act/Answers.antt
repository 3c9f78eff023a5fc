use mathlib.Core.Path.{refl}
use mathlib.Core.Logic.{inl, inr}
use Rattle.bench.specs.Round.{acted}
use Rattle.bench.proofs.Following.{silent, noted, tells-few}
use Rattle.bench.proofs.Stepped.{acted-forwards, acted-tells, acted-loses}
use Rattle.bench.proofs.rounds.act.Goals as goal

pub returns-in-Forwarded : goal.returns-in-Forwarded
returns-in-Forwarded c = rw c.in-Forwarded.is (silent (λ told. acted-forwards _ _ _ _ _ _ _ told (rw c.device.ensures at c.time.ensures) c.forward.ensures))

pub returns-in-Told : goal.returns-in-Told
returns-in-Told c = rw c.in-Told.is (noted (λ told. acted-tells _ _ _ _ _ _ told (rw c.device-in-Told.ensures at c.time-in-Told.ensures)) (tells-few _ _) (rw c.device-in-Told-2.ensures at c.inform.ensures))

pub returns-in-Dropped : goal.returns-in-Dropped
returns-in-Dropped c = rw c.in-Dropped.is (silent (λ told. acted-loses _ _ _ _ _ _ told c.lose.ensures))

pub returns-in-Named : goal.returns-in-Named
unfolding acted
returns-in-Named c =
    elim c.in-Named.is [
      | inl x ↦ rw x.1 (silent (λ told. refl))
      | inr y ↦ elim y [
        | inl x ↦ rw x.1 (silent (λ told. refl))
        | inr x ↦ rw x.1 (silent (λ told. refl))
      ]
    ]
