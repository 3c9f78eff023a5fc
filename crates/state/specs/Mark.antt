-- RULES, "Between rounds" and "Rounds": a code of a kind is taken at device d: the bit of its identifier is set and its timer loaded, or cleared and stopped.
-- A number that is no kind changes nothing.
use Rattle.std.specs.Prelude.{cond, ℕ, eqb}
use Rattle.device.specs.Reaction.{marked}
use Rattle.plan.specs.declared.Plan.{Plan}
use Rattle.state.specs.State.{State, put, register_at, timer_at, register, timer}
use Rattle.state.specs.Network.{load_of}

-- the timer after it: loaded by an interrupt, stopped by an acknowledge
abbrev pub loaded : ℕ → ℕ → ℕ → ℕ
loaded kind load timer = cond (eqb kind 0) load (cond (eqb kind 1) 0 timer)

unfoldable pub mark : Plan → ℕ → ℕ → ℕ → State → State
mark plan kind d k s = put (put s (register_at d) (marked kind (register s d) k)) (timer_at d k) (loaded kind (load_of plan d k) (timer s d k))
