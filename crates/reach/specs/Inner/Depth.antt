-- No rules: what the private functions ask and promise. Nothing here has to be believed; `Returns`, `Found` and `Examined` prove what it comes to.
use Rattle.std.specs.Prelude.{◌≡◌, List, ℕ, ◌-◌, ◌*◌, ◌≤◌, ◌<◌, get_or}
use Rattle.bits.specs.Set.{size}
use Rattle.reach.specs.declared.visits.Seen.{Seen}

-- 10 for each device that is not in the set: its entry, a step for each of its ports, and their end
abbrev pub left : ℕ → ℕ
left set = 10 * (32 - size set)

-- no device has more than eight ports
abbrev pub Few : List ℕ → Type 0
Few ports = (d : ℕ) → get_or ports d 0 ≤ 8

-- r is what visits see at every depth above a bound
abbrev pub Finds : (ℕ → Seen) → ℕ → Seen → Type 0
Finds visit bound r = (depth : ℕ) → bound < depth → r ≡ visit depth
