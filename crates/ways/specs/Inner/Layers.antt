-- No rules: the walk by layers. Nothing here has to be believed; `LayerLaws` proves what it comes to.
use Rattle.std.specs.Prelude.{◌≡◌, Bool, cond, ◌&&◌, ◌||◌, List, ◌⊎◌, ℕ, ◌+◌, ◌*◌, ◌/◌, ◌≤◌, ◌<◌, eqb, ltb, get_or, set}
use Rattle.lists.specs.Loop.{up_to}
use Rattle.lists.specs.Table.{table}
use Rattle.plan.specs.Fields.{nobody}
use Rattle.state.specs.Network.{peer_in}

-- what device d has in a list for all devices
abbrev pub at : List ℕ → ℕ → ℕ
at far d = get_or far d 0

-- device e is met from layer n: it is in the next one, if it was in none
unfoldable pub meet : ℕ → ℕ → List ℕ → List ℕ
meet n e far = cond (ltb e 32 && eqb (at far e) 32) (set far e (n + 1)) far

-- device d in layer n passes on: a router does, and the first device, which is layer 0
unfoldable pub goes_on : List ℕ → ℕ → ℕ → List ℕ → Bool
goes_on role n d far = eqb (at far d) n && (eqb n 0 || eqb (get_or role d 0) 1)

-- to: the device that each port leads to, or 32
module _ (to : List ℕ) where
  unfoldable pub spread : ℕ → ℕ → List ℕ → List ℕ
  spread n d far = up_to (λ p. meet n (get_or to (8 * d + p) 0)) 8 far

  module _ (role : List ℕ) where
    -- a device's turn in layer n
    abbrev pub turn_of : ℕ → ℕ → List ℕ → List ℕ
    turn_of n d far = cond (goes_on role n d far) (spread n d far) far

    unfoldable pub layer : ℕ → List ℕ → List ℕ
    layer n far = up_to (turn_of n) 32 far

    -- all layers from a first device on; there is none behind 31
    unfoldable pub layers : ℕ → List ℕ
    layers from = up_to layer 31 (set (table 32 (λ _. 32)) from 0)

-- the same way back: the device that leads to each port's device by the port at its other end, or 32
unfoldable pub behind : List (List ℕ) → List ℕ → ℕ → ℕ
behind peers to q = cond (ltb (peer_in peers q) nobody && ltb (get_or to (peer_in peers q) 0) 32) (peer_in peers q / 8) 32

-- the greatest that is not 32, or 0
pub record Greatest (n : ℕ) (far : List ℕ) (r : ℕ) : Type 0 where
  pub most : (e : ℕ) → e < n → at far e < 32 → at far e ≤ r
  pub some : (r ≡ 0) ⊎ ((e : ℕ) × (e < n) × (at far e ≡ r) × (r < 32))
