-- No rules: two plans, states and courses for which the whole cycle is worked out.
use Rattle.std.specs.Prelude.{List, [], ◌∷◌, ◌++◌, ℕ, ◌+◌, ◌-◌, ◌^◌, replicate}
use Rattle.lists.specs.Loop.{up_to}
use Rattle.plan.specs.Fields.{nobody}
use Rattle.plan.specs.declared.Plan.{Plan}
use Rattle.state.specs.State.{State}
use Rattle.state.specs.Start.{started}
use Rattle.calls.specs.Calls.{called}
use Rattle.bench.specs.Settling.{rounds}
use Rattle.assurance.specs.Demand3.{window}
use Rattle.assurance.specs.Event.{lasting}
use Rattle.assurance.specs.Ticking.{ticking}

-- identifiers 0, 1, 29 and 31 have loads of their own, 800 in routers and 900 in nodes; the common ones are 1
abbrev pub own : List ℕ
own = (1 ∷ 1 ∷ 900 ∷ 800 ∷ 900 ∷ 800 ∷ replicate 54 0) ++ (900 ∷ 800 ∷ 0 ∷ 0 ∷ 900 ∷ 800 ∷ [])

-- router 0, with four nodes at it and one link from itself to itself: node 2 is the source of 30, node 1 of every other identifier, and nodes 3 and 4
-- are handlers of all. Identifier 29 is an event, of which node 2 is a source too
unfoldable pub star : Plan
star =
    record {
      core =
          record {
            devices = 5;
            master = 0;
            events = 2 ^ 29;
            loads = own;
            role = 1 ∷ replicate 31 0;
            ports = 6 ∷ 1 ∷ 1 ∷ 1 ∷ 1 ∷ replicate 27 0;
            source = 0 ∷ (2 ^ 32 - 1 - 2 ^ 30) ∷ (2 ^ 30 + 2 ^ 29) ∷ replicate 29 0;
            handler = 0 ∷ 0 ∷ 0 ∷ (2 ^ 32 - 1) ∷ (2 ^ 32 - 1) ∷ replicate 27 0;
            permissions =
                (15 ∷ 15 ∷ 15 ∷ 15 ∷ 15 ∷ 15 ∷ replicate 2 0) ++ (15 ∷ replicate 7 0) ++ (15 ∷ replicate 7 0) ++ (15 ∷ replicate 7 0) ++ (15 ∷ replicate 223 0);
          };
      peers =
          (8 ∷ 16 ∷ 24 ∷ 32 ∷ 5 ∷ 4 ∷ replicate 2 nobody)
          ∷ (0 ∷ replicate 7 nobody)
          ∷ (1 ∷ replicate 7 nobody)
          ∷ (2 ∷ replicate 7 nobody)
          ∷ (3 ∷ replicate 7 nobody)
          ∷ replicate 27 (replicate 8 nobody);
      barred = replicate 512 0;
    }

-- the same with one source, node 1, and one handler, node 2, which is the master too
unfoldable pub small : Plan
small =
    record {
      core =
          record {
            devices = 3;
            master = 3;
            events = 0;
            loads = own;
            role = 1 ∷ replicate 31 0;
            ports = 4 ∷ 1 ∷ 1 ∷ replicate 29 0;
            source = 0 ∷ (2 ^ 32 - 1) ∷ replicate 30 0;
            handler = 0 ∷ 0 ∷ (2 ^ 32 - 1) ∷ replicate 29 0;
            permissions = (15 ∷ 15 ∷ 15 ∷ 15 ∷ replicate 4 0) ++ (15 ∷ replicate 7 0) ++ (15 ∷ replicate 239 0);
          };
      peers =
          (8 ∷ 16 ∷ 3 ∷ 2 ∷ replicate 4 nobody)
          ∷ (0 ∷ replicate 7 nobody)
          ∷ (1 ∷ replicate 7 nobody)
          ∷ replicate 29 (replicate 8 nobody);
      barred = replicate 512 0;
    }

-- ---- two cycles of 31

-- so many rounds after the first window, in which only rounds are played from state u on, node `to` acknowledges; then rounds are played
unfoldable pub back_from : ℕ → ℕ → State → ℕ → State
back_from to gap u t = rounds star t (called star 1 to 31 (rounds star (window 2 + gap) u))

-- node 1 requests 31, and node 2 requests 30 behind it
unfoldable pub first : State
first = called star 0 2 30 (called star 0 1 31 (started star))

-- node 3 acknowledges 31 when the window ends, and five rounds after the second window node 1 requests 31 again
unfoldable pub between : State
between = rounds star 5 (back_from 3 0 first (window 2))

unfoldable pub second : State
second = called star 0 1 31 between

-- ---- two events, of 29

-- in the first state node 1 requests it, and in the second node 2; then rounds are played
unfoldable pub first_event : ℕ → State
first_event t = rounds star t (called star 0 1 29 (started star))

unfoldable pub second_event : ℕ → State
second_event t = rounds star t (called star 0 2 29 (first_event (lasting star 29 1 2)))

-- ---- an acknowledge too soon

-- node 1 has requested 0 and 31, all devices hold them, and node 3 acknowledges 0
unfoldable pub before : State
before = called star 1 3 0 (rounds star 3 (called star 0 1 31 (called star 0 1 0 (started star))))

-- node 1 requests 1; then rounds are played
unfoldable pub spreading : ℕ → State
spreading t = rounds star t (called star 0 1 1 before)

-- node 3 acknowledges 1 after t rounds of these; then rounds are played
unfoldable pub answered : ℕ → ℕ → State
answered t u = rounds star u (called star 1 3 1 (spreading t))

-- ---- a slow return

-- node 1 has requested 31, and all devices hold it; at node 2 acknowledges of all other identifiers wait
unfoldable pub crowded : State
crowded = up_to (called small 1 2) 31 (rounds small 2 (called small 0 1 31 (started small)))

-- node 2 acknowledges 31; then rounds are played, and it ticks before each
unfoldable pub returning : ℕ → State
returning = ticking small 2 (called small 1 2 31 crowded)
