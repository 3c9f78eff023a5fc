-- No rules: three plans, states and courses for which the demands are worked out.
use Rattle.std.specs.Prelude.{List, [], ◌∷◌, ◌++◌, ℕ, ◌-◌, ◌^◌, replicate}
use Rattle.lists.specs.Loop.{up_to}
use Rattle.plan.specs.Fields.{nobody}
use Rattle.plan.specs.declared.Plan.{Plan}
use Rattle.state.specs.State.{State}
use Rattle.state.specs.Start.{started}
use Rattle.calls.specs.Calls.{called, advanced}
use Rattle.bench.specs.Settling.{rounds}
use Rattle.assurance.specs.Ticking.{ticking}

-- identifier 31 has loads of its own, 300 in routers and 400 in nodes; the common ones are 1
abbrev pub own : List ℕ
own = (1 ∷ 1 ∷ replicate 62 0) ++ (400 ∷ 300 ∷ [])

-- node 0, source of every identifier and master, at router 1, and at that node 2, handler of every identifier
unfoldable pub line : Plan
line =
    record {
      core =
          record {
            devices = 3;
            master = 1;
            events = 0;
            loads = own;
            role = 0 ∷ 1 ∷ replicate 30 0;
            ports = 1 ∷ 2 ∷ 1 ∷ replicate 29 0;
            source = (2 ^ 32 - 1) ∷ replicate 31 0;
            handler = 0 ∷ 0 ∷ (2 ^ 32 - 1) ∷ replicate 29 0;
            permissions = (15 ∷ replicate 7 0) ++ (15 ∷ 15 ∷ replicate 6 0) ++ (15 ∷ replicate 239 0);
          };
      peers =
          (8 ∷ replicate 7 nobody)
          ∷ (0 ∷ 16 ∷ replicate 6 nobody)
          ∷ (9 ∷ replicate 7 nobody)
          ∷ replicate 29 (replicate 8 nobody);
      barred = replicate 512 0;
    }

-- node 0, source of every identifier and master, at a port of router 1 that may not receive interrupts
unfoldable pub deaf : Plan
deaf =
    record {
      core =
          record {
            devices = 2;
            master = 1;
            events = 0;
            loads = own;
            role = 0 ∷ 1 ∷ replicate 30 0;
            ports = 1 ∷ 1 ∷ replicate 30 0;
            source = (2 ^ 32 - 1) ∷ replicate 31 0;
            handler = replicate 32 0;
            permissions = (15 ∷ replicate 7 0) ++ (13 ∷ replicate 247 0);
          };
      peers = (8 ∷ replicate 7 nobody) ∷ (0 ∷ replicate 7 nobody) ∷ replicate 30 (replicate 8 nobody);
      barred = replicate 512 0;
    }

-- node 0, source of every identifier and master, at node 1; all identifiers are events
unfoldable pub pair : Plan
pair =
    record {
      core =
          record {
            devices = 2;
            master = 1;
            events = 2 ^ 32 - 1;
            loads = own;
            role = replicate 32 0;
            ports = 1 ∷ 1 ∷ replicate 30 0;
            source = (2 ^ 32 - 1) ∷ replicate 31 0;
            handler = replicate 32 0;
            permissions = (15 ∷ replicate 7 0) ++ (15 ∷ replicate 247 0);
          };
      peers = (8 ∷ replicate 7 nobody) ∷ (0 ∷ replicate 7 nobody) ∷ replicate 30 (replicate 8 nobody);
      barred = replicate 512 0;
    }

-- the host of node 0 has requested every identifier below 30
unfoldable pub busy : Plan → State
busy plan = up_to (called plan 0 0) 30 (started plan)

-- it requests 31, then 30; then rounds are played, and it ticks before each
unfoldable pub course : Plan → ℕ → State
course plan = ticking plan 0 (called plan 0 0 30 (called plan 0 0 31 (busy plan)))

-- in the second plan the host of node 0 ticks, a round is played, and it requests 0: that waits at a port whose last code sent was a Time-Code
unfoldable pub asked : State
asked = called deaf 0 0 0 (rounds deaf 1 (advanced 0 (started deaf)))

-- it ticks again, and rounds are played
unfoldable pub again : ℕ → State
again t = rounds deaf t (advanced 0 asked)
