-- RULES, "How an acknowledge goes back": two plans in which a source has two ways, and T-01 without its condition. In one of them a device that the
-- source reaches is not found from the handler.
use Rattle.std.specs.Prelude.{Bool, cond, ◌&&◌, ◌∷◌, ◌++◌, ℕ, ◌+◌, ◌-◌, ◌^◌, eqb, replicate}
use Rattle.lists.specs.Table.{every}
use Rattle.bits.specs.Set.{bit}
use Rattle.plan.specs.Fields.{nobody}
use Rattle.plan.specs.declared.Plan.{Plan}
use Rattle.state.specs.State.{State, register, waiting}
use Rattle.state.specs.Start.{started}
use Rattle.calls.specs.Calls.{called}
use Rattle.bench.specs.Settling.{rounds}
use Rattle.assurance.specs.Demand3.{window}
use Rattle.assurance.specs.Cycle.{Cycle, Ends}

-- node 0, source of every identifier, has two ports: one at node 1, handler of every identifier, the other at router 2. Node 1 has one port, or a
-- second one that is joined to router 2 as well
unfoldable pub fork : Bool → Plan
fork joined =
    record {
      core =
          record {
            devices = 3;
            master = 0;
            events = 0;
            loads = 400 ∷ 400 ∷ replicate 64 0;
            role = 0 ∷ 0 ∷ 1 ∷ replicate 29 0;
            ports = 2 ∷ cond joined 2 1 ∷ 2 ∷ replicate 29 0;
            source = (2 ^ 32 - 1) ∷ replicate 31 0;
            handler = 0 ∷ (2 ^ 32 - 1) ∷ replicate 30 0;
            permissions = (15 ∷ 15 ∷ replicate 6 0) ++ (15 ∷ cond joined 15 0 ∷ replicate 6 0) ++ (15 ∷ cond joined 15 0 ∷ replicate 238 0);
          };
      peers =
          (8 ∷ 16 ∷ replicate 6 nobody)
          ∷ (0 ∷ cond joined 17 nobody ∷ replicate 6 nobody)
          ∷ (1 ∷ cond joined 9 nobody ∷ replicate 6 nobody)
          ∷ replicate 29 (replicate 8 nobody);
      barred = replicate 512 0;
    }

-- node 0 requests 31, and rounds are played
unfoldable pub asking : Bool → ℕ → State
asking joined t = rounds (fork joined) t (called (fork joined) 0 0 31 (started (fork joined)))

-- after so many of them node 1 acknowledges 31, and rounds are played
unfoldable pub answering : Bool → ℕ → ℕ → State
answering joined after t = rounds (fork joined) t (called (fork joined) 1 1 31 (asking joined after))

-- of the three devices router 2 alone holds 31, and it waits nowhere
abbrev pub left : State → Bool
left s =
    every 3 (λ d. eqb (bit (register s d) 31) (cond (eqb d 2) 1 0)) && every 2 (λ kind. every 24 (λ q. eqb (bit (waiting s kind q) 31) 0))

-- T-01 for one cycle, if it did not ask that each device that the source reached is found
unfoldable pub Unasked : Type 0
Unasked =
    (plan : Plan) (k from to D D' gap : ℕ) (s : State) (at back : ℕ → State) → Cycle plan k from to D D' gap s at back
    → Ends plan k from to D' (window D + gap) s at back
