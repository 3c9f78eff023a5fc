-- RULES, "Known values": what the definitions say of them, computed together in one check.
use Rattle.std.specs.Prelude.{◌≡◌, refl, List, [], ◌∷◌, ◌++◌, map, ℕ, zero, suc, ◌-◌, ◌^◌, get_or, replicate}
use Rattle.lists.specs.Loop.{up_to}
use Rattle.lists.specs.Table.{table, joined}
use Rattle.bits.specs.Set.{bit, join, leave}
use Rattle.bits.specs.First.{searched, first_from, following}
use Rattle.codes.specs.Codes.{byte_of, reads}
use Rattle.codes.specs.declared.Code.{Code}
use Rattle.codes.specs.declared.Code.TheVariants.{Time, Interrupt, Acknowledge, Reserved}
use Rattle.device.specs.Permissions.{may_send, may_receive}
use Rattle.device.specs.Reaction.{marked, is_used, bars_of, ruled, counted, reacts_to, reacts}
use Rattle.plan.specs.Fields.{nobody}
use Rattle.plan.specs.declared.Plan.{Plan}
use Rattle.state.specs.State.{State, word, put, port_at, next_at, next, register, timer, state_of}
use Rattle.state.specs.Network.{load_for}
use Rattle.state.specs.Start.{started}
use Rattle.state.specs.Queue.{queue_at, queue_all_at}
use Rattle.state.specs.Mark.{mark}
use Rattle.calls.specs.Calls.{called}
use Rattle.bench.specs.Round.{nothing, fall, first_waits, goes, time_goes, stamped, chosen, sent_word, sends, unqueued, timed, forwarded, tells, acted, arrived, fallen, sent_bytes, posted, arrives, reached, round}
use Rattle.bench.specs.Settling.{rounds}

-- node 0, a source of every identifier, and router 1; loads of 1, all permissions
pub link : Plan
link =
    record {
      core =
          record {
            devices = 2;
            master = 0;
            events = 0;
            loads = 1 ∷ 1 ∷ replicate 64 0;
            role = 0 ∷ 1 ∷ replicate 30 0;
            ports = 1 ∷ 1 ∷ replicate 30 0;
            source = (2 ^ 32 - 1) ∷ replicate 31 0;
            handler = replicate 32 0;
            permissions = (15 ∷ replicate 7 0) ++ (15 ∷ replicate 247 0);
          };
      peers = (8 ∷ replicate 7 nobody) ∷ (0 ∷ replicate 7 nobody) ∷ replicate 30 (replicate 8 nobody);
      barred = replicate 512 0;
    }

-- the set of one identifier
pub just : ℕ → ℕ
just k = join 0 k

-- the byte that a port sends in a round, and its next afterwards
pub record Choice : Type 0 where
  pub byte : ℕ
  pub next : ℕ

-- that of the node's port, where these interrupts wait
pub choice : ℕ → ℕ → Choice
choice waiting from =
    let played = round link (put (put (started link) (port_at 0 0) waiting) (port_at 0 next_at) from) in
    record { byte = get_or played.sent 0 nothing; next = next played.next 0 }

-- a register, and what is left of the timer of 5
pub record Clock : Type 0 where
  pub bits : ℕ
  pub left : ℕ

-- those of the router, in a state and after each of the next rounds
pub clocks : ℕ → State → List Clock
clocks zero s = []
clocks (suc n) s = record { bits = register s 1; left = timer s 1 5 } ∷ clocks n (round link s).next

-- six rounds are played, and the node's host requests 5: in round 7 it arrives at the router
pub sixth : State
sixth = called link 0 0 5 (rounds link 6 (started link))

pub record Values : Type 0 where
  pub codes : List Code
  pub choices : List Choice
  pub clocks : List Clock

-- the state is an argument so that its rounds are computed once
pub values_from : State → Values
values_from s =
    record {
      codes = map reads (63 ∷ 64 ∷ 127 ∷ 128 ∷ 159 ∷ 160 ∷ 191 ∷ 192 ∷ []);
      choices = choice (join (just 5) 9) 6 ∷ choice (just 5) 6 ∷ choice (just 31) 31 ∷ choice 0 6 ∷ [];
      clocks = clocks 3 s;
    }

pub computed : Values
computed = values_from sixth

pub stated : Values
stated =
    record {
      codes = Time 63 ∷ Reserved 1 0 ∷ Reserved 1 63 ∷ Interrupt 0 ∷ Interrupt 31 ∷ Acknowledge 0 ∷ Acknowledge 31 ∷ Reserved 3 0 ∷ [];
      choices =
          record { byte = byte_of 0 9; next = 10 }
          ∷ record { byte = byte_of 0 5; next = 6 }
          ∷ record { byte = byte_of 0 31; next = 0 }
          ∷ record { byte = nothing; next = 6 }
          ∷ [];
      clocks = record { bits = 0; left = 0 } ∷ record { bits = just 5; left = 1 } ∷ record { bits = 0; left = 0 } ∷ [];
    }

pub known_values : computed ≡ stated
unfolding computed stated values_from link just choice clocks sixth up_to table joined bit join leave searched first_from following reads may_send may_receive marked is_used bars_of ruled counted reacts_to reacts word put state_of load_for queue_at queue_all_at mark called fall first_waits goes time_goes stamped chosen sent_word sends unqueued timed forwarded tells acted arrived fallen sent_bytes posted arrives reached round
known_values = refl
