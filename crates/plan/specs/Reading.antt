-- RULES, "Plan file": the plan that a file holds, and what the reader answers.
use Rattle.std.specs.Prelude.{Result, Ok, Err, ◌≡◌, cond, List, ℕ, ◌/◌, ◌%◌, ◌<◌, eqb, ltb, get_or, replicate}
use Rattle.answers.specs.Refusals.{number_of}
use Rattle.lists.specs.Table.{table}
use Rattle.plan.specs.Block.{block}
use Rattle.plan.specs.Fields.{role_in, handler_in, entry, bar_in, nobody}
use Rattle.plan.specs.Header.{header_in, no_header, core_with}
use Rattle.plan.specs.Refusals.{accepts, verdict, count_in, device_block, source_of, ports_of, peer_of}
use Rattle.plan.specs.declared.Fault.{Fault}
use Rattle.plan.specs.declared.Plan.{Plan}

-- ---- the plan of a file

-- a value for each of n devices, and for those that are absent 0
unfoldable pub column : ℕ → (ℕ → ℕ) → List ℕ
column n f = table 32 (λ d. cond (ltb d n) (f d) 0)

-- permissions stand by port q = 8 x d + p; peers by device and port; what is barred by 2 x q + kind. Absent devices have 0 and no peers; the
-- entries and masks of absent ports say the same
unfoldable pub plan_of : List ℕ → Plan
plan_of file =
    let n = count_in file in
    record {
      core =
          core_with (header_in (block file 0))
          (column n (λ d. role_in (device_block file d)))
          (column n (ports_of file))
          (column n (source_of file))
          (column n (λ d. handler_in (device_block file d)))
          (table 256 (λ q. cond (ltb (q / 8) n) (entry (device_block file (q / 8)) (q % 8) 2) 0));
      peers = table 32 (λ d. table 8 (λ p. cond (ltb d n) (peer_of file d p) nobody));
      barred = table 512 (λ i. cond (ltb (i / 16) n) (bar_in (device_block file (i / 16)) (i % 16)) 0);
    }

-- all zeros, which no file holds
unfoldable pub zeros : Plan
zeros =
    record {
      core = core_with no_header (replicate 32 0) (replicate 32 0) (replicate 32 0) (replicate 32 0) (replicate 256 0);
      peers = replicate 32 (replicate 8 0);
      barred = replicate 512 0;
    }

-- ---- accepted files, and the plans that they hold

-- a file of bytes in which nothing is wrong, and its plan
pub record Accepted (file : List ℕ) (plan : Plan) : Type 0 where
  pub bytes : (i : ℕ) → get_or file i 0 < 256
  pub right : verdict file ≡ accepts
  pub plan-of : plan ≡ plan_of file

-- some accepted file reads as the plan
unfoldable pub Held : Plan → Type 0
Held plan = (file : List ℕ) × Accepted file plan

-- ---- what the reader answers: number and block, and the plan, all zeros beside a refusal

pub record Read : Type 0 where
  pub number : ℕ
  pub block : ℕ
  pub plan : Plan

-- an answer, as these three
abbrev pub read_in : Result Plan Fault → Read
read_in (Ok plan) = record { number = 0; block = 0; plan = plan }
read_in (Err f) = record { number = number_of f.refusal; block = f.block; plan = zeros }

unfoldable pub reads : List ℕ → Read
reads file =
    record {
      number = (verdict file).number;
      block = (verdict file).at;
      plan = cond (eqb (verdict file).number 0) (plan_of file) zeros;
    }
