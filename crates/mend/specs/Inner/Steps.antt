-- No rules: what private functions of the rescue compute on the way.
use Rattle.std.specs.Prelude.{Option, Some, None, Result, IfOk, MatchResult, ◌≡◌, Bool, false, map, get_or, cond, not, ◌&&◌, List, [], ◌++◌, ℕ, zero, suc, ◌+◌, ◌*◌, ◌/◌, ◌≤◌, min, eqb, ltb, length, take, drop, replicate}
use Rattle.lists.specs.Table.{table, joined}
use Rattle.text.specs.Text.{ascii, headed, joint}
use Rattle.text.specs.Inner.Within.{Within}
use Rattle.plan.specs.Block.{block}
use Rattle.plan.specs.Fields.{nobody}
use Rattle.plan.specs.Inner.File.{block_of, device_holdings}
use Rattle.plan.specs.Inner.Memory.{at}
use Rattle.plan.specs.Refusals.{Test, first, count_in, verdict, verdict_in}
use Rattle.plan.specs.declared.Core.{Core}
use Rattle.plan.specs.declared.Fault.{Fault}
use Rattle.answers.specs.Refusals.{number_of}
use Rattle.planfile.specs.Parts.{front_tests}
use Rattle.mend.specs.Claims.{last, damaged, pointed}
use Rattle.mend.specs.Mended.{router_holdings, mended}
use Rattle.mend.specs.Rescue.{longest, good_tests, claim_tests, result_tests, rescue_text, Lent}

-- ---- a file whose length, block 0 and number of blocks are right

pub record Fronted (file : List ℕ) : Type 0 where
  pub few : count_in file ≤ 32
  pub long : length file ≡ 512 * (1 + count_in file)

-- each device whose block is damaged is marked
unfoldable pub marks : List ℕ → List Bool
marks file = table 32 (λ d. ltb d (count_in file) && damaged file d)

abbrev pub marked_at : List Bool → ℕ → Bool
marked_at l d = get_or l d false

-- what is said of the block of device d, of which this is the refusal: that it is damaged or passes, or else the refusal
abbrev pub by_check : ℕ → ℕ → Result Bool Fault → Type 0
by_check d number r = MatchResult r (λ damaged. number ≡ cond damaged 21 0) (λ f. (number ≡ number_of f.refusal) × (number ≡ 21 → ⊥) × (f.block ≡ d + 1))

-- what a scan says: the first refusal of the good blocks, and where there is none, which blocks are damaged
pub record Scans (file : List ℕ) (r : Result (List Bool) Fault) : Type 0 where
  pub answers : verdict_in r ≡ first (good_tests file)
  pub marked : IfOk r (λ found. found ≡ marks file)

-- ---- claims, by a list of where each port is said to lead

-- the peer that a claim makes, and those that a list of claims does
abbrev pub peer_in : Option ℕ → ℕ
peer_in (Some q) = q
peer_in None = nobody

abbrev pub peers_in : List (Option ℕ) → List ℕ
peers_in claimants = map peer_in claimants

unfoldable pub pointed_all : List ℕ → List ℕ
pointed_all file = table 256 (pointed file)

-- the last of the first n ports that claims port t, or nobody
abbrev pub claimant_below : List ℕ → ℕ → ℕ → ℕ
claimant_below l n t = last n (λ q. eqb (at l q) t) nobody

unfoldable pub claimants_in : List ℕ → List ℕ
claimants_in l = table 256 (claimant_below l 256)

-- the block of a damaged device at which port q, which is said to lead to t, contests what another one claims; or 33, behind the last
unfoldable pub contest_at : ℕ → ℕ → List ℕ → List Bool → ℕ
contest_at t q claimants damaged = cond (ltb t 256 && not (eqb (at claimants t) q) && marked_at damaged (t / 8)) (1 + t / 8) 33

abbrev pub contest : List ℕ → List ℕ → List Bool → ℕ → ℕ
contest l claimants damaged q = contest_at (at l q) q claimants damaged

-- the lowest of the first n
unfoldable pub lowest : (ℕ → ℕ) → ℕ → ℕ
lowest f zero = 33
lowest f (suc n) = min (lowest f n) (f n)

-- the first of them, if there is one
unfoldable pub contested : List ℕ → List ℕ → List Bool → Option ℕ
contested l claimants damaged = let low = lowest (contest l claimants damaged) 256 in cond (eqb low 33) None (Some low)

-- ---- routers, by a list of who claims each port

unfoldable pub ports_in : List ℕ → ℕ → ℕ
ports_in claimants d = 1 + last 8 (λ p. not (eqb (at claimants (8 * d + p)) nobody)) 0

unfoldable pub row_in : List ℕ → ℕ → List ℕ
row_in claimants d = table 8 (λ p. at claimants (8 * d + p))

-- the block of device d, as it is rebuilt
unfoldable pub router_in : List ℕ → ℕ → List ℕ
router_in claimants d = block_of (router_holdings d (ports_in claimants d) (λ p. at claimants (8 * d + p)))

-- the same in the place of a block of a file, if it is marked, by the numbers and the peers of routers
unfoldable pub router_of : Bool → Core → List (List ℕ) → ℕ → List ℕ → List ℕ
router_of mark core peers d before =
    cond mark
    (take (512 * (1 + d)) before ++ block_of (device_holdings core peers (replicate 512 0) d) ++ drop (512 * (2 + d)) before)
    before

-- the blocks of n devices behind block 0, those that are marked rebuilt
unfoldable pub routers_over : List ℕ → List Bool → ℕ → List ℕ → List ℕ
routers_over claimants damaged n before =
    block before 0 ++ joined n (λ d. cond (marked_at damaged d) (router_in claimants d) (block before (1 + d)))

-- ---- lines

-- no line is longer than `31 7 31 7` and its end, nor those of a block than `block 32` and eight of them
abbrev pub longest_line : ℕ
longest_line = 10

abbrev pub longest_router : ℕ
longest_router = 89

-- the line of port t, by who claims it
unfoldable pub restored_in : ℕ → ℕ → List ℕ
restored_in t claimant = cond (eqb claimant nobody) [] (joint t claimant)

abbrev pub restored_lines : List ℕ → ℕ → ℕ → List ℕ
restored_lines claimants d n = joined n (λ p. restored_in (8 * d + p) (at claimants (8 * d + p)))

unfoldable pub router_lines : List ℕ → ℕ → List ℕ
router_lines claimants d = headed (ascii "block ") (1 + d) ++ restored_lines claimants d 8

unfoldable pub marked_lines : Bool → List ℕ → ℕ → List ℕ
marked_lines mark claimants d = cond mark (router_lines claimants d) []

unfoldable pub lines_in : List ℕ → List Bool → ℕ → List ℕ
lines_in claimants damaged n = joined n (λ d. marked_lines (marked_at damaged d) claimants d)

-- ---- the end: the reader refuses what was made, or it is put into the areas

pub record Finishes (made claimants : List ℕ) (damaged : List Bool) (before : Lent) (number block used : ℕ) (after : Lent) : Type 0 where
  pub answers : record { number = number; at = block } ≡ verdict made
  pub done : number ≡ 0 → (after.area ≡ made) × Within longest before.text 0 (lines_in claimants damaged 32) after.text used
  pub kept : (number ≡ 0 → ⊥) → (used ≡ 0) × (after ≡ before)

-- ---- what is left to do where nothing is wrong with block 0 and the good blocks

pub record Ready (file : List ℕ) (marked : List Bool) : Type 0 where
  pub front : (first (front_tests file)).number ≡ 0
  pub good : (first (good_tests file)).number ≡ 0
  pub same : marked ≡ marks file

unfoldable pub rest_tests : List ℕ → List Test
rest_tests file = claim_tests file ++ result_tests file

pub record Mends (file : List ℕ) (before : Lent) (number block used : ℕ) (after : Lent) : Type 0 where
  pub answers : record { number = number; at = block } ≡ first (rest_tests file)
  pub made : number ≡ 0 → (after.area ≡ mended file) × Within longest before.text 0 (rescue_text file) after.text used
  pub kept : (number ≡ 0 → ⊥) → (used ≡ 0) × (after ≡ before)
