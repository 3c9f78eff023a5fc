-- RULES, "Rescue": the refusals, in their order, the text, and what the call answers.
use Rattle.std.specs.Prelude.{Result, Ok, Err, ◌≡◌, cond, not, ◌&&◌, List, [], ◌∷◌, ◌++◌, ℕ, ◌+◌, ◌*◌, eqb, leb, length}
use Rattle.areas.specs.Put.{over}
use Rattle.lists.specs.Table.{joined, every}
use Rattle.text.specs.Text.{ascii, headed, joint}
use Rattle.plan.specs.Fields.{nobody, sources_fit}
use Rattle.plan.specs.Refusals.{Test, test, first, join_tests, count_in, master_in, events_in, source_of, ports_of, peer_of}
use Rattle.plan.specs.Refusals.{Verdict}
use Rattle.plan.specs.declared.Fault.{Fault}
use Rattle.planfile.specs.Parts.{front_tests, of_device}
use Rattle.mend.specs.Claims.{damaged, claimant, uncontested}
use Rattle.mend.specs.Mended.{mended}

-- no text is longer: 32 lines like `block 32`, and 256 like `31 7 31 7`
abbrev pub longest : ℕ
longest = 2848

-- ---- the refusals

module _ (file : List ℕ) where
  -- each good block by itself
  unfoldable pub good_tests : List Test
  good_tests = joined (count_in file) (λ d. cond (damaged file d) [] (of_device file d))

  -- no port of a damaged block is claimed twice
  unfoldable pub claim_tests : List Test
  claim_tests = joined (count_in file) (λ d. test 28 (1 + d) (uncontested file d) ∷ [])

  -- the master, whose number plus 1 is its block, does not become a router; and the connections and the sources of the mended file
  unfoldable pub result_tests : List Test
  result_tests =
      (test 23 (master_in file) (every (count_in file) (λ d. not (damaged file d && eqb (master_in file) (d + 1)))) ∷ [])
      ++ joined (count_in file) (join_tests (ports_of (mended file)) (peer_of (mended file)))
      ++ (test 27 0 (sources_fit (events_in file) (source_of (mended file)) (count_in file)) ∷ [])

-- the two areas; the length, block 0 and the number of blocks; and those above
unfoldable pub rescue_tests : List ℕ → ℕ → ℕ → List Test
rescue_tests file area text =
    (test 3 0 (eqb area (length file) && leb longest text) ∷ []) ++ front_tests file ++ good_tests file ++ claim_tests file ++ result_tests file

unfoldable pub refusal : List ℕ → ℕ → ℕ → Verdict
refusal file area text = first (rescue_tests file area text)

-- ---- the text

-- port p of device d, connected back
unfoldable pub restored : List ℕ → ℕ → List ℕ
restored file t = cond (eqb (claimant file t) nobody) [] (joint t (claimant file t))

-- a rebuilt block, and each port of it that is connected back
unfoldable pub rebuilt_lines : List ℕ → ℕ → List ℕ
rebuilt_lines file d = headed (ascii "block ") (1 + d) ++ joined 8 (λ p. restored file (8 * d + p))

unfoldable pub rescue_text : List ℕ → List ℕ
rescue_text file = joined (count_in file) (λ d. cond (damaged file d) (rebuilt_lines file d) [])

-- ---- the call

-- what it is lent: the areas for the mended file and for the text
pub record Lent : Type 0 where
  pub area : List ℕ
  pub text : List ℕ

abbrev pub lent : List ℕ → List ℕ → Lent
lent area text = record { area = area; text = text }

-- the length of the text in an answer: 0 where it is refused
abbrev pub used_in : Result ℕ Fault → ℕ
used_in (Ok used) = used
used_in (Err f) = 0

-- the number and the block; done, the mended file, and the text in front of its area, of so many bytes. Refused, nothing changes
pub record Rescues (file : List ℕ) (before : Lent) (number block used : ℕ) (after : Lent) : Type 0 where
  pub answers : record { number = number; at = block } ≡ refusal file (length before.area) (length before.text)
  pub made : number ≡ 0 → (after.area ≡ mended file) × (used ≡ length (rescue_text file)) × (after.text ≡ over (rescue_text file) before.text)
  pub kept : (number ≡ 0 → ⊥) → (used ≡ 0) × (after ≡ before)
