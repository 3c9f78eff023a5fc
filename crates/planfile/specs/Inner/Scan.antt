-- No rules: what private functions of the reader compute on the way, and the refusal of one block, which a public one answers.
use Rattle.std.specs.Prelude.{cond, List, [], ◌∷◌, ◌++◌, ℕ, zero, suc, ◌+◌, ◌*◌, ◌/◌, eqb, ltb, length}
use Rattle.lists.specs.Table.{joined}
use Rattle.plan.specs.Block.{block}
use Rattle.plan.specs.Refusals.{test, Test, first, length_fits, header_tests, device_tests, count_in, master_in, device_block}
use Rattle.plan.specs.Refusals.{Verdict, accepts}

-- the tests of a device's block by itself, and of block b
abbrev pub of_device : List ℕ → ℕ → List Test
of_device file d = device_tests (count_in file) (master_in file) d (device_block file d)

unfoldable pub block_tests : List ℕ → ℕ → List Test
block_tests file zero = header_tests (block file 0)
block_tests file (suc d) = of_device file d

-- the number that block b is refused with, and 20 where the file has no such block
unfoldable pub refusal_in : List ℕ → ℕ → ℕ
refusal_in file b = cond (ltb b (length file / 512)) (first (block_tests file b)).number 20

-- such a number, with the block that it is at
abbrev pub at_block : ℕ → ℕ → Verdict
at_block b number = cond (eqb number 0) accepts (record { number = number; at = b })

-- the blocks of the devices
unfoldable pub device_scan : List ℕ → Verdict
device_scan file = first (joined (count_in file) (of_device file))

-- all tests but those of the connections
unfoldable pub scan_tests : List ℕ → List Test
scan_tests file =
    (test 20 0 (length_fits file) ∷ [])
    ++ header_tests (block file 0)
    ++ (test 25 0 (eqb (length file) (512 * (1 + count_in file))) ∷ [])
    ++ joined (count_in file) (of_device file)

unfoldable pub scanned : List ℕ → Verdict
scanned file = first (scan_tests file)
