-- RULES, "Plan file": a file by its parts: what stands in front of the devices' blocks, each block by itself, and where a port leads; and the block of
-- a device put into an area.
use Rattle.std.specs.Prelude.{cond, ◌&&◌, List, [], ◌∷◌, ◌++◌, ℕ, ◌+◌, ◌*◌, ◌/◌, eqb, ltb, length}
use Rattle.plan.specs.Block.{block}
use Rattle.plan.specs.Fields.{nobody}
use Rattle.plan.specs.Inner.File.{block_of, device_holdings}
use Rattle.plan.specs.Refusals.{test, Test, length_fits, header_tests, count_in, peer_of}
use Rattle.plan.specs.declared.Core.{Core}
unfoldable pub use Rattle.planfile.specs.Inner.Scan.{of_device, block_tests, refusal_in}

-- the length, block 0, and the number of blocks
unfoldable pub front_tests : List ℕ → List Test
front_tests file =
    (test 20 0 (length_fits file) ∷ [])
    ++ header_tests (block file 0)
    ++ (test 25 0 (eqb (length file) (512 * (1 + count_in file))) ∷ [])

-- the peer of port p of device d, by its block, whatever else that holds; nobody where the file has no such block, and of no such port
unfoldable pub peer_read : List ℕ → ℕ → ℕ → ℕ
peer_read file d p = cond (ltb (d + 1) (length file / 512) && ltb p 8) (peer_of file d p) nobody

-- an area of one block becomes the block of device d; any other stays as it was, and so it is where there is no such device
unfoldable pub device_put : Core → List (List ℕ) → List ℕ → ℕ → List ℕ → List ℕ
device_put core peers barred d before = cond (ltb d 32 && eqb (length before) 512) (block_of (device_holdings core peers barred d)) before
