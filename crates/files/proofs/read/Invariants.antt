use Rattle.std.proofs.Common.{length, take, ◌-◌, ◌≡◌, ◌≤◌}
use Rattle.std.specs.Io.KnownBytes.{Consumes}
use Rattle.files.proofs.read.Given as goal

-- what the loop has read so far stands in front, and is gone from the input
abbrev pub invariant-loop-n : goal.invariant-loop-n
invariant-loop-n g l = (l.n ≤ length l.area) × (length l.area ≡ length l.initial.area)
    × Consumes (g.R.Read.remaining l.initial.from) (g.R.Read.remaining l.from) (take l.n l.area)

abbrev pub decreases-loop-n : goal.decreases-loop-n
decreases-loop-n g l = length l.area - l.n
