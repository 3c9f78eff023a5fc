use Rattle.planfile.proofs.Scans.{Scanned}
use Rattle.planfile.proofs.reader.scan_devices.Given as goal

abbrev pub invariant-loop-d : goal.invariant-loop-d
invariant-loop-d l = Scanned l.file l.n l.d
