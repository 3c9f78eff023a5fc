use native.Mathlib.Omega.{arith}
use borrow.Author.Rules.{rules}
use lib.Seq.{length-take-le}
use Rattle.state.proofs.Plans.{few}
use Rattle.reasons.proofs.Told.{told, there, of-source, in-front, chain-joined, nowhere}
use Rattle.reasons.proofs.Texts.{writes-chain, writes-cut, by-state}
use Rattle.reasons.proofs.answer.put_answer.Goals as goal

pub put_reached-requires : goal.put_reached-requires
put_reached-requires c =
    let x = told (search rules) (search rules) c.in_ok-n.ensures in
    let front = in-front _ _ _ x.1 c.if-n-lt-UNREACHED.true in (
      omega (arith, length-take-le _ _ front.1, c.if-n-lt-UNREACHED.true),
      chain-joined _ _ _ _ _ _ (omega (arith, there _ _ _ _ _ x.0, few _ c.requires.0)) front.0.real,
      c.requires.1,
    )

pub returns-then-n-lt-UNREACHED : goal.returns-then-n-lt-UNREACHED
returns-then-n-lt-UNREACHED c =
    let x = told (search rules) (search rules) c.in_ok-n.ensures in
    let front = in-front _ _ _ x.1 c.if-n-lt-UNREACHED.true in
    by-state c.in_ok-take.ensures x.0 (writes-chain _ front.0 c.put_reached.ensures)

pub put_cut-requires : goal.put_cut-requires
put_cut-requires c =
    let x = told (search rules) (search rules) c.in_ok-n.ensures in
    (of-source _ _ _ _ _ x.0, c.requires.1)

pub returns : goal.returns
returns c =
    let x = told (search rules) (search rules) c.in_ok-n.ensures in
    by-state c.in_ok-take.ensures x.0 (writes-cut (nowhere _ _ _ c.requires.0 (there _ _ _ _ _ x.0) x.1 c.if-n-lt-UNREACHED.false) c.put_cut.ensures)
