-- `plan::held::is_right` meets its contract: each test by its branch. Assumes nothing.
use mathlib.Core.Path.{◌≡◌, refl, sym, ap, ◌∙◌}
use mathlib.Core.Bool.{Bool, true, false, ◌&&◌}
use Prim.Native.Nat.{ℕ, min, ◌≤◌}
use native.Mathlib.Omega.{arith}
use lib.Dec.{eqb}
use Rattle.lists.specs.Table.{every}
use Rattle.lists.proofs.Tests.{and_left}
use Rattle.plan.specs.Fields.{joins, sources_fit}
use Rattle.plan.specs.Header.{header_of, header_fits}
use Rattle.plan.specs.Inner.Memory.{at, peer_at, row_right, right}
use Rattle.plan.specs.declared.Plan.{Plan}
use Rattle.plan.proofs.Good.{devices-fit, header-says}
use Rattle.plan.proofs.Connections.{block, block-every}
use Rattle.plan.proofs.held.is_right.Goals.{Joined-header_fits, Joined-rows_right, then-header_fits, else-header_fits, then-rows_right, else-rows_right}
use Rattle.plan.proofs.held.is_right.Goals as goal

module _ (plan : Plan) where
  abbrev n : ℕ
  n = plan.core.devices

  -- the four tests
  abbrev header : Bool
  header = header_fits (header_of plan.core)

  abbrev rows : Bool
  rows = every 32 (row_right plan.core plan.peers plan.barred)

  abbrev all_join : Bool
  all_join = every n (λ d. every 8 (joins (at plan.core.ports) (peer_at plan.peers) d))

  abbrev all_sources : Bool
  all_sources = sources_fit plan.core.events (at plan.core.source) n

  few : header ≡ true → n ≤ 32
  few e = (devices-fit n (header-says (header_of plan.core) e).0).1

  -- by the block that is found
  by-block : (found : ℕ) → header ≡ true → found ≡ block (at plan.core.ports) (peer_at plan.peers) (min n 32) → eqb found 0 ≡ all_join
  by-block found f b = let m : min n 32 ≡ n = omega (arith, few f) in rw (b, m) (block-every (at plan.core.ports) (peer_at plan.peers) n)

  -- by what is found of the sources
  by-sources : (found : Bool) → header ≡ true → found ≡ sources_fit plan.core.events (at plan.core.source) (min n 32) → found ≡ all_sources
  by-sources found f b = let m : min n 32 ≡ n = omega (arith, few f) in b ∙ ap (sources_fit plan.core.events (at plan.core.source)) m

-- where a test is asked behind those that answered a, and where it is not
taken : {a b asked now one : Bool} → asked ≡ a → asked ≡ true → now ≡ one → one ≡ b → now ≡ (a && b)
taken p t q r = rw (sym p ∙ t) (q ∙ r)

left : {a asked now : Bool} (b : Bool) → asked ≡ a → asked ≡ false → now ≡ asked → now ≡ (a && b)
left b p f q = rw (sym p ∙ f) (q ∙ f)

two : (c : Joined-header_fits) → let p = c.args.plan.now in c.if-header_fits.value ≡ (header p && rows p)
two c =
    let fits = c.header_fits.ensures ∙ ap header_fits c.header_of.ensures in
    elim c.if-header_fits.branch [
      | then-header_fits w ↦ taken fits w.if-header_fits.true w.value-is w.rows_right.ensures
      | else-header_fits w ↦ left _ fits w.if-header_fits.false w.value-is
    ]

three : (c : Joined-rows_right) → let p = c.args.plan.now in c.if-rows_right.value ≡ (header p && rows p && all_join p)
three c =
    let p = c.args.plan.now in
    elim c.if-rows_right.branch [
      | then-rows_right w ↦
          let fits = and_left _ _ (sym (two c.before) ∙ w.if-rows_right.true) in
          taken (two c.before) w.if-rows_right.true w.value-is (by-block p _ fits w.bad_block.ensures)
      | else-rows_right w ↦ left _ (two c.before) w.if-rows_right.false w.value-is
    ]

pub rows_right-requires : goal.rows_right-requires
rows_right-requires c =
    let p = c.args.plan.now in
    few p (sym (c.header_fits.ensures ∙ ap header_fits c.header_of.ensures) ∙ c.if-header_fits.true)

pub returns-then-bad_block-eq0 : goal.returns-then-bad_block-eq0
unfolding right
returns-then-bad_block-eq0 c =
    let before = three c.before.before.before in
    let fits = and_left _ _ (and_left _ _ (sym before ∙ c.if-bad_block-eq0.true)) in
    taken before c.if-bad_block-eq0.true refl (by-sources c.args.plan.now _ fits c.sources_fit.ensures)

pub returns-else-bad_block-eq0 : goal.returns-else-bad_block-eq0
unfolding right
returns-else-bad_block-eq0 c = left _ (three c.before) c.if-bad_block-eq0.false refl
