use mathlib.Core.Path.{◌≡◌, refl, sym, ◌∙◌}
use mathlib.Core.Bool.{Bool, true, false, cond}
use mathlib.Core.List.{List, []}
use Prim.Native.Nat.{ℕ, ◌/◌, ◌%◌, ◌≤◌, ◌<◌}
use native.Mathlib.Omega.{arith}
use lib.Dec.{ltb}
use lib.ListN.{get_or}
use borrow.Author.Tests.{ltb-true, ltb-false}
use Rattle.std.specs.Prelude.{Option, Some, None}
use Rattle.plan.specs.declared.Plan.{Plan}
use Rattle.state.specs.Network.{router, peer, load_of}
use Rattle.bench.specs.Round.{World, arrived, arrives, reached, nothing}
use Rattle.bench.specs.Inner.Shown.{byte_in}
use Rattle.bench.proofs.Following.{leads, silent, turns-none, turns-done}
use Rattle.bench.proofs.Stepped.{not-nowhere, arrives-nothing, arrives-byte}
use Rattle.bench.proofs.Idles.{arrives-unused}
use Rattle.bench.proofs.rounds.arrive_all.Invariants.{again, skip}
use Rattle.bench.proofs.rounds.arrive_all.Goals as goal
use Rattle.bench.proofs.rounds.arrive_all.Goals.{in-Some, in_default}

-- a byte was sent, or none
byte_in-some : (word byte : ℕ) → Some byte ≡ byte_in word → (byte ≡ word) × (word < nothing)
byte_in-some word byte = by-test (ltb word nothing) refl
  where
    by-test : (t : Bool) → ltb word nothing ≡ t → Some byte ≡ cond t (Some word) None → (byte ≡ word) × (word < nothing)
    by-test true g e = (cc, ltb-true word nothing g)
    by-test false g e = absurd (not-nowhere (sym e))

byte_in-none : (word : ℕ) → None ≡ byte_in word → nothing ≤ word
byte_in-none word = by-test (ltb word nothing) refl
  where
    by-test : (t : Bool) → ltb word nothing ≡ t → None ≡ cond t (Some word) None → nothing ≤ word
    by-test true g e = absurd (not-nowhere e)
    by-test false g e = ltb-false word nothing g

-- port q is one of device d
module _ (plan : Plan) (sent : List ℕ) (q d : ℕ) (device : q / 8 ≡ d) {r : Option ℕ} (e : r ≡ byte_in (get_or sent (get_or (get_or plan.peers d []) (q % 8) 0) nothing)) where
  from-peer : r ≡ byte_in (get_or sent (peer plan q) nothing)
  from-peer = rw device e

  here-byte : {byte : ℕ} → r ≡ Some byte → (w : World)
      → arrives plan sent q w ≡ arrived (load_of plan (q / 8)) plan.core.permissions q plan.barred (router plan (q / 8)) plan.core.events byte w
  here-byte h w = let x = byte_in-some _ _ (sym h ∙ from-peer) in arrives-byte plan sent q _ x.0 w (omega (arith, x.0, x.1))

  here-nothing : r ≡ None → (w : World) → arrives plan sent q w ≡ w
  here-nothing h w = arrives-nothing plan sent q _ refl w (byte_in-none _ (sym h ∙ from-peer))

pub loop-d-init : goal.loop-d-init
loop-d-init c = record { within = omega arith; leads = turns-none _ }

pub loop-q-preserved : goal.loop-q-preserved
loop-q-preserved c =
    let device : c.loop-q.q / 8 ≡ c.loop-d.d = omega arith in
    let byte = c.heard.ensures in (
      λ s told v.
          let u = c.loop-q.invariant.0 s told v in
          elim c.match-heard.branch [
            | in-Some w ↦ again u (omega (arith, c.loop-q.invariant.3)) (rw (w.state-is, w.told-is) (leads (λ l. here-byte _ _ _ _ device byte w.in-Some.is _) (rw (rw w.unwrap.ensures at w.new.ensures.number) at w.arrive_one.ensures)))
            | in_default w ↦ again u (omega (arith, c.loop-q.invariant.3)) (rw (w.state-is, w.told-is) (silent (λ l. here-nothing _ _ _ _ device byte w.in_default.is _)))
          ],
      omega arith,
      omega arith,
      c.loop-q.invariant.3,
    )

pub loop-d-preserved : goal.loop-d-preserved
loop-d-preserved c =
    let most = c.requires.0.most c.loop-d.d (omega arith) in
    skip (c.loop-q.invariant.0 _ _ c.loop-d.invariant) (omega arith) (omega arith)
    (λ j a b. arrives-unused _ c.requires.0 _ c.told-sent c.loop-d.d j (omega arith) (omega arith) (omega arith))

pub returns : goal.returns
unfolding reached
returns c = turns-done _ _ c.loop-d.invariant.leads (omega (arith, c.loop-d.invariant.within)) (omega (arith, c.requires.0.few, c.loop-d.invariant.within))
