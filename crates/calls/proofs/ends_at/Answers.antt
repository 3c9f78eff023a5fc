-- `calls::ends_at` meets its contract: the port is one of its device's, is joined, and does not stand so already. Assumes nothing.
use mathlib.Core.Path.{◌≡◌, refl, sym, ap, ◌∙◌}
use mathlib.Core.Bool.{Bool, true, false}
use mathlib.Core.List.{[], ◌∷◌}
use mathlib.Core.Logic.{◌≢◌, inl, inr}
use Prim.Native.Nat.{ℕ, ◌+◌, ◌*◌, ◌<◌}
use native.Mathlib.Omega.{arith}
use lib.ListN.{drop}
use mir.Val.{bool_byte}
use Rattle.std.proofs.option.Match.{if_some}
use Rattle.answers.specs.Ordered.{ask, Ordered}
use Rattle.answers.proofs.Outcomes.{Holds}
use Rattle.plan.specs.Fields.{nobody}
use Rattle.plan.specs.declared.Plan.{Plan}
use Rattle.plan.proofs.BothWays.{held-few}
use Rattle.state.specs.State.{State, running}
use Rattle.state.specs.Network.{ports_of, peer}
use Rattle.calls.specs.Calls.{device_asks, flag_of, link_asks}
use Rattle.calls.proofs.Asked.{asked, ready, call-passed}
use Rattle.calls.proofs.ends_at.Goals as goal

-- the flag as a number
as-flag : (runs : Bool) → bool_byte runs ≡ flag_of runs
unfolding flag_of
as-flag true = refl
as-flag false = refl

-- the last condition answers, once the port is there and joined
module _ (plan : Plan) (d p near : ℕ) (runs : Bool) (s : State) (h : Holds (device_asks plan d s)) (has : p < ports_of plan d) (is : near ≡ 8 * d + p)
    (joined : peer plan near < nobody) where
  by-flag : {n : ℕ} → Ordered (ask 10 (running s near ≢ flag_of runs) ∷ []) n → Ordered (link_asks plan runs d p s) n
  by-flag o = call-passed plan d s (drop 3 (link_asks plan runs d p s)) h (inr (has, rw (← is) (inr (joined, o))))

pub unwrap-near-requires : goal.unwrap-near-requires
unwrap-near-requires c =
    let h = asked _ _ _ c.in_ok-d.ensures.asked refl in
    let has : c.args.port < ports_of c.args.plan.now c.args.device = rw (c.from.ensures, c.index.ensures.equal, c.in_ok-d.ensures.number) at c.if-from-port.false in
    c.port.ensures.there.1 (omega (arith, has, (held-few c.args.plan.now h.0 c.args.device (ready _ _ _ h).1).1))

pub returns-then-word-from-clause-asked : goal.returns-then-word-from-clause-asked
returns-then-word-from-clause-asked c =
    let has = rw (c.from.ensures, c.index.ensures.equal, c.in_ok-d.ensures.number) at c.if-from-port.false in
    let near = if_some _ _ _ c.unwrap-near.ensures c.port.ensures.number ∙ ap (λ d. 8 * d + c.args.port) c.in_ok-d.ensures.number in
    let runs = rw c.index-2.ensures.equal at c.word.ensures in
    by-flag _ _ _ _ _ _ (asked _ _ _ c.in_ok-d.ensures.asked refl) has near (c.in-Some.ensures.there.0 refl)
    (inl (λ other. other (sym runs ∙ c.if-word-from.true ∙ c.from-2.ensures ∙ as-flag _), refl))

pub returns-clause-asked : goal.returns-clause-asked
returns-clause-asked c =
    let has = rw (c.from.ensures, c.index.ensures.equal, c.in_ok-d.ensures.number) at c.if-from-port.false in
    let near = if_some _ _ _ c.unwrap-near.ensures c.port.ensures.number ∙ ap (λ d. 8 * d + c.args.port) c.in_ok-d.ensures.number in
    let runs = rw c.index-2.ensures.equal at c.word.ensures in
    by-flag _ _ _ _ _ _ (asked _ _ _ c.in_ok-d.ensures.asked refl) has near (c.in-Some.ensures.there.0 refl)
    (inr (λ same. c.if-word-from.false (runs ∙ same ∙ sym (c.from-2.ensures ∙ as-flag _)), refl))
