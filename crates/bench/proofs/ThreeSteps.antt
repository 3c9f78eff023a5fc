-- A round is its three steps, one after the other.
use mathlib.Core.Path.{◌≡◌, refl, sym, ap, subst, ◌∙◌}
use mathlib.Core.List.{List, []}
use Prim.Native.Nat.{ℕ}
use Rattle.plan.specs.declared.Plan.{Plan}
use Rattle.state.specs.State.{State}
use Rattle.bench.specs.Round.{fallen, posted, sent_bytes, reached, after_sending, round}
use Rattle.bench.specs.Inner.Shown.{seen, Shows, Follows, Played}
use Rattle.bench.proofs.Following.{shown-none, world}

pub played-by : {plan : Plan} {old first second third last : State} {bytes before middle after : List ℕ} {n m : ℕ}
    → first ≡ old
    → Follows (fallen plan) (seen first before 0) (seen second middle n)
    → third ≡ posted plan old second
    → bytes ≡ sent_bytes plan old
    → Follows (reached plan bytes) (seen third middle n) (seen last after m)
    → Played plan old before last bytes after m
unfolding round
played-by {plan} {old} {last} {before} {after} {m} e t p b r =
    let x = t.follows before (world old []) (record { state = e; area = sym (shown-none before); count = refl }) in
    let y = r.follows before (after_sending plan old) (record { state = p ∙ ap (posted plan old) x.state; area = x.area; count = x.count }) in
    let z = subst (λ (l : List ℕ). Shows before (reached plan l (after_sending plan old)) (seen last after m)) b y in
    record { state = z.state; bytes = b; words = z.area; number = z.count }
