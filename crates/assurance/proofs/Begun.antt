-- When a host's call is taken; and where its identifier waits nowhere, the flood starts from there.
use mathlib.Core.Path.{◌≡◌, refl, sym, ap, ◌∙◌}
use mathlib.Core.Bool.{true, cond}
use mathlib.Core.List.{[]}
use mathlib.Core.Logic.{inl, inr, ◌≢◌}
use Prim.Native.Nat.{ℕ, ◌+◌, ◌-◌, ◌*◌, ◌<◌}
use native.Mathlib.Decide.{ℕ_discrete}
use native.Mathlib.Omega.{arith}
use lib.Dec.{eqb}
use borrow.Author.Tests.{eq-eqb}
use Rattle.answers.specs.Ordered.{Ordered}
use Rattle.answers.proofs.Outcomes.{passed}
use Rattle.lists.proofs.Tests.{both}
use Rattle.bits.specs.Set.{bit}
use Rattle.device.specs.Permissions.{may_send}
use Rattle.device.specs.Reaction.{is_used}
use Rattle.plan.specs.Fields.{nobody}
use Rattle.plan.specs.Reading.{Held}
use Rattle.plan.specs.declared.Plan.{Plan}
use Rattle.state.specs.State.{State, register, timer, waiting, running}
use Rattle.state.specs.Network.{devices, permissions, events, load_of}
use Rattle.state.specs.Sound.{Sound}
use Rattle.state.proofs.Plans.{few}
use Rattle.calls.specs.Calls.{owns, call_asks, called}
use Rattle.calls.proofs.Called.{call-sound}
use Rattle.laws.specs.Alike.{Alike}
use Rattle.flood.specs.Flood.{Start}
use Rattle.assurance.proofs.Nets.{net}
use Rattle.assurance.proofs.Sights.{sight, takers_of}
use Rattle.assurance.proofs.Fits.{Fit, fit-alike, fit-took}
use Rattle.assurance.proofs.Taking.{New, Took, called-took}

-- the identifier is the node's, its bit is as the call asks, and port p of the node runs and may send
pub call-taken : (plan : Plan) → Held plan → (kind d k p : ℕ) (s : State) → Sound plan s → d < devices plan → k < 32 → bit (owns plan kind d) k ≡ 1
    → is_used (events plan) kind k ≡ true → p < 8
    → running s (8 * d + p) ≡ 1 → may_send kind (permissions plan (8 * d + p)) ≡ true → bit (register s d) k ≡ kind → Ordered (call_asks plan kind d k s) 0
call-taken plan held kind d k p s x here l own used h runs may stands =
    let sends = both (eqb (running s (8 * d + p)) 1) _ (eq-eqb (running s (8 * d + p)) 1 runs) may in
    passed (call_asks plan kind d k s) [] 0 (held, (x, (here, (l, (own, (used, ((p, h, runs), ((p, h, sends), (stands, tt))))))))) refl

-- device d alone took code k in, and it waits at the ports of d that run and may send it, and nowhere else
pub record Begun (plan : Plan) (kind k d : ℕ) (s t : State) : Type 0 where
  pub held : bit (register t d) k ≡ 1 - kind
  pub timed : timer t d k ≡ cond (eqb kind 0) (load_of plan d k) 0
  pub others : (e : ℕ) → e < 32 → e ≢ d → (bit (register t e) k ≡ bit (register s e) k) × (timer t e k ≡ timer s e k)
  pub runs : (q : ℕ) → q < 256 → running t q ≡ running s q
  pub only : (q : ℕ) → q < 256 → bit (waiting t kind q) k ≡ 1 → New plan kind k d s q
  pub all : (q : ℕ) → q < 256 → New plan kind k d s q → bit (waiting t kind q) k ≡ 1
  pub other : (q : ℕ) → q < 256 → bit (waiting t (1 - kind) q) k ≡ 0

module _ (plan : Plan) (held : Held plan) (kind k : ℕ) (g : kind < 2) (l : k < 32) (d : ℕ) (h : d < devices plan) {s : State} (x : Sound plan s)
    (idle : (c q : ℕ) → c < 2 → q < 256 → bit (waiting s c q) k ≡ 0) {t : State} (like : Alike k (called plan kind d k s) t) where
  taken : Took plan kind k d nobody true s (called plan kind d k s)
  taken = let n = few plan held in called-took plan kind k g l d (omega arith) s x.size

  pub begun : Begun plan kind k d s t
  begun =
      let n = few plan held in
      record {
        held = sym (like.marks d (omega arith)) ∙ taken.held;
        timed = sym (like.timers d (omega arith)) ∙ taken.timed;
        others = λ e b ne.
            let same = taken.others e b ne in
            (sym (like.marks e b) ∙ ap (λ r. bit r k) same.0, sym (like.timers e b) ∙ same.1);
        runs = λ q b. sym (like.runs q b) ∙ taken.runs q;
        only = λ q b o. elim (taken.fresh q b (like.waits kind q g b ∙ o)) [ inl y ↦ absurd (omega (arith, idle kind q g b)) | inr y ↦ y.1 ];
        all = λ q b o. sym (like.waits kind q g b) ∙ taken.all q b (omega arith) refl o;
        other = λ q b. sym (like.waits (1 - kind) q (omega arith) b) ∙ taken.other q b (idle (1 - kind) q (omega arith) b);
      }

  -- with u rounds to go, if no timer of k ends before
  pub fit-first : Sound plan t → (u : ℕ) → (kind ≡ 0 → (e : ℕ) → e < devices plan → u < load_of plan e k)
      → ((e : ℕ) → e < devices plan → bit (register s e) k ≡ 1 → u < timer s e k) → Fit plan kind k s (takers_of kind k s) u t
  fit-first y u loads long =
      fit-alike plan kind k s (takers_of kind k s) held g u like y
      (fit-took plan kind k s (takers_of kind k s) held g u loads h taken (call-sound plan held s x kind d k g h l)
      (record { sound = x; runs = λ q b. refl; other = λ q b. idle (1 - kind) q (omega arith) b; long = long; still = λ e b o. o }))

  pub start : bit (register s d) k ≡ kind → Start (net plan kind k s (takers_of kind k s) d) (sight plan kind k s (takers_of kind k s) d t)
  start stood =
      let n = few plan held in
      record {
        source-holds = (h, stood, begun.held);
        alone = λ {d = e} y. elim (ℕ_discrete e d) [
          | yes o ↦ o
          | no ne ↦ let b : e < 32 = omega (arith, y.0) in absurd (omega (arith, (begun.others e b ne).0, y.1, y.2))
        ];
        waits_there = λ {q} y. (begun.only q y.0 y.1).here;
        waits-all = λ {q} {e} o m. inl (m.0, begun.all q m.0 (record { here = o; runs = m.1.runs; may = m.1.sends }));
      }
