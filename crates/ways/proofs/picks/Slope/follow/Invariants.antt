-- `ways::picks::Slope::follow` meets its contract. The invariant: what is written, and then what is picked from here on, is what is picked in
-- all. Assumes nothing.
use mathlib.Core.Path.{◌≡◌, sym, ap, ◌∙◌}
use mathlib.Core.Bool.{true}
use mathlib.Core.List.{List, ◌++◌, append-nil, append_assoc}
use Prim.Native.Nat.{ℕ, suc, ◌+◌, ◌-◌, ◌*◌, ◌≤◌, ◌<◌}
use native.Mathlib.Numerals.{add-one}
use native.Mathlib.Omega.{arith}
use lib.ListN.{length, take, drop, get_or, set, length-set, take-append-drop}
use lib.Seq.{take-suc-set, drop-set-lt, drop-drop}
use Rattle.lists.proofs.Facts.{facts}
use Rattle.ways.specs.Inner.Layers.{at}
use Rattle.ways.specs.Inner.Picked.{nearer, pick, picked, Downhill}
use Rattle.ways.proofs.picks.Slope.follow.Given as goal

-- i ports are written, and the next is one of device x
pub record Going (role to far : List ℕ) (d n : ℕ) (first ports : List ℕ) (x i : ℕ) : Type 0 where
  pub within : i ≤ n
  pub long : length ports ≡ 32
  pub low : x < 32
  pub away : at far x ≡ n - i
  pub all : take i ports ++ picked role to far (n - i) x ≡ picked role to far n d
  pub rest : drop i ports ≡ drop i first

module _ {role to far : List ℕ} {d n : ℕ} {first ports : List ℕ} {x i : ℕ} (v : Going role to far d n first ports x i) where
  -- one more port, to a device that is one crossing less away
  module _ (down : Downhill role to far) (few : n < 32) (h : i < n) (q : ℕ) (e : q ≡ pick role to far (n - 1 - i) 7 (8 * x)) where
    pub next : n - i ≡ suc (n - 1 - i)
    next = omega arith

    pub same : n - (i + 1) ≡ n - 1 - i
    same = omega arith

    pub nears : nearer role to far (n - 1 - i) q ≡ true
    nears = rw e (down.goes x (n - 1 - i) v.low (omega arith) (v.away ∙ next))

    pub leads : (get_or to q 0 < 32) × (at far (get_or to q 0) ≡ n - 1 - i)
    unfolding nearer
    leads = let t = simp facts at nears in (t.0.0, t.0.1)

    pub again : Going role to far d n first (set ports i q) (get_or to q 0) (i + 1)
    unfolding picked
    again =
        record {
          within = omega arith;
          long = length-set ports i q ∙ v.long;
          low = leads.0;
          away = leads.1 ∙ sym same;
          all = rw (same, add-one, take-suc-set ports i q (omega (arith, v.long)), append_assoc) (rw (next, ← e) at v.all);
          rest = rw add-one (drop-set-lt (suc i) ports i q (omega arith)) ∙ sym (drop-drop 1 i ports) ∙ ap (drop 1) v.rest ∙ drop-drop 1 i first;
        }

  module _ (h : n ≤ i) where
    pub front : take i ports ≡ picked role to far n d
    unfolding picked
    front =
        let z : n - i ≡ 0 = omega arith in
        rw (z, append-nil) at v.all

    pub done : ports ≡ picked role to far n d ++ drop n first
    done =
        let e : i ≡ n = omega (arith, v.within) in
        sym (take-append-drop i ports) ∙ rw (front, v.rest, e)

abbrev pub invariant-loop-i : goal.invariant-loop-i
invariant-loop-i l = Going l.self.role.now l.self.to.now l.self.far.now l.fn.from l.n l.initial.ports l.ports l.at l.i
